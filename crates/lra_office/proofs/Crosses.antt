-- That a desk may cross threads where its writer may: `search` finds no such lemma of a struct with a `Snapshot` in it.
use denote.RattleType.{RattleType}
use denote.Param.Send.{IsSend, sendable}
use denote.Param.SendFields.{declared_send}
use Rattle.std.specs.declared.io.Write.{Ghosts}
use Rattle.std.proofs.Crossing.{Box-send}
use Rattle.lra_core.proofs.coordinator.CoordinatorOf.TheSendSync as coordinator
use Rattle.lra_core.proofs.history_store.LengthOnly.TheSendSync as counted
use Rattle.lra_scribe.proofs.scribe.Scribe.TheSendSync as scribe
use Rattle.lra_office.specs.contracts.desk.Desk as desk

pub desk_send : (W : RattleType) (g : Ghosts W.Denot) → IsSend W → IsSend (desk.the_row W g)
desk_send W g w = declared_send (desk.the_type W g) (
  Box-send _ (coordinator.the_send _ _ counted.the_send),
  (scribe.the_send W g w, (search sendable, (search sendable, tt))),
)
