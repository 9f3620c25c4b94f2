use Rattle.std.proofs.Common.{◌≡◌, Some, take, slice_get}
use Rattle.lra_model.specs.declared.entry.Entry.{Entry}
use Rattle.lra_rows.specs.Rowed.{addresses_joined}
use Rattle.lra_tables.specs.inner.Boarded.{Boarded}
use Rattle.lra_tables.specs.inner.UndoLog.{carried_all, IsUndoLog}
use Rattle.lra_tables.proofs.settling_state.SettlingState.go_back.Given as goal

-- the entries that are left lead here, and the one after them gave the addresses of the member that joined by it
abbrev pub invariant-loop-place : goal.invariant-loop-place
invariant-loop-place l = record {
  back : (b : Boarded) → IsUndoLog b l.undo_log.entries.items l.undo_log.steps.items l.fn.self → l.self
      ≡ carried_all b (take l.place l.undo_log.entries.items);
  uris : (e : Entry) → slice_get l.undo_log.entries.items l.place ≡ Some e → l.uris ≡ addresses_joined e.deed;
}
