-- The contents of an errand.
use Rattle.std.specs.Prelude.{ℕ, List, [], Option, None, option_map, unwrap_or}
use Rattle.lra_model.specs.declared.status.ActionStatus.{ActionStatus}
use Rattle.lra_model.specs.declared.asks.AskKind.{AskKind}
use Rattle.lra_model.specs.declared.asks.AskKind.TheVariants as ask
use Rattle.lra_model.specs.declared.asks.Direction.{Direction}
use Rattle.lra_model.specs.Addresses.{Addresses}
use Rattle.lra_model.specs.History.{History}
use Rattle.lra_model.specs.Actions.{parent, action_status}
use Rattle.lra_model.specs.Members.{Asked, action_of, addresses_of}
use Rattle.lra_ids.specs.Identifiers.{action_uri, recovery_uri}

-- an ask with what its request needs: where it goes, the URIs of the action, of its parent and of the member, and for
-- an after notice how the action ended (MicroProfile LRA 2.0, participant methods)
pub record Asking : Type 0 where
  pub ask : ℕ
  pub member : ℕ
  pub action : ℕ
  pub kind : AskKind
  pub direction : Direction
  pub address : List ℕ
  pub action_uri : List ℕ
  pub parent_uri : Option (List ℕ)
  pub recovery_uri : List ℕ
  pub ended : Option ActionStatus

-- the address that an ask of a kind goes to (MicroProfile LRA 2.0, the participant's callbacks)
abbrev pub address_for : AskKind → Addresses → Option (List ℕ)
address_for ask.Complete u = u.complete
address_for ask.Compensate u = u.compensate
address_for ask.Status u = u.status
address_for ask.Forget u = u.forget
address_for ask.After u = u.after

-- the status in which the action ended, where an ask of a kind reports it: an after notice does, and no other
-- (MicroProfile LRA 2.0, AfterLRA)
abbrev pub told_of_end : AskKind → Option ActionStatus → Option ActionStatus
told_of_end ask.After status = status
told_of_end _ status = None

-- the contents of an ask's errand, by the history before it and the coordinator's instance and base (MicroProfile LRA
-- 2.0, participant methods; the URIs are this project's choice)
abbrev pub asking_of : ℕ → List ℕ → History → Asked → Asking
asking_of instance base J x = record {
  ask = x.number;
  member = x.member;
  action = action_of J x.member;
  kind = x.kind;
  direction = x.direction;
  address = unwrap_or (address_for x.kind (addresses_of J x.member)) [];
  action_uri = action_uri instance base (action_of J x.member);
  parent_uri = option_map (action_uri instance base) (parent J (action_of J x.member));
  recovery_uri = recovery_uri instance base x.member;
  ended = told_of_end x.kind (action_status J (action_of J x.member));
}
