use Rattle.std.proofs.Common.{ap}
use Rattle.lra_model.specs.History.{actions, members}
use Rattle.lra_laws.specs.Snapshots.{StateSnapshot}
use Rattle.lra_tables.proofs.settling_state.SettlingState.empty.Goals as goal

pub invariant_of-result : goal.invariant_of-result
unfolding actions members
invariant_of-result c =
    c.new.ensures c.empty.result.snapshot.state (ap (λ (s : StateSnapshot). s.state.members) c.empty.ensures.snapshot)
    (ap (λ (s : StateSnapshot). s.state.actions) c.empty.ensures.snapshot)
