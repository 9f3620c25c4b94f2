-- What settles a history next, by its forward state.
use Rattle.std.specs.Prelude.{ℕ, Bool, cond, Option, Some, None}
use Rattle.std.specs.Option.{option_and_then}
use Rattle.lra_model.specs.declared.asks.Cause.TheVariants as cause
use Rattle.lra_model.specs.declared.entry.Deed.{Deed}
use Rattle.lra_model.specs.declared.entry.Deed.TheVariants.{Close, Cancel, End}
use Rattle.lra_model.specs.Facts.{ActionFacts}
use Rattle.lra_model.specs.Tests.{at_action, at_member, may_close_with_parent, may_cancel_with_parent, may_skip}
use Rattle.lra_laws.specs.Rows.{State}
use Rattle.lra_laws.specs.inner.RowFacts.{facts_by}

-- whether a member may be completed without being asked
abbrev pub may_skip_by : State → ℕ → Bool
may_skip_by s p = at_member (may_skip (facts_by s)) (facts_by s) p

-- what its parent does to an action, where it does anything: closes it, or cancels it
abbrev pub turn_by : State → ℕ → Option Deed
turn_by s a =
    cond (at_action (may_close_with_parent (facts_by s)) (facts_by s) a) (Some (Close a cause.Parent))
    (cond (at_action (may_cancel_with_parent (facts_by s)) (facts_by s) a) (Some (Cancel a cause.Parent)) None)

-- the end of an action, where it may end
abbrev pub end_by : State → ℕ → Option Deed
end_by s a = option_and_then (λ (x : ActionFacts). cond x.settled (Some (End a x.right_end)) None)
    ((facts_by s).action a)
