-- The statuses of actions, by the deeds of a history.
use Rattle.std.specs.Prelude.{◌≡◌, ℕ, List, [], ◌∷◌, ◌++◌, Option, None, Some}
use Rattle.lra_model.specs.declared.status.ActionStatus.{ActionStatus}
use Rattle.lra_model.specs.declared.status.ActionStatus.TheVariants as action
use Rattle.lra_model.specs.declared.entry.Deed.{Deed}
use Rattle.lra_model.specs.declared.entry.Deed.TheVariants.{Start, Close, Cancel, End}
use Rattle.lra_laws.specs.Rows.{change_row}
use Rattle.lra_auditor.specs.Heard.{Heard}
use Rattle.lra_inspect.specs.declared.counts.FollowCounts.{FollowCounts}
use Rattle.lra_inspect.specs.Counts.{Count}

-- the statuses with that of an action replaced, if it is there
abbrev pub with_status : ActionStatus → ℕ → List ActionStatus → List ActionStatus
with_status status a statuses = change_row (λ _. status) a statuses

-- the statuses after one more deed
abbrev pub statuses_after : Deed → List ActionStatus → List ActionStatus
statuses_after (Start a parent limit) statuses = statuses ++ action.Active ∷ []
statuses_after (Close a cause) statuses = with_status action.Closing a statuses
statuses_after (Cancel a cause) statuses = with_status action.Cancelling a statuses
statuses_after (End a status) statuses = with_status status a statuses
statuses_after _ statuses = statuses

-- the counts of what was heard: of nothing, or of the entries that were accepted
abbrev pub Hears : FollowCounts → Option Heard → Type 0
Hears c None = (c.entries ≡ 0) × (c.statuses.items ≡ [])
Hears c (Some h) = Count c h.entries
