-- What a history comes to, in the words of histories.
use Rattle.std.specs.Prelude.{ℕ, Bool, length, Option, option_map, unwrap_or}
use Rattle.std.specs.List.{filter_map}
use Rattle.lra_model.specs.declared.status.ActionStatus.{ActionStatus}
use Rattle.lra_model.specs.declared.status.ActionStatus.TheVariants as action
use Rattle.lra_model.specs.Words.{is_closed, same_status}
use Rattle.lra_model.specs.History.{History, actions}
use Rattle.lra_model.specs.Actions.{action_status}
use Rattle.lra_model.specs.Tallies.{count_actions, least_failed, failed_actions}
use Rattle.lra_laws.specs.Rows.{is_unended}
use Rattle.lra_totals.specs.declared.totals.FailedEnd.{FailedEnd}
use Rattle.lra_totals.specs.declared.totals.Summary.{Summary}

-- an action that ended in failure, with the least member that failed and stays in it or below it; a legal history has
-- one for each
abbrev pub failed_end : History → ℕ → Option FailedEnd
failed_end J a = option_map
    (λ p. record { action = a; status = unwrap_or (action_status J a) action.Active; member = p }) (least_failed J a)

-- an action that ended cancelled, and not in failure
abbrev pub ended_cancelled : ActionStatus → Bool
ended_cancelled s = same_status s action.Cancelled

-- the summary of a history: how many entries and actions it has, how many of these have ended and how, and the failed
-- ends
unfoldable pub summary : History → Summary
summary J = record {
  entries = length J;
  actions = length (actions J);
  unended = count_actions is_unended J;
  closed = count_actions is_closed J;
  cancelled = count_actions ended_cancelled J;
  failed = filter_map (failed_end J) (failed_actions J);
}
