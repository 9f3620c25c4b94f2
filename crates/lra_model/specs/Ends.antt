-- When an action may end, and in which status.
use Rattle.std.specs.Prelude.{ℕ, Bool, false, ◌&&◌, not, List, filter, Option, Some, cond}
use Rattle.std.specs.Option.{option_map_or}
use Rattle.std.specs.List.{list_all, list_any}
use Rattle.lra_model.specs.declared.status.ActionStatus.{ActionStatus}
use Rattle.lra_model.specs.declared.status.ActionStatus.TheVariants as action
use Rattle.lra_model.specs.Words.{has_ended, has_failed, has_finished_cancelling, is_done_completing}
use Rattle.lra_model.specs.Words.{is_done_compensating, is_completed, is_compensated}
use Rattle.lra_model.specs.History.{History}
use Rattle.lra_model.specs.Actions.{action_status, children, members_of, top}
use Rattle.lra_model.specs.Members.{stays, member_status}

-- the members of an action that stay (MicroProfile LRA 2.0, participants)
unfoldable pub staying : History → ℕ → List ℕ
staying J a = filter (stays J) (members_of J a)

-- whether there is such an action and its status passes a test (this project's choice of words)
abbrev pub action_is : (ActionStatus → Bool) → History → ℕ → Bool
action_is test J a = option_map_or test (action_status J a) false

-- Whether nothing below an action is left to wait for. A Closing one waits until its staying members have completed or
-- failed and its nested actions have ended; a Cancelling one until its staying members have compensated or failed and
-- its nested actions have finished cancelling (MicroProfile LRA 2.0, LRAStatus; on nested actions this project's
-- choice).
abbrev pub settles : Option ActionStatus → History → ℕ → Bool
settles (Some action.Closing) J a = list_all (λ p. is_done_completing (member_status J p)) (staying J a)
    && list_all (action_is has_ended J) (children J a)
settles (Some action.Cancelling) J a = list_all (λ p. is_done_compensating (member_status J p)) (staying J a)
    && list_all (action_is has_finished_cancelling J) (children J a)
settles _ J a = false

-- whether an action may end now (MicroProfile LRA 2.0, LRAStatus)
unfoldable pub is_settled : History → ℕ → Bool
is_settled J a = settles (action_status J a) J a

-- whether no action nested directly in an action has failed (this project's choice)
abbrev pub children_are_well : History → ℕ → Bool
children_are_well J a = not (list_any (action_is has_failed J) (children J a))

-- The status that an action ends in. A Closing one ends Closed where each staying member has completed and no nested
-- action has failed, else FailedToClose; a Cancelling one ends Cancelled where each has compensated and none has
-- failed, else FailedToCancel (MicroProfile LRA 2.0, LRAStatus; on nested actions this project's choice).
abbrev pub ends_as : Option ActionStatus → History → ℕ → ActionStatus
ends_as (Some action.Closing) J a = cond (list_all (λ p. is_completed (member_status J p)) (staying J a)
    && children_are_well J a) action.Closed action.FailedToClose
ends_as _ J a = cond (list_all (λ p. is_compensated (member_status J p)) (staying J a) && children_are_well J a)
    action.Cancelled action.FailedToCancel

-- the status that an action ends in where it ends now (MicroProfile LRA 2.0, LRAStatus)
unfoldable pub right_end : History → ℕ → ActionStatus
right_end J a = ends_as (action_status J a) J a

-- whether the outermost action that an action stands in has ended: forget and after notices wait for that (this
-- project's choice)
unfoldable pub top_has_ended : History → ℕ → Bool
top_has_ended J a = action_is has_ended J (top J a)
