-- What a summary counts.
use Rattle.std.specs.Prelude.{ℕ, Bool, ◌&&◌, List, count_by, Option}
use Rattle.std.specs.List.{filter_map, find}
use Rattle.lra_model.specs.declared.status.ActionStatus.{ActionStatus}
use Rattle.lra_model.specs.Words.{when, has_failed, member_has_failed}
use Rattle.lra_model.specs.History.{History, actions, members}
use Rattle.lra_model.specs.Actions.{is_under}
use Rattle.lra_model.specs.Members.{action_of, stays, member_status}
use Rattle.lra_model.specs.Ends.{action_is}

-- how many actions have a status that passes a test (this project's choice)
unfoldable pub count_actions : (ActionStatus → Bool) → History → ℕ
count_actions test J = count_by (action_is test J) (actions J)

-- the least member that stays in an action or below it and has failed, where there is one (this project's choice)
unfoldable pub least_failed : History → ℕ → Option ℕ
least_failed J t = find (λ p. stays J p && is_under J t (action_of J p) && member_has_failed (member_status J p))
    (members J)

-- the actions that ended in failure, in the order of their numbers (MicroProfile LRA 2.0, LRAStatus)
unfoldable pub failed_actions : History → List ℕ
failed_actions J = filter_map (λ a. when (action_is has_failed J a) a) (actions J)
