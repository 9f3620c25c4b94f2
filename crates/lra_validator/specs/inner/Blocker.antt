-- What the code finds of what an action waits for.
use Rattle.std.specs.Prelude.{ℕ, Bool, false, ◌&&◌, not, List, ◌++◌, map, Option, is_some, slice_get}
use Rattle.std.specs.Option.{option_map_or, option_and_then}
use Rattle.lra_model.specs.declared.status.ActionStatus.{ActionStatus}
use Rattle.lra_model.specs.declared.status.ActionStatus.TheVariants as action
use Rattle.lra_model.specs.declared.status.MemberStatus.{MemberStatus}
use Rattle.lra_model.specs.Addresses.{Addresses}
use Rattle.lra_model.specs.Words.{has_ended, has_finished_cancelling, is_done_completing, is_done_compensating}
use Rattle.lra_model.specs.Words.{has_gone}
use Rattle.lra_model.specs.History.{History}
use Rattle.lra_model.specs.Actions.{children, members_of}
use Rattle.lra_rows.specs.declared.found.ActionRow.{ActionRow}
use Rattle.lra_rows.specs.declared.found.MemberRow.{MemberRow}
use Rattle.lra_rows.specs.Found.{found_action, found_member, found_addresses}
use Rattle.lra_commands.specs.declared.query.Blocker.{Blocker}
use Rattle.lra_commands.specs.declared.query.Blocker.TheVariants as awaited
use Rattle.lra_commands.specs.declared.query.QueryResult.{QueryResult}
use Rattle.lra_commands.specs.declared.query.QueryResult.TheVariants as known
use Rattle.lra_validator.specs.inner.Told.{told_at}

-- whether an action with a status waits for a member with a status
abbrev pub waits_for_member : ActionStatus → MemberStatus → Bool
waits_for_member action.Closing s = not (is_done_completing s)
waits_for_member action.Cancelling s = not (is_done_compensating s)
waits_for_member _ s = false

-- whether an action with a status waits for a nested action with a status
abbrev pub waits_for_action : ActionStatus → ActionStatus → Bool
waits_for_action action.Closing s = not (has_ended s)
waits_for_action action.Cancelling s = not (has_finished_cancelling s)
waits_for_action _ s = false

-- whether a member can be compensated
abbrev pub can_compensate : History → ℕ → Bool
can_compensate J p = option_map_or (λ (u : Addresses). is_some u.compensate) (found_addresses J p) false

-- whether an action waits for a member, by its row: not once it has left
abbrev pub waits_for_row : ActionStatus → MemberRow → Bool
waits_for_row status r = not (has_gone r.status) && waits_for_member status r.status

-- whether an action waits for a member that is found
abbrev pub waits_for_found : ActionStatus → History → ℕ → Bool
waits_for_found status J p = option_map_or (waits_for_row status) (found_member J p) false

-- the status of an action that is found, else Active
abbrev pub found_status : History → ℕ → ActionStatus
found_status J b = option_map_or (λ (r : ActionRow). r.status) (found_action J b) action.Active

-- whether a row blocks the end of an action with a status
abbrev pub held : ActionStatus → History → Blocker → Bool
held status J (awaited.Member p ask) = can_compensate J p && waits_for_found status J p
held status J (awaited.Action b) = waits_for_action status (found_status J b)

-- the ask of a member that is outstanding
abbrev pub found_ask : History → ℕ → Option ℕ
found_ask J p = option_and_then (λ (r : MemberRow). r.outstanding) (found_member J p)

-- the row of a member
abbrev pub member_row : History → ℕ → Blocker
member_row J p = awaited.Member p (found_ask J p)

-- the rows of an action
abbrev pub found_rows : History → ℕ → List Blocker
found_rows J a = map (member_row J) (members_of J a) ++ map awaited.Action (children J a)

-- what a query returns of the row at a place, if there is one that blocks the end of an action with a status
abbrev pub look_awaited : History → ℕ → ActionStatus → ℕ → Option QueryResult
look_awaited J a status place = told_at (held status J) known.Awaits place (slice_get (found_rows J a) place)
