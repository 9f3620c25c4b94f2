-- What is listed of a history, in the words of histories.
use Rattle.std.specs.Prelude.{ℕ, map, unwrap_or}
use Rattle.lra_model.specs.declared.status.ActionStatus.TheVariants as action
use Rattle.lra_model.specs.History.{History, actions, members}
use Rattle.lra_model.specs.Actions.{parent, action_status}
use Rattle.lra_model.specs.Members.{action_of, member_status}
use Rattle.lra_course.specs.declared.listing.ListedAction.{ListedAction}
use Rattle.lra_course.specs.declared.listing.ListedMember.{ListedMember}
use Rattle.lra_course.specs.Listed.{Listed}

-- an action, the action that it is nested in, and its status; an action of a legal history has one
abbrev pub listed_action : History → ℕ → ListedAction
listed_action J a = record { action = a; parent = parent J a; status = unwrap_or (action_status J a) action.Active }

-- a member, its action and its status
abbrev pub listed_member : History → ℕ → ListedMember
listed_member J p = record { member = p; action = action_of J p; status = member_status J p }

-- the actions of a history and its members, each in the order in which they come
unfoldable pub listing : History → Listed
listing J = record {
  actions = map (listed_action J) (actions J);
  members = map (listed_member J) (members J);
}
