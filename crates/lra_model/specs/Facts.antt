-- What the rules read of a history. Each of these facts is read from the whole history.
use Rattle.std.specs.Prelude.{ℕ, Bool, Option, Some, None, is_some, length, option_map, cond, unwrap_or}
use Rattle.lra_model.specs.declared.status.ActionStatus.{ActionStatus}
use Rattle.lra_model.specs.declared.status.ActionStatus.TheVariants as action
use Rattle.lra_model.specs.declared.status.MemberStatus.{MemberStatus}
use Rattle.lra_model.specs.declared.asks.AskKind.{AskKind}
use Rattle.lra_model.specs.declared.asks.AskKind.TheVariants as ask
use Rattle.lra_model.specs.declared.asks.Direction.TheVariants as direction
use Rattle.lra_model.specs.declared.asks.Outcome.{Outcome}
use Rattle.lra_model.specs.Addresses.{Presence, presence_of}
use Rattle.lra_model.specs.History.{History, clerks, actions, members, asks, is_among, last_moment}
use Rattle.lra_model.specs.Actions.{Limit, parent, action_status, limit_in_force}
use Rattle.lra_model.specs.Members.{Asked, action_of, addresses_of, member_status, last_reply, was_answered}
use Rattle.lra_model.specs.Members.{is_outstanding, outstanding_ask, ask_of}
use Rattle.lra_model.specs.Ends.{is_settled, right_end, top_has_ended}

-- what the rules read of an action (this project's choice)
pub record ActionFacts : Type 0 where
  pub parent : Option ℕ
  pub status : ActionStatus
  pub limit : Limit
  pub settled : Bool
  pub right_end : ActionStatus
  pub top_has_ended : Bool

-- what the rules read of a member: which addresses it has, its last replies in both directions, whether an ask of it is
-- outstanding, and which notices it has answered with Done (this project's choice)
pub record MemberFacts : Type 0 where
  pub action : ℕ
  pub addresses : Presence
  pub status : MemberStatus
  pub completion : Option Outcome
  pub compensation : Option Outcome
  pub is_asked : Bool
  pub has_forgotten : Bool
  pub was_told : Bool

-- what the rules read of a history: its last moment, how many clerks, actions, members and asks it has, which clerks
-- are enrolled, the facts of each action and member, and the kind of each outstanding ask (this project's choice)
pub record Facts : Type 0 where
  pub moment : ℕ
  pub clerks : ℕ
  pub actions : ℕ
  pub members : ℕ
  pub asks : ℕ
  pub is_clerk : ℕ → Bool
  pub action : ℕ → Option ActionFacts
  pub member : ℕ → Option MemberFacts
  pub outstanding : ℕ → Option AskKind

-- the facts of an action that a history has
abbrev pub action_facts : History → ℕ → ActionFacts
action_facts J a = record {
  parent = parent J a;
  status = unwrap_or (action_status J a) action.Active;
  limit = limit_in_force J a;
  settled = is_settled J a;
  right_end = right_end J a;
  top_has_ended = top_has_ended J a;
}

-- the facts of a member that a history has
abbrev pub member_facts : History → ℕ → MemberFacts
member_facts J p = record {
  action = action_of J p;
  addresses = presence_of (addresses_of J p);
  status = member_status J p;
  completion = last_reply J p direction.Completion;
  compensation = last_reply J p direction.Compensation;
  is_asked = is_some (outstanding_ask J p);
  has_forgotten = was_answered J p ask.Forget;
  was_told = was_answered J p ask.After;
}

-- the facts of a history
unfoldable pub facts_of : History → Facts
facts_of J = record {
  moment = last_moment J;
  clerks = length (clerks J);
  actions = length (actions J);
  members = length (members J);
  asks = length (asks J);
  is_clerk = is_among (clerks J);
  action = λ a. cond (is_among (actions J) a) (Some (action_facts J a)) None;
  member = λ p. cond (is_among (members J) p) (Some (member_facts J p)) None;
  outstanding = λ n. cond (is_outstanding J n) (option_map (λ (a : Asked). a.kind) (ask_of J n)) None;
}
