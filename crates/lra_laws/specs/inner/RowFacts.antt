-- What the rules read of the forward state: the facts of its history, each found by a row.
use Rattle.std.specs.Prelude.{ℕ, nat_le, nat_lt, Bool, false, ◌&&◌, cond, length, Option, None, option_map}
use Rattle.std.specs.Option.{option_map_or, option_and_then}
use Rattle.std.specs.List.{find}
use Rattle.lra_model.specs.Words.{has_ended}
use Rattle.lra_model.specs.Facts.{ActionFacts, MemberFacts, Facts}
use Rattle.lra_laws.specs.Rows.{Standing, MemberRow, ActionRow, State, row_at, stands_as}
use Rattle.lra_laws.specs.Ends.{settled_by, right_end_by}

-- what the rules read of an action, by its row
abbrev pub action_by : State → ActionRow → ActionFacts
action_by s r = record {
  parent = r.parent;
  status = r.status;
  limit = r.limit;
  settled = settled_by r;
  right_end = right_end_by r;
  top_has_ended = option_map_or (λ (t : ActionRow). has_ended t.status) (row_at s.actions r.top) false;
}

-- whether a member's ask is outstanding: a restart made those up to void so
abbrev pub is_standing : ℕ → MemberRow → Bool
is_standing void r = option_map_or (λ (x : Standing). nat_lt void x.number) r.asked false

-- what the rules read of a member, by its row
abbrev pub member_by : State → MemberRow → MemberFacts
member_by s r = record {
  action = r.action;
  addresses = r.addresses;
  status = r.status;
  completion = r.completion;
  compensation = r.compensation;
  is_asked = is_standing s.void r;
  has_forgotten = r.has_forgotten;
  was_told = r.was_told;
}

-- the member that an outstanding ask was made of
abbrev pub member_asked : State → ℕ → Option MemberRow
member_asked s n = cond (nat_lt s.void n) (find (stands_as n) s.members) None

-- all that the rules read, by the rows
abbrev pub facts_by : State → Facts
facts_by s = record {
  moment = s.moment;
  clerks = s.clerks;
  actions = length s.actions;
  members = length s.members;
  asks = s.asks;
  is_clerk = λ n. nat_lt 0 n && nat_le n s.clerks;
  action = λ a. option_map (action_by s) (row_at s.actions a);
  member = λ p. option_map (member_by s) (row_at s.members p);
  outstanding = λ n. option_and_then (λ (r : MemberRow). option_map (λ (x : Standing). x.kind) r.asked)
      (member_asked s n);
}
