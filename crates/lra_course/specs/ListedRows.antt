-- The listing, by the rows.
use Rattle.std.specs.Prelude.{ℕ, ◌+◌, List, [], ◌∷◌}
use Rattle.lra_laws.specs.Rows.{ActionRow}
use Rattle.lra_laws.specs.Rows.{MemberRow}
use Rattle.lra_course.specs.declared.listing.ListedAction.{ListedAction}
use Rattle.lra_course.specs.declared.listing.ListedMember.{ListedMember}
use Rattle.lra_course.specs.Listed.{Listed}
use Rattle.lra_laws.specs.Rows.{State}

-- what is listed of each row, where the first is number n
abbrev pub listed_from : {R L : Type 0} → (ℕ → R → L) → ℕ → List R → List L
listed_from f n [] = []
listed_from f n (r ∷ rows) = f n r ∷ listed_from f (n + 1) rows

-- what is listed of an action, by its row
abbrev pub action_listed : ℕ → ActionRow → ListedAction
action_listed a r = record { action = a; parent = r.parent; status = r.status }

-- what is listed of a member, by its row
abbrev pub member_listed : ℕ → MemberRow → ListedMember
member_listed p r = record { member = p; action = r.action; status = r.status }

-- what is listed of a state: row k is number k + 1
abbrev pub listed_by : State → Listed
listed_by s = record {
  actions = listed_from action_listed 1 s.actions;
  members = listed_from member_listed 1 s.members;
}
