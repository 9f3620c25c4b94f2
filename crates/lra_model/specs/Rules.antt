-- The rules of a journal, in their order, and the histories that keep them.
use Rattle.std.specs.Prelude.{ℕ, ◌+◌, ◌^◌, ◌==◌, nat_lt, nat_le, Bool, true, false, ◌&&◌, not, List, [], ◌∷◌, length}
use Rattle.std.specs.Prelude.{Option, Some, None, is_none, option_map, if◌then◌else◌}
use Rattle.std.specs.Option.{option_map_or}
use Rattle.std.specs.List.{filter_map, list_all}
use Rattle.lra_model.specs.declared.version.Version.{Version}
use Rattle.lra_model.specs.declared.version.Version.TheVariants as version
use Rattle.lra_model.specs.declared.rule.Rule.{Rule}
use Rattle.lra_model.specs.declared.rule.Rule.TheVariants as rule
use Rattle.lra_model.specs.declared.entry.Deed.{Deed}
use Rattle.lra_model.specs.declared.entry.Deed.TheVariants.{Enrol, Start, Join, Leave, Close, Cancel, Skip, Ask, Reply}
use Rattle.lra_model.specs.declared.entry.Deed.TheVariants.{Report, End, Restart, Renew}
use Rattle.lra_model.specs.declared.entry.Entry.{Entry}
use Rattle.lra_model.specs.Words.{is_active, same_status, has_gone}
use Rattle.lra_model.specs.History.{History, Step, steps, first}
use Rattle.lra_model.specs.Facts.{ActionFacts, MemberFacts, Facts, facts_of}
use Rattle.lra_model.specs.Tests.{at_action, at_member, status_is, each_parent, is_moment, may_close, may_cancel}
use Rattle.lra_model.specs.Tests.{addresses_fit, may_skip, may_ask, may_reply, may_report}

-- a rule, and whether it is kept (this project's choice)
abbrev pub Ruling : Type 0
Ruling = Rule × Bool

-- whether a version of the journal has a deed: version 1 has no Renew (this project's choice)
abbrev pub has_deed : Version → Deed → Bool
has_deed version.One (Renew a limit) = false
has_deed _ _ = true

-- whether an entry's clerk may write it: a clerk that enrols has the next number, and one that does anything else is
-- enrolled (this project's choice)
abbrev pub clerk_fits : Facts → ℕ → Deed → Bool
clerk_fits f by Enrol = by == f.clerks + 1
clerk_fits f by _ = f.is_clerk by

-- whether there is such an action
abbrev pub is_action : Facts → ℕ → Bool
is_action = at_action (λ (a : ActionFacts). true)

-- whether there is such a member
abbrev pub is_member : Facts → ℕ → Bool
is_member = at_member (λ (p : MemberFacts). true)

-- whether there is such a member and it has not left
abbrev pub is_here : Facts → ℕ → Bool
is_here = at_member (λ (p : MemberFacts). not (has_gone p.status))

-- the rules that concern a deed, in the order in which they are checked (MicroProfile LRA 2.0 as each test says; the
-- order is this project's choice)
abbrev pub deed_rules : Version → (List ℕ → Bool) → Facts → ℕ → Deed → List Ruling
deed_rules v t f m Enrol = []
deed_rules v t f m (Start a parent limit) =
    (rule.Number, a == f.actions + 1) ∷ (rule.Action, each_parent (is_action f) parent)
    ∷ (rule.Active, each_parent (status_is is_active f) parent) ∷ (rule.Limit, is_moment (m + limit)) ∷ []
deed_rules v t f m (Join p a uris) =
    (rule.Number, p == f.members + 1) ∷ (rule.Action, is_action f a) ∷ (rule.Active, status_is is_active f a)
    ∷ (rule.Addresses, addresses_fit t uris) ∷ []
deed_rules v t f m (Leave p) =
    (rule.Member, is_member f p) ∷ (rule.Left, is_here f p) ∷ (
      rule.Active,
      at_member (λ (x : MemberFacts). status_is is_active f x.action) f p,
    ) ∷ []
deed_rules v t f m (Close a cause) =
    (rule.Action, is_action f a) ∷ (rule.Cause, at_action (may_close cause f) f a) ∷ []
deed_rules v t f m (Cancel a cause) =
    (rule.Action, is_action f a) ∷ (rule.Cause, at_action (may_cancel v m cause f) f a) ∷ []
deed_rules v t f m (Skip p) =
    (rule.Member, is_member f p) ∷ (rule.Left, is_here f p) ∷ (rule.Skip, at_member (may_skip f) f p) ∷ []
deed_rules v t f m (Ask n p kind) =
    (rule.Number, n == f.asks + 1) ∷ (rule.Member, is_member f p) ∷ (rule.Left, is_here f p)
    ∷ (rule.Ask, at_member (may_ask kind f) f p) ∷ []
deed_rules v t f m (Reply n outcome) =
    (rule.Reply, may_reply f n outcome) ∷ []
deed_rules v t f m (Report p outcome) =
    (rule.Member, is_member f p) ∷ (rule.Left, is_here f p) ∷ (rule.Report, at_member (may_report outcome) f p) ∷ []
deed_rules v t f m (End a status) =
    (rule.Action, is_action f a) ∷ (rule.Unsettled, at_action (λ (x : ActionFacts). x.settled) f a)
    ∷ (rule.Ending, at_action (λ (x : ActionFacts). same_status status x.right_end) f a) ∷ []
deed_rules v t f m Restart = []
deed_rules v t f m (Renew a limit) =
    (rule.Action, is_action f a) ∷ (rule.Active, status_is is_active f a) ∷ (rule.Limit, is_moment (m + limit)) ∷ []

-- all rules that concern an entry, in the order in which they are checked; t is the test of an address's text (this
-- project's choice)
abbrev pub rules_on : Version → (List ℕ → Bool) → Facts → Entry → List Ruling
rules_on v t f e = (rule.Grammar, has_deed v e.deed) ∷ (rule.Clerk, clerk_fits f e.by e.deed)
    ∷ (rule.Moment, nat_le f.moment e.moment) ∷ deed_rules v t f e.moment e.deed

-- the first rule that isn't kept, where one isn't
abbrev pub first_broken : List Ruling → Option Rule
first_broken [] = None
first_broken ((r, kept) ∷ rest) = if kept then first_broken rest else Some r

-- the first rule that an entry breaks where it comes after a history (this project's choice)
unfoldable pub broken : Version → (List ℕ → Bool) → History → Entry → Option Rule
broken v t J e = first_broken (rules_on v t (facts_of J) e)

-- whether a number is one that the journal has: below 2^64 (this project's choice)
abbrev pub is_number : ℕ → Bool
is_number n = nat_lt n (2 ^ 64)

-- whether the numbers of a deed are such as the journal has (this project's choice)
abbrev pub numbers_fit : Deed → Bool
numbers_fit Enrol = true
numbers_fit (Start a parent limit) = is_number a && option_map_or is_number parent true && is_number limit
numbers_fit (Join p a uris) = is_number p && is_number a
numbers_fit (Leave p) = is_number p
numbers_fit (Close a cause) = is_number a
numbers_fit (Cancel a cause) = is_number a
numbers_fit (Skip p) = is_number p
numbers_fit (Ask n p kind) = is_number n && is_number p
numbers_fit (Reply n outcome) = is_number n
numbers_fit (Report p outcome) = is_number p
numbers_fit (End a status) = is_number a
numbers_fit Restart = true
numbers_fit (Renew a limit) = is_number a && is_number limit

-- whether the numbers of an entry are such as the journal has: a clerk's below 2^32, the others below 2^64 (this
-- project's choice)
abbrev pub in_range : Entry → Bool
in_range e = nat_lt e.by (2 ^ 32) && is_number e.moment && numbers_fit e.deed

-- whether an entry may come after a history (this project's choice)
abbrev pub allows : Version → (List ℕ → Bool) → History → Entry → Bool
allows v t J e = in_range e && is_none (broken v t J e)

-- whether each entry of a history may come after those before it (this project's choice)
unfoldable pub is_legal : Version → (List ℕ → Bool) → History → Bool
is_legal v t J = list_all (λ (s : Step). allows v t s.past s.entry) (steps J)

-- where a journal is at fault: its line, counted from 1, and the first rule that the line breaks (this project's
-- choice)
pub record Fault : Type 0 where
  pub line : ℕ
  pub rule : Rule

-- the fault that a step is, where it breaks a rule; the first entry stands on line 2 (this project's choice)
abbrev pub fault_at : Version → (List ℕ → Bool) → Step → Option Fault
fault_at v t s = option_map (λ (r : Rule). record { line = length s.past + 2; rule = r }) (broken v t s.past s.entry)

-- the first fault of a history's entries; the first of them stands on line 2, below the header (this project's choice)
unfoldable pub first_fault : Version → (List ℕ → Bool) → History → Option Fault
first_fault v t J = first (filter_map (fault_at v t) (steps J))
