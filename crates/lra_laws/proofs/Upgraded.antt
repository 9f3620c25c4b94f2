-- What version 1 allows, version 2 allows too.
use Rattle.std.proofs.Common.{◌≡◌, ℕ, Bool, true, false, List, [], ◌∷◌, Option, Some, None, refl, sym, ap, ◌∙◌}
use Rattle.std.proofs.Math.Bool.{or-false}
use Rattle.std.specs.Prelude.{is_none, nat_le}
use Rattle.std.specs.Option.{option_map_or}
use Rattle.lra_model.specs.declared.asks.Cause.{Cause}
use Rattle.lra_model.specs.declared.asks.Cause.TheVariants as cause
use Rattle.lra_model.specs.declared.version.Version.TheVariants.{One, Two}
use Rattle.lra_model.specs.declared.rule.Rule.TheVariants as rule
use Rattle.lra_model.specs.declared.entry.Deed.{Deed}
use Rattle.lra_model.specs.declared.entry.Deed.TheVariants.{Enrol, Start, Join, Leave, Close, Cancel, Skip, Ask, Reply}
use Rattle.lra_model.specs.declared.entry.Deed.TheVariants.{Report, End, Restart, Renew}
use Rattle.lra_model.specs.declared.entry.Entry.{Entry}
use Rattle.lra_model.specs.Words.{is_active}
use Rattle.lra_model.specs.History.{History, Step, steps}
use Rattle.lra_model.specs.Facts.{ActionFacts, Facts, facts_of}
use Rattle.lra_model.specs.Tests.{at_action, may_cancel, may_take_back}
use Rattle.lra_model.specs.Rules.{Ruling, is_action, clerk_fits, deed_rules, rules_on, first_broken, broken, in_range}
use Rattle.lra_model.specs.Rules.{allows, is_legal}
use Rattle.lra_model.specs.Upgrade.{VersionTwoKeepsLegal}
use Rattle.lra_laws.proofs.Tested.{both, and_intro, or_left, none_from_test, list_all-weaker, kept, passed}

cancel_kept : (m : ℕ) (c : Cause) (f : Facts) (a : ActionFacts) → may_cancel One m c f a ≡ true → may_cancel Two m c f a
    ≡ true
cancel_kept m cause.Client f a h = or_left (is_active a.status) (may_take_back Two f a)
    (sym (or-false (is_active a.status)) ∙ h)
cancel_kept m cause.Parent f a h = h
cancel_kept m cause.Limit f a h = h

at_kept : (p q : ActionFacts → Bool) → ((a : ActionFacts) → p a ≡ true → q a ≡ true) → (o : Option ActionFacts)
    → option_map_or p o false ≡ true → option_map_or q o false ≡ true
at_kept p q w None h = h
at_kept p q w (Some a) h = w a h

-- what version 1 asks of an entry, version 2 asks too
rules_kept : (t : List ℕ → Bool) (f : Facts) (by moment : ℕ) (d : Deed)
    → first_broken (rules_on One t f (record { by = by; moment = moment; deed = d })) ≡ None
    → first_broken (rules_on Two t f (record { by = by; moment = moment; deed = d })) ≡ None
rules_kept t f by m (Cancel a c) h =
    let clerk = kept rule.Clerk (clerk_fits f by (Cancel a c)) ((rule.Moment, nat_le f.moment m)
    ∷ deed_rules One t f m (Cancel a c)) h in
    let moment = kept rule.Moment (nat_le f.moment m) (deed_rules One t f m (Cancel a c)) clerk.1 in
    let there = kept rule.Action (is_action f a) ((rule.Cause, at_action (may_cancel One m c f) f a) ∷ []) moment.1 in
    let fits = kept rule.Cause (at_action (may_cancel One m c f) f a) [] there.1 in
    let cancels : List Ruling = (rule.Cause, at_action (may_cancel Two m c f) f a) ∷ [] in
    let acts : List Ruling = (rule.Action, is_action f a) ∷ cancels in
    passed rule.Clerk (clerk_fits f by (Cancel a c)) ((rule.Moment, nat_le f.moment m) ∷ acts) clerk.0
    (passed rule.Moment (nat_le f.moment m) acts moment.0
    (passed rule.Action (is_action f a) cancels there.0
    (passed rule.Cause (at_action (may_cancel Two m c f) f a) [] (at_kept (may_cancel One m c f) (may_cancel Two m c f)
    (cancel_kept m c f) (f.action a) fits.0) refl)))
rules_kept t f by m (Renew a limit) h = absurd cc
rules_kept t f by m Enrol h = h
rules_kept t f by m (Start a parent limit) h = h
rules_kept t f by m (Join p a uris) h = h
rules_kept t f by m (Leave p) h = h
rules_kept t f by m (Close a c) h = h
rules_kept t f by m (Skip p) h = h
rules_kept t f by m (Ask n p kind) h = h
rules_kept t f by m (Reply n o) h = h
rules_kept t f by m (Report p o) h = h
rules_kept t f by m (End a s) h = h
rules_kept t f by m Restart h = h

none_passes : {X : Type 0} (o : Option X) → o ≡ None → is_none o ≡ true
none_passes o h = ap is_none h

pub allows_kept : (t : List ℕ → Bool) (J : History) (e : Entry) → allows One t J e ≡ true → allows Two t J e ≡ true
unfolding broken
allows_kept t J e h =
    let k = both (in_range e) (is_none (broken One t J e)) h in
    and_intro (in_range e) (is_none (broken Two t J e)) k.0 (none_passes (broken Two t J e)
    (rules_kept t (facts_of J) e.by e.moment e.deed (none_from_test (broken One t J e) k.1)))

pub upgrade : VersionTwoKeepsLegal
unfolding is_legal
upgrade t J h = list_all-weaker (λ (s : Step). allows One t s.past s.entry) (λ (s : Step). allows Two t s.past s.entry)
    (λ s. allows_kept t s.past s.entry) (steps J) h
