-- What is legal or allowed in some version, with some test of an address's text, is so in version 2 with every text for
-- an address; and what is allowed after one of the histories that a snapshot stands for is allowed so after each.
use Rattle.std.proofs.Common.{◌≡◌, ℕ, Bool, true, false, List, Option, Some, None, refl, sym, ap, ◌∙◌, subst}
use Rattle.std.specs.Prelude.{◌&&◌, ◌||◌, is_some, is_none}
use Rattle.std.specs.Option.{option_map_or}
use Rattle.lra_model.specs.declared.version.Version.{Version}
use Rattle.lra_model.specs.declared.version.Version.TheVariants.{One, Two}
use Rattle.lra_model.specs.declared.entry.Deed.{Deed}
use Rattle.lra_model.specs.declared.entry.Deed.TheVariants.{Join}
use Rattle.lra_model.specs.declared.entry.Entry.{Entry}
use Rattle.lra_model.specs.Addresses.{Addresses}
use Rattle.lra_model.specs.History.{History, Step, steps}
use Rattle.lra_model.specs.Facts.{Facts, facts_of}
use Rattle.lra_model.specs.Tests.{addresses_fit}
use Rattle.lra_model.specs.Rules.{broken, rules_on, first_broken, allows, in_range, is_legal}
use Rattle.lra_laws.specs.Snapshots.{StateSnapshot, StandsFor, Follows}
use Rattle.lra_laws.specs.inner.RowFacts.{facts_by}
use Rattle.lra_laws.proofs.Agree.{agree}
use Rattle.lra_laws.proofs.Legal.{Allowed, allowed, all_kept, none_broken}
use Rattle.lra_laws.proofs.Tested.{both, and_intro, none_from_test, list_all-weaker}
use Rattle.lra_laws.proofs.Upgraded.{allows_kept}

-- every text is an address
abbrev pub any_text : List ℕ → Bool
any_text text = true

text_fits : (o : Option (List ℕ)) → option_map_or any_text o true ≡ true
text_fits None = refl
text_fits (Some text) = refl

-- whether there are the addresses that there have to be
abbrev are_there : Addresses → Bool
are_there u = is_some u.compensate || (is_some u.after && is_none u.complete && is_none u.status && is_none u.forget)

first_of_six : (a b c d e f : Bool) → (a && b && c && d && e && f) ≡ true → a ≡ true
first_of_six true b c d e f h = refl
first_of_six false b c d e f h = absurd cc

all_six : (a b c d e f : Bool) → a ≡ true → b ≡ true → c ≡ true → d ≡ true → e ≡ true → f ≡ true
    → (a && b && c && d && e && f) ≡ true
all_six a b c d e f h i j k l m = rw (h, i, j, k, l, m) refl

addresses_wider : (t : List ℕ → Bool) (u : Addresses) → addresses_fit t u ≡ true → addresses_fit any_text u ≡ true
addresses_wider t u h = all_six (are_there u) _ _ _ _ _ (first_of_six (are_there u) _ _ _ _ _ h)
    (text_fits u.compensate) (text_fits u.complete) (text_fits u.status) (text_fits u.forget) (text_fits u.after)

rules_wider : (v : Version) (t : List ℕ → Bool) (f : Facts) (by m : ℕ) (d : Deed)
    → first_broken (rules_on v t f (record { by = by; moment = m; deed = d })) ≡ None
    → first_broken (rules_on v any_text f (record { by = by; moment = m; deed = d })) ≡ None
rules_wider v t f by m (Join p a uris) h =
    let e : Entry = record { by = by; moment = m; deed = Join p a uris } in
    let k = all_kept (rules_on v t f e) h in
    none_broken (rules_on v any_text f e) (
      k.0,
      (
        k.1.0,
        (
          k.1.1.0,
          (k.1.1.1.0, (k.1.1.1.1.0, (k.1.1.1.1.1.0, (addresses_wider t uris k.1.1.1.1.1.1.0, tt)))),
        ),
      ),
    )
rules_wider v t f by m d h = h

allows_wider : (v : Version) (t : List ℕ → Bool) (J : History) (e : Entry) → allows v t J e ≡ true
    → allows v any_text J e ≡ true
unfolding broken
allows_wider v t J e h =
    let k = both (in_range e) (is_none (broken v t J e)) h in
    and_intro (in_range e) (is_none (broken v any_text J e)) k.0 (ap is_none
    (rules_wider v t (facts_of J) e.by e.moment e.deed (none_from_test (broken v t J e) k.1)))

pub allows_widest : (v : Version) (t : List ℕ → Bool) (J : History) (e : Entry) → allows v t J e ≡ true
    → allows Two any_text J e ≡ true
allows_widest One t J e h = allows_kept any_text J e (allows_wider One t J e h)
allows_widest Two t J e h = allows_wider Two t J e h

pub legal_widest : (v : Version) (t : List ℕ → Bool) (J : History) → is_legal v t J ≡ true → is_legal Two any_text J
    ≡ true
unfolding is_legal
legal_widest v t J h = list_all-weaker (λ (s : Step). allows v t s.past s.entry)
    (λ (s : Step). allows Two any_text s.past s.entry) (λ s. allows_widest v t s.past s.entry) (steps J) h

-- two histories that one snapshot stands for have the same facts
pub same_facts : (s : StateSnapshot) (J K : History) → StandsFor s J → StandsFor s K → facts_of K ≡ facts_of J
same_facts s J K h k =
    sym (agree k.version k.is_address K k.legal)
    ∙ ap (λ (x : StateSnapshot). facts_by x.state) (sym k.snapshot ∙ h.snapshot)
    ∙ agree h.version h.is_address J h.legal

-- so what may follow one of them may follow the other
pub follows_each : (s : StateSnapshot) (e : Entry) (J : History) → Follows s e → StandsFor s J
    → (is_legal Two any_text J ≡ true) × Allowed Two any_text J e
unfolding broken
follows_each s e J f h = (
  legal_widest h.version h.is_address J h.legal,
  allowed Two any_text J e
      (subst (λ (x : Facts). (in_range e && is_none (first_broken (rules_on Two any_text x e))) ≡ true)
      (same_facts s J f.history h f.stands)
      (allows_widest f.stands.version f.stands.is_address f.history e f.allowed)),
)
