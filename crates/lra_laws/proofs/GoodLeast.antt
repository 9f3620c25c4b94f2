-- An action that failed has a least failed member, and one that ended well has none: a summary of a legal history
-- leaves out no failed end.
use Rattle.std.proofs.Common.{◌≡◌, ℕ, zero, suc, ◌+◌, ◌≤◌, Bool, true, false, List, [], ◌∷◌, length, Option, Some, None}
use Rattle.std.proofs.Common.{refl, sym, ap, ◌∙◌, cond, arith, true≢false, eqb-true, eq-eqb}
use Rattle.std.specs.Prelude.{◌==◌, ◌&&◌, ◌||◌, find}
use Rattle.std.specs.List.{range_with_len}
use Rattle.lra_model.specs.declared.version.Version.{Version}
use Rattle.lra_model.specs.Words.{has_ended, has_failed, member_has_failed}
use Rattle.lra_model.specs.History.{History, members, is_among}
use Rattle.lra_model.specs.Actions.{is_under}
use Rattle.lra_model.specs.Members.{action_of, stays, member_status}
use Rattle.lra_model.specs.Ends.{action_is}
use Rattle.lra_model.specs.Rules.{is_legal}
use Rattle.lra_model.specs.GoodEnds.{StaysUnder}
use Rattle.lra_model.specs.Tallies.{least_failed}
use Rattle.lra_laws.proofs.Tested.{both, and_intro}
use Rattle.lra_laws.proofs.Legal.{members_numbered, range_among}
use Rattle.lra_laws.proofs.GoodLaw.{good_ends}

-- what is found is among them, and passes
find_passes : (f : ℕ → Bool) (xs : List ℕ) (p : ℕ) → find f xs ≡ Some p → (is_among xs p ≡ true) × (f p ≡ true)
find_passes f [] p h = absurd cc
find_passes f (x ∷ xs) p h = either (f x) refl h (find_passes f xs p)
  where
    either : (b : Bool) → f x ≡ b → cond b (Some x) (find f xs) ≡ Some p
        → (find f xs ≡ Some p → (is_among xs p ≡ true) × (f p ≡ true)) → (is_among (x ∷ xs) p ≡ true) × (f p ≡ true)
    either true g i rest = let e : x ≡ p = cc in
        (ap (λ (b : Bool). b || is_among xs p) (ap (λ (n : ℕ). n == p) e ∙ eq-eqb p p refl), ap f (sym e) ∙ g)
    either false g i rest = let r = rest i in (later (x == p) r.0, r.1)
      where
        later : (b : Bool) → is_among xs p ≡ true → (b || is_among xs p) ≡ true
        later true j = refl
        later false j = j

-- where one passes, some is found
find_finds : (f : ℕ → Bool) (xs : List ℕ) (q : ℕ) → is_among xs q ≡ true → f q ≡ true → (p : ℕ) × (find f xs ≡ Some p)
find_finds f [] q h k = absurd cc
find_finds f (x ∷ xs) q h k = either (f x) refl (x == q) refl h (find_finds f xs q)
  where
    either : (b : Bool) → f x ≡ b → (c : Bool) → (x == q) ≡ c → (c || is_among xs q) ≡ true
        → (is_among xs q ≡ true → f q ≡ true → (p : ℕ) × (find f xs ≡ Some p)) → (p : ℕ)
        × (cond b (Some x) (find f xs) ≡ Some p)
    either true g c e i rest = (x, refl)
    either false g true e i rest = absurd (true≢false (sym k ∙ ap f (sym (eqb-true x q e)) ∙ g))
    either false g false e i rest = rest i k

-- among rising numbers, the least that passes is found
find_least : (f : ℕ → Bool) (a n p q : ℕ) → find f (range_with_len a n) ≡ Some p → is_among (range_with_len a n) q
    ≡ true → f q ≡ true → p ≤ q
find_least f a zero p q h k g = absurd cc
find_least f a (suc n) p q h k g = either (f a) refl h (a == q) refl k (find_least f (a + 1) n p q)
  where
    at_least : a ≤ q
    at_least = (range_among a (suc n) q k).0

    either : (b : Bool) → f a ≡ b → cond b (Some a) (find f (range_with_len (a + 1) n)) ≡ Some p → (c : Bool) → (a == q)
        ≡ c → (c || is_among (range_with_len (a + 1) n) q) ≡ true
        → (find f (range_with_len (a + 1) n) ≡ Some p → is_among (range_with_len (a + 1) n) q ≡ true → f q ≡ true → p
        ≤ q) → p ≤ q
    either true e i c j l rest = let same : a ≡ p = cc in let low = at_least in omega arith
    either false e i true j l rest = absurd (true≢false (sym g ∙ ap f (sym (eqb-true a q j)) ∙ e))
    either false e i false j l rest = rest i l g

-- the test of a member that stays in an action or below it and has failed
abbrev fails_under : History → ℕ → ℕ → Bool
fails_under J t p = stays J p && is_under J t (action_of J p) && member_has_failed (member_status J p)

-- the least member that stays in an action or below it and has failed
pub record LeastFailed (J : History) (t p : ℕ) : Type 0 where
  pub is : least_failed J t ≡ Some p
  pub stays : StaysUnder J t p
  pub failed : member_has_failed (member_status J p) ≡ true
  pub least : (q : ℕ) → StaysUnder J t q → member_has_failed (member_status J q) ≡ true → p ≤ q

-- in a legal history, an action that failed has one
pub least_failed_there : (v : Version) (t : List ℕ → Bool) (J : History) → is_legal v t J ≡ true → (a : ℕ)
    → action_is has_failed J a ≡ true → (p : ℕ) × LeastFailed J a p
unfolding least_failed
least_failed_there v t J l a h =
    (found.0, record { is = found.1; stays = (passes.0, first.0, first.1); failed = test.1; least = least })
  where
    numbered : members J ≡ range_with_len 1 (length (members J))
    numbered = members_numbered v t J l

    some : (p : ℕ) × StaysUnder J a p × (member_has_failed (member_status J p) ≡ true)
    some = (good_ends v t J l a).failed h

    fails : (q : ℕ) → StaysUnder J a q → member_has_failed (member_status J q) ≡ true → fails_under J a q ≡ true
    fails q s g = and_intro (stays J q && is_under J a (action_of J q)) (member_has_failed (member_status J q))
        (and_intro (stays J q) (is_under J a (action_of J q)) s.1 s.2) g

    found : (p : ℕ) × (find (fails_under J a) (members J) ≡ Some p)
    found = find_finds (fails_under J a) (members J) some.0 some.1.0 (fails some.0 some.1 some.2)

    passes : (is_among (members J) found.0 ≡ true) × (fails_under J a found.0 ≡ true)
    passes = find_passes (fails_under J a) (members J) found.0 found.1

    test : ((stays J found.0 && is_under J a (action_of J found.0)) ≡ true)
        × (member_has_failed (member_status J found.0) ≡ true)
    test = both (stays J found.0 && is_under J a (action_of J found.0)) (member_has_failed (member_status J found.0))
        passes.1

    first : (stays J found.0 ≡ true) × (is_under J a (action_of J found.0) ≡ true)
    first = both (stays J found.0) (is_under J a (action_of J found.0)) test.0

    least : (q : ℕ) → StaysUnder J a q → member_has_failed (member_status J q) ≡ true → found.0 ≤ q
    least q s g =
        find_least (fails_under J a) 1 (length (members J)) found.0 q
        (ap (find (fails_under J a)) (sym numbered) ∙ found.1)
        (ap (λ (ns : List ℕ). is_among ns q) (sym numbered) ∙ s.0)
        (fails q s g)

-- and one that ended and did not fail has none
pub least_failed_none : (v : Version) (t : List ℕ → Bool) (J : History) → is_legal v t J ≡ true → (a : ℕ)
    → action_is has_ended J a ≡ true → action_is has_failed J a ≡ false → least_failed J a ≡ None
unfolding least_failed
least_failed_none v t J l a h g = either (find (fails_under J a) (members J)) refl
  where
    either : (o : Option ℕ) → find (fails_under J a) (members J) ≡ o → o ≡ None
    either None e = refl
    either (Some p) e =
        let passes = find_passes (fails_under J a) (members J) p e in
        let test = both (stays J p && is_under J a (action_of J p)) (member_has_failed (member_status J p)) passes.1 in
        let first = both (stays J p) (is_under J a (action_of J p)) test.0 in
        absurd (true≢false (sym test.1 ∙ (good_ends v t J l a).unfailed h g p (passes.0, first.0, first.1)))
