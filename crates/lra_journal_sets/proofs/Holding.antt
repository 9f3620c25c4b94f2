-- What a list of counters does to the list of what is known of them.
use Rattle.std.proofs.Common.{◌≡◌, ◌≢◌, ℕ, zero, suc, ◌+◌, ◌-◌, ◌<◌, List, [], ◌∷◌, ◌++◌, map, length, take, get_or}
use Rattle.std.proofs.Common.{set, Option, Some, None, refl, sym, ap, ◌∙◌, subst, arith}
use Rattle.std.specs.Prelude.{MatchOption}
use Rattle.std.specs.List.{remove}
use Rattle.std.proofs.lemmas.List.{map-set, map-append, take_more, get_or-map, length-map}
use Rattle.lra_journal_sets.specs.JournalSets.{last_after, IsJournalSet, member, put, without, newest, MovesAt, Leaves}
use Rattle.lra_journal_sets.specs.inner.Places.{StandsAt}
use Rattle.lra_journal_sets.proofs.Members.{
  member-append,
  member-there,
  stands,
  stands_below,
  stands_member,
  stands_put,
}
use Rattle.lra_journal_sets.proofs.Members.{stands_without}
use Rattle.lra_journal_sets.proofs.Instances.{instances-put, journal_set-join, journal_set-leave, there_named}

module _ {M S : Type 0} (sight : M → S) (name : S → ℕ) where
  below_map : (p : ℕ) (ms : List M) → p < length ms → p < length (map sight ms)
  below_map p ms h = let e = length-map ms sight in omega (arith, e, h)

  at_map : (p : ℕ) (ms : List M) (x : M) → p < length ms → x ≡ get_or ms p x → sight x
      ≡ get_or (map sight ms) p (sight x)
  at_map p ms x below at = ap sight at ∙ sym (get_or-map sight ms p x (sight x) below)

  pub place_found : (i p : ℕ) (ms : List M) (x : M) → member name i (take p (map sight ms)) ≡ None → p < length ms → x
      ≡ get_or ms p x → name (sight x) ≡ i
      → StandsAt name i p (map sight ms)
  place_found i p ms x fresh below at e = stands name i p (map sight ms) (sight x) fresh (below_map p ms below)
      (at_map p ms x below at) e

  pub place_passed : (i p : ℕ) (ms : List M) (x : M) → member name i (take p (map sight ms)) ≡ None → p < length ms → x
      ≡ get_or ms p x → name (sight x) ≢ i
      → member name i (take (p + 1) (map sight ms)) ≡ None
  place_passed i p ms x fresh below at d =
      let here = at_map p ms x below at in
      ap (member name i) (take_more (map sight ms) p (sight x) (below_map p ms below))
      ∙ member-append name i (take p (map sight ms)) (get_or (map sight ms) p (sight x) ∷ []) fresh
      ∙ member-there name i (get_or (map sight ms) p (sight x)) [] (λ e. d (ap name here ∙ e))

  pub place_below : (i p : ℕ) (ms : List M) → StandsAt name i p (map sight ms) → p < length ms
  place_below i p ms h = let e = length-map ms sight in let k = stands_below name i p (map sight ms) h in
      omega (arith, e, k)

  pub found_there : (i p : ℕ) (ms : List M) (x : M) → StandsAt name i p (map sight ms) → x ≡ get_or ms p x
      → member name i (map sight ms) ≡ Some (sight x)
  found_there i p ms x h at = stands_member name i p (map sight ms) (sight x) h
      (at_map p ms x (place_below i p ms h) at)

  pub put_there : (i p : ℕ) (ms : List M) (y : M) → StandsAt name i p (map sight ms) → map sight (set ms p y)
      ≡ put name i (sight y) (map sight ms)
  put_there i p ms y h = map-set sight ms p y ∙ sym (stands_put name i p (map sight ms) (sight y) h)

  -- a member changes, and keeps its instance
  pub moved_journal_set : (i p : ℕ) (ms : List M) (x y : M) → IsJournalSet (map name (map sight ms))
      → StandsAt name i p (map sight ms) → x ≡ get_or ms p x
      → name (sight y) ≡ name (sight x) → IsJournalSet (map name (map sight (set ms p y)))
  moved_journal_set i p ms x y f h at keeps =
      let named = there_named name i (map sight ms) (sight x) (found_there i p ms x h at) in
      subst IsJournalSet (sym (ap (map name) (put_there i p ms y h) ∙ instances-put name i (sight y) (map sight ms)
      (keeps ∙ named))) f

  pub moves_in : (Moves : S → S → Type 0) (Lacks : Type 0) (i p : ℕ) (ms : List M) (v : List S) (x y : M) → map sight ms
      ≡ v → StandsAt name i p (map sight ms)
      → x ≡ get_or ms p x → Moves (sight x) (sight y) → MovesAt name i v Moves Lacks (map sight (set ms p y))
  moves_in Moves Lacks i p ms v x y e h at m =
      let P : List S → Type 0 = λ w. MovesAt name i w Moves Lacks (map sight (set ms p y)) in
      let Q : Option S → Type 0 = λ o. MatchOption o (Lacks × (map sight (set ms p y) ≡ map sight ms))
      (λ s. (t : S) × Moves s t × (map sight (set ms p y) ≡ put name i t (map sight ms))) in
      subst P e (subst Q (sym (found_there i p ms x h at)) (sight y, m, put_there i p ms y h))

  pub lacks_in : (Moves : S → S → Type 0) (Lacks : Type 0) (i : ℕ) (v w : List S) → member name i v ≡ None → Lacks → w
      ≡ v → MovesAt name i v Moves Lacks w
  lacks_in Moves Lacks i v w e l same =
      let Q : Option S → Type 0 = λ o. MatchOption o (Lacks × (w ≡ v))
      (λ s. (t : S) × Moves s t × (w ≡ put name i t v)) in
      subst Q (sym e) (l, same)

  -- a member joins
  pub joined_journal_set : (ms ns : List M) (v : List S) (x : M) → map sight ms ≡ v → ns ≡ ms ++ x ∷ []
      → IsJournalSet (map name (map sight ms)) → newest name v < name (sight x)
      → IsJournalSet (map name (map sight ns))
  joined_journal_set ms ns v x e is f newer =
      let less : newest name (map sight ms) < name (sight x) =
      (let k : newest name (map sight ms) ≡ newest name v = ap (newest name) e in omega (arith, k, newer)) in
      subst (λ us. IsJournalSet (map name us)) (sym (ap (map sight) is ∙ map-append sight ms (x ∷ [])))
      (journal_set-join name (map sight ms) (sight x) f less)

  -- the newest is the last
  last_is : (m : M) (ms : List M) (d : M) → last_after (name (sight m)) (map name (map sight ms))
      ≡ name (sight (get_or (m ∷ ms) (length ms) d))
  last_is m [] d = refl
  last_is m (k ∷ ks) d = last_is k ks d

  pub newest_last : (ms : List M) (v : List S) (n : ℕ) (x : M) → map sight ms ≡ v
      → IsJournalSet (map name (map sight ms))
      → n ≡ length ms → x ≡ get_or ms (n - 1) x
      → name (sight x) ≡ newest name v
  newest_last [] v n x e f len at = absurd f
  newest_last (m ∷ ms) v n x e f len at =
      let place : n - 1 ≡ length ms = omega (arith, len) in
      ap (λ y. name (sight y)) (at ∙ ap (λ p. get_or (m ∷ ms) p x) place) ∙ sym (last_is m ms x) ∙ ap (newest name) e

  -- a member leaves
  map_remove : (ms : List M) (p : ℕ) → map sight (remove ms p) ≡ remove (map sight ms) p
  map_remove [] zero = refl
  map_remove [] (suc p) = refl
  map_remove (m ∷ ms) zero = refl
  map_remove (m ∷ ms) (suc p) = ap (λ us. sight m ∷ us) (map_remove ms p)

  pub without_there : (i p : ℕ) (ms ns : List M) → StandsAt name i p (map sight ms) → ns ≡ remove ms p → map sight ns
      ≡ without name i (map sight ms)
  without_there i p ms ns h is = ap (map sight) is ∙ map_remove ms p ∙ sym (stands_without name i p (map sight ms) h)

  pub left_journal_set : (i p : ℕ) (ms ns : List M) → IsJournalSet (map name (map sight ms))
      → StandsAt name i p (map sight ms)
      → ns ≡ remove ms p
      → i ≢ newest name (map sight ms) → IsJournalSet (map name (map sight ns))
  left_journal_set i p ms ns f h is d =
      subst (λ us. IsJournalSet (map name us)) (sym (without_there i p ms ns h is))
      (journal_set-leave name i (map sight ms) f d)

  pub leaves_in : (i p : ℕ) (ms ns : List M) (v : List S) (x : M) → map sight ms ≡ v → StandsAt name i p (map sight ms)
      → x ≡ get_or ms p x → ns ≡ remove ms p
      → i ≢ newest name v → (name (sight x) ≡ i) × Leaves name v (sight x) (map sight ns)
  leaves_in i p ms ns v x e h at is d =
      let there = found_there i p ms x h at in
      let named = there_named name i (map sight ms) (sight x) there in
      let P : List S → Type 0 = λ w. i ≢ newest name w → Leaves name w (sight x) (map sight ns) in (
        named,
        subst P e (λ k. record {
          older = λ same. k (sym named ∙ same);
          there = ap (λ j. member name j (map sight ms)) named ∙ there;
          left = without_there i p ms ns h is ∙ ap (λ j. without name j (map sight ms)) (sym named);
        }) d,
      )
