-- What a caller's proof reads from marks.
use Rattle.std.proofs.Common.{◌≡◌, ◌≢◌, ℕ, zero, suc, ◌-◌, ◌≤◌, ◌<◌, Bool, false, List, [], ◌∷◌, ◌++◌, length, set, inl}
use Rattle.std.proofs.Common.{inr, refl, sym, ◌∙◌, ap, arith, get_or, get_or-set_same, get_or-set_other, length-append}
use Rattle.std.proofs.lemmas.Bool.{cases_lt}
use Rattle.std.proofs.lemmas.List.{get_or_past, get_or_append_left, get_or-append_right}
use Rattle.lra_tables.specs.inner.IndexedSet.{mark_at}

-- what is written is there
pub mark_at-set_same : (marked : List Bool) (n : ℕ) (b : Bool) → 0 < n → n ≤ length marked
    → mark_at (set marked (n - 1) b) n ≡ b
mark_at-set_same marked zero b some there = absurd (omega arith)
mark_at-set_same marked (suc k) b some there =
    let place : suc k - 1 ≡ k = omega arith in
    rw place (get_or-set_same marked k b false there)

-- and the others stay
pub mark_at-set_other : (marked : List Bool) (n m : ℕ) (b : Bool) → 0 < n → m ≢ n → mark_at (set marked (n - 1) b) m
    ≡ mark_at marked m
mark_at-set_other marked n zero b some other = refl
mark_at-set_other marked n (suc k) b some other =
    let place : k ≢ n - 1 = omega arith in get_or-set_other marked (n - 1) k b false place

-- a number that isn't there is not marked
pub mark_at-past : (marked : List Bool) (n : ℕ) → length marked < n → mark_at marked n ≡ false
mark_at-past marked zero past = refl
mark_at-past marked (suc k) past = get_or_past marked k false (omega arith)

-- one more number
pub mark_at-push_same : (marked : List Bool) (b : Bool) → mark_at (marked ++ b ∷ []) (suc (length marked)) ≡ b
mark_at-push_same marked b = get_or-append_right marked (b ∷ []) (length marked) (length marked) false refl
    (omega arith) ∙ here (length marked - length marked) (omega arith)
  where
    here : (k : ℕ) → k ≡ 0 → get_or (b ∷ []) k false ≡ b
    here k e = ap (λ j. get_or (b ∷ []) j false) e

-- leaves the others
pub mark_at-push_other : (marked : List Bool) (b : Bool) (n : ℕ) → n ≢ suc (length marked)
    → mark_at (marked ++ b ∷ []) n ≡ mark_at marked n
mark_at-push_other marked b zero other = refl
mark_at-push_other marked b (suc k) other = elim (cases_lt k (length marked)) [
  | inl inside ↦ get_or_append_left marked (b ∷ []) false k inside
  | inr past ↦ get_or_past (marked ++ b ∷ []) k false (omega (arith, length-append marked (b ∷ [])))
      ∙ sym (get_or_past marked k false past)
]
