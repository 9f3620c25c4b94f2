-- The words read from an action's lineage, each as a climb by parents of at most so many steps: working words of the
-- proofs.
use Rattle.std.proofs.Common.{◌≡◌, ℕ, zero, suc, Bool, true, false, [], ◌∷◌, Option, Some, None, refl, ap, ◌∙◌, cond}
use Rattle.std.proofs.Common.{arith}
use Rattle.std.specs.Prelude.{◌+◌, ◌==◌, ◌||◌, not, unwrap_or, take}
use Rattle.std.specs.Option.{option_map_or}
use Rattle.std.specs.List.{list_any, last_or}
use Rattle.std.proofs.Math.Bool.{or-false}
use Rattle.std.specs.List.{before_first, position_or_len}
use Rattle.lra_model.specs.History.{History, is_among}
use Rattle.lra_model.specs.Actions.{parent, lineage_within, top, is_under, was_cancelled, was_cancelled_below}

-- the last action that is met
abbrev pub top_within : ℕ → History → ℕ → ℕ
top_within zero J a = a
top_within (suc n) J a = option_map_or (top_within n J) (parent J a) a

-- whether t is met
abbrev pub is_within : ℕ → History → ℕ → ℕ → Bool
is_within zero J t a = a == t
is_within (suc n) J t a = (a == t) || option_map_or (is_within n J t) (parent J a) false

-- whether a cancelled action is met before t
abbrev pub cancelled_within : ℕ → History → ℕ → ℕ → Bool
cancelled_within zero J t a = cond (a == t) false (was_cancelled J a)
cancelled_within (suc n) J t a = cond (a == t) false (was_cancelled J a
    || option_map_or (cancelled_within n J t) (parent J a) false)

last_within : (n : ℕ) (J : History) (a : ℕ) (o : Option ℕ) → last_or o (lineage_within n J a) ≡ Some (top_within n J a)
last_within zero J a o = refl
last_within (suc n) J a o = above (parent J a) (last_within n J)
  where
    above : (p : Option ℕ) → ((b : ℕ) (o : Option ℕ) → last_or o (lineage_within n J b) ≡ Some (top_within n J b))
        → last_or (Some a) (option_map_or (lineage_within n J) p []) ≡ Some (option_map_or (top_within n J) p a)
    above None up = refl
    above (Some b) up = up b (Some a)

-- the outermost action is the last that is met
pub top_climbs : (J : History) (a : ℕ) → top J a ≡ top_within a J a
unfolding top
top_climbs J a = ap (λ (o : Option ℕ). unwrap_or o a) (last_within a J a None)

among_within : (n : ℕ) (J : History) (t a : ℕ) → is_among (lineage_within n J a) t ≡ is_within n J t a
among_within zero J t a = or-false (a == t)
among_within (suc n) J t a = ap (λ (b : Bool). (a == t) || b) (above (parent J a) (among_within n J t))
  where
    above : (p : Option ℕ) → ((b : ℕ) → is_among (lineage_within n J b) t ≡ is_within n J t b)
        → is_among (option_map_or (lineage_within n J) p []) t ≡ option_map_or (is_within n J t) p false
    above None up = refl
    above (Some b) up = up b

-- an action stands below t where t is met
pub under_climbs : (J : History) (t a : ℕ) → is_under J t a ≡ is_within a J t a
unfolding is_under
under_climbs J t a = among_within a J t a

any_within : (n : ℕ) (J : History) (t a : ℕ) → list_any (was_cancelled J)
    (before_first (λ b. b == t) (lineage_within n J a)) ≡ cancelled_within n J t a
any_within zero J t a = before (a == t)
  where
    before : (x : Bool) → list_any (was_cancelled J) (take (cond (not x) 1 0) (a ∷ []))
        ≡ cond x false (was_cancelled J a)
    before true = refl
    before false = or-false (was_cancelled J a)
any_within (suc n) J t a = before (a == t) (parent J a) (any_within n J t)
  where
    one_more : (k : ℕ) → 1 + k ≡ suc k
    one_more k = omega arith

    before : (x : Bool) (p : Option ℕ) → ((b : ℕ) → list_any (was_cancelled J)
        (before_first (λ b. b == t) (lineage_within n J b)) ≡ cancelled_within n J t b)
        → list_any (was_cancelled J)
        (take (cond (not x) (1 + position_or_len (λ b. b == t) (option_map_or (lineage_within n J) p [])) 0)
        (a ∷ option_map_or (lineage_within n J) p []))
        ≡ cond x false (was_cancelled J a || option_map_or (cancelled_within n J t) p false)
    before true p up = refl
    before false None up = refl
    before false (Some b) up =
        ap (λ (k : ℕ). list_any (was_cancelled J) (take k (a ∷ lineage_within n J b)))
        (one_more (position_or_len (λ c. c == t) (lineage_within n J b)))
        ∙ ap (λ (y : Bool). was_cancelled J a || y) (up b)

-- a cancellation stands below t and at or above an action where a cancelled action is met before t
pub below_climbs : (J : History) (t a : ℕ) → was_cancelled_below J t a ≡ cancelled_within a J t a
unfolding was_cancelled_below
below_climbs J t a = any_within a J t a
