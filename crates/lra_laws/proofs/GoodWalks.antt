-- The walks up by parents are plain recursions in a legal history: a parent's number is less, so the count of steps
-- that each is given is enough.
use Rattle.std.proofs.Common.{◌≡◌, ℕ, zero, suc, ◌<◌, ◌≤◌, Bool, true, false, List, [], ◌∷◌, Option, Some, None, refl}
use Rattle.std.proofs.Common.{sym, ap, ◌∙◌, cond, arith}
use Rattle.std.specs.Prelude.{◌==◌, ◌||◌, unwrap_or, option_map}
use Rattle.std.specs.Option.{option_map_or}
use Rattle.std.proofs.Math.Bool.{or-false}
use Rattle.lra_model.specs.declared.version.Version.{Version}
use Rattle.lra_model.specs.declared.status.ActionStatus.{ActionStatus}
use Rattle.lra_model.specs.declared.status.ActionStatus.TheVariants as action
use Rattle.lra_model.specs.History.{History}
use Rattle.lra_model.specs.Actions.{parent, lineage_within, lineage, top, is_under, action_status, was_cancelled}
use Rattle.lra_model.specs.Actions.{was_cancelled_below}
use Rattle.lra_model.specs.Rules.{is_legal}
use Rattle.lra_laws.proofs.Climbs.{top_within, top_climbs, is_within, under_climbs, cancelled_within, below_climbs}
use Rattle.lra_laws.proofs.Named.{parent_there}
use Rattle.lra_laws.proofs.GoodLaw.{cancels, was_cancelled_lem}

-- each step of a walk reads an action, and what the walk is at its parent; two walks with steps enough are one
walk_enough : {X : Type 0} (J : History) → ((a b : ℕ) → parent J a ≡ Some b → b < a)
    → (f : ℕ → ℕ → X) (g : ℕ → Option X → X)
    → f 0 0 ≡ g 0 None → ((n a : ℕ) → f (suc n) a ≡ g a (option_map (f n) (parent J a))) → (n m a : ℕ) → a ≤ n → a ≤ m
    → f n a ≡ f m a
walk_enough {X = X} J less f g base step = enough
  where
    -- no step is left at 0 alone, which has no parent
    at_zero : (m a : ℕ) → a ≤ 0 → f 0 a ≡ f (suc m) a
    at_zero m a h = ap (f 0) is_zero ∙ base ∙ sym (step m a ∙ one (parent J a) refl)
      where
        is_zero : a ≡ 0
        is_zero = omega arith

        one : (o : Option ℕ) → parent J a ≡ o → g a (option_map (f m) o) ≡ g 0 None
        one None e = ap (λ (b : ℕ). g b None) is_zero
        one (Some b) e = let l = less a b e in absurd (omega arith)

    enough : (n m a : ℕ) → a ≤ n → a ≤ m → f n a ≡ f m a
    enough zero zero a h k = refl
    enough zero (suc m) a h k = at_zero m a h
    enough (suc n) zero a h k = sym (at_zero n a k)
    enough (suc n) (suc m) a h k = step n a ∙ one (parent J a) refl (enough n m) ∙ sym (step m a)
      where
        one : (o : Option ℕ) → parent J a ≡ o → ((b : ℕ) → b ≤ n → b ≤ m → f n b ≡ f m b) → g a (option_map (f n) o)
            ≡ g a (option_map (f m) o)
        one None e rest = refl
        one (Some b) e rest = let l = less a b e in ap (λ (x : X). g a (Some x)) (rest b (omega arith) (omega arith))

-- a walk of as many steps as the action's number is a plain recursion
walk_lem : {X : Type 0} (J : History) → ((a b : ℕ) → parent J a ≡ Some b → b < a)
    → (f : ℕ → ℕ → X) (g : ℕ → Option X → X)
    → f 0 0 ≡ g 0 None → ((n a : ℕ) → f (suc n) a ≡ g a (option_map (f n) (parent J a))) → (a : ℕ) → f a a
    ≡ g a (option_map (λ b. f b b) (parent J a))
walk_lem {X = X} J less f g base step a = walk_enough J less f g base step a (suc a) a (omega arith) (omega arith)
    ∙ step a a ∙ one (parent J a) refl
  where
    one : (o : Option ℕ) → parent J a ≡ o → g a (option_map (f a) o) ≡ g a (option_map (λ b. f b b) o)
    one None e = refl
    one (Some b) e = let l = less a b e in
        ap (λ (x : X). g a (Some x)) (walk_enough J less f g base step a b b (omega arith) (omega arith))

map_or : {X : Type 0} (f : ℕ → X) (o : Option ℕ) (d : X) → option_map_or f o d ≡ unwrap_or (option_map f o) d
map_or f None d = refl
map_or f (Some a) d = refl

map_or-same : {X : Type 0} {f g : ℕ → X} → ((b : ℕ) → f b ≡ g b) → (o : Option ℕ) (d : X) → option_map_or f o d
    ≡ option_map_or g o d
map_or-same h None d = refl
map_or-same h (Some b) d = h b

parent_less : (v : Version) (t : List ℕ → Bool) (J : History) → is_legal v t J ≡ true → (a b : ℕ) → parent J a ≡ Some b
    → b < a
parent_less v t J l a b h = (parent_there v t J l a b h).less

-- the lineage of an action is itself and the lineage of its parent
pub lineage_lem : (v : Version) (t : List ℕ → Bool) (J : History) → is_legal v t J ≡ true → (a : ℕ) → lineage J a ≡ a
    ∷ option_map_or (lineage J) (parent J a) []
lineage_lem v t J l a =
    walk_lem J (parent_less v t J l) (λ n. lineage_within n J) (λ b o. b ∷ unwrap_or o []) refl
    (λ n b. ap (λ (ns : List ℕ). b ∷ ns) (map_or (lineage_within n J) (parent J b) [])) a
    ∙ ap (λ (ns : List ℕ). a ∷ ns) (sym (map_or (lineage J) (parent J a) []))

-- the outermost action of one is that of its parent, or itself where it has none
pub top_lem : (v : Version) (t : List ℕ → Bool) (J : History) → is_legal v t J ≡ true → (a : ℕ) → top J a
    ≡ option_map_or (top J) (parent J a) a
top_lem v t J l a =
    top_climbs J a
    ∙ walk_lem J (parent_less v t J l) (λ n. top_within n J) (λ b o. unwrap_or o b) refl
    (λ n b. map_or (top_within n J) (parent J b) b) a
    ∙ sym (map_or (λ b. top_within b J b) (parent J a) a)
    ∙ map_or-same (λ b. sym (top_climbs J b)) (parent J a) a

-- an action stands under t where it is t, or its parent stands under t
pub is_under_lem : (v : Version) (t : List ℕ → Bool) (J : History) → is_legal v t J ≡ true → (x a : ℕ) → is_under J x a
    ≡ ((a == x) || option_map_or (is_under J x) (parent J a) false)
is_under_lem v t J l x a =
    under_climbs J x a
    ∙ walk_lem J (parent_less v t J l) (λ n. is_within n J x) (λ b o. (b == x) || unwrap_or o false)
    (sym (or-false (0 == x))) (λ n b. ap (λ (y : Bool). (b == x) || y)
    (map_or (is_within n J x) (parent J b) false)) a
    ∙ ap (λ (y : Bool). (a == x) || y) (sym (map_or (λ b. is_within b J x b) (parent J a) false)
    ∙ map_or-same (λ b. sym (under_climbs J x b)) (parent J a) false)

-- a cancellation stands below t, above an action or at it, where the action isn't t, and was cancelled or one stands
-- above or at its parent
pub was_cancelled_below_lem : (v : Version) (t : List ℕ → Bool) (J : History) → is_legal v t J ≡ true → (x a : ℕ)
    → was_cancelled_below J x a ≡ cond (a == x) false (was_cancelled J a
    || option_map_or (was_cancelled_below J x) (parent J a) false)
was_cancelled_below_lem v t J l x a =
    below_climbs J x a
    ∙ walk_lem J (parent_less v t J l) (λ n. cancelled_within n J x) (λ b o. cond (b == x) false
    (was_cancelled J b || unwrap_or o false))
    (ap (cond (0 == x) false) (sym (or-false (was_cancelled J 0))))
    (λ n b. ap (λ (y : Bool). cond (b == x) false (was_cancelled J b || y))
    (map_or (cancelled_within n J x) (parent J b) false)) a
    ∙ ap (λ (y : Bool). cond (a == x) false (was_cancelled J a || y)) (sym
    (map_or (λ b. cancelled_within b J x b) (parent J a) false) ∙ map_or-same (λ b. sym (below_climbs J x b))
    (parent J a) false)

-- an action that ended Closed was never cancelled itself: what was_cancelled_below leaves out there is nothing
pub closed_not_cancelled : (v : Version) (t : List ℕ → Bool) (J : History) → is_legal v t J ≡ true → (a : ℕ)
    → action_status J a ≡ Some action.Closed → was_cancelled J a ≡ false
closed_not_cancelled v t J l a h = was_cancelled_lem v t J l a ∙ ap (λ (o : Option ActionStatus). option_map_or cancels
    o false) h
