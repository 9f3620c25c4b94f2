-- Facts from tests that hold.
use Rattle.std.proofs.Common.{◌≡◌, Bool, true, false, List, [], ◌∷◌, Option, Some, None, refl}
use Rattle.std.specs.Prelude.{◌&&◌, ◌||◌, is_none, is_some}
use Rattle.std.specs.List.{list_all}
use Rattle.lra_model.specs.declared.rule.Rule.{Rule}
use Rattle.lra_model.specs.Rules.{Ruling, first_broken}

-- both parts of a test that holds
pub both : (a b : Bool) → (a && b) ≡ true → (a ≡ true) × (b ≡ true)
both true b h = (refl, h)
both false b h = absurd cc

-- a test of two parts that hold
pub and_intro : (a b : Bool) → a ≡ true → b ≡ true → (a && b) ≡ true
and_intro true b h k = k
and_intro false b h k = absurd cc

-- a test one part of which holds
pub or_left : (a b : Bool) → a ≡ true → (a || b) ≡ true
or_left true b h = refl
or_left false b h = absurd cc

-- what isn't there
pub none_from_test : {X : Type 0} (o : Option X) → is_none o ≡ true → o ≡ None
none_from_test None h = refl
none_from_test (Some x) h = absurd cc

-- nothing, by the test that there is something
pub none_from_absent : {X : Type 0} (o : Option X) → is_some o ≡ false → o ≡ None
none_from_absent None h = refl
none_from_absent (Some x) h = absurd cc

-- what passes a test passes a weaker one
pub list_all-weaker : {X : Type 0} (p q : X → Bool) → ((x : X) → p x ≡ true → q x ≡ true) → (xs : List X)
    → list_all p xs ≡ true → list_all q xs ≡ true
list_all-weaker p q w [] h = refl
list_all-weaker p q w (x ∷ xs) h =
    let k = both (p x) (list_all p xs) h in
    and_intro (q x) (list_all q xs) (w x k.0) (list_all-weaker p q w xs k.1)

-- where no rule is broken, the first is kept, and none after it is broken
pub kept : (r : Rule) (b : Bool) (rest : List Ruling) → first_broken ((r, b) ∷ rest) ≡ None → (b ≡ true)
    × (first_broken rest ≡ None)
kept r true rest h = (refl, h)
kept r false rest h = absurd cc

-- a rule that is kept is passed over
pub passed : (r : Rule) (b : Bool) (rest : List Ruling) → b ≡ true → first_broken rest ≡ None
    → first_broken ((r, b) ∷ rest) ≡ None
passed r true rest h k = k
passed r false rest h k = absurd cc
