-- Which refusals a call can have.
use Rattle.std.proofs.Common.{◌≡◌, Bool, true, false, List, [], ◌∷◌, Some, refl, sym, ap, ◌∙◌}
use Rattle.std.specs.Prelude.{◌||◌}
use Rattle.std.specs.List.{list_any}
use Rattle.lra_commands.specs.declared.refusal.Refusal.{Refusal}
use Rattle.lra_commands.specs.Refusals.{Ground, first_ground}

-- whether a refusal that a test knows is among grounds
abbrev pub names : (Refusal → Bool) → List Ground → Bool
names test gs = list_any (λ (g : Ground). test g.0) gs

-- where no ground is such, the first that holds isn't
pub other_first : (test : Refusal → Bool) (gs : List Ground) → names test gs ≡ false → (r : Refusal) → first_ground gs
    ≡ Some r → test r ≡ false
other_first test [] h r e = absurd cc
other_first test ((q, b) ∷ gs) h r e = one (test q) refl h b e (λ i. other_first test gs i r)
  where
    one : (x : Bool) → test q ≡ x → (x || names test gs) ≡ false → (b : Bool) → first_ground ((q, b) ∷ gs) ≡ Some r
        → (names test gs ≡ false → first_ground gs ≡ Some r → test r ≡ false)
        → test r ≡ false
    one true g i b e rest = absurd cc
    one false g i true e rest = let same : q ≡ r = cc in ap test (sym same) ∙ g
    one false g i false e rest = rest i e
