-- What a call comes to where nothing is appended.
use Rattle.std.proofs.Common.{◌≡◌, List, [], ◌∷◌, ◌++◌, length, Ok, Err, IsOk, inl, inr, refl, ap, ◌∙◌, sym, subst}
use Rattle.std.proofs.Common.{arith, length-append}
use Rattle.lra_office.specs.Stops.{CallsAreStopped}
use Rattle.lra_office.proofs.AtDesk.{grows_by_block}

-- what changes nothing where it is appended is nothing
none_more : {A : Type 0} (xs ys : List A) → xs ≡ xs ++ ys → ys ≡ []
none_more xs [] h = refl
none_more {A = A} xs (y ∷ ys) h = absurd (omega (arith, ap (λ (zs : List A). length zs) h, length-append xs (y ∷ ys)))

pub calls_stopped : CallsAreStopped
calls_stopped g J c (Ok x) d w =
    absurd (w.writes (sym (grows_by_block _ J c x.told d.answered) ∙ none_more J _ d.grown))
calls_stopped g J c (Err r) (inl (inl a), same) w = let bad = subst (λ x. IsOk x) a w.told in absurd cc
calls_stopped g J c (Err r) (inl (inr m), same) w = inr (ap Err m.0)
calls_stopped g J c (Err r) (inr s, same) w = inl (ap Err s.0)
