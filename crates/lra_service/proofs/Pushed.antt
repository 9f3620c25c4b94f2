-- List to which one more item was pushed.
use Rattle.std.proofs.Common.{◌≡◌, List, [], ◌∷◌, ◌++◌, All, sym, subst}
use Rattle.std.proofs.lemmas.List.Elements.{All-push}

-- what holds of all items before, and of the pushed one, holds of all
pub all_pushed : {X : Type 0} (P : X → Type 0) (xs ys : List X) (x : X) → ys ≡ xs ++ x ∷ [] → All P xs → P x → All P ys
all_pushed {X = X} P xs ys x e all p = subst (λ (l : List X). All P l) (sym e) (All-push P xs x all p)
