-- A list of two words, by its places.
use Rattle.std.proofs.Common.{◌≡◌, List, [], ◌∷◌, length, get_or, arith}

pub two : {W : Type 0} (ws : List W) (x y : W) → length ws ≡ 2 → x ≡ get_or ws 0 x → y ≡ get_or ws 1 y → ws ≡ x ∷ y ∷ []
two [] x y n p q = absurd (omega arith)
two (a ∷ []) x y n p q = absurd (omega arith)
two (a ∷ b ∷ []) x y n p q = cc
two (a ∷ b ∷ d ∷ ws) x y n p q = absurd (omega arith)
