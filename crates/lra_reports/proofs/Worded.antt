-- A list of two words, by its places, where a search of this crate finds it.
use Rattle.std.proofs.Common.{◌≡◌, List, [], ◌∷◌, length, get_or}
use Rattle.lra_words.proofs.Worded as words

pub two : {W : Type 0} (ws : List W) (x y : W) → length ws ≡ 2 → x ≡ get_or ws 0 x → y ≡ get_or ws 1 y → ws ≡ x ∷ y ∷ []
two ws x y n p q = words.two ws x y n p q
