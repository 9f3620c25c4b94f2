-- A loop that changes each journal of a list.
use Rattle.std.proofs.Common.{◌≡◌, ℕ, ◌+◌, ◌<◌, List, ◌++◌, length, take, drop, get_or, set, sym, subst, arith}
use Rattle.std.specs.Prelude.{map}
use Rattle.std.proofs.lemmas.List.{get_or_default}
use Rattle.std.proofs.lemmas.List.Edits.{map_over_more}
use Rattle.lra_rotation.specs.declared.journal.RotationJournal.{RotationJournal}

-- one more is changed
pub changed_more : (f : RotationJournal → RotationJournal) (xs ys : List RotationJournal) (i : ℕ)
    (d y : RotationJournal) → i < length xs → length ys ≡ length xs → ys ≡ map f (take i xs) ++ drop i xs
    → y ≡ f (get_or ys i d)
    → set ys i y ≡ map f (take (i + 1) xs) ++ drop (i + 1) xs
changed_more f xs ys i d y lt same h e =
    let below : i < length ys = omega arith in
    subst (λ (z : RotationJournal). set ys i z ≡ map f (take (i + 1) xs) ++ drop (i + 1) xs) (sym e)
    (map_over_more f xs ys i (get_or ys i d) lt h (get_or_default ys i d (get_or ys i d) below))
