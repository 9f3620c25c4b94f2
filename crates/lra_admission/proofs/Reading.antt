-- Lines that are read one after another.
use Rattle.std.proofs.Common.{◌≡◌, ℕ, ◌+◌, ◌<◌, true, false, List, [], ◌∷◌, length, take, drop, slice_index, subst, sym}
use Rattle.std.proofs.Common.{arith}
use Rattle.std.specs.List.{All, position_or_len}
use Rattle.std.proofs.lemmas.List.Sums.{position_or_len_is}
use Rattle.std.proofs.lemmas.List.Splits.{slice_split_none, slice_split_first}
use Rattle.lra_admission.specs.Lines.{is_feed, lines_of}

-- the first line, which ends at the first line feed, and the others
pub cut : (text : List ℕ) (i : ℕ) → i < length text → is_feed (slice_index text i) ≡ true
    → ((k : ℕ) → k < i → is_feed (slice_index text k) ≡ false)
    → lines_of text ≡ take i text ∷ lines_of (drop (i + 1) text)
cut text i within found first =
    let at : position_or_len is_feed text ≡ i = position_or_len_is is_feed text i 0 (omega arith) first (λ l. found) in
    subst (λ n. lines_of text ≡ take n text ∷ lines_of (drop (n + 1) text)) at
    (slice_split_first is_feed text 0 (subst (λ n. n < length text) (sym at) within))

-- a text with no line feed is one line
pub whole : (text : List ℕ) → All (λ b. is_feed b ≡ false) text → lines_of text ≡ text ∷ []
whole text none = slice_split_none is_feed text none
