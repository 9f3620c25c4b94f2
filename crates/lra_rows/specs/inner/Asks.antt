-- Asks by their numbers.
use Rattle.std.specs.Prelude.{ℕ, suc, List, [], ◌∷◌}
use Rattle.lra_model.specs.Members.{Asked}
use Rattle.lra_rows.specs.declared.asks.Unnumbered.{Unnumbered}

-- an ask with its number
abbrev pub with_number : ℕ → Unnumbered → Asked
with_number n x = record { number = n; member = x.member; kind = x.kind; direction = x.direction }

-- asks that come after so many others, with their numbers
abbrev pub numbered : ℕ → List Unnumbered → List Asked
numbered n [] = []
numbered n (x ∷ xs) = with_number (suc n) x ∷ numbered (suc n) xs

-- asks, and how many are held with no more memory
pub record AskList : Type 0 where
  pub items : List Asked
  pub capacity : ℕ
