-- What a change of the rows needs and does.
use Rattle.std.specs.Prelude.{◌≡◌, ℕ, ◌+◌, ◌-◌, ◌^◌, List, IfSome}
use Rattle.lra_model.specs.declared.entry.Deed.{Deed}
use Rattle.lra_model.specs.declared.entry.Deed.TheVariants.{Enrol, Ask}
use Rattle.lra_laws.specs.Rows.{ActionRow, State, row_at, change_row}
use Rattle.lra_states.specs.Counts.{CountsTo}

-- the counts of each action are at most n
abbrev pub AllCountTo : ℕ → List ActionRow → Type 0
AllCountTo n rows = (a : ℕ) → IfSome (row_at rows a) (CountsTo n)

-- each count of each action can go up by one, and is less than 2^64 then
abbrev pub AllCanCount : List ActionRow → Type 0
AllCanCount rows = AllCountTo (2 ^ 64 - 2) rows

-- the rows with that of n replaced, if it is there
abbrev pub with_row : {R : Type 0} → ℕ → R → List R → List R
with_row n r rows = change_row (λ _. r) n rows

-- a clerk that enrols has the next clerk's number, and an ask the next ask's
abbrev pub TakesNextNumber : State → Deed → ℕ → Type 0
TakesNextNumber s Enrol by = by ≡ s.clerks + 1
TakesNextNumber s (Ask n p kind) by = n ≡ s.asks + 1
TakesNextNumber s _ by = Unit {0}
