-- The member of each ask, beside the members' rows.
use Rattle.std.specs.Prelude.{◌≡◌, ℕ, ◌≤◌, true, false, List, Option, Some}
use Rattle.std.specs.Option.{option_map_or}
use Rattle.lra_laws.specs.Rows.{MemberRow}
use Rattle.lra_laws.specs.Rows.{row_at}
use Rattle.lra_laws.specs.Rows.{stands_as}

-- the ask is the one that stands in the member's row
abbrev pub Holds : List MemberRow → ℕ → ℕ → Type 0
Holds rows n p = option_map_or (stands_as n) (row_at rows p) false ≡ true

-- the index has the member of each ask that stands in a row, and no other asks; none is beyond those that were made
pub record IsIndex (asks : ℕ) (rows : List MemberRow) (holder : ℕ → Option ℕ) : Type 0 where
  pub found : (n p : ℕ) → holder n ≡ Some p → Holds rows n p
  pub all : (n p : ℕ) → Holds rows n p → holder n ≡ Some p
  pub made : (n p : ℕ) → holder n ≡ Some p → n ≤ asks
