-- The depth and the lists of an action, with what the lists hold.
use Rattle.std.specs.Prelude.{ℕ, Bool, true, List, map}
use Rattle.std.specs.Option.{option_map_or}
use Rattle.lra_laws.specs.Rows.{row_at}
use Rattle.lra_laws.specs.Snapshots.{Nesting, with_child_number, with_member_number, with_number_under}
use Rattle.lra_rows.specs.Rowed.{NestCapacity, takes_one}
use Rattle.lra_rows.specs.Steps.{without_child, without_member, without_under}
use Rattle.lra_rows.specs.declared.nesting.Listed.{Listed}
use Rattle.lra_rows.specs.declared.nesting.Listed.TheVariants as listed

-- the depth and the lists of an action, and what the lists hold with no more memory
pub record Nested : Type 0 where
  pub nesting : Nesting
  pub capacity : NestCapacity

-- the depth and the lists of each action
abbrev pub nestings_in : List Nested → List Nesting
nestings_in rows = map (λ (n : Nested). n.nesting) rows

-- what the lists of each action hold
abbrev pub capacities_in : List Nested → List NestCapacity
capacities_in rows = map (λ (n : Nested). n.capacity) rows

-- whether a list takes one more
abbrev pub has_place : Listed → Nested → Bool
has_place listed.Children n = takes_one n.nesting.children n.capacity.children
has_place listed.Members n = takes_one n.nesting.members n.capacity.members
has_place listed.Under n = takes_one n.nesting.under n.capacity.under

-- whether a list of an action takes one more, if the action is there
abbrev pub has_place_at : Listed → ℕ → List Nested → Bool
has_place_at l a rows = option_map_or (has_place l) (row_at rows a) true

-- one more number in a list of an action
abbrev pub nest_with : Listed → ℕ → Nesting → Nesting
nest_with listed.Children number n = with_child_number number n
nest_with listed.Members number n = with_member_number number n
nest_with listed.Under number n = with_number_under number n

-- one more number in a list, with the same capacities
abbrev pub with_number : Listed → ℕ → Nested → Nested
with_number l number n = record n { nesting = nest_with l number n.nesting }

-- one number less in a list of an action
abbrev pub nest_without : Listed → Nesting → Nesting
nest_without listed.Children n = without_child n
nest_without listed.Members n = without_member n
nest_without listed.Under n = without_under n

-- one number less in a list, with the same capacities
abbrev pub without_number : Listed → Nested → Nested
without_number l n = record n { nesting = nest_without l n.nesting }
