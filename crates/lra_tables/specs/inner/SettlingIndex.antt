-- Which rows are marked as ready to settle.
use Rattle.std.specs.Prelude.{◌≡◌, ℕ, ◌+◌, ◌-◌, ◌≤◌, Bool, true, false, ◌&&◌, nat_lt, List, [], ◌∷◌, ◌++◌, length}
use Rattle.std.specs.Prelude.{is_some}
use Rattle.lra_model.specs.declared.entry.Deed.{Deed}
use Rattle.lra_model.specs.declared.entry.Deed.TheVariants.{Start, Join}
use Rattle.lra_model.specs.History.{is_among}
use Rattle.lra_laws.specs.Rows.{State}
use Rattle.lra_laws.specs.Settles.{may_skip_by, turn_by, end_by}
use Rattle.lra_tables.specs.declared.indexed_set.Order.TheVariants.{LeastFirst, GreatestFirst}
use Rattle.lra_tables.specs.inner.IndexedSet.{Marking, mark_at}
use Rattle.lra_rows.specs.Steps.{without_last}
use Rattle.lra_tables.specs.declared.settling_index.SettlingIndex.{SettlingIndex}

-- each set has a number for each row, in its order
pub record IsSized (s : State) (r : SettlingIndex) : Type 0 where
  pub least_skip : r.skips.order ≡ LeastFirst
  pub least_turn : r.turns.order ≡ LeastFirst
  pub greatest_end : r.ends.order ≡ GreatestFirst
  pub skips : length r.skips.marked ≡ length s.members
  pub turns : length r.turns.marked ≡ length s.actions
  pub ends : length r.ends.marked ≡ length s.actions

-- each number but some is marked just where its test by the state holds
pub record MarkedBut (s : State) (r : SettlingIndex) (ps xs : List ℕ) : Type 0 where
  pub sized : IsSized s r
  pub skips : (p : ℕ) → is_among ps p ≡ false → mark_at r.skips.marked p ≡ may_skip_by s p
  pub turns : (a : ℕ) → is_among xs a ≡ false → mark_at r.turns.marked a ≡ is_some (turn_by s a)
  pub ends : (a : ℕ) → is_among xs a ≡ false → mark_at r.ends.marked a ≡ is_some (end_by s a)

-- there is room for as many numbers as before
pub record SameRoom (before after : SettlingIndex) : Type 0 where
  pub skips : after.skips.room ≡ before.skips.room
  pub turns : after.turns.room ≡ before.turns.room
  pub ends : after.ends.room ≡ before.ends.room

-- the sets are the same, with as much room or more
pub record MoreRoom (before after : SettlingIndex) : Type 0 where
  pub skips : after.skips ≡ record before.skips { room = after.skips.room }
  pub turns : after.turns ≡ record before.turns { room = after.turns.room }
  pub ends : after.ends ≡ record before.ends { room = after.ends.room }
  pub skips_more : before.skips.room ≤ after.skips.room
  pub turns_more : before.turns.room ≤ after.turns.room
  pub ends_more : before.ends.room ≤ after.ends.room

-- whether the sets take what a deed brings: an action, or a member
abbrev pub takes : Deed → SettlingIndex → Bool
takes (Start a parent limit) r = nat_lt 0 r.turns.room && nat_lt 0 r.ends.room
takes (Join p a uris) r = nat_lt 0 r.skips.room
takes _ r = true

-- one more number, which isn't marked
abbrev pub pushed : Marking → Marking
pushed m = record m { marked = m.marked ++ false ∷ []; room = m.room - 1 }

-- the sets with a number for what a deed brings
abbrev pub grown : Deed → SettlingIndex → SettlingIndex
grown (Start a parent limit) r = record r { turns = pushed r.turns; ends = pushed r.ends }
grown (Join p a uris) r = record r { skips = pushed r.skips }
grown _ r = r

-- whether the sets have a number for what a deed brought
abbrev pub has_numbers : Deed → SettlingIndex → Bool
has_numbers (Start a parent limit) r = nat_lt 0 (length r.turns.marked) && nat_lt 0 (length r.ends.marked)
has_numbers (Join p a uris) r = nat_lt 0 (length r.skips.marked)
has_numbers _ r = true

-- one number less, which gives its room back
abbrev pub popped : Marking → Marking
popped m = record m { marked = without_last m.marked; room = m.room + 1 }

-- the sets without a number for what a deed brought
abbrev pub shrunk : Deed → SettlingIndex → SettlingIndex
shrunk (Start a parent limit) r = record r { turns = popped r.turns; ends = popped r.ends }
shrunk (Join p a uris) r = record r { skips = popped r.skips }
shrunk _ r = r
