-- What the settling state is: rows, and how much room it has beside theirs.
use Rattle.std.specs.Prelude.{◌≡◌, ℕ, ◌+◌, ◌-◌, Bool, true, ◌&&◌, nat_lt}
use Rattle.lra_model.specs.declared.entry.Deed.{Deed}
use Rattle.lra_model.specs.declared.entry.Deed.TheVariants.{Start, Join}
use Rattle.lra_model.specs.declared.entry.Entry.{Entry}
use Rattle.lra_laws.specs.Snapshots.{snapshot_after, Follows}
use Rattle.lra_rows.specs.Rowed as rows
use Rattle.lra_rows.specs.Rowed.{Rowed}
use Rattle.lra_rows.specs.Steps.{Step, taken_back}

-- rows, and how many more members and actions their indexed sets take: whether a member may be skipped, whether its
-- parent does something to an action, and whether an action may end (this project's choice)
pub record Boarded : Type 0 where
  pub rows : Rowed
  pub skips : ℕ
  pub turns : ℕ
  pub ends : ℕ

-- whether the indexed sets take what a deed brings (this project's choice)
abbrev pub marks_take : Deed → Boarded → Bool
marks_take (Start a parent limit) b = nat_lt 0 b.turns && nat_lt 0 b.ends
marks_take (Join p a uris) b = nat_lt 0 b.skips
marks_take _ b = true

-- whether an entry can be applied with no memory (this project's choice)
abbrev pub has_room : Entry → Boarded → Bool
has_room e b = rows.has_room e b.rows && marks_take e.deed b

-- the settling state after one more entry that has room and is allowed (this project's choice)
abbrev pub carried : Entry → Boarded → Boarded
carried e b = record (room_taken e.deed b) { rows = rows.carried e b.rows }
  where
    room_taken : Deed → Boarded → Boarded
    room_taken (Start a parent limit) b = record b { turns = b.turns - 1; ends = b.ends - 1 }
    room_taken (Join p a uris) b = record b { skips = b.skips - 1 }
    room_taken _ b = b

-- the settling state before an entry was applied, by its step (this project's choice)
abbrev pub uncarried : Entry → Step → Boarded → Boarded
uncarried e k b = record (room_given e.deed b) { rows = taken_back k b.rows }
  where
    room_given : Deed → Boarded → Boarded
    room_given (Start a parent limit) b = record b { turns = b.turns + 1; ends = b.ends + 1 }
    room_given (Join p a uris) b = record b { skips = b.skips + 1 }
    room_given _ b = b

-- the step is that of the entry that was applied last (this project's choice)
pub record CameBy (e : Entry) (k : Step) (b : Boarded) : Type 0 where
  pub before : Rowed
  pub follows : Follows before.snapshot e
  pub now : b.rows.snapshot ≡ snapshot_after e before.snapshot
  pub back : taken_back k b.rows ≡ before
