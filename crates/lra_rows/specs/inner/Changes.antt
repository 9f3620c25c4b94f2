-- What a change of rows does.
use Rattle.std.specs.Prelude.{◌≡◌, None}
use Rattle.lra_laws.specs.Rows.{State}
use Rattle.lra_laws.specs.Snapshots.{StateSnapshot}
use Rattle.lra_rows.specs.declared.step.Added.TheVariants as added
use Rattle.lra_rows.specs.Rowed.{Rowed}
use Rattle.lra_rows.specs.Steps.{Counts, Writes, taken_back}

-- the rows with another snapshot
abbrev pub with_snapshot : Rowed → StateSnapshot → Rowed
with_snapshot r s = record r { snapshot = s }

-- the rows with another state
abbrev pub with_state : Rowed → State → Rowed
with_state r s = record r { snapshot = record r.snapshot { state = s } }

-- what is counted, by a snapshot
abbrev pub counts_of : StateSnapshot → Counts
counts_of s = record {
  entries = s.entries;
  moment = s.state.moment;
  clerks = s.state.clerks;
  asks = s.state.asks;
  void = s.state.void;
}

-- what was written over and added takes the rows back to what they were
abbrev pub Undoes : Writes → Rowed → Rowed → Type 0
Undoes w new old = taken_back (record { before = counts_of old.snapshot; writes = w }) new ≡ old

-- at most a member's row and its action's were written over, and nothing was added
abbrev pub IsOfMember : Writes → Type 0
IsOfMember w = (w.parent ≡ None) × ((w.repeats ≡ None) × (w.added ≡ added.Nothing))
