-- A history so far, as the auditor keeps it.
use Rattle.std.specs.Prelude.{◌≡◌, ℕ, ◌+◌, true, length}
use Rattle.lra_model.specs.declared.version.Version.{Version}
use Rattle.lra_model.specs.declared.entry.Entry.{Entry}
use Rattle.lra_model.specs.History.{History}
use Rattle.lra_model.specs.Rules.{is_legal}
use Rattle.lra_addresses.specs.Addresses.{is_address}
use Rattle.lra_laws.specs.Rows.{State, state_of}
use Rattle.lra_course_rows.specs.Start.{after_entry}
use Rattle.lra_course_rows.specs.Start.{no_entries}

-- the version, how many entries there are, and the state after them
pub record HistoryRead : Type 0 where
  pub version : Version
  pub entries : ℕ
  pub rows : State

-- nothing has happened
abbrev pub at_start : Version → HistoryRead
at_start v = record { version = v; entries = 0; rows = no_entries }

-- one more entry
abbrev pub with_entry : Entry → HistoryRead → HistoryRead
with_entry e c = record c { entries = c.entries + 1; rows = after_entry e c.rows }

-- it has come as far as the legal history
pub record HasCome (J : History) (c : HistoryRead) : Type 0 where
  pub legal : is_legal c.version is_address J ≡ true
  pub entries : c.entries ≡ length J
  pub rows : c.rows ≡ state_of J
