-- What a follower of an audit has heard.
use Rattle.std.specs.Prelude.{ℕ, ◌∷◌, [], ◌++◌}
use Rattle.lra_model.specs.declared.version.Version.{Version}
use Rattle.lra_model.specs.declared.entry.Entry.{Entry}
use Rattle.lra_model.specs.History.{History}

-- the version and the instance of a journal's header, and the entries that were accepted, oldest first
pub record Heard : Type 0 where
  pub version : Version
  pub instance : ℕ
  pub entries : History

-- a header was heard, and nothing more
abbrev pub heard_header : Version → ℕ → Heard
heard_header v i = record { version = v; instance = i; entries = [] }

-- one more entry
abbrev pub with_heard : Entry → Heard → Heard
with_heard e h = record h { entries = h.entries ++ e ∷ [] }
