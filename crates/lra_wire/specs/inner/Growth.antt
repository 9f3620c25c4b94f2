-- How an inbox grows while a message is read.
use Rattle.std.specs.Prelude.{◌≡◌, ℕ, ◌<◌, Bool, true, false, List, ◌++◌, length, Option, Result, Ok, Err}
use Rattle.std.specs.Io.KnownBytes.{Keeps, IsAtEnd}
use Rattle.lra_wire.specs.declared.fault.WireFault.{WireFault}
use Rattle.lra_wire.specs.declared.inbox.Inbox.{Inbox}
use Rattle.lra_wire.specs.Inbox.{kept_bytes, stream_of, IsOutside}

-- more bytes came, of the same stream
pub record Grows {R : Type 0} (remaining : R → Option (List ℕ)) (old new : Inbox R) : Type 0 where
  pub more : List ℕ
  pub kept : kept_bytes new ≡ kept_bytes old ++ more
  pub stream : Keeps (stream_of remaining old) (stream_of remaining new)

-- one read: at least one byte came, or the stream is at its end
abbrev pub Fills : {R : Type 0} → (R → Option (List ℕ)) → Inbox R → Inbox R → Result Bool WireFault → Type 0
Fills remaining old new (Ok true) = Grows remaining old new × (length (kept_bytes old) < length (kept_bytes new))
Fills remaining old new (Ok false) = Grows remaining old new × IsAtEnd (remaining new.reader)
    × (kept_bytes new ≡ kept_bytes old)
Fills remaining old new (Err fault) = IsOutside fault
