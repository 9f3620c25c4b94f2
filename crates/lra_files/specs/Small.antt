-- Small files, read whole.
use Rattle.std.specs.Prelude.{◌≡◌, ⊤, ℕ, ◌<◌, ◌≤◌, List, length}
use Rattle.lra_files.specs.declared.small.SmallFault.{SmallFault}
use Rattle.lra_files.specs.declared.small.SmallFault.TheVariants as fault

-- bytes are the text that a reader has, which is no longer than it may be
abbrev pub IsWhole : ℕ → List ℕ → List ℕ → Type 0
IsWhole longest text bytes = (bytes ≡ text) × (length text ≤ longest)

-- why the text that a reader has isn't read: it is too long, or it can't be read, or memory is refused
abbrev pub IsUnread : ℕ → List ℕ → SmallFault → Type 0
IsUnread longest text fault.TooLong = longest < length text
IsUnread longest text fault.File = ⊤
IsUnread longest text fault.Memory = ⊤
