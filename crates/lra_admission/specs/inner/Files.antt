-- The keys of a file, by its text.
use Rattle.std.specs.Prelude.{◌≡◌, ⊤, ℕ, ◌<◌, ◌≤◌, List, length, Ok, Err}
use Rattle.lra_admission.specs.declared.keys.Keys.{Keys}
use Rattle.lra_admission.specs.declared.fault.KeysFault.{KeysFault}
use Rattle.lra_admission.specs.declared.fault.KeysFault.TheVariants as fault
use Rattle.lra_admission.specs.Keys.{digests_of}
use Rattle.lra_admission.specs.Lines.{digests_in}

-- the largest number of bytes that are read of a file (this project's choice)
abbrev pub longest : ℕ
longest = 65536

-- keys are those of a file with this text
abbrev pub Holds : List ℕ → Keys → Type 0
Holds text keys = (length text ≤ longest) × (digests_in text ≡ Ok (digests_of keys))

-- why there are no keys of a file with this text: it is too long, or a line is wrong, or it can't be read, or memory is
-- refused
abbrev pub HoldsNone : List ℕ → KeysFault → Type 0
HoldsNone text fault.TooLong = longest < length text
HoldsNone text (fault.Line number) = digests_in text ≡ Err number
HoldsNone text fault.File = ⊤
HoldsNone text fault.Memory = ⊤
HoldsNone text fault.Shared = ⊥
