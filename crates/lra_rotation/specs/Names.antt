-- Names of journals in a folder.
use Rattle.std.specs.Prelude.{ℕ, ◌-◌, List, ◌++◌, length, replicate, false, codes}
use Rattle.std.specs.Fmt.{digits}

-- an instance as fifteen hexadecimal digits in lower case, with leading zeros: its identifiers begin with the first
-- twelve of them (this project's choice)
unfoldable pub stem : ℕ → List ℕ
stem i = replicate (15 - length (digits 16 false i)) 48 ++ digits 16 false i

-- the name of an instance's journal
abbrev pub name_of : ℕ → List ℕ
name_of i = stem i ++ codes ".journal"

-- the name that an instance's journal has until it is in use
abbrev pub next_name_of : ℕ → List ℕ
next_name_of i = stem i ++ codes ".next"
