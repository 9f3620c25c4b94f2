-- The line about a member that operators have given up.
use Rattle.std.specs.Prelude.{ℕ, List, ◌++◌, codes}
use Rattle.std.specs.Fmt.{decimal}
use Rattle.lra_journal_folder.specs.declared.given_up.GivenUp.{GivenUp}

-- the line of a member: its journal's instance and its own number, in decimal, and the words at the end; a line without
-- these was cut off (this project's choice)
abbrev pub line : GivenUp → List ℕ
line given = decimal given.journal ++ (codes " " ++ (decimal given.member ++ codes " given up\n"))
