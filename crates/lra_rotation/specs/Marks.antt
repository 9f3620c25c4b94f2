-- Lines that report a journal that is nearly full.
use Rattle.std.specs.Prelude.{ℕ, List, ◌++◌, codes}
use Rattle.lra_rotation.specs.declared.marks.Mark.{Mark}
use Rattle.lra_rotation.specs.declared.marks.Mark.TheVariants as mark

-- the text of the limit that the journal has come to
abbrev pub mark_text : Mark → List ℕ
mark_text mark.Seldom = codes "3/4 of its entries: silent members are asked once in ten minutes"
mark_text mark.Never = codes "15/16 of its entries: silent members aren't asked again, and nothing new is begun in it"
mark_text mark.Bytes = codes "15/16 of its bytes: nothing new is begun in it"

-- the line that reports the limit, after the journal's path
abbrev pub mark_line : List ℕ → Mark → List ℕ
mark_line path m = codes "lra: " ++ (path ++ (codes " has " ++ (mark_text m ++ codes "\n")))
