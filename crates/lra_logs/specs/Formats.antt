-- The formats of the lines.
use Rattle.std.specs.Prelude.{ℕ, List, codes}
use Rattle.lra_logs.specs.declared.format.Format.{Format}
use Rattle.lra_logs.specs.declared.format.Format.TheVariants as format

-- the word of a format in an option
abbrev pub format_word : Format → List ℕ
format_word format.Text = codes "text"
format_word format.Json = codes "json"
