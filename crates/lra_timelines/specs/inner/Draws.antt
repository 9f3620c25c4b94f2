-- The rows of a drawing so far.
use Rattle.std.specs.Prelude.{◌≡◌, ℕ, List, length, string_bytes}
use Rattle.lra_timelines.specs.declared.drawing.Drawing.{Drawing}
use Rattle.lra_timelines.specs.Drawn.{rows}

-- a drawing has rows with these contents, and their number
pub record Draws (d : Drawing) (cs : List (List ℕ)) : Type 0 where
  pub text : string_bytes d.text ≡ rows 0 cs
  pub count : d.count ≡ length cs
