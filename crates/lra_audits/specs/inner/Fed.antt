-- What an auditor stands for that is fed more.
use Rattle.std.specs.Prelude.{ℕ, List, ◌++◌}
use Rattle.lra_auditor.specs.Feeding.{Feed, StandsFor}

-- an auditor that stood for some bytes stands for them and these
abbrev pub IsFedOn : Feed → Feed → List ℕ → Type 0
IsFedOn before after bytes = (front : List ℕ) → StandsFor before front → StandsFor after (front ++ bytes)
