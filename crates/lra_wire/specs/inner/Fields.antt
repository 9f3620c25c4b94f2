-- What a search among the fields of a head finds.
use Rattle.std.specs.Prelude.{◌≡◌, ℕ, ◌<◌, List, [], ◌∷◌, length}
use Rattle.lra_wire.specs.declared.fields.Named.{Named}
use Rattle.lra_wire.specs.declared.fields.Named.TheVariants.{Absent, Once, Several}

-- what a search for a name found: no value, exactly one, or several
abbrev pub Shows : Named → List (List ℕ) → Type 0
Shows Absent values = values ≡ []
Shows (Once value) values = values ≡ value.now ∷ []
Shows Several values = 1 < length values
