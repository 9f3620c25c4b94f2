-- What a window of an office is.
use Rattle.std.specs.Prelude.{◌≡◌}
use Rattle.lra_commands.specs.Counters.{Setting}
use Rattle.lra_office.specs.declared.office.OfficeOf.{OfficeOf}

-- an office keeps a copy of its origin's instance and base
pub record IsOfficeOf {X O : Type 0} (g : Setting) (o : OfficeOf X O) : Type 0 where
  pub instance : o.instance ≡ g.instance
  pub base : o.base ≡ g.base
