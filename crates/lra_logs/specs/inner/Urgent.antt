-- The lines that are written even where the limit is reached.
use Rattle.std.specs.Prelude.{Bool, true, false}
use Rattle.log.specs.declared.level.Level.{Level}
use Rattle.log.specs.declared.level.Level.TheVariants as level

-- whether a line at a level is written even where the limit is reached: a warning or an error
abbrev pub is_urgent : Level → Bool
is_urgent level.Error = true
is_urgent level.Warn = true
is_urgent level.Info = false
is_urgent level.Debug = false
is_urgent level.Trace = false
