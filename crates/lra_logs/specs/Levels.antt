-- The levels of the lines.
use Rattle.std.specs.Prelude.{ℕ, List, codes}
use Rattle.log.specs.declared.level.Level.{Level}
use Rattle.log.specs.declared.level.Level.TheVariants as level

-- the word of a level in an option and in a line
abbrev pub level_word : Level → List ℕ
level_word level.Error = codes "error"
level_word level.Warn = codes "warn"
level_word level.Info = codes "info"
level_word level.Debug = codes "debug"
level_word level.Trace = codes "trace"

-- the prefix of a line at a level for systemd's journal (sd-daemon(3))
abbrev pub priority : Level → List ℕ
priority level.Error = codes "<3>"
priority level.Warn = codes "<4>"
priority level.Info = codes "<6>"
priority level.Debug = codes "<7>"
priority level.Trace = codes "<7>"
