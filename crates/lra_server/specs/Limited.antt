-- Limits of a coordinator by its settings.
use Rattle.lra_commands.specs.declared.limits.Limits.{Limits}
use Rattle.lra_commands.specs.Terms.{usual}
use Rattle.lra_settings.specs.declared.settings.Settings.{Settings}

-- the limits of a coordinator, which are the usual ones, and the pauses before it repeats its asks, by some settings
abbrev pub limits_of : Settings → Limits
limits_of s = record usual { retry_base = s.retry_first_ms; retry_cap = s.retry_last_ms }
