-- What a coordinator keeps besides its entries.
use Rattle.std.specs.Prelude.{◌≡◌}
use Rattle.lra_model.specs.History.{History}
use Rattle.lra_laws.specs.Snapshots.{snapshot_of}
use Rattle.lra_tables.specs.Plans.{Tabled}
use Rattle.lra_commands.specs.declared.limits.Terms.{Terms}
use Rattle.lra_commands.specs.Terms.{AreKeepable}
use Rattle.lra_commands.specs.Runs.{IsLawful}
use Rattle.lra_timers.specs.Planned.{Planned}
use Rattle.lra_schedule.specs.Schedules.{IsScheduleOf}

-- tables and a schedule stand for a history that a coordinator can have
pub record IsKept (s : Terms) (t : Tabled) (p : Planned) (J : History) : Type 0 where
  pub keepable : AreKeepable s.limits
  pub lawful : IsLawful s J
  pub tables : t.snapshot ≡ snapshot_of J
  pub schedule : IsScheduleOf s.limits p J
