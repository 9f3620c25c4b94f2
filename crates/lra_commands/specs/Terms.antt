-- What a coordinator is made with.
use Rattle.std.specs.Prelude.{◌<◌, ◌^◌}
use Rattle.lra_commands.specs.declared.limits.Limits.{Limits}

-- the limits that serve most teams (this project's choice)
abbrev pub usual : Limits
usual = record {
  clerks = 1000000;
  actions = 100000;
  members = 400000;
  entries = 4000000;
  depth = 64;
  retry_base = 100;
  retry_cap = 60000;
}

-- limits that numbers of the journal and identifiers can keep: an identifier has 62 bits for an action or a member
pub record AreKeepable (l : Limits) : Type 0 where
  pub clerks : l.clerks < 2 ^ 32
  pub actions : l.actions < 2 ^ 62
  pub members : l.members < 2 ^ 62
  pub entries : l.entries < 2 ^ 64
