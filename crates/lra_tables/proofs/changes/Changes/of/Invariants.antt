use Rattle.std.proofs.Common.{◌≡◌, take}
use Rattle.lra_model.specs.History.{History}
use Rattle.lra_laws.specs.Snapshots.{StandsFor}
use Rattle.lra_laws.specs.Changes.{members_changed_by, actions_changed_by}
use Rattle.lra_tables.proofs.changes.Changes.of.Given as goal

abbrev pub invariant-loop-entry : goal.invariant-loop-entry
invariant-loop-entry l = record {
  members : (J : History) → StandsFor l.rows.snapshot J → l.members.items
      ≡ members_changed_by J (take l.entry-index l.entries);
  actions : l.actions.items ≡ actions_changed_by (take l.entry-index l.entries);
}
