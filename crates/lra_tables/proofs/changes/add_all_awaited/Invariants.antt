use Rattle.std.proofs.Common.{◌≡◌, ◌++◌}
use Rattle.std.specs.List.{filter_map, range_with_len}
use Rattle.lra_model.specs.History.{History}
use Rattle.lra_laws.specs.Snapshots.{StandsFor}
use Rattle.lra_laws.specs.Changes.{member_awaited}
use Rattle.lra_tables.proofs.changes.add_all_awaited.Given as goal

abbrev pub invariant-loop-place : goal.invariant-loop-place
invariant-loop-place l = (J : History) → StandsFor l.rows.snapshot J → l.members.items ≡ l.fn.members.items
    ++ filter_map (member_awaited J) (range_with_len 1 l.place)
