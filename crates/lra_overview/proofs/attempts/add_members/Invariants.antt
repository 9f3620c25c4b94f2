use Rattle.std.proofs.Common.{◌≡◌, ◌++◌, take}
use Rattle.std.specs.List.{flat_map}
use Rattle.lra_overview.specs.Standings.{member_at}
use Rattle.lra_overview.proofs.attempts.add_members.Given as goal

-- the rows have the members of the nodes so far
abbrev pub invariant-loop-node : goal.invariant-loop-node
invariant-loop-node l = l.rows.items ≡ l.initial.rows.items ++ flat_map member_at (take l.node-index l.nodes)
