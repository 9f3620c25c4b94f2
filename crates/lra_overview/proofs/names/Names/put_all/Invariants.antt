use Rattle.std.proofs.Common.{◌≡◌, ◌++◌, take}
use Rattle.std.specs.List.{flat_map}
use Rattle.lra_overview.specs.Laying.{spelled}
use Rattle.lra_overview.proofs.names.Names.put_all.Given as goal

-- the page has the pieces so far
abbrev pub invariant-loop-piece : goal.invariant-loop-piece
invariant-loop-piece l = l.page.items ≡ l.initial.page.items ++ flat_map (spelled l.self.instance)
    (take l.piece-index l.pieces)
