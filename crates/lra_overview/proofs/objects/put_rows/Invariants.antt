use Rattle.std.proofs.Common.{◌≡◌, ◌++◌, true, drop}
use Rattle.lra_overview.specs.Lists as lists
use Rattle.lra_overview.proofs.objects.put_rows.Given as goal

-- what was added so far, with what is left to add, is the whole list
abbrev pub invariant-loop-row : goal.invariant-loop-row
invariant-loop-row l =
    l.page.items ++ lists.rows l.names.instance l.is_first (drop l.row-index l.rows) ≡ l.initial.page.items
    ++ lists.rows l.names.instance true l.rows
