use Rattle.std.proofs.Common.{◌≡◌, ◌++◌, true, drop}
use Rattle.lra_overview.specs.Lists as lists
use Rattle.lra_overview.proofs.objects.put_members.Given as goal

-- what was added so far, with what is left to add, is the whole list
abbrev pub invariant-loop-member : goal.invariant-loop-member
invariant-loop-member l =
    l.page.items ++ lists.members l.names.instance l.is_first (drop l.member-index l.members) ≡ l.initial.page.items
    ++ lists.members l.names.instance true l.members
