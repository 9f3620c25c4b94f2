use Rattle.std.proofs.Common.{take}
use Rattle.std.specs.List.{flat_map}
use Rattle.lra_reports.specs.Paging.{IsPaged}
use Rattle.lra_reports.specs.Show.{member_line}
use Rattle.lra_reports.proofs.show.put_members.Given as goal

abbrev pub invariant-loop-place : goal.invariant-loop-place
invariant-loop-place g l = IsPaged (g.W.Write.contents l.fn.writer) (g.W.Write.contents l.writer) l.fn.page.items
    l.page.items (flat_map member_line (take l.place l.listing.members))
