use Rattle.std.proofs.Common.{sym, ap, ◌∙◌, arith}
use Rattle.lra_journal_sets.specs.JournalSets.{member}
use Rattle.lra_journal_sets.specs.Counted.{name}
use Rattle.lra_journal_sets.proofs.Holding.{place_below, found_there}
use Rattle.lra_journal_sets.proofs.journal_set.JournalSet.member.Goals as goal

pub index-requires : goal.index-requires
index-requires g c =
    let h = (rw c.as_slice.ensures.value at c.in_ok-place.ensures) in
    let k = place_below g.C.Counter.sight name c.args.instance c.in_ok-place.place c.self.inside.members.items h in
    let len = c.self.inside.members.ok.0 in
    omega (arith, k, len)

pub returns : goal.returns
returns g c =
    sym (found_there g.C.Counter.sight name c.args.instance c.in_ok-place.place c.self.inside.members.items
    c.index.result.now (rw c.as_slice.ensures.value at c.in_ok-place.ensures) c.index.ensures)
    ∙ ap (member name c.args.instance) c.self.view_is
