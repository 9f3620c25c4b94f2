use Rattle.std.proofs.Common.{ap, arith}
use Rattle.lra_journal_sets.specs.Counted.{name}
use Rattle.lra_journal_sets.proofs.Holding.{place_below, moved_journal_set, moves_in}
use Rattle.lra_journal_sets.proofs.journal_set.JournalSet.visit.Goals as goal

pub index_mut-requires : goal.index_mut-requires
index_mut-requires g c =
    let h = (rw c.as_slice.ensures.value at c.in_ok-place.ensures) in
    let k = place_below g.C.Counter.sight name c.args.instance c.in_ok-place.place c.self.inside.members.items h in
    let len = c.self.inside.members.ok.0 in
    omega (arith, k, len)

pub invariant_of-self : goal.invariant_of-self
invariant_of-self g c =
    moved_journal_set g.C.Counter.sight name c.args.instance c.in_ok-place.place c.self.inside.members.items
    c.index_mut.result.now c.visit.new.counter
    c.self.invariant (rw c.as_slice.ensures.value at c.in_ok-place.ensures) c.index_mut.ensures.value
    (ap (λ s. s.instance) (g.met.V.Visit.keeps _ _ _ _ c.visit.ensures))

pub returns : goal.returns
returns g c =
    moves_in g.C.Counter.sight name _ _ c.args.instance c.in_ok-place.place c.self.inside.members.items c.args.self.now
    c.index_mut.result.now c.visit.new.counter
    c.self.view_is (rw c.as_slice.ensures.value at c.in_ok-place.ensures) c.index_mut.ensures.value c.visit.ensures
