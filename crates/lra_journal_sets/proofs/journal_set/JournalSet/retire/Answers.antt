use Rattle.std.proofs.Common.{ap, sym, ◌∙◌, arith}
use Rattle.lra_journal_sets.specs.Counted.{name}
use Rattle.lra_journal_sets.specs.JournalSets.{newest}
use Rattle.lra_journal_sets.proofs.Holding.{place_below, left_journal_set, leaves_in}
use Rattle.lra_journal_sets.proofs.journal_set.JournalSet.retire.Goals as goal

pub remove-requires : goal.remove-requires
remove-requires g c =
    let h = (rw c.as_slice.ensures.value at c.in_ok-place.ensures) in
    let k = place_below g.C.Counter.sight name c.args.instance c.in_ok-place.place c.self.inside.members.items h in
    let len = c.self.inside.members.ok.0 in
    omega (arith, k, len)

pub invariant_of-self : goal.invariant_of-self
invariant_of-self g c =
    left_journal_set g.C.Counter.sight name c.args.instance c.in_ok-place.place c.self.inside.members.items
    c.remove.new.self.items c.self.invariant
    (rw c.as_slice.ensures.value at c.in_ok-place.ensures) c.remove.ensures.items
    (λ e. c.if-number.false (c.number.ensures.value ∙ e ∙ ap (newest name) c.self.view_is ∙ sym c.newest.ensures.newest
    ∙ sym c.number-2.ensures.value))

pub returns-clause-some : goal.returns-clause-some
returns-clause-some g c =
    leaves_in g.C.Counter.sight name c.args.instance c.in_ok-place.place c.self.inside.members.items
    c.remove.new.self.items c.args.self.now c.remove.result
    c.self.view_is (rw c.as_slice.ensures.value at c.in_ok-place.ensures) c.remove.ensures.value c.remove.ensures.items
    (λ e. c.if-number.false (c.number.ensures.value ∙ e ∙ sym c.newest.ensures.newest ∙ sym c.number-2.ensures.value))
