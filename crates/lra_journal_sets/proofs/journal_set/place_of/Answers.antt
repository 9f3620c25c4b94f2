use Rattle.std.proofs.Common.{sym, ◌∙◌}
use Rattle.lra_journal_sets.specs.Counted.{name}
use Rattle.lra_journal_sets.proofs.Holding.{place_found, place_passed}
use Rattle.lra_journal_sets.proofs.journal_set.place_of.Goals as goal

pub returns-then-name-number : goal.returns-then-name-number
returns-then-name-number g c =
    place_found g.C.Counter.sight name c.args.instance c.loop-place.place c.args.members.now
    c.index-members-place.result c.loop-place.invariant
    c.loop-place-test.true c.index-members-place.is (sym c.instance.ensures ∙ sym c.number-name.ensures.value
    ∙ c.if-name-number.true ∙ c.number.ensures.value)

pub loop-place-preserved : goal.loop-place-preserved
loop-place-preserved g c =
    place_passed g.C.Counter.sight name c.args.instance c.loop-place.place c.args.members.now
    c.index-members-place.result c.loop-place.invariant
    c.loop-place-test.true c.index-members-place.is (λ e. c.if-name-number.false
    (c.number-name.ensures.value ∙ c.instance.ensures ∙ e ∙ sym c.number.ensures.value))
