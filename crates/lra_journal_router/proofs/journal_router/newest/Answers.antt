use Rattle.std.proofs.Common.{sym, ap, ◌∙◌}
use Rattle.lra_journal_sets.specs.Counted.{name}
use Rattle.lra_journal_sets.specs.JournalSets.{member}
use Rattle.lra_journal_sets.proofs.Instances.{newest_there}
use Rattle.lra_journal_router.proofs.MembershipLemmas.{member_base}
use Rattle.lra_journal_router.proofs.journal_router.newest.Goals as goal

pub unreachable-requires : goal.unreachable-requires
unreachable-requires g c =
    newest_there name c.args.journal_set.now c.newest.ensures.journal_set
    (ap (λ i. member name i c.args.journal_set.now)
    (sym c.newest.ensures.newest) ∙ sym c.in-None.ensures)

pub returns : goal.returns
returns g c = λ base h. member_base base c.newest.result c.args.journal_set.now
    (g.C.Counter.sight c.in-Some.counter.now) h
    (sym c.in-Some.ensures)
