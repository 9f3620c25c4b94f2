use Rattle.lra_journal_router.proofs.MembershipLemmas.{rested_base}
use Rattle.lra_journal_router.proofs.journal_router.JournalRouterHandler.on_idle.Goals as goal

pub invariant_of-self : goal.invariant_of-self
invariant_of-self g c =
    record {
      kin = (rested_base c.args.self.now.journal_set c.look.new.journal_set c.look.ensures.moved c.look.ensures.base
          c.args.self.now.kin).0;
    }

pub returns : goal.returns
returns g c = record {
  rests = record {
    moved = c.look.ensures.moved;
    base = (rested_base c.args.self.now.journal_set c.look.new.journal_set c.look.ensures.moved c.look.ensures.base
        c.args.self.now.kin).1;
  };
}
