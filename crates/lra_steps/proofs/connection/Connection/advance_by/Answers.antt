use Rattle.std.proofs.Common.{refl, sym, subst}
use Rattle.lra_steps.specs.History.{IsServed}
use Rattle.lra_steps.specs.inner.Fields.{history_of, fronts}
use Rattle.lra_steps.proofs.HistoryLemmas.{served_went, went_is}
use Rattle.lra_steps.proofs.connection.Connection.advance_by.Goals as goal

pub invariant_of-self : goal.invariant_of-self
invariant_of-self c =
    let h = history_of c.self.inside in
    record {
      served = subst IsServed
          (sym (went_is h c.args.count c.advance.new.self (fronts c.self.inside.writes.items)
          (fronts c.note_front.new.log.items) refl c.note_front.ensures c.advance.ensures))
          (served_went h c.args.count c.self.invariant.served);
      seen = c.self.invariant.seen;
      left = c.self.invariant.left;
    }
