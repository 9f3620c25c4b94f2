use Rattle.std.proofs.Common.{ℕ, List, sym, subst}
use Rattle.lra_journal_router.specs.JournalRouters.{base_of, HaveBase}
use Rattle.lra_journal_router.proofs.MembershipLemmas.{outcome_base}
use Rattle.lra_journal_router.proofs.journal_router.JournalRouterHandler.respond.Goals as goal

pub invariant_of-self : goal.invariant_of-self
invariant_of-self g c =
    let base = base_of c.args.self.now.journal_set in
    let after = c.respond_at.new.journal_set in
    let k =
    outcome_base g.C.Counter.sight g.C.Session.covers g.C.Counter.gives g.met.C.Counter.keeps g.K.Membership.tells base
    c.look.new.journal_set after c.args.moment c.args.request.now c.respond_at.result
    c.respond_at.ensures.journal_set (c.look.ensures.base base c.args.self.now.kin) c.respond_at.ensures.serves in
    record { kin = subst (λ (own : List ℕ). HaveBase own after) (sym k.1) k.0 }

pub returns-clause-responds : goal.returns-clause-responds
returns-clause-responds g c =
    let base = base_of c.args.self.now.journal_set in
    record {
      met = c.look.new.journal_set;
      moved = c.look.ensures.moved;
      serves = c.respond_at.ensures.serves;
      whose = c.respond_at.ensures.instance;
      journal = c.respond_at.ensures.journal;
      base =
          (outcome_base g.C.Counter.sight g.C.Session.covers g.C.Counter.gives g.met.C.Counter.keeps
          g.K.Membership.tells
          base c.look.new.journal_set c.respond_at.new.journal_set c.args.moment c.args.request.now
          c.respond_at.result c.respond_at.ensures.journal_set (c.look.ensures.base base c.args.self.now.kin)
          c.respond_at.ensures.serves).1;
    }
