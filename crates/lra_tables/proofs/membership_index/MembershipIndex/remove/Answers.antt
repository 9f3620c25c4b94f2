use Rattle.std.proofs.Common.{ap, sym, subst, ◌∙◌}
use Rattle.lra_tables.specs.inner.Listed.{Indexed, IsListed, number_at}
use Rattle.lra_tables.proofs.Ranking.{removed, left}
use Rattle.lra_tables.proofs.membership_index.MembershipIndex.remove.Goals as goal

pub returns-in-Some-clause-listed : goal.returns-in-Some-clause-listed
returns-in-Some-clause-listed c = λ other ns listed.
    removed c.self.inside.numbers c.close.new.numbers c.args.digest c.args.number c.in-Some.rank c.in-Some.ensures
    c.close.ensures.closed c.close.ensures.others other ns
    (subst (λ (i : Indexed). IsListed i other ns) (sym c.self.view_is) listed)

pub returns-in-None-clause-listed : goal.returns-in-None-clause-listed
returns-in-None-clause-listed c = λ other ns listed rank.
    sym (ap (λ (i : Indexed). number_at i other rank) c.self.view_is)
    ∙ left c.self.inside.numbers c.args.digest c.args.number c.in-None.ensures other ns
    (subst (λ (i : Indexed). IsListed i other ns) (sym c.self.view_is) listed) rank
