use Rattle.std.proofs.Common.{◌<◌, sym, subst}
use Rattle.lra_tables.specs.inner.Listed.{Indexed, IsListed}
use Rattle.lra_tables.proofs.Ranking.{added, from_ok}
use Rattle.lra_tables.proofs.membership_index.MembershipIndex.add.Goals as goal

pub returns-clause-listed : goal.returns-clause-listed
returns-clause-listed c = λ other ns listed.
    added c.self.inside.numbers c.insert.new.self c.args.digest c.args.number c.count-rank.result
    (from_ok c.insert.result
    (c.insert.ensures.succeeds (subst (λ (i : Indexed). 0 < i.room) (sym c.self.view_is) c.requires.room))
    c.insert.ensures.updates)
    c.count-rank.ensures other ns (subst (λ (i : Indexed). IsListed i other ns) (sym c.self.view_is) listed)
