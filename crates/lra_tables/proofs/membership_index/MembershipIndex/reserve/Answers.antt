use Rattle.std.proofs.Common.{◌∙◌, ap}
use Rattle.lra_tables.specs.inner.Listed.{Indexed, number_at}
use Rattle.lra_tables.proofs.membership_index.MembershipIndex.reserve.Goals as goal

pub returns-clause-listed : goal.returns-clause-listed
returns-clause-listed c = λ digest rank. c.reserve.ensures.entries.2 (digest, rank)
    ∙ ap (λ (i : Indexed). number_at i digest rank) c.self.view_is
