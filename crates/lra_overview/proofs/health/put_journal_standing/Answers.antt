use Rattle.lra_overview.proofs.Chains.{three}
use Rattle.lra_overview.proofs.health.put_journal_standing.Goals as goal

pub returns : goal.returns
returns c =
    three _ _ _ _ _ _ _ _ c.in_ok-put.ensures c.in_ok-put_stem.ensures c.put-2.ensures
