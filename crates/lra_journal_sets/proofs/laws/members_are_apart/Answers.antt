use Rattle.lra_journal_sets.specs.Counted.{name}
use Rattle.lra_journal_sets.proofs.Running.{puts_one, takes_one, adds_one}
use Rattle.lra_journal_sets.proofs.laws.members_are_apart.Goals as goal

pub returns-clause-moving : goal.returns-clause-moving
returns-clause-moving g c = puts_one name

pub returns-clause-leaving : goal.returns-clause-leaving
returns-clause-leaving g c = takes_one name

pub returns-clause-joining : goal.returns-clause-joining
returns-clause-joining g c = adds_one name
