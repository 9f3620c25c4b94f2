use Rattle.lra_logs.proofs.Paces.{few, counted, heard}
use Rattle.lra_logs.proofs.laws.lines_are_few.Goals as goal

pub returns-clause-few : goal.returns-clause-few
returns-clause-few c = few

pub returns-clause-counted : goal.returns-clause-counted
returns-clause-counted c = counted

pub returns-clause-heard : goal.returns-clause-heard
returns-clause-heard c = heard
