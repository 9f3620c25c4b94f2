use Rattle.lra_opening.proofs.opening.instance_at.Goals as goal

pub returns-in-Some-clause-instance : goal.returns-in-Some-clause-instance
returns-in-Some-clause-instance c = c.in-Some.ensures.value
