use Rattle.lra_workers.proofs.worker.take_turn.Goals as goal

pub returns-in-Ok-Some-clause-work : goal.returns-in-Ok-Some-clause-work
returns-in-Ok-Some-clause-work g c = λ s before. c.carry.ensures.work s
    (c.in-Ok-Some.ensures.work s (c.in_default.ensures.work s before))
