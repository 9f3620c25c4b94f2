use Rattle.lra_workers.proofs.callback_worker.take_turn.Goals as goal

pub returns-in-Ok-clause-work : goal.returns-in-Ok-clause-work
returns-in-Ok-clause-work g c = λ s before. c.carry_on.ensures.work s (c.in-Ok.ensures.work s before)
