use Rattle.lra_ticket.specs.Locks.{lock_id}
use Rattle.lra_service.proofs.service_state.ServiceState.answer.Given as goal

abbrev pub ghosts-answer_at : goal.ghosts-answer_at
ghosts-answer_at g a = record { lock = lock_id a.office.now.lock }
