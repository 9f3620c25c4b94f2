use Rattle.lra_ticket.specs.Locks.{lock_id}
use Rattle.lra_service.proofs.service_state.ServiceState.watch.Given as goal

abbrev pub ghosts-watch_at : goal.ghosts-watch_at
ghosts-watch_at g a = record { lock = lock_id a.office.now.lock }
