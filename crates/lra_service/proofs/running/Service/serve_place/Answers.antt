use Rattle.lra_service.proofs.running.Service.serve_place.Goals as goal

pub returns-in-Err-clause-fault : goal.returns-in-Err-clause-fault
returns-in-Err-clause-fault g c = rw c.in-Err.is at c.in-Some.ensures.fault c.args.self.now.address.now
