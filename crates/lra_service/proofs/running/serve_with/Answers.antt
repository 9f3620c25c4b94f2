use Rattle.lra_ids.specs.Addresses.{is_base}
use Rattle.lra_ids.specs.Bases.{base_text}
use Rattle.lra_service.proofs.Own.{never}
use Rattle.lra_service.proofs.running.serve_with.Goals as goal

pub returns-clause-base : goal.returns-clause-base
returns-clause-base g c = λ none. never (is_base (base_text c.args.address.now)) (c.in_ok-site.ensures.own none)
