use Rattle.lra_ids.specs.Addresses.{is_base}
use Rattle.lra_ids.specs.Bases.{base_text}
use Rattle.lra_service.proofs.Own.{never}
use Rattle.lra_service.proofs.checking.check_place.Goals as goal

pub returns-in_err-found-clause-base : goal.returns-in_err-found-clause-base
returns-in_err-found-clause-base g c = λ none. never (is_base (base_text c.args.address.now))
    (c.in_ok-site.ensures.own none)

pub returns-in-Some-clause-base : goal.returns-in-Some-clause-base
returns-in-Some-clause-base g c = λ none. never (is_base (base_text c.args.address.now)) (c.in_ok-site.ensures.own none)

pub returns-in-Ok-told-clause-base : goal.returns-in-Ok-told-clause-base
returns-in-Ok-told-clause-base g c = λ none. never (is_base (base_text c.args.address.now))
    (c.in_ok-site.ensures.own none)

pub returns-in-Err-told-clause-base : goal.returns-in-Err-told-clause-base
returns-in-Err-told-clause-base g c = λ none. never (is_base (base_text c.args.address.now))
    (c.in_ok-site.ensures.own none)
