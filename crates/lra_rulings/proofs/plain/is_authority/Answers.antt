use Rattle.std.proofs.Common.{sym, ◌∙◌}
use Rattle.lra_rulings.proofs.PlainAddresses.{authority_named, authority_alone}
use Rattle.lra_rulings.proofs.plain.is_authority.Goals as goal

pub returns-then-is_host : goal.returns-then-is_host
returns-then-is_host c = λ is_one.
    authority_named c.args.bytes.now c.in-Some.host.now c.in-Some.port.now c.in-Some.ensures.some
    (sym c.is_host.ensures ∙ c.if-is_host.true) (c.is_port.ensures is_one)

pub returns-in-None : goal.returns-in-None
returns-in-None c = λ is_one. authority_alone c.args.bytes.now (sym c.is_host-in-None.ensures ∙ is_one)
