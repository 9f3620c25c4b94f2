use Rattle.lra_rulings.proofs.PlainAddresses.{port_named}
use Rattle.lra_rulings.proofs.plain.is_port.Goals as goal

pub returns-then-port-lt65536 : goal.returns-then-port-lt65536
returns-then-port-lt65536 c = λ other. port_named c.args.digits.now c.in-Some.port c.in-Some.ensures
    c.if-port-lt65536.true other
