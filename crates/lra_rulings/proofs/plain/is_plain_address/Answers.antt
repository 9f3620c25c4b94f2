use Rattle.std.proofs.Common.{sym, ◌∙◌, arith}
use Rattle.lra_rulings.proofs.PlainAddresses.{plain_named}
use Rattle.lra_rulings.proofs.plain.is_plain_address.Goals as goal

pub returns-then-is_authority : goal.returns-then-is_authority
returns-then-is_authority c = λ is_one.
    plain_named c.args.text.now c.in-Some.rest.now c.in-Some-split_once.authority.now c.in-Some-split_once.path.now
    (omega arith) c.in-Some.ensures c.in-Some-split_once.ensures.some
    (c.is_authority.ensures c.if-is_authority.true) (sym c.is_path.ensures ∙ is_one)
