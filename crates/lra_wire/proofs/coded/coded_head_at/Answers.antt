use Rattle.std.proofs.Common.{sym}
use Rattle.std.proofs.lemmas.Result.{err_from_is_err_and}
use Rattle.lra_wire.proofs.CodedLemmas.{coded_head, framing_refused}
use Rattle.lra_wire.proofs.coded.coded_head_at.Goals as goal

pub returns-in_err-framing-in-Ok-Some : goal.returns-in_err-framing-in-Ok-Some
returns-in_err-framing-in-Ok-Some c =
    let at = rw c.in-Ok-Some.field-0-is at c.in-Ok-Some.ensures in
    let p = err_from_is_err_and c.from_residual.result c.from_residual.ensures.1 in
    rw (p.1, p.2) (framing_refused c.args.bytes.now c.head_at.new.headers c.in-Ok-Some.head
    c.in_err-framing-in-Ok-Some.field-0.0 c.requires at (sym c.in_err-framing-in-Ok-Some.ensures))

pub returns : goal.returns
returns c =
    let at = rw c.in-Ok-Some.field-0-is at c.in-Ok-Some.ensures in
    coded_head c.args.bytes.now c.head_at.new.headers c.in-Ok-Some.head c.in_ok-framing-in-Ok-Some.framing
    c.is_expected.result c.requires at (sym c.in_ok-framing-in-Ok-Some.ensures) c.is_expected.ensures
