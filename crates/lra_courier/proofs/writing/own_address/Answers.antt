use Rattle.std.proofs.Common.{sym}
use Rattle.lra_courier.proofs.SendLemmas.{refused_is_none, other_is_none, own_is_one}
use Rattle.lra_courier.proofs.writing.own_address.Goals as goal

pub returns-else-eq-clause-err : goal.returns-else-eq-clause-err
returns-else-eq-clause-err c _ = other_is_none _ _ _ c.in-Ok.ensures.ok c.as_str.ensures.value (sym c.if-eq.ensures)

pub returns-in-Err-NotUrl-clause-err : goal.returns-in-Err-NotUrl-clause-err
returns-in-Err-NotUrl-clause-err c _ = refused_is_none _ _ (c.in-Err-NotUrl.ensures.fault (λ e. cc))

pub returns-in-Err-NotHttp-clause-err : goal.returns-in-Err-NotHttp-clause-err
returns-in-Err-NotHttp-clause-err c _ = refused_is_none _ _ (c.in-Err-NotHttp.ensures.fault (λ e. cc))

pub returns-in-Err-TooLong-clause-err : goal.returns-in-Err-TooLong-clause-err
returns-in-Err-TooLong-clause-err c _ = refused_is_none _ _ (c.in-Err-TooLong.ensures.fault (λ e. cc))

pub returns-then-eq-clause-address : goal.returns-then-eq-clause-address
returns-then-eq-clause-address c = own_is_one _ _ _ c.in-Ok.ensures.ok c.as_str.ensures.value (sym c.if-eq.ensures)
