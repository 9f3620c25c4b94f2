use Rattle.std.proofs.Common.{sym, true≢false}
use Rattle.lra_traces.proofs.Numbers.{is_number, is_no_number}
use Rattle.lra_traces.proofs.traces.number_in.Goals as goal

pub returns-in-Ok : goal.returns-in-Ok
returns-in-Ok c = is_number c.as_u128.result c.in-Ok.uuid c.args.text.now c.in-Ok.ensures.bytes c.as_u128.ensures

pub returns-in-Err : goal.returns-in-Err
returns-in-Err c = is_no_number c.args.text.now (λ u is. absurd (true≢false (sym (c.in-Err.ensures.ok.1 (u, is)))))
