use Rattle.std.proofs.Common.{inr}
use Rattle.lra_opening.proofs.Refused.{refused, found_sound}
use Rattle.lra_opening.proofs.auditing.refuse.Goals as goal

pub returns-in_err-fault-clause-audited : goal.returns-in_err-fault-clause-audited
returns-in_err-fault-clause-audited g c = λ bytes fed _. inr (found_sound bytes c.args.opening.now fed
    c.in_err-fault.ensures.none)

pub returns-in-Ok-clause-unsound : goal.returns-in-Ok-clause-unsound
returns-in-Ok-clause-unsound g c = λ found read.
    refused found (g.W.Write.contents c.args.writer.now) (g.W.Write.contents c.report_fault.new.writer)
    c.args.opening.now c.in_ok-fault.fault.line c.in_ok-fault.fault.rule c.in-Ok.status
    read c.in_ok-fault.ensures.some c.in-Ok.ensures.ok c.in-Ok.ensures.unsound
