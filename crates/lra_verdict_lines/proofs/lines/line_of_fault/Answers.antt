use Rattle.std.proofs.Common.{◌≡◌}
use Rattle.std.specs.Prelude.{string_bytes}
use Rattle.std.proofs.lemmas.Result.{IfOk-weaker}
use Rattle.lra_verdict_lines.specs.VerdictLines.{fault_line}
use Rattle.lra_verdict_lines.proofs.lines.line_of_fault.Goals as goal

pub returns : goal.returns
returns c = IfOk-weaker c.format.result _ (λ text. string_bytes text ≡ fault_line c.args.line c.args.rule)
    (λ text h. rw (← c.name-rule.ensures) h) c.format.ensures.ok
