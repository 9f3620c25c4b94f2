use Rattle.std.proofs.Common.{◌≡◌}
use Rattle.std.specs.Prelude.{string_bytes}
use Rattle.std.proofs.lemmas.Result.{IfOk-weaker}
use Rattle.lra_verdict_lines.specs.VerdictLines.{failed_line}
use Rattle.lra_verdict_lines.proofs.lines.line_of_failed.Goals as goal

pub returns : goal.returns
returns c = IfOk-weaker c.format.result _ (λ text. string_bytes text ≡ failed_line c.args.end.now)
    (λ text h. rw (← c.name-status.ensures) h) c.format.ensures.ok
