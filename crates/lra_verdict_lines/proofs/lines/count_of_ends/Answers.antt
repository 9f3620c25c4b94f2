use Rattle.std.proofs.Common.{◌≡◌}
use Rattle.std.specs.Prelude.{string_bytes}
use Rattle.std.proofs.lemmas.Result.{IfOk-weaker}
use Rattle.lra_verdict_lines.specs.VerdictLines.{ends_counted}
use Rattle.lra_verdict_lines.proofs.lines.count_of_ends.Goals as goal

pub returns : goal.returns
returns c = IfOk-weaker c.format.result _ (λ text. string_bytes text ≡ ends_counted c.args.summary.now)
    (λ text h. rw (← c.as_slice.ensures) h) c.format.ensures.ok
