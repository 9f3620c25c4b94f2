use Rattle.std.proofs.Common.{◌∙◌, ap, sym}
use Rattle.std.specs.Option.{option_and_then}
use Rattle.lra_schedule.specs.inner.Renewals.{retry_by}
use Rattle.lra_schedule.proofs.Found.{retry_found}
use Rattle.lra_schedule.proofs.moments.retry_of.Goals as goal

pub returns-in_err-row : goal.returns-in_err-row
returns-in_err-row c = λ J stands.
    c.from_residual.ensures ∙ ap (option_and_then (retry_by c.args.limits.now))
    (sym c.in_err-row.was ∙ c.member.ensures J stands) ∙ sym (retry_found c.args.limits.now J c.args.member)
