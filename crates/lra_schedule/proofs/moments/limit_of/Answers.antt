use Rattle.std.proofs.Common.{◌∙◌, ap, sym}
use Rattle.std.specs.Option.{option_and_then}
use Rattle.lra_schedule.specs.inner.Renewals.{limit_by}
use Rattle.lra_schedule.proofs.Found.{limit_found, row_fits}
use Rattle.lra_schedule.proofs.moments.limit_of.Goals as goal

pub returns-in_err-row : goal.returns-in_err-row
returns-in_err-row c = λ J stands.
    c.from_residual.ensures ∙ ap (option_and_then limit_by) (sym c.in_err-row.was ∙ c.action.ensures J stands)
    ∙ sym (limit_found stands.version stands.is_address J stands.legal c.args.action)

pub returns : goal.returns
returns c = λ J stands.
    let row = sym c.in_ok-row.was ∙ c.action.ensures J stands in
    c.limit_by.ensures (row_fits stands.version stands.is_address J stands.legal c.args.action c.in_ok-row.row
    (sym row)) ∙ ap (option_and_then limit_by) row
    ∙ sym (limit_found stands.version stands.is_address J stands.legal c.args.action)
