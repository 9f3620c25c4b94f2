use Rattle.std.proofs.Common.{refl}
use Rattle.std.proofs.lemmas.Result.{IfOk-weaker}
use Rattle.lra_logs.proofs.Spelled.{spelled_is}
use Rattle.lra_logs.proofs.time.time_text.Goals as goal

pub returns-in-Ok : goal.returns-in-Ok
returns-in-Ok c =
    IfOk-weaker c.spelled.result _ _ (λ text is. spelled_is c.args.moment c.in-Ok.date _ c.ranges.moment.fits
    c.in-Ok.ensures.value (c.in-Ok.ensures.succeeds.0 refl) is) c.spelled.ensures
