use Rattle.std.proofs.Common.{◌∙◌, ap, sym, Some}
use Rattle.lra_ticket.specs.Locks.{pass_view}
use Rattle.lra_office.proofs.AtEnrolment.{told_some, knows}
use Rattle.lra_office.proofs.office.OfficeOf.clerk.Goals as goal

pub told_number-requires : goal.told_number-requires
told_number-requires g c =
    let told = told_some (g.V.LockedService.setting (pass_view c.args.pass).origin) (pass_view c.args.pass)
    (pass_view c.give-pass.result.0) c.args.moment c.in-Ok.committed.told c.in-Ok.committed.errand
    (rw c.in-Ok.is at c.give-pass.ensures.given) in
    (told.0, c.told_alone.ensures ∙ told.1)

pub returns-in-Ok-clause-clerk : goal.returns-in-Ok-clause-clerk
returns-in-Ok-clause-clerk g c =
    let k = knows (g.V.LockedService.setting (pass_view c.args.pass).origin) (pass_view c.args.pass)
    (pass_view c.give-pass.result.0) c.args.moment c.told_number.result c.in-Ok.committed.told
    c.in-Ok.committed.errand
    c.requires.newcomer (rw c.in-Ok.is at c.give-pass.ensures.given) (sym c.told_alone.ensures
    ∙ c.told_number.ensures) in
    record {
      known = ap (λ id. Some id) c.give-pass.ensures.lock;
      number = k.same;
      enrolled = k.positive;
      covered = rw c.in-Ok.is at c.give-pass.ensures.placed;
    }

pub returns-in-Ok-clause-enrolled : goal.returns-in-Ok-clause-enrolled
returns-in-Ok-clause-enrolled g c =
    (knows (g.V.LockedService.setting (pass_view c.args.pass).origin) (pass_view c.args.pass)
    (pass_view c.give-pass.result.0)
    c.args.moment c.told_number.result c.in-Ok.committed.told c.in-Ok.committed.errand
    c.requires.newcomer (rw c.in-Ok.is at c.give-pass.ensures.given) (sym c.told_alone.ensures
    ∙ c.told_number.ensures)).enrolled
