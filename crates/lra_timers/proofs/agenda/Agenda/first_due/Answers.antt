use Rattle.std.proofs.Common.{◌↔◌, IsNone, subst}
use Rattle.lra_timers.specs.Moments.{NoneDue}
use Rattle.lra_timers.proofs.agenda.Agenda.first_due.Goals as goal

pub returns-clause-none : goal.returns-clause-none
returns-clause-none c = subst (λ a. IsNone c.first_due.result ↔ NoneDue a.limits c.args.now) c.self.view_is
    c.first_due.ensures.none
