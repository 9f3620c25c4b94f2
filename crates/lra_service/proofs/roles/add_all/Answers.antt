use Rattle.lra_office.specs.declared.clerk.Clerk.{Clerk}
use Rattle.lra_service.specs.declared.roles.Role.{Role}
use Rattle.lra_service.specs.inner.Opened.{IsAt}
use Rattle.lra_service.proofs.Pushed.{all_pushed}
use Rattle.lra_service.proofs.roles.add_all.Goals as goal

pub returns-clause-hired : goal.returns-clause-hired
returns-clause-hired g c = all_pushed {X = Role × Clerk g.row.V.Denot g.row.V-Origin.Denot g.V.Kept}
    (λ job. IsAt g.V.LockedService.setting g.V.LockedService.covers c.args.office.now job.1) _ _ _
    c.in_ok-push.ensures.items
    c.in_ok-last.ensures.hired c.in_ok-last.ensures.other
