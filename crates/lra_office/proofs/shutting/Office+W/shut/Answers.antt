use Rattle.std.proofs.Common.{ap, subst, sym}
use Rattle.lra_core.specs.Shape.{Shape}
use Rattle.lra_office.specs.Origins.{Origin}
use Rattle.lra_office.specs.Clerks.{clerk_view}
use Rattle.lra_office.specs.Desks.{IsDesk}
use Rattle.lra_office.specs.Shut.{IsShut}
use Rattle.lra_office.proofs.shutting.Office+W.shut.Goals as goal

pub returns-clause-shut : goal.returns-clause-shut
returns-clause-shut g c =
    let desk = c.in_ok-coordinator.field-0 in
    let suits = c.in_ok-coordinator.ensures.value in
    subst (λ (d : Shape). IsShut g.W.Write.contents (clerk_view c.args.clerk) d desk.scribe) (sym c.into_inner.ensures)
    (record {
      desk = subst (λ (o : Origin). IsDesk o desk.coordinator.value (g.W.Write.contents desk.scribe.writer)
          desk.scribe.count desk.scribe.is_stopped) suits.same_origin suits.lawful_now;
      setting = ap (λ (o : Origin). o.setting) suits.same_origin;
      begins = suits.begins;
      own = suits.own;
    })
