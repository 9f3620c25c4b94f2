use Rattle.lra_ticket.specs.Locks.{held_view, pass_view}
use Rattle.lra_office.proofs.AtLock.{extends_same, may_add_nothing, foretold}
use Rattle.lra_office.proofs.Covers.{covered_at}
use Rattle.lra_office.proofs.office.OfficeOf.look_ahead.Goals as goal

pub give-pass-requires-clause-extends : goal.give-pass-requires-clause-extends
give-pass-requires-clause-extends g c = extends_same (pass_view c.args.pass) (held_view c.in-Ok.taken.0) _
    c.in-Ok.ensures.view

pub give-pass-requires-clause-own : goal.give-pass-requires-clause-own
give-pass-requires-clause-own g c = may_add_nothing (pass_view c.args.pass) (held_view c.in-Ok.taken.0) _
    c.in-Ok.ensures.view

pub returns-clause-next : goal.returns-clause-next
returns-clause-next g c =
    let suits = c.in-Ok.ensures.value in
    foretold g.V.LockedService.setting (pass_view c.args.pass) (held_view c.in-Ok.taken.0)
    (pass_view c.give-pass.result) _ _
    _ suits.same_origin
    (record {
      begins = suits.begins;
      seen_own = suits.seen_own;
      own = suits.own;
      enrolled = suits.enrolled;
      kept =
          g.met.V.LockedService.tells c.in-Ok.taken.1 suits.lawful_now;
    }) c.in-Ok.ensures.view c.next_moment-next.ensures
    c.give-pass.ensures.view

pub returns-clause-placed : goal.returns-clause-placed
returns-clause-placed g c =
    covered_at g.V.LockedService.covers (pass_view c.args.pass)
    (held_view c.in-Ok.taken.0) (pass_view c.give-pass.result) _ _ _ c.position.result
    c.in-Ok.ensures.value.same_origin c.in-Ok.ensures.view
    c.give-pass.ensures.view c.position.ensures
