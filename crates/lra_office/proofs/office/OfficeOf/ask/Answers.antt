use Rattle.std.proofs.Common.{sym, ◌∙◌}
use Rattle.lra_ticket.specs.Locks.{held_view, pass_view}
use Rattle.lra_office.proofs.AtLock.{extends_same, may_add_nothing, answered}
use Rattle.lra_office.proofs.Covers.{covered_at}
use Rattle.lra_office.proofs.office.OfficeOf.ask.Goals as goal

pub give-pass-requires-clause-extends : goal.give-pass-requires-clause-extends
give-pass-requires-clause-extends g c = extends_same (pass_view c.args.pass) (held_view c.in-Ok.taken.0) _
    c.in-Ok.ensures.view

pub give-pass-requires-clause-own : goal.give-pass-requires-clause-own
give-pass-requires-clause-own g c = may_add_nothing (pass_view c.args.pass) (held_view c.in-Ok.taken.0) _
    c.in-Ok.ensures.view

pub returns-in-Ok-known-clause-known : goal.returns-in-Ok-known-clause-known
returns-in-Ok-known-clause-known g c =
    let suits = c.in-Ok.ensures.value in
    answered g.V.LockedService.setting (pass_view c.args.pass) (held_view c.in-Ok.taken.0)
    (pass_view c.give-pass.result) _ _
    c.args.query _ suits.same_origin
    (record {
      begins = suits.begins;
      seen_own = suits.seen_own;
      own = suits.own;
      enrolled = suits.enrolled;
      kept =
          g.met.V.LockedService.tells c.in-Ok.taken.1 suits.lawful_now;
    }) c.in-Ok.ensures.view
    (sym c.in-Ok-known.is ∙ c.query-known.ensures) c.give-pass.ensures.view

pub returns-in-Err-known-clause-known : goal.returns-in-Err-known-clause-known
returns-in-Err-known-clause-known g c =
    let suits = c.in-Ok.ensures.value in
    answered g.V.LockedService.setting (pass_view c.args.pass) (held_view c.in-Ok.taken.0)
    (pass_view c.give-pass.result) _ _
    c.args.query _ suits.same_origin
    (record {
      begins = suits.begins;
      seen_own = suits.seen_own;
      own = suits.own;
      enrolled = suits.enrolled;
      kept =
          g.met.V.LockedService.tells c.in-Ok.taken.1 suits.lawful_now;
    }) c.in-Ok.ensures.view
    (sym c.in-Err-known.is ∙ c.query-known.ensures) c.give-pass.ensures.view

pub returns-in-Ok-known-clause-placed : goal.returns-in-Ok-known-clause-placed
returns-in-Ok-known-clause-placed g c =
    covered_at g.V.LockedService.covers (pass_view c.args.pass)
    (held_view c.in-Ok.taken.0) (pass_view c.give-pass.result) _ _ _ c.position.result
    c.in-Ok.ensures.value.same_origin c.in-Ok.ensures.view
    c.give-pass.ensures.view c.position.ensures

pub returns-in-Err-known-clause-placed : goal.returns-in-Err-known-clause-placed
returns-in-Err-known-clause-placed g c =
    covered_at g.V.LockedService.covers (pass_view c.args.pass)
    (held_view c.in-Ok.taken.0) (pass_view c.give-pass.result) _ _ _ c.position.result
    c.in-Ok.ensures.value.same_origin c.in-Ok.ensures.view
    c.give-pass.ensures.view c.position.ensures
