use Rattle.std.proofs.Common.{◌≡◌, ◌∙◌, subst, sym}
use Rattle.lra_ticket.specs.Locks.{held_view, pass_view, tried}
use Rattle.lra_commands.specs.declared.command.Told.{Told}
use Rattle.lra_commands.specs.Calls.{Call}
use Rattle.lra_commands.specs.declared.refusal.Refusal.TheVariants.{Stopped}
use Rattle.lra_office.specs.Serves.{IsKeptBy}
use Rattle.lra_office.specs.Orders.{IsGrown}
use Rattle.lra_office.proofs.AtLock.{extends, may_add, grown, not_grown, stopped_at}
use Rattle.lra_office.proofs.Covers.{covered_at}
use Rattle.lra_office.proofs.office.OfficeOf.try_give.Goals as goal

pub give-pass-requires-clause-extends : goal.give-pass-requires-clause-extends
give-pass-requires-clause-extends g c =
    extends (tried (pass_view c.args.pass)) (held_view c.in-Ok.taken.0) _ _ _ _ c.serve-served.result
    c.in-Ok.ensures.view c.serve-served.ensures.served

pub give-pass-requires-clause-own : goal.give-pass-requires-clause-own
give-pass-requires-clause-own g c =
    let suits = c.in-Ok.ensures.value in
    may_add (tried (pass_view c.args.pass)) (held_view c.in-Ok.taken.0) _ _ _ c.args.by c.args.moment c.args.command.now
    c.serve-served.result c.in-Ok.ensures.view
    (g.met.V.LockedService.tells c.in-Ok.taken.1 suits.lawful_now) c.requires.number c.serve-served.ensures.served

pub returns-in-Ok-served-clause-tried : goal.returns-in-Ok-served-clause-tried
returns-in-Ok-served-clause-tried g c =
    let suits = c.in-Ok.ensures.value in
    let call : Call = record { by = c.args.by; moment = c.args.moment; command = c.args.command.now } in (
      c.in-Ok-served.committed.errand,
      subst (λ (t : Told). IsGrown (g.V.LockedService.setting (pass_view c.args.pass).origin)
          (tried (pass_view c.args.pass))
          call t c.in-Ok-served.committed.errand (pass_view c.give-pass.result)) (sym c.told_alone.ensures)
          (grown g.V.LockedService.setting (tried (pass_view c.args.pass)) (held_view c.in-Ok.taken.0)
          (pass_view c.give-pass.result) _ _ _ call c.in-Ok-served.committed suits.same_origin
          (record {
            begins = suits.begins;
            seen_own = suits.seen_own;
            own = suits.own;
            enrolled = suits.enrolled;
            kept =
                g.met.V.LockedService.tells c.in-Ok.taken.1 suits.lawful_now;
          }) c.in-Ok.ensures.view
          c.in-Ok-served.ensures.served
          (subst (λ o. IsKeptBy (g.V.LockedService.setting o) (g.V.Kept.history c.serve-served.new.self))
          c.serve-served.ensures.origin (g.met.V.LockedService.tells c.serve-served.new.self
          c.serve-served.ensures.lawful)) c.give-pass.ensures.view),
    )

pub returns-in-Err-served-clause-tried : goal.returns-in-Err-served-clause-tried
returns-in-Err-served-clause-tried g c =
    let suits = c.in-Ok.ensures.value in
    not_grown g.V.LockedService.setting (tried (pass_view c.args.pass)) (held_view c.in-Ok.taken.0)
    (pass_view c.give-pass.result) _ _ _ _ c.in-Err-served.refusal suits.same_origin
    (record {
      begins = suits.begins;
      seen_own = suits.seen_own;
      own = suits.own;
      enrolled = suits.enrolled;
      kept =
          g.met.V.LockedService.tells c.in-Ok.taken.1 suits.lawful_now;
    }) c.in-Ok.ensures.view c.in-Err-served.ensures.served
    c.give-pass.ensures.view

pub returns-in-Err-served-clause-stopped : goal.returns-in-Err-served-clause-stopped
returns-in-Err-served-clause-stopped g c = λ e.
    let same : c.in-Err-served.refusal ≡ Stopped = cc in
    stopped_at g.V.Kept.origin g.V.Kept.history g.V.Kept.lawful g.V.LockedService.has_stopped c.in-Ok.taken.1
    c.serve-served.new.self (tried (pass_view c.args.pass)) (held_view c.in-Ok.taken.0)
    (pass_view c.give-pass.result) c.in-Ok.ensures.value.same_origin c.in-Ok.ensures.view
    c.serve-served.ensures.lawful c.serve-served.ensures.origin c.give-pass.ensures.view
    (c.in-Err-served.ensures.stopped same)

pub returns-in-Ok-served-clause-placed : goal.returns-in-Ok-served-clause-placed
returns-in-Ok-served-clause-placed g c =
    covered_at g.V.LockedService.covers (tried (pass_view c.args.pass))
    (held_view c.in-Ok.taken.0) (pass_view c.give-pass.result) _ _ _ c.position.result
    (c.serve-served.ensures.origin ∙ c.in-Ok.ensures.value.same_origin) c.in-Ok.ensures.view
    c.give-pass.ensures.view c.position.ensures

pub returns-in-Err-served-clause-placed : goal.returns-in-Err-served-clause-placed
returns-in-Err-served-clause-placed g c =
    covered_at g.V.LockedService.covers (tried (pass_view c.args.pass))
    (held_view c.in-Ok.taken.0) (pass_view c.give-pass.result) _ _ _ c.position.result
    (c.serve-served.ensures.origin ∙ c.in-Ok.ensures.value.same_origin) c.in-Ok.ensures.view
    c.give-pass.ensures.view c.position.ensures
