use Rattle.std.proofs.Common.{subst}
use Rattle.lra_commands.specs.Calls.{Command}
use Rattle.lra_office.specs.Clerks.{clerk_view}
use Rattle.lra_office.specs.Orders.{IsGrown, IsNotGiven}
use Rattle.lra_office.proofs.AtWindow.{told_origin, refused_origin, window_told, window_refused, keeps_done}
use Rattle.lra_office.proofs.AtWindow.{keeps_refused}
use Rattle.lra_office.proofs.office.OfficeOf.give_order.Goals as goal

pub returns-in-Ok-clause-given : goal.returns-in-Ok-clause-given
returns-in-Ok-clause-given g c =
    let old = c.args.clerk.now in
    let new = c.tell.new.clerk in
    let h = subst (λ (x : Command). IsGrown (g.V.LockedService.setting (clerk_view old).origin) (clerk_view old)
    (record { by = old.number; moment = c.args.moment; command = x }) c.in-Ok.told c.in-Ok.ensures.told.0
    (clerk_view new)) c.command.ensures c.in-Ok.ensures.told.1 in
    keeps_done g.V.LockedService.setting g.V.Kept.origin g.V.Kept.history g.V.Kept.lawful g.V.LockedService.has_stopped
    _ _
    c.args.moment c.args.order.now c.in-Ok.told
    (window_told g.V.LockedService.setting (clerk_view old) (clerk_view new) old.number new.number c.args.moment
    c.args.order.now c.in-Ok.told c.in-Ok.ensures.told.0 c.requires.number c.tell.ensures.number h)

pub returns-in-Err-clause-given : goal.returns-in-Err-clause-given
returns-in-Err-clause-given g c =
    let old = c.args.clerk.now in
    let new = c.tell.new.clerk in
    let h = subst (λ (x : Command). IsNotGiven (g.V.LockedService.setting (clerk_view old).origin) (clerk_view old)
    (record { by = old.number; moment = c.args.moment; command = x }) c.in-Err.refusal (clerk_view new))
    c.command.ensures c.in-Err.ensures.told in
    let keeps = window_refused g.V.LockedService.setting (clerk_view old) (clerk_view new) old.number new.number
    c.args.moment
    c.args.order.now c.in-Err.refusal c.requires.number c.tell.ensures.number h in
    keeps_refused g.V.LockedService.setting g.V.Kept.origin g.V.Kept.history g.V.Kept.lawful
    g.V.LockedService.has_stopped _
    c.args.moment new.number c.args.order.now c.in-Err.refusal c.fault_of.result (clerk_view new)
    keeps c.in-Err.ensures.stopped c.fault_of.ensures

pub returns-in-Ok-clause-origin : goal.returns-in-Ok-clause-origin
returns-in-Ok-clause-origin g c =
    told_origin (g.V.LockedService.setting (clerk_view c.args.clerk.now).origin) (clerk_view c.args.clerk.now)
    (clerk_view c.tell.new.clerk) _ c.in-Ok.told c.in-Ok.ensures.told.0 c.in-Ok.ensures.told.1

pub returns-in-Err-clause-origin : goal.returns-in-Err-clause-origin
returns-in-Err-clause-origin g c =
    refused_origin (g.V.LockedService.setting (clerk_view c.args.clerk.now).origin) (clerk_view c.args.clerk.now)
    (clerk_view c.tell.new.clerk) _ c.in-Err.refusal c.in-Err.ensures.told
