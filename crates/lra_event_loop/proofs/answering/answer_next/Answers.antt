use Rattle.std.proofs.Common.{subst}
use Rattle.lra_steps.specs.declared.connection.Step.{Step}
use Rattle.lra_steps.specs.declared.connection.Step.TheVariants.{RequestReady, ReplyPending}
use Rattle.lra_steps.specs.Steps.{StepsTo}
use Rattle.lra_event_loop.proofs.Answers.{noting_on, noting_step}
use Rattle.lra_event_loop.proofs.answering.answer_next.Goals as goal

pub returns-in-RequestReady : goal.returns-in-RequestReady
returns-in-RequestReady g c =
    let base_of = g.A.Handler.base_of in
    let responds = g.A.Handler.responds in
    let tells = g.K.Clock.tells in
    let v = g.A.Handler.sight c.args.handler.now in
    let k = c.args.clock.now in
    let ps = c.args.positions.now in
    let step = subst (λ (step : Step). StepsTo step c.args.connection.now c.next.new.self) c.in-RequestReady.is
    c.in_ok-next.ensures in
    noting_on base_of responds tells c.args.connection.now c.next.new.self c.answer_standing.new.connection v v
    (g.A.Handler.sight c.answer_standing.new.handler) k k c.answer_standing.new.clock
    ps ps c.answer_standing.new.positions (noting_step base_of responds tells RequestReady c.args.connection.now
    c.next.new.self v k ps step) c.answer_standing.ensures

pub returns-in-ReplyPending : goal.returns-in-ReplyPending
returns-in-ReplyPending g c =
    let base_of = g.A.Handler.base_of in
    let responds = g.A.Handler.responds in
    let tells = g.K.Clock.tells in
    let v = g.A.Handler.sight c.args.handler.now in
    let k = c.args.clock.now in
    let ps = c.args.positions.now in
    let step = subst (λ (step : Step). StepsTo step c.args.connection.now c.next.new.self) c.in-ReplyPending.is
    c.in_ok-next.ensures in
    noting_on base_of responds tells c.args.connection.now c.next.new.self
    c.answer_standing-in-ReplyPending.new.connection v
    v (g.A.Handler.sight c.answer_standing-in-ReplyPending.new.handler)
    k k c.answer_standing-in-ReplyPending.new.clock ps ps c.answer_standing-in-ReplyPending.new.positions
    (noting_step base_of responds tells ReplyPending c.args.connection.now c.next.new.self v k ps step)
    c.answer_standing-in-ReplyPending.ensures
