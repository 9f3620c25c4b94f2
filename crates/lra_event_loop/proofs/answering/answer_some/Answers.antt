use Rattle.std.proofs.Common.{sym, ◌∙◌}
use Rattle.lra_event_loop.proofs.Answers.{noting_none, noting_on}
use Rattle.lra_event_loop.proofs.answering.answer_some.Goals as goal

pub loop-turn-init : goal.loop-turn-init
loop-turn-init g c = noting_none g.A.Handler.base_of g.A.Handler.responds g.K.Clock.tells c.args.connection.now
    (g.A.Handler.sight c.args.handler.now) c.args.clock.now c.args.positions.now

pub answer_next-requires : goal.answer_next-requires
answer_next-requires g c =
    let before = c.loop-turn.invariant.0 in
    before.base ∙ c.requires ∙ sym before.same

pub returns-in_err-stage : goal.returns-in_err-stage
returns-in_err-stage g c =
    noting_on g.A.Handler.base_of g.A.Handler.responds g.K.Clock.tells c.args.connection.now
    c.loop-turn.connection c.answer_next.new.connection (g.A.Handler.sight c.args.handler.now)
    (g.A.Handler.sight c.loop-turn.handler)
    (g.A.Handler.sight c.answer_next.new.handler) c.args.clock.now c.loop-turn.clock c.answer_next.new.clock
    c.args.positions.now c.loop-turn.positions c.answer_next.new.positions
    c.loop-turn.invariant c.answer_next.ensures

pub returns-in-Some : goal.returns-in-Some
returns-in-Some g c =
    noting_on g.A.Handler.base_of g.A.Handler.responds g.K.Clock.tells c.args.connection.now
    c.loop-turn.connection c.answer_next.new.connection (g.A.Handler.sight c.args.handler.now)
    (g.A.Handler.sight c.loop-turn.handler)
    (g.A.Handler.sight c.answer_next.new.handler) c.args.clock.now c.loop-turn.clock c.answer_next.new.clock
    c.args.positions.now c.loop-turn.positions c.answer_next.new.positions
    c.loop-turn.invariant c.answer_next.ensures

pub loop-turn-preserved : goal.loop-turn-preserved
loop-turn-preserved g c =
    noting_on g.A.Handler.base_of g.A.Handler.responds g.K.Clock.tells c.args.connection.now
    c.loop-turn.connection c.answer_next.new.connection (g.A.Handler.sight c.args.handler.now)
    (g.A.Handler.sight c.loop-turn.handler)
    (g.A.Handler.sight c.answer_next.new.handler) c.args.clock.now c.loop-turn.clock c.answer_next.new.clock
    c.args.positions.now c.loop-turn.positions c.answer_next.new.positions
    c.loop-turn.invariant c.answer_next.ensures
