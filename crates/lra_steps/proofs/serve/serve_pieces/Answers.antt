use Rattle.std.proofs.Common.{flat_map}
use Rattle.lra_steps.proofs.PieceLemmas.{serves_alone}
use Rattle.lra_steps.proofs.serve.serve_pieces.Goals as goal

pub returns : goal.returns
returns g c =
    serves_alone g.row.C.Denot g.row.K.Denot g.C.Counter.sight g.C.Session.covers g.C.Counter.gives g.K.Clock.tells
    g.met.C.Counter.keeps c.instance-instance.result
    (flat_map (λ piece. piece.items) c.args.pieces.now) c.args.sent.now.items c.args.counter.now
    c.serve_new.new.handler c.args.clock.now c.serve_new.new.clock
    c.serve_new.result c.serve_new.new.sent.items c.instance-instance.ensures c.serve_new.ensures
