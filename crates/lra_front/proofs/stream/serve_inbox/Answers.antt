use Rattle.std.proofs.Common.{rules}
use Rattle.lra_front.proofs.Streaming.{ends_now, goes_on, ends_last}
use Rattle.lra_front.proofs.stream.serve_inbox.Goals as goal

pub returns-in-Ended : goal.returns-in-Ended
returns-in-Ended g c =
    c.loop-others.invariant.1 _ _
    (ends_now g.C.Counter.gives g.K.Clock.tells c.loop-others.others _ _ _ (search rules)
    (c.in-Ended.ensures.serves c.loop-others.invariant.0))

pub loop-others-preserved : goal.loop-others-preserved
loop-others-preserved g c = (
  c.serve_request.ensures.goes c.in-Going.is,
  λ end t rest. c.loop-others.invariant.1 end t
      (goes_on g.C.Counter.gives g.K.Clock.tells c.loop-others.others _ _ _ _ (search rules)
      (c.in-Going.ensures.serves c.loop-others.invariant.0) rest),
)

pub returns : goal.returns
returns g c =
    c.loop-others.invariant.1 _ _
    (ends_last g.C.Counter.gives g.K.Clock.tells c.loop-others.others _ _ _ (search rules)
    (c.in-Ended-serve_request.ensures.serves c.loop-others.invariant.0))
