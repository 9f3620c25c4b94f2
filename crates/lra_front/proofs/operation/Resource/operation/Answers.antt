use Rattle.std.proofs.Common.{arith, sym, ◌∙◌}
use Rattle.lra_front.specs.Operations.{operations, is_asked}
use Rattle.lra_front.proofs.Routing.{none_yet}
use Rattle.lra_front.proofs.operation.Resource.operation.Goals as goal

pub loop-operation-preserved : goal.loop-operation-preserved
loop-operation-preserved c =
    none_yet (is_asked c.args.method.now c.args.self) operations c.loop-operation.operation-index _ _
    (omega (arith, c.loop-operation-test.true))
    c.loop-operation.invariant (sym c.is_asked.ensures ∙ c.if-is_asked.false)
