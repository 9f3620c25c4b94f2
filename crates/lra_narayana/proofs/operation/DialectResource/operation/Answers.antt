use Rattle.std.proofs.Common.{arith, sym, ◌∙◌}
use Rattle.lra_narayana.specs.Operations.{operations, is_asked}
use Rattle.lra_narayana.proofs.Routing.{none_yet, found, none_left}
use Rattle.lra_narayana.proofs.operation.DialectResource.operation.Goals as goal

pub loop-operation-preserved : goal.loop-operation-preserved
loop-operation-preserved c =
    none_yet (is_asked c.args.method.now c.args.self) operations c.loop-operation.operation-index _ _
    (omega (arith, c.loop-operation-test.true))
    c.loop-operation.invariant (sym c.is_asked.ensures ∙ c.if-is_asked.false)

pub returns-then-is_asked : goal.returns-then-is_asked
returns-then-is_asked c =
    found (is_asked c.args.method.now c.args.self) operations c.loop-operation.operation-index _ _
    (omega (arith, c.loop-operation-test.true))
    c.loop-operation.invariant (sym c.is_asked.ensures ∙ c.if-is_asked.true)

pub returns : goal.returns
returns c =
    none_left (is_asked c.args.method.now c.args.self) operations c.loop-operation.operation-index _
    (omega arith) c.loop-operation.invariant
