use Rattle.std.proofs.Common.{◌≡◌, drop}
use Rattle.std.specs.List.{find}
use Rattle.lra_narayana.specs.Operations.{operations, is_asked, operation_at}
use Rattle.lra_narayana.proofs.operation.DialectResource.operation.Given as goal

abbrev pub invariant-loop-operation : goal.invariant-loop-operation
invariant-loop-operation l = find (is_asked l.method l.self) (drop l.operation-index operations)
    ≡ operation_at l.method l.self
