-- The operation of the dialect that the path and the method of a request ask for.
use Rattle.std.specs.Prelude.{ℕ, List, Option, Result, Ok, Err}
use Rattle.std.specs.List.{before_first}
use Rattle.std.specs.Option.{option_map_or}
use Rattle.lra_front.specs.Paths.{served_at}
use Rattle.lra_front.specs.declared.dialect_answer.DialectRefusal.{DialectRefusal}
use Rattle.lra_front.specs.declared.dialect_answer.DialectRefusal.TheVariants.{NoSuchPath, BadMethod}
use Rattle.lra_narayana.specs.declared.operation.DialectResource.{DialectResource}
use Rattle.lra_narayana.specs.declared.operation.DialectOperation.{DialectOperation}
use Rattle.lra_narayana.specs.Operations.{resources, path_of, operation_at, methods_of}
use Rattle.lra_narayana.specs.Texts.{is_mark}

-- the resource that a target names, as `matchit` finds it, whatever the target's query
unfoldable pub resource_at : List ℕ → Option DialectResource
resource_at target = served_at path_of resources (before_first is_mark target)

-- the operation that a method asks for at a resource, or the refusal where the resource doesn't accept the method
abbrev pub asked_at : List ℕ → DialectResource → Result DialectOperation DialectRefusal
asked_at method p = option_map_or Ok (operation_at method p) (Err (BadMethod (methods_of p)))

-- the operation that a request asks for. The path is checked first, then the method.
abbrev pub operation_of : List ℕ → List ℕ → Result DialectOperation DialectRefusal
operation_of method target = option_map_or (asked_at method) (resource_at target) (Err NoSuchPath)
