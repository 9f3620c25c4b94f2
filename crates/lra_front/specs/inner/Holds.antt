-- What a routed request holds beside the request.
use Rattle.std.specs.Prelude.{◌≡◌, Option, option_map, Result, IfOk, OnErr}
use Rattle.serde_json.specs.declared.value.Value.{Value}
use Rattle.serde_json.specs.View.{view}
use Rattle.lra_wire.specs.Request.{Request}
use Rattle.lra_front.specs.declared.operation.Operation.{Operation}
use Rattle.lra_front.specs.declared.api_error.ApiError.{ApiError}
use Rattle.lra_front.specs.Routes.{operation_of}
use Rattle.lra_front.specs.Bodies.{IsValueOf, NeedsMemory}

-- the operation is the one that the request asks for, and the value is that of its body
pub record HoldsParts {E : Type 0} (request : Request) (found : Result Operation ApiError)
    (read : Result (Option Value) E) : Type 0 where
  pub operation : found ≡ operation_of request.method request.target
  pub value : IfOk read (λ value. IsValueOf found request.body (option_map view value))
  pub memory : OnErr read (NeedsMemory found request.body)
