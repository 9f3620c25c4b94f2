-- The traces of requests that are to end actions.
use Rattle.std.specs.Prelude.{ℕ, Bool, true, false, if◌then◌else◌, List, Option, None, Result, Ok, option_map}
use Rattle.lra_wire.specs.Request.{Request}
use Rattle.lra_front.specs.declared.api_error.ApiError.{ApiError}
use Rattle.lra_front.specs.declared.operation.Operation.{Operation}
use Rattle.lra_front.specs.declared.operation.Operation.TheVariants.{Close, Cancel}
use Rattle.lra_front.specs.Routes.{id_in, operation_of}

-- an operation ends an action
abbrev pub is_end : Result Operation ApiError → Bool
is_end (Ok Close) = true
is_end (Ok Cancel) = true
is_end _ = false

-- the ID in the target of a request, and its `traceparent`, if it has one
abbrev pub traced_id : Request → Option (List ℕ × List ℕ)
traced_id request = option_map (λ value. (id_in request.target, value)) request.fields.traceparent

-- the same of a request that is to end an action
abbrev pub trace_in : Request → Option (List ℕ × List ℕ)
trace_in request = if is_end (operation_of request.method request.target) then traced_id request else None
