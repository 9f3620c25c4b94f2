-- The instance that a request names.
use Rattle.std.specs.Prelude.{ℕ, List, codes, Option, None, option_and_then, Result, Ok, Err}
use Rattle.serde_json.specs.Data.{Members}
use Rattle.lra_ids.specs.Bearing.{instance_in, instance_at_end}
use Rattle.lra_wire.specs.Request.{Request}
use Rattle.lra_front.specs.declared.operation.Operation.{Operation}
use Rattle.lra_front.specs.declared.operation.Operation.TheVariants as operation
use Rattle.lra_front.specs.declared.api_error.ApiError.{ApiError}
use Rattle.lra_front.specs.Routes.{operation_of, id_in}
use Rattle.lra_front.specs.Bodies.{text_under, object_in}

-- the instance of the parent that the members of an object name, by the end of its URI
abbrev pub parent_of : Option Members → Option ℕ
parent_of members = option_and_then instance_at_end (option_and_then (text_under (codes "parent")) members)

-- the same for a body; an empty body names none
unfoldable pub parent_in : List ℕ → Option ℕ
parent_in body = parent_of (object_in body)

-- the instance that a request names at an operation: a start by its parent, any other by the identifier in its path
abbrev pub named_at : Request → Operation → Option ℕ
named_at request operation.Start = parent_in request.body
named_at request _ = instance_in (id_in request.target)

-- the same, if there is an operation
abbrev pub named_by : Request → Result Operation ApiError → Option ℕ
named_by request (Ok r) = named_at request r
named_by request (Err api_error) = None

-- the instance that a request names; an outermost start names none, nor does a request that fits no operation
unfoldable pub instance_of : Request → Option ℕ
instance_of request = named_by request (operation_of request.method request.target)
