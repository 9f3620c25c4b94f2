-- The result of reading a body.
use Rattle.std.specs.Prelude.{◌≡◌, ◌⊎◌, ℕ, List, true, None, IsSome, Result, Ok, Err}
use denote.Ref.{Bor}
use Rattle.serde_json.specs.declared.value.Value.{Value}
use Rattle.serde_json.specs.Find.{as_object}
use Rattle.serde_json.specs.View.{view}
use Rattle.lra_commands.specs.declared.refusal.Refusal.TheVariants as refusal
use Rattle.lra_front.specs.declared.operation.Operation.{Operation}
use Rattle.lra_front.specs.declared.api_error.ApiError.{ApiError}
use Rattle.lra_front.specs.declared.api_error.ApiError.TheVariants.{BadBody, Refused}
use Rattle.lra_front.specs.Bodies.{body_of, reads_body}

-- the value of a body that fits the operation; or the body doesn't fit, or memory was refused for its value
abbrev pub FitsBody : Operation → List ℕ → Result (Bor Value) ApiError → Type 0
FitsBody r body (Ok value) = (body_of r body ≡ as_object (view value.now)) × IsSome (body_of r body)
FitsBody r body (Err d) =
    ((d ≡ Refused refusal.Memory) × (reads_body r ≡ true)) ⊎ ((d ≡ BadBody) × (body_of r body ≡ None))
