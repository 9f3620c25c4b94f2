-- Starts that give no limit, and mean the default limit.
use Rattle.std.specs.Prelude.{ℕ, Bool, true, false, not, ◌&&◌, ◌==◌, is_none, List, codes, Option, Result, Ok}
use Rattle.std.specs.Prelude.{option_and_then}
use Rattle.serde_json.specs.Data.{Members, number, unsigned, put}
use Rattle.serde_json.specs.Find.{get_member}
use Rattle.lra_model.specs.Words.{when}
use Rattle.lra_wire.specs.Request.{Request}
use Rattle.lra_front.specs.declared.operation.Operation.{Operation}
use Rattle.lra_front.specs.declared.operation.Operation.TheVariants as operation
use Rattle.lra_front.specs.declared.api_error.ApiError.{ApiError}
use Rattle.lra_front.specs.Routes.{operation_of}
use Rattle.lra_front.specs.Bodies.{object_in}

-- an operation is a start
abbrev pub starts : Result Operation ApiError → Bool
starts (Ok operation.Start) = true
starts _ = false

-- a request is a start, and there is a default limit: 0 is none (this project's choice)
abbrev pub may_mean : ℕ → Request → Bool
may_mean limit request = not (limit == 0) && starts (operation_of request.method request.target)

-- the members with the default limit, if they give no limit; a limit of 0 is given, and so is one that is no number
-- (this project's choice)
abbrev pub limited_members : ℕ → Members → Option Members
limited_members limit ms = when (is_none (get_member (codes "limit") ms))
    (put (codes "limit") (number (unsigned limit)) ms)

-- the members that the body of a start means, if those are others: it is an object (RFC 8259, section 4), or empty
unfoldable pub limited_at : ℕ → List ℕ → Option Members
limited_at limit body = option_and_then (limited_members limit) (object_in body)
