-- The request that is passed to the handler.
use Rattle.std.specs.Prelude.{◌≡◌, ◌≤◌, ℕ, List, Option, Some, None, option_map}
use Rattle.serde_json.specs.Data.{Data, depth}
use Rattle.serde_json.specs.Find.{as_object}
use Rattle.serde_json.specs.Read.{max_depth}
use Rattle.serde_json.specs.View.{view}
use Rattle.lra_wire.specs.Request.{Request, request_of}
use Rattle.lra_front.specs.Bodies.{object_in, IsValueOf}
use Rattle.lra_front.specs.Routes.{operation_of}
use Rattle.lra_rewrite.specs.Bodies.{other_body}
use Rattle.lra_rewrite.specs.Paths.{other_target}
use Rattle.lra_rewrite.specs.Requests.{MeansParts}
use Rattle.lra_rewrite.specs.declared.requests.Meant.{Meant}

-- another request, if there is one; otherwise the one that came
abbrev pub meant_by : Request → Option Meant → Request
meant_by own None = own
meant_by own (Some other) = request_of other.request

-- a body is read as that value
abbrev pub IsWritten : List ℕ → Data → Type 0
IsWritten body value = (object_in body ≡ as_object value) × (depth value ≤ max_depth)

-- another request for the same operation, with the value of its body
pub record IsMade (own : Request) (other : Meant) : Type 0 where
  pub method : (request_of other.request).method ≡ own.method
  pub target : (request_of other.request).target ≡ own.target
  pub value : IsValueOf (operation_of own.method own.target) (request_of other.request).body (Some (view other.value))

-- the request with the target that its own means, if that is another
abbrev pub moved : List ℕ → Request → Option Request
moved base own = option_map (λ target. record own { target = target }) (other_target base own.target)

-- the request that a request means by the identifier in its body
abbrev pub MeansOther : List ℕ → List (List ℕ) → Request → Request → Type 0
MeansOther base olders own meant =
    MeansParts own.target (other_body base olders (operation_of own.method own.target) own.body) own meant
