-- The request that a request means.
use Rattle.std.specs.Prelude.{◌≡◌, ◌⊎◌, ℕ, List, Option, Some, MatchOption, IsSome, unwrap_or}
use Rattle.serde_json.specs.Data.{Members}
use Rattle.lra_wire.specs.Request.{Request}
use Rattle.lra_front.specs.Routes.{operation_of}
use Rattle.lra_front.specs.Bodies.{object_in}
use Rattle.lra_rewrite.specs.Paths.{other_target}
use Rattle.lra_rewrite.specs.Bodies.{other_body, IsRead}

-- the target that a target means
abbrev pub target_meant : List ℕ → List ℕ → List ℕ
target_meant base target = unwrap_or (other_target base target) target

-- A request that is the same as another, but for this target and for these members of its body, if there are any. It
-- isn't said how such a body is written, but what is read of it (RFC 8259).
pub record MeansParts (wanted : List ℕ) (members : Option Members) (request meant : Request) : Type 0 where
  pub method : meant.method ≡ request.method
  pub target : meant.target ≡ wanted
  pub minor : meant.minor ≡ request.minor
  pub close : meant.close ≡ request.close
  pub fields : meant.fields ≡ request.fields
  pub body : MatchOption members
      (meant.body ≡ request.body)
      (λ ms. object_in meant.body ≡ Some ms)

-- the request that a request means: the same but for its target, and for its body if an identifier is replaced in that
abbrev pub Means : List ℕ → List (List ℕ) → Request → Request → Type 0
Means base olders request meant = MeansParts (target_meant base request.target)
    (other_body base olders (operation_of request.method (target_meant base request.target)) request.body) request
    meant

-- making the request that a request means takes memory: it means another target, or its body is read
abbrev pub LacksMemory : List ℕ → List (List ℕ) → Request → Type 0
LacksMemory base olders request = IsSome (other_target base request.target)
    ⊎ IsRead olders (operation_of request.method (target_meant base request.target)) request.body
