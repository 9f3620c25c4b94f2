-- What is found by an identifier.
use Rattle.std.specs.Prelude.{◌≡◌, ◌⊎◌, ℕ, List, Bool, true, false, Result, Ok, Err}
use Rattle.lra_ids.specs.Identifiers.{IsSpelling}
use Rattle.lra_commands.specs.declared.refusal.Refusal.TheVariants as refusal
use Rattle.lra_front.specs.declared.operation.Operation.{Operation}
use Rattle.lra_front.specs.declared.operation.Operation.TheVariants as operation
use Rattle.lra_front.specs.declared.api_error.ApiError.{ApiError}
use Rattle.lra_front.specs.declared.api_error.ApiError.TheVariants.{Refused}
use Rattle.lra_front.specs.declared.api_request.ApiRequest.{ApiRequest}
use Rattle.lra_front.specs.Bodies.{reads_body}

-- the number that a text spells, or that API error where it spells none
abbrev pub IsFound : (ℕ → List ℕ) → List ℕ → ApiError → Result ℕ ApiError → Type 0
IsFound spelled text none (Ok n) = IsSpelling spelled text n
IsFound spelled text none (Err d) = ((n : ℕ) → ¬ (IsSpelling spelled text n)) × (d ≡ none)

-- an operation is about an action that the path names
abbrev pub is_of_action : Operation → Bool
is_of_action operation.Start = false
is_of_action operation.MemberStatus = false
is_of_action operation.Report = false
is_of_action _ = true

-- an operation is about a member
abbrev pub is_of_member : Operation → Bool
is_of_member operation.MemberStatus = true
is_of_member operation.Report = true
is_of_member _ = false

-- memory was refused, at an operation that reads its body; or this holds
abbrev pub OrMemory : Operation → (Result ApiRequest ApiError → Type 0) → Result ApiRequest ApiError → Type 0
OrMemory r P w = ((w ≡ Err (Refused refusal.Memory)) × (reads_body r ≡ true)) ⊎ P w
