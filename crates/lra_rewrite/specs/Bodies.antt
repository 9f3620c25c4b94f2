-- Bodies with an identifier under an older base.
use Rattle.std.specs.Prelude.{◌≡◌, ◌≢◌, ℕ, List, [], Option, None, IsSome, option_map, option_and_then, Result, Ok, Err}
use Rattle.serde_json.specs.Data.{Members, string, put}
use Rattle.lra_front.specs.declared.operation.Operation.{Operation}
use Rattle.lra_front.specs.declared.api_error.ApiError.{ApiError}
use Rattle.lra_front.specs.Bodies.{identifier_key, object_in, text_under}
use Rattle.lra_rewrite.specs.Texts.{other_text}

-- the members with the text under a key replaced by the one that it means (RFC 8259, section 4), if that is another;
-- all other members stay
abbrev pub other_members : List ℕ → List (List ℕ) → List ℕ → Members → Option Members
other_members base olders key ms = option_map (λ text. put key (string text) ms)
    (option_and_then (other_text base olders) (text_under key ms))

-- the members that a body with an identifier under a key means, if those are others
unfoldable pub other_at : List ℕ → List (List ℕ) → List ℕ → List ℕ → Option Members
other_at base olders key body = option_and_then (other_members base olders key) (object_in body)

-- the members that the body of a request for an operation means, if those are others
abbrev pub other_body : List ℕ → List (List ℕ) → Result Operation ApiError → List ℕ → Option Members
other_body base olders (Ok r) body = option_and_then (λ key. other_at base olders key body) (identifier_key r)
other_body base olders (Err d) body = None

-- the body of a request for an operation is read: there is an older base, and an identifier may stand in the body
abbrev pub IsRead : List (List ℕ) → Result Operation ApiError → List ℕ → Type 0
IsRead olders asked body = (olders ≢ []) × (body ≢ []) × ((r : Operation) × (asked ≡ Ok r) × IsSome (identifier_key r))
