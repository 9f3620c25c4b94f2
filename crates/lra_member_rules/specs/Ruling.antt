-- Joins that are outside the rules.
use Rattle.std.specs.Prelude.{◌≡◌, ◌≢◌, ℕ, Bool, true, false, not, ◌&&◌, ◌==◌, List, [], ◌++◌, length, codes, Option}
use Rattle.std.specs.Prelude.{unwrap_or, Result, Ok}
use Rattle.std.specs.Option.{option_map_or}
use Rattle.std.specs.Result.{result_ok}
use Rattle.lra_ids.specs.Addresses.{address_of, authority_of, port_of}
use Rattle.lra_model.specs.Addresses.{Addresses}
use Rattle.lra_rules.specs.Texts.{host_in}
use Rattle.lra_rules.specs.Rules.{let_host}
use Rattle.lra_wire.specs.Request.{Request}
use Rattle.lra_commands.specs.declared.refusal.Refusal.{Refusal}
use Rattle.lra_commands.specs.declared.refusal.Refusal.TheVariants as refusal
use Rattle.lra_front.specs.declared.operation.Operation.{Operation}
use Rattle.lra_front.specs.declared.operation.Operation.TheVariants as operation
use Rattle.lra_front.specs.declared.api_error.ApiError.{ApiError}
use Rattle.lra_front.specs.Routes.{operation_of}
use Rattle.lra_front.specs.Bodies.{body_of, addresses_given}

-- ---- addresses

-- the host of an address: its authority without the port, if that names one (RFC 9110, section 7.2); a user's name and
-- password are no part of either
abbrev pub host_of : List ℕ → List ℕ
host_of address = option_map_or (λ _. host_in (authority_of address)) (port_of address) (authority_of address)

-- host, `:` and port of an address, by which its socket is found (`socket_text` of `lra_courier`)
abbrev pub socket_of : List ℕ → List ℕ
socket_of address = option_map_or (λ _. authority_of address) (port_of address) (authority_of address ++ codes ":80")

-- the rules let an address: its host, at its port, which is 80 if it names none (RFC 9110, section 4.2.1)
abbrev pub lets : List (List ℕ) → List ℕ → Bool
lets rules address = let_host rules (host_of address) (unwrap_or (port_of address) 80)

-- the rules let a text: the address that it stands for; one that stands for none is refused elsewhere
abbrev pub is_let : List (List ℕ) → List ℕ → Bool
is_let rules text = option_map_or (lets rules) (result_ok (address_of text)) true

-- the same, if there is a text
abbrev pub is_let_if : List (List ℕ) → Option (List ℕ) → Bool
is_let_if rules text = option_map_or (is_let rules) text true

-- the rules let each of a member's addresses
abbrev pub are_let : List (List ℕ) → Addresses → Bool
are_let rules u =
    is_let_if rules u.compensate && is_let_if rules u.complete && is_let_if rules u.status && is_let_if rules u.forget
    && is_let_if rules u.after

-- ---- requests

-- a body is that of a join, and has an address that the rules don't let
abbrev pub is_outside_by : List (List ℕ) → List ℕ → Bool
is_outside_by rules body = option_map_or (λ ms. not (are_let rules (addresses_given ms))) (body_of operation.Join body)
    false

-- an operation is a join
abbrev pub joins : Result Operation ApiError → Bool
joins (Ok operation.Join) = true
joins _ = false

-- a request asks to join
abbrev pub is_join : Request → Bool
is_join request = joins (operation_of request.method request.target)

-- there are rules, and a request asks to join outside them
abbrev pub is_outside : List (List ℕ) → Request → Bool
is_outside rules request = not (length rules == 0) && is_join request && is_outside_by rules request.body

-- Why a request is refused: it asks to join outside the rules; or memory was refused in reading it, while there are
-- rules and it asks to join.
abbrev pub IsRefusedBy : List (List ℕ) → Request → Refusal → Type 0
IsRefusedBy rules request refusal.BadAddresses = is_outside rules request ≡ true
IsRefusedBy rules request refusal.Memory = (rules ≢ []) × (is_join request ≡ true)
IsRefusedBy rules request _ = ⊥
