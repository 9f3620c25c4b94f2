-- The requests that are let in.
use Rattle.std.specs.Prelude.{ℕ, ◌==◌, Bool, true, false, not, if◌then◌else◌, List, length, Option, Some, None}
use Rattle.std.specs.Prelude.{option_map, option_and_then}
use Rattle.std.specs.Option.{option_map_or}
use Rattle.lra_wire.specs.Request.{Fields}
use Rattle.lra_front.specs.declared.api_error.ApiError.{ApiError}
use Rattle.lra_front.specs.declared.api_error.ApiError.TheVariants as api_error
use Rattle.lra_admission.specs.declared.latest.Admission.{Admission}
use Rattle.lra_admission.specs.Keys.{digests_of, is_known, secret_in}
use Rattle.lra_admission.specs.Names.{is_own_host, is_own_origin}

-- the rules in force: the digests of the keys, if keys are asked for, and the names of hosts, if there are any
pub record Rules : Type 0 where
  pub keys : Option (List (List ℕ))
  pub names : List (List ℕ)

-- the same, for the rules in memory
abbrev pub rules_of : Admission → Rules
rules_of admission = record {
  keys = option_map (λ keys. digests_of keys.now) admission.keys;
  names =
      admission.names.now;
}

-- a value of Authorization, if there is one, gives a secret that is known
abbrev pub has_key : List (List ℕ) → Option (List ℕ) → Bool
has_key digests authorization = option_map_or (is_known digests) (option_and_then secret_in authorization) false

-- keys are asked for, and none that is known is given
abbrev pub lacks_key : Option (List (List ℕ)) → Option (List ℕ) → Bool
lacks_key None authorization = false
lacks_key (Some digests) authorization = not (has_key digests authorization)

-- a value of Host, if there is one, is one of the names
abbrev pub has_host : List (List ℕ) → Option (List ℕ) → Bool
has_host names host = option_map_or (is_own_host names) host false

-- a value of Origin, if there is one, is of one of the names
abbrev pub has_origin : List (List ℕ) → Option (List ℕ) → Bool
has_origin names origin = option_map_or (is_own_origin names) origin true

-- why a request with these fields isn't let in, if it isn't (this project's choice): first its key is checked, then, if
-- there are names, its host and its origin
abbrev pub api_error_of : Rules → Fields → Option ApiError
api_error_of rules fields =
    if lacks_key rules.keys fields.authorization then Some api_error.WrongKey
    else if length rules.names == 0 then None
    else if not (has_host rules.names fields.host) then Some api_error.WrongHost
    else if not (has_origin rules.names fields.origin) then Some api_error.WrongOrigin
    else None
