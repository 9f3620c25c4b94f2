-- Base of the identifiers that a service gives, and the address that it serves.
use Rattle.std.specs.Prelude.{◌≡◌, ◌⊎◌, ℕ, List, ◌++◌, Option, codes, decimal, unwrap_or}
use Rattle.lra_ids.specs.Bases.{base_text}

-- the base of the identifiers: one of their own if one is wanted, and otherwise `http://`, the address that is served
-- and `/`
abbrev pub base_served : Option (List ℕ) → List ℕ → List ℕ
base_served own address = unwrap_or own (base_text address)

-- the address that is served for a given one: the given one, or, if its port is 0, the same host with a port that the
-- system chose (this project's choice)
abbrev pub IsBoundAddressOf : List ℕ → List ℕ → Type 0
IsBoundAddressOf address bound_address = (bound_address ≡ address)
    ⊎ ((host : List ℕ) × (port : ℕ) × (address ≡ host ++ codes ":0")
    × (bound_address ≡ host ++ codes ":" ++ decimal port))
