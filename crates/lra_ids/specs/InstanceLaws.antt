-- An identifier is of one instance alone.
use Rattle.std.specs.Prelude.{◌≡◌, ◌<◌, ◌^◌, ℕ, List, Some}
use Rattle.lra_ids.specs.Identifiers.{id_text, action_uri, recovery_uri}
use Rattle.lra_ids.specs.Bearing.{instance_in, instance_at_end}

-- what an identifier is spelled from: an instance and a number
abbrev pub IsBorne : ℕ → ℕ → Type 0
IsBorne i n = (i < 2 ^ 60) × (n < 2 ^ 62)

-- two identifiers of one text are of one instance, and of one number
abbrev pub AreOfOneInstance : Type 0
AreOfOneInstance = (i j n m : ℕ) → IsBorne i n → IsBorne j m → id_text i n ≡ id_text j m → (i ≡ j) × (n ≡ m)

-- the instance that is read from an identifier is its own
abbrev pub AreReadWhole : Type 0
AreReadWhole = (i n : ℕ) → IsBorne i n → instance_in (id_text i n) ≡ Some i

-- so is the one that is read from the URI of an action or the recovery URI of a member, whatever the base
abbrev pub AreReadAtEnds : Type 0
AreReadAtEnds = (i n : ℕ) (base : List ℕ) → IsBorne i n
    → (instance_at_end (action_uri i base n) ≡ Some i) × (instance_at_end (recovery_uri i base n) ≡ Some i)
