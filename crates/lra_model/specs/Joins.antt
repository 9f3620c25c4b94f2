-- The member that has joined an action with the same addresses before.
use Rattle.std.specs.Prelude.{ℕ, Bool, true, false, ◌&&◌, not, List, Option, Some, None}
use Rattle.std.specs.List.{find}
use Rattle.std.specs.Str.{bytes_eq}
use Rattle.lra_model.specs.Addresses.{Addresses}
use Rattle.lra_model.specs.History.{History}
use Rattle.lra_model.specs.Actions.{members_of}
use Rattle.lra_model.specs.Members.{addresses_of, has_left}

-- whether two addresses are the same, or both absent (this project's choice)
abbrev pub same_address : Option (List ℕ) → Option (List ℕ) → Bool
same_address (Some a) (Some b) = bytes_eq a b
same_address None None = true
same_address _ _ = false

-- whether two members have the same five addresses (this project's choice)
abbrev pub same_addresses : Addresses → Addresses → Bool
same_addresses u w =
    same_address u.compensate w.compensate && same_address u.complete w.complete && same_address u.status w.status
    && same_address u.forget w.forget && same_address u.after w.after

-- the least member of an action that has not left and has these addresses already: a join with them again returns it
-- (this project's choice)
unfoldable pub already_member : History → ℕ → Addresses → Option ℕ
already_member J a u = find (λ p. not (has_left J p) && same_addresses (addresses_of J p) u) (members_of J a)
