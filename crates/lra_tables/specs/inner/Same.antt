-- Members that have the same addresses.
use Rattle.std.specs.Prelude.{ℕ, Bool, false, ◌==◌, ◌&&◌, not}
use Rattle.std.specs.Option.{option_map_or}
use Rattle.lra_model.specs.Addresses.{Addresses}
use Rattle.lra_model.specs.Words.{has_gone}
use Rattle.lra_model.specs.History.{History}
use Rattle.lra_model.specs.Joins.{same_addresses}
use Rattle.lra_rows.specs.declared.found.MemberRow.{MemberRow}
use Rattle.lra_rows.specs.Found.{found_member, found_addresses}

-- whether a member of the action is there, hasn't left, and has these addresses
abbrev pub found_same : History → ℕ → Addresses → ℕ → Bool
found_same J a u p =
    option_map_or (λ (r : MemberRow). (r.action == a) && not (has_gone r.status)) (found_member J p) false
    && option_map_or (λ w. same_addresses w u) (found_addresses J p) false
