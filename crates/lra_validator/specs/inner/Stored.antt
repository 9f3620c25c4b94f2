-- When addresses fit.
use Rattle.std.specs.Prelude.{◌≡◌, ◌≢◌, ℕ, Bool, true, false, Result, Ok, Err, ◌&&◌, ◌||◌, List, Option, is_some}
use Rattle.std.specs.Prelude.{is_none}
use Rattle.std.specs.Option.{option_map_or}
use Rattle.std.specs.Result.{is_ok}
use Rattle.lra_model.specs.Addresses.{Addresses}
use Rattle.lra_model.specs.Tests.{addresses_fit}
use Rattle.lra_ids.specs.Addresses.{address_of}
use Rattle.lra_commands.specs.declared.refusal.Refusal.{Refusal}
use Rattle.lra_commands.specs.declared.refusal.Refusal.TheVariants as refusal
use Rattle.lra_commands.specs.Deeds.{stored_addresses}

-- whether a text stands for an address
abbrev pub reads : List ℕ → Bool
reads text = is_ok (address_of text)

-- whether a text that may be there stands for an address
abbrev pub is_readable : Option (List ℕ) → Bool
is_readable text = option_map_or reads text true

-- whether there are the addresses that a member has to have
abbrev pub has_enough : Addresses → Bool
has_enough u = is_some u.compensate || (is_some u.after && is_none u.complete && is_none u.status && is_none u.forget)

-- whether a member may have these addresses
abbrev pub are_readable : Addresses → Bool
are_readable u = addresses_fit reads u

-- the result of reading a member's addresses: as they are stored, or that they don't fit, unless memory ran out
abbrev pub IsReading : Addresses → Result Addresses Refusal → Type 0
IsReading u (Ok own) = (own ≡ stored_addresses u) × (are_readable u ≡ true)
IsReading u (Err r) = r ≢ refusal.Memory → (r ≡ refusal.BadAddresses) × (are_readable u ≡ false)
