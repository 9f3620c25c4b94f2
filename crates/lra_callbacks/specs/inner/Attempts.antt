-- Properties of a callback exchange while its bytes are moved.
use Rattle.std.specs.Prelude.{◌≡◌, ◌⊎◌, ℕ, ◌+◌, List, ◌++◌, take, drop, Option, option_map, unwrap_or, String}
use Rattle.std.specs.Prelude.{string_bytes}
use Rattle.std.specs.Result.{result_unwrap_or}
use Rattle.std.specs.Global.{Global}
use Rattle.std.specs.Io.KnownBytes.{Appends, Consumes}
use Rattle.lra_model.specs.declared.asks.Outcome.{Outcome}
use Rattle.lra_model.specs.declared.asks.Outcome.TheVariants.{Silent}
use Rattle.lra_commands.specs.Errands.{Asking}
use Rattle.lra_courier.specs.Sockets.{socket_text}
use Rattle.lra_courier.specs.Callbacks.{Extra}
use Rattle.lra_courier.specs.Carried.{Carried}
use Rattle.lra_callbacks.specs.Outcomes.{IsForWith}

-- the exchange still asks the same member the same
pub record IsOfSame (old new : Carried) : Type 0 where
  pub kind : new.kind ≡ old.kind
  pub direction : new.direction ≡ old.direction
  pub request : new.request ≡ old.request

-- the bytes that a stream gained are just the bytes of the request that count as handed out
abbrev pub HandsOut : Carried → Carried → Option (List ℕ) → Option (List ℕ) → Type 0
HandsOut old new before after = (count : ℕ) × (new.advance_by ≡ old.advance_by + count)
    × Appends before after (take count (drop old.advance_by old.request))

-- the bytes that are taken of a response are just those that a stream gave; none are taken if memory is refused for
-- them
abbrev pub TakesIn : Carried → Carried → Option (List ℕ) → Option (List ℕ) → Type 0
TakesIn old new before after = (bytes : List ℕ) × Consumes before after bytes
    × ((new.taken ≡ old.taken ++ bytes) ⊎ (new.taken ≡ old.taken))

-- the outcome of a callback exchange is the one that came of it, and silence if none did
abbrev pub outcome_of : Carried → Outcome
outcome_of c = unwrap_or (option_map (λ told. result_unwrap_or told Silent) c.came) Silent

-- the exchange is the callback of an errand with these extra fields, and goes to the host and port of the errand's
-- address
pub record Goes (extra : Extra) (carried : Carried) (socket : String Global) (errand : Asking) : Type 0 where
  pub own : IsForWith extra carried errand
  pub to : string_bytes socket ≡ socket_text errand.address
