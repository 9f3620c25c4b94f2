-- What is remembered of callbacks.
use Rattle.std.specs.Prelude.{◌≡◌, ◌≢◌, ℕ, ◌+◌, ◌-◌, ◌^◌, Bool, List, Option, if◌then◌else◌, min}
use Rattle.std.specs.Prelude.{nat_eq, option_map, string_bytes}
use Rattle.std.specs.HashMap.{HashMap, get}
use Rattle.std.specs.declared.hash.FoldHasher.{FoldHasher}
use Rattle.std.specs.declared.hash.BuildHasherDefault.{BuildHasherDefault}
use Rattle.lra_outcomes.specs.declared.attempt.Attempt.{Attempt}
use Rattle.lra_outcomes.specs.declared.reply.Reply.{Reply}

-- a callback, with the bytes of its address
pub record Seen : Type 0 where
  pub address : List ℕ
  pub reply : Reply
  pub moment : ℕ

-- a callback at an address, its outcome, and the moment of that
abbrev pub seen : List ℕ → Reply → ℕ → Seen
seen address reply moment = record { address = address; reply = reply; moment = moment }

-- what a contract sees of a callback that is remembered
abbrev pub seen_of : Attempt → Seen
seen_of attempt = seen (string_bytes attempt.address) attempt.reply attempt.moment

-- the number of callbacks that found no room, one more where the next finds none: the greatest number stays
abbrev pub dropped_after : Bool → ℕ → ℕ
dropped_after found dropped = if found then dropped else min (dropped + 1) (2 ^ 64 - 1)

-- callbacks by member
abbrev pub Noted : Type 0
Noted = HashMap ℕ Attempt (BuildHasherDefault FoldHasher)

-- a member's callback, where one is remembered
abbrev pub at : Noted → ℕ → Option Attempt
at noted member = get nat_eq noted member

-- the same is remembered of all members but one
abbrev pub OthersStay : Noted → Noted → ℕ → Type 0
OthersStay old new member = (other : ℕ) → other ≢ member → at new other ≡ at old other

-- the first is a copy of the second, or both are none
abbrev pub IsCopy : Option Attempt → Option Attempt → Type 0
IsCopy copy attempt = option_map seen_of copy ≡ option_map seen_of attempt
