-- Where a clerk's position stands after a call.
use Rattle.std.specs.Prelude.{◌≡◌, ℕ, Bool, IsTrue, Result, Ok, Err}
use Rattle.lra_model.specs.History.{History}
use Rattle.lra_ticket.specs.declared.view.View.{View}
use Rattle.lra_office.specs.declared.fault.OfficeRefusal.{OfficeRefusal}
use Rattle.lra_office.specs.declared.fault.OfficeRefusal.TheVariants.{Refused, Worn}
use Rattle.lra_office.specs.declared.fault.TryRefusal.{TryRefusal}
use Rattle.lra_office.specs.declared.fault.TryRefusal.TheVariants as try

-- the position after something was given: it covers all that is seen then; where no ticket was left it is as it was,
-- as is what is seen
abbrev pub IsPlaced : {O T : Type 0} → (O → History → ℕ → Bool) → Result T OfficeRefusal → View O → ℕ → ℕ → Type 0
IsPlaced covers (Ok t) w before after = IsTrue (covers w.origin w.seen after)
IsPlaced covers (Err (Refused r)) w before after = IsTrue (covers w.origin w.seen after)
IsPlaced covers (Err Worn) w before after = after ≡ before

-- the same of what doesn't wait for the lock
abbrev pub IsTriedAt : {O T : Type 0} → (O → History → ℕ → Bool) → Result T TryRefusal → View O → ℕ → ℕ → Type 0
IsTriedAt covers (Ok t) w before after = IsTrue (covers w.origin w.seen after)
IsTriedAt covers (Err (try.Refused r)) w before after = IsTrue (covers w.origin w.seen after)
IsTriedAt covers (Err try.Busy) w before after = after ≡ before
IsTriedAt covers (Err try.Worn) w before after = after ≡ before
