-- A clerk and its office.
use Rattle.std.specs.Prelude.{◌≡◌, ℕ, Bool, List, Option, IfSome}
use Rattle.lra_model.specs.History.{History}
use Rattle.lra_ticket.specs.declared.kept.Kept.{Ghosts}
use Rattle.lra_commands.specs.declared.limits.Limits.{Limits}
use Rattle.lra_commands.specs.Counters.{Setting}
use Rattle.lra_office.specs.declared.clerk.Clerk.{Clerk}
use Rattle.lra_office.specs.declared.office.OfficeOf.{OfficeOf}
use Rattle.lra_office.specs.Clerks.{clerk_view, IsClerkOf}
use Rattle.lra_office.specs.Origins.{Origin}
use Rattle.lra_office.specs.Windows.{IsOfficeOf}
use Rattle.lra_opening.specs.Opened.{GoesOn}

-- a clerk belongs to an office, which keeps a copy of what its coordinator was made with
pub record IsAt {X O : Type 0} {g : Ghosts X O} (setting : O → Setting) (covers : O → History → ℕ → Bool)
    (office : OfficeOf X O) (clerk : Clerk X O g) : Type 0 where
  pub known : IsClerkOf office.lock covers clerk
  pub copies : IsOfficeOf (setting (clerk_view clerk).origin) office

-- an office, with its first clerk and these limits, goes on from the bytes that were found at the journal's location,
-- if they are known
pub record IsOpenAt {X : Type 0} {g : Ghosts X Origin} (found : Option (List ℕ)) (base : List ℕ) (limits : Limits)
    (moment : ℕ) (office : OfficeOf X Origin) (clerk : Clerk X Origin g) : Type 0 where
  pub journal : List ℕ
  pub read : IfSome found (λ (bytes : List ℕ). journal ≡ bytes)
  pub had : Option (List ℕ)
  pub goes_on : GoesOn base limits journal moment had office clerk
