-- Office that a service opens.
use Rattle.std.specs.Prelude.{ℕ, List, [], ◌∷◌, Option}
use Rattle.lra_model.specs.History.{History}
use Rattle.lra_ticket.specs.declared.kept.Kept.{Ghosts}
use Rattle.lra_ticket.specs.Views.{first_view}
use Rattle.lra_commands.specs.Counters.{Setting}
use Rattle.lra_commands.specs.declared.limits.Limits.{Limits}
use Rattle.lra_office.specs.declared.clerk.Clerk.{Clerk}
use Rattle.lra_office.specs.declared.office.OfficeOf.{OfficeOf}
use Rattle.lra_office.specs.Clerks.{clerk_view, IsClerkOf}
use Rattle.lra_office.specs.Enrolled.{IsEnrolled}
use Rattle.lra_office.specs.Made.{new_origin}
use Rattle.lra_office.specs.Origins.{Origin}
use Rattle.lra_office.specs.Positions.{has_text}
use Rattle.lra_office.specs.Reopened.{IsFrontOf, IsReopened}
use Rattle.lra_office.specs.Windows.{IsOfficeOf}
use Rattle.lra_office.specs.Wholes.{whole_lines}

-- a new office of an origin, and its first clerk, which is enrolled
pub record IsBegun {X : Type 0} {g : Ghosts X Origin} (o : Origin) (moment : ℕ) (office : OfficeOf X Origin)
    (clerk : Clerk X Origin g) : Type 0 where
  pub known : IsClerkOf office.lock has_text clerk
  pub copies : IsOfficeOf o.setting office
  pub enrolled : IsEnrolled o.setting (first_view 0 o []) moment clerk.number (clerk_view clerk)

-- the office of a journal's bytes, at a base and with these limits, and its first clerk; the writer had accepted these
-- other bytes before. The office goes on from just the whole lines. If the journal has no bytes, the office is new, and
-- its instance is the moment (this project's choice).
abbrev pub GoesOn : {X : Type 0} {g : Ghosts X Origin} → List ℕ → Limits → List ℕ → ℕ → Option (List ℕ)
    → OfficeOf X Origin → Clerk X Origin g → Type 0
GoesOn base limits [] moment had office clerk = IsBegun (new_origin moment base limits had) moment office clerk
GoesOn base limits (b ∷ bs) moment had office clerk =
    (g : Setting) × (J : History) × IsFrontOf base limits (whole_lines (b ∷ bs)) g J
    × IsReopened (record { setting = g; front = whole_lines (b ∷ bs); had = had }) J moment office clerk
