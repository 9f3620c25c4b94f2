-- Office of a journal that an opening was fed.
use Rattle.std.proofs.Common.{◌≡◌, ℕ, List, [], ◌∷◌, Option, refl, sym, subst}
use Rattle.lra_model.specs.History.{History}
use Rattle.lra_ticket.specs.declared.kept.Kept.{Ghosts}
use Rattle.lra_commands.specs.Counters.{Setting}
use Rattle.lra_commands.specs.declared.limits.Limits.{Limits}
use Rattle.lra_office.specs.declared.clerk.Clerk.{Clerk}
use Rattle.lra_office.specs.declared.office.OfficeOf.{OfficeOf}
use Rattle.lra_office.specs.Made.{new_origin}
use Rattle.lra_office.specs.Origins.{Origin}
use Rattle.lra_office.specs.Reopened.{IsFrontOf, IsReopened}
use Rattle.lra_office.specs.Wholes.{whole_lines}
use Rattle.lra_opening.specs.Opened.{IsBegun, GoesOn}

-- if the journal has no bytes, the office is new
pub begun_of : {X : Type 0} {k : Ghosts X Origin} (base : List ℕ) (limits : Limits) (bytes : List ℕ) (moment : ℕ)
    (had : Option (List ℕ)) (office : OfficeOf X Origin) (clerk : Clerk X Origin k) → bytes ≡ []
    → IsBegun (new_origin moment base limits had) moment office clerk → GoesOn base limits bytes moment had office clerk
begun_of base limits bytes moment had office clerk none h = subst (λ (b : List ℕ). GoesOn base limits b moment had
    office clerk) (sym none) h

-- otherwise the office goes on from the whole lines
pub goes_on : {X : Type 0} {k : Ghosts X Origin} (base : List ℕ) (limits : Limits) (bytes front : List ℕ) (moment : ℕ)
    (had : Option (List ℕ)) (office : OfficeOf X Origin) (clerk : Clerk X Origin k) → (bytes ≡ [] → ⊥)
    → whole_lines bytes ≡ front → (g : Setting) × (J : History) × IsFrontOf base limits front g J
    × IsReopened (record { setting = g; front = front; had = had }) J moment office clerk
    → GoesOn base limits bytes moment had office clerk
goes_on base limits [] front moment had office clerk some e h = absurd (some refl)
goes_on base limits (b ∷ bs) front moment had office clerk some e h =
    subst (λ (f : List ℕ). (g : Setting) × (J : History) × IsFrontOf base limits f g J
    × IsReopened (record { setting = g; front = f; had = had }) J moment office clerk) (sym e) h
