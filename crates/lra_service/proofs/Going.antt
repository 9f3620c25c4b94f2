-- Office of a journal that an opening was fed.
use Rattle.std.proofs.Common.{◌≡◌, ℕ, List, Option, subst}
use Rattle.lra_ticket.specs.declared.kept.Kept.{Ghosts}
use Rattle.lra_commands.specs.declared.limits.Limits.{Limits}
use Rattle.lra_core.specs.Fed.{Fed, IsFed}
use Rattle.lra_office.specs.declared.clerk.Clerk.{Clerk}
use Rattle.lra_office.specs.declared.office.OfficeOf.{OfficeOf}
use Rattle.lra_office.specs.Origins.{Origin}
use Rattle.lra_opening.specs.Opened.{GoesOn}
use Rattle.lra_opening.specs.Places.{IsRead}
use Rattle.lra_service.specs.inner.Opened.{IsOpenAt}

-- the office goes on from the bytes that were found, at the base and with the limits that are wanted
pub open_at : {X : Type 0} {k : Ghosts X Origin} (found : Option (List ℕ)) (wanted base : List ℕ) (most limits : Limits)
    (moment : ℕ) (o : Fed) (had : Option (List ℕ)) (office : OfficeOf X Origin) (clerk : Clerk X Origin k)
    → base ≡ wanted → limits ≡ most → IsRead found o → ((b : List ℕ) → IsFed b o
    → GoesOn base limits b moment had office clerk) → IsOpenAt found wanted most moment office clerk
open_at found wanted base most limits moment o had office clerk e f read goes = record {
  journal = read.bytes;
  read = read.all;
  had = had;
  goes_on = subst (λ (b : List ℕ). GoesOn b most read.bytes moment had office clerk) e
      (subst (λ (l : Limits). GoesOn base l read.bytes moment had office clerk) f (goes read.bytes read.fed));
}
