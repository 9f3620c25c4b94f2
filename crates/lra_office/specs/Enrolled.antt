-- What an enrolled clerk is.
use Rattle.std.specs.Prelude.{◌≡◌, ℕ, [], None}
use Rattle.lra_ticket.specs.declared.view.View.{View}
use Rattle.lra_ticket.specs.History.{entries_by}
use Rattle.lra_commands.specs.declared.command.Command.TheVariants.{Enrol}
use Rattle.lra_commands.specs.declared.command.Told.TheVariants.{Clerk}
use Rattle.lra_commands.specs.Calls.{Call}
use Rattle.lra_commands.specs.Counters.{Setting}
use Rattle.lra_office.specs.declared.fault.OfficeRefusal.{OfficeRefusal}
use Rattle.lra_office.specs.Orders.{IsGrown, IsNotGiven}

-- the call by which a clerk enrols
abbrev pub enrolment : ℕ → Call
enrolment moment = record { by = 0; moment = moment; command = Enrol }

-- a clerk was enrolled by a call that met a history, under a number that no entry of it bears
pub record IsEnrolled {O : Type 0} (g : Setting) (v : View O) (moment number : ℕ) (w : View O) : Type 0 where
  pub grown : IsGrown g v (enrolment moment) (Clerk number) None w
  pub fresh : entries_by number grown.history ≡ []

-- a clerk wasn't enrolled, for a reason that the call met; its pass is gone
abbrev pub IsNotEnrolled : {O : Type 0} → Setting → View O → ℕ → OfficeRefusal → Type 0
IsNotEnrolled {O} g v moment refusal = (w : View O) × IsNotGiven g v (enrolment moment) refusal w
