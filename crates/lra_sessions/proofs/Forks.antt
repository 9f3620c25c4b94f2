-- A fork is of its session's office.
use Rattle.std.proofs.Common.{◌≡◌, ℕ, sym, ap, ◌∙◌, subst}
use Rattle.lra_ticket.specs.declared.view.View.{View}
use Rattle.lra_ticket.specs.Views.{newcomer}
use Rattle.lra_commands.specs.Counters.{Setting}
use Rattle.lra_office.specs.declared.office.OfficeOf.{OfficeOf}
use Rattle.lra_office.specs.Enrolled.{IsEnrolled}
use Rattle.lra_office.specs.Windows.{IsOfficeOf}

-- the clerk that is enrolled is of the same origin
pub forked : {X O : Type 0} (set : O → Setting) (o : OfficeOf X O) (v w : View O) (m n : ℕ)
    → IsOfficeOf (set v.origin) o → IsEnrolled (set v.origin) (newcomer v) m n w
    → IsOfficeOf (set w.origin) o
forked set o v w m n made h = subst (λ (x : _). IsOfficeOf (set x) o) (sym
    (ap (λ (u : View _). u.origin) h.grown.after)) made
