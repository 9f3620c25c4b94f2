use Rattle.std.proofs.Common.{◌≡◌, [], Option, Some, sym, subst}
use Rattle.std.specs.Option.{option_map_or}
use Rattle.lra_ticket.specs.declared.kept.Kept.{Ghosts}
use Rattle.lra_ticket.specs.declared.lock.Pass.{Pass}
use Rattle.lra_ticket.specs.declared.view.Place.TheVariants.{Idle}
use Rattle.lra_ticket.specs.declared.view.View.{View}
use Rattle.lra_ticket.specs.History.{Comparable}
use Rattle.lra_ticket.specs.Locks.{pass_view}
use Rattle.lra_ticket.specs.Views.{view}
use Rattle.lra_office.proofs.office.OfficeOf.meet.Goals as goal

-- what is seen by a pass, where there is one
abbrev seen_by : {X O : Type 0} {g : Ghosts X O} → Option (Pass X O g) → View O
seen_by {g = g} pass = option_map_or (λ (p : Pass _ _ _). pass_view p) pass (view 0 g.blank [] [] 0 Idle)

in_line : {X O : Type 0} {g : Ghosts X O} (first second : Option (Pass X O g)) (one other : Pass X O g)
    → first ≡ Some one → second ≡ Some other → Comparable (pass_view one).seen (pass_view other).seen
    → Comparable (seen_by first).seen (seen_by second).seen
in_line first second one other a b line =
    subst (λ p. Comparable (seen_by p).seen (seen_by second).seen) (sym a)
    (subst (λ p. Comparable (pass_view one).seen (seen_by p).seen) (sym b) line)

pub returns-clause-in_line : goal.returns-clause-in_line
returns-clause-in_line g c =
    let first : c.args.first.now.pass ≡ Some c.in-Some-Some.one = cc in
    let second : c.args.second.now.pass ≡ Some c.in-Some-Some.other = cc in
    in_line _ _ _ _ first second c.meet-one.ensures.in_line
