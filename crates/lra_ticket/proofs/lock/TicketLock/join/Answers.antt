use Rattle.std.proofs.Common.{rules, sym, ap, subst, ◌≡◌, ◌∙◌, List}
use mathlib.Core.List.{IsPrefix}
use Rattle.lra_model.specs.declared.entry.Entry.{Entry}
use Rattle.lra_ticket.specs.History.{longer}
use Rattle.lra_ticket.proofs.Histories.{prefix_refl, longer_of}
use Rattle.lra_ticket.proofs.Keeps.{merges}
use Rattle.lra_ticket.proofs.lock.TicketLock.join.Goals as goal

pub join_seat-requires : goal.join_seat-requires
join_seat-requires g c = (
  search rules,
  search rules,
  search rules,
  search rules,
  merges g.V.Kept.origin g.V.Kept.history g.V.Kept.lawful _ _ _ _ _ _ c.meet-first.result.0.rests
      c.meet-first.result.1.rests,
)

pub returns-clause-seen : goal.returns-clause-seen
returns-clause-seen g c = let a = c.args.first.seat.me.0.seen in let b = c.args.second.seat.me.0.seen in
    let met = c.meet-first.ensures in
    let is : c.join_seat.new.seat.me.0.seen ≡ longer a b = ap (λ m. m.0.seen) c.join_seat.ensures.2
    ∙ (λ i. longer (ap (λ v. v.seen) met.first i) (ap (λ v. v.seen) met.second i)) in
    subst (λ (l : List Entry). IsPrefix a l × IsPrefix b l) (sym is) (longer_of
    (λ (l : List Entry). IsPrefix a l × IsPrefix b l) a b met.in_line (λ p. (p, prefix_refl b))
    (λ p. (prefix_refl a, p)))
