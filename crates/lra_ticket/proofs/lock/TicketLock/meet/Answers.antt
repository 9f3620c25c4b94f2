use Rattle.std.proofs.Common.{rules, ap, refl, subst, ◌∙◌, ◌≡◌, ℕ, List, Option}
use Rattle.lra_model.specs.declared.entry.Entry.{Entry}
use Rattle.lra_ticket.specs.declared.view.Place.TheVariants.{Paired}
use Rattle.lra_ticket.specs.declared.view.View.{View}
use Rattle.lra_ticket.specs.inner.Steps.{Hand, IsMet, paired}
use Rattle.lra_ticket.proofs.Keeps.{pairs, compares, parts}
use Rattle.lra_ticket.proofs.lock.TicketLock.meet.Goals as goal

pub join_seat-requires : goal.join_seat-requires
join_seat-requires g c = (
  search rules,
  search rules,
  search rules,
  search rules,
  pairs g.V.Kept.origin g.V.Kept.history g.V.Kept.lawful _ _ _ _ _ _ c.args.first.rests c.args.second.rests,
)

pub load-requires : goal.load-requires
load-requires g c = (search rules, search rules, compares g.V.Kept.origin g.V.Kept.history g.V.Kept.lawful _ _ _ _)

pub split_seat-other-requires : goal.split_seat-other-requires
split_seat-other-requires g c = (
  search rules,
  search rules,
  parts g.V.Kept.origin g.V.Kept.history g.V.Kept.lawful _ _ _ c.args.second.seat.me.0.number
      c.args.second.seat.me.0.seen (ap (λ m. m.0.place) c.load.ensures.2.0 ∙ ap (λ m. m.0.place) c.join_seat.ensures.2),
)

-- what is told of the view v that also stands for w
told : {X O : Type 0} (m : Hand X O) (v w : View O) (slots : List (ℕ × Option X)) → m ≡ (paired v w, slots)
    → ((k : ℕ) (h : List Entry) → m.0.place ≡ Paired k h → IsMet m.0 k h) → IsMet v w.number w.seen
told {X = X} {O = O} m v w slots is tells = let met = subst
    (λ (m : Hand X O). (k : ℕ) (h : List Entry) → m.0.place ≡ Paired k h → IsMet m.0 k h) is
    tells w.number w.seen refl in
    record { in_line = met.in_line; complete = met.complete; apart = met.apart }

pub returns-clause-in_line : goal.returns-clause-in_line
returns-clause-in_line g c = (told _ c.args.first.seat.me.0 c.args.second.seat.me.0 _ c.join_seat.ensures.2
    c.load.ensures.2.1).in_line

pub returns-clause-complete : goal.returns-clause-complete
returns-clause-complete g c = (told _ c.args.first.seat.me.0 c.args.second.seat.me.0 _ c.join_seat.ensures.2
    c.load.ensures.2.1).complete

pub returns-clause-apart : goal.returns-clause-apart
returns-clause-apart g c = (told _ c.args.first.seat.me.0 c.args.second.seat.me.0 _ c.join_seat.ensures.2
    c.load.ensures.2.1).apart
