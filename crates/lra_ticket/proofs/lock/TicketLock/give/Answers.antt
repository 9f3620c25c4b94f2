use Rattle.std.proofs.Common.{rules, sym, ap, refl, subst, ◌≡◌, ◌∙◌, ◌+◌, ℕ, [], ◌∷◌, Some}
use mathlib.Core.Option.{none}
use Rattle.atomic_table.specs.Table.{Allows, step, rest}
use Rattle.lra_ticket.specs.History.{block_after, entries_by, number_after}
use Rattle.lra_ticket.specs.Rule.{IsOrderly}
use Rattle.lra_ticket.specs.inner.Steps.{Hand, gave}
use Rattle.lra_ticket.specs.Views.{is_resting, given, IsComplete}
use Rattle.lra_ticket.proofs.Histories.{entries_by-given, whole}
use Rattle.lra_ticket.proofs.Keeps.{gives_back}
use Rattle.lra_ticket.proofs.lock.TicketLock.give.Goals as goal

pub store-requires : goal.store-requires
store-requires g c = let held = c.args.held in let t : ℕ = held.ticket in
    let slots : ℕ = c.args.self.now.table.shared.table_id.slots in let seat = c.put_in.new.seat in (
      search rules,
      search rules,
      subst (λ (m : Hand g.row.V.Denot g.row.V-Origin.Denot).
          Allows (IsOrderly g.V.Kept.origin g.V.Kept.history g.V.Kept.lawful
          (g.V.Kept.origin c.args.self.now.table.shared.key.first.value)) slots seat.id m 1 (λ _. t + 1)
          (λ _. gave g.V.Kept.history (step slots 1 (t + 1) 0 none) m (t + 1)))
          (sym c.put_in.ensures.seat)
          (gives_back g.V.Kept.origin g.V.Kept.history g.V.Kept.lawful _ slots seat.id
          (held.seat.me.0, (0, Some c.args.value) ∷ []) t c.args.value held.holds held.small refl c.requires.lawful
          g.V.Kept.from_one
          c.requires.origin c.requires.extends c.requires.own),
    )

pub invariant_of-result : goal.invariant_of-result
invariant_of-result g c = let held = c.args.held in let h = g.V.Kept.history in let value = c.args.value in
    let v = held.seat.me.0 in
    let block = block_after v.seen (h value) in let front = whole v.seen (h value) c.requires.extends in
    let told = subst (λ (m : Hand g.row.V.Denot g.row.V-Origin.Denot). (x : g.row.V.Denot) → m.1 ≡ (0, Some x)
    ∷ rest m.1 → c.store.new.seat.me ≡ (given m.0 (h x), rest m.1)) c.put_in.ensures.seat c.store.ensures.2 in
    let after : c.store.new.seat.me ≡ (given v (h value), []) = told value refl in record {
      rests = ap (λ m. is_resting m.0.place) after;
      empty = ap (λ m. m.1) after;
      complete = subst IsComplete (sym (ap (λ m. m.0) after)) (
        entries_by-given v.number v.seen block v.mine c.requires.own held.complete.0 held.complete.1
            ∙ ap (entries_by (number_after v.number block)) front,
        g.V.Kept.from_one value c.requires.lawful,
      );
    }
