use Rattle.std.proofs.Common.{sym, ap, ◌≡◌, ◌∙◌, ℕ, List, [], ◌∷◌, Some, inl, inr, ⊎_elim}
use mathlib.Core.Option.{some, some-injective}
use lib.ListN.{get_elem?}
use Rattle.lra_ticket.specs.Rule.{IsHome, IsOut}
use Rattle.lra_ticket.proofs.Keeps.{stand_in_line}
use Rattle.lra_ticket.proofs.lock.TicketLock.into_parts.Goals as goal

pub returns : goal.returns
returns g c = let end = c.close_with-closed.ensures.values.2 in let s = end.0 in let r = end.1.0 in
    let same = sym end.2 ∙ r.atomic_words in
    let next : r.next ≡ c.word-next.result = some-injective _ _ (sym (ap (λ (ws : List ℕ). get_elem? ws 0) same)
    ∙ c.word-next.ensures) in
    let serving : r.serving ≡ c.word-serving.result = some-injective _ _
    (sym (ap (λ (ws : List ℕ). get_elem? ws 1) same) ∙ c.word-serving.ensures) in record {
      state = s;
      orderly = r;
      in_line = stand_in_line g.V.Kept.origin g.V.Kept.history g.V.Kept.lawful _ s r;
      known = (c.args.pass.seat.id, end.1.1);
      atomic_words = r.atomic_words ∙ (λ i. next i ∷ serving i ∷ []);
      slot = ⊎_elim
          (λ (h : IsHome g.V.Kept.origin g.V.Kept.history g.V.Kept.lawful _ r.log s). let value : Some h.value
          ≡ c.take-value.result = some-injective _ _
          (sym (end.4 0 (Some h.value) (ap (λ hs. get_elem? hs 0) h.stored)) ∙ c.take-value.ensures.value) in
          inl (h.stored ∙ (λ i. some (value i) ∷ [])))
          (λ (out : IsOut s). inr out) r.slot;
    }
