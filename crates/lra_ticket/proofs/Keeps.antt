-- Each step keeps the rule of the lock.
use Rattle.std.proofs.Common.{◌≡◌, ◌≢◌, ◌⊎◌, ℕ, zero, suc, ◌+◌, ◌^◌, ◌<◌, ◌≤◌, Bool, true, cond, eqb, List, [], ◌∷◌}
use Rattle.std.proofs.Common.{◌++◌, get_or, set, sym, refl, ap, ◌∙◌, subst, ⊎_elim, inl, inr, arith, Option, Some}
use Rattle.std.proofs.Common.{eq-eqb, ne_eqb}
use Rattle.std.specs.List.{AllByRecursion, slice_get, sum_by}
use Rattle.std.proofs.lemmas.List.{append-nil}
use Rattle.std.proofs.lemmas.List.Sums.{sum_by_push}
use mathlib.Core.List.{IsPrefix}
use mathlib.Core.Logic.{dite}
use mathlib.Core.Option.{none, some, some-injective, some-ne-none}
use mathlib.Core.Option as maybe
use native.Mathlib.Decide.{ℕ_discrete}
use lib.ListN.{get_elem?}
use prog.Atomic.{either}
use Rattle.atomic_table.specs.Table.{State, step, rest, Act, keeps, takes, gives, Valid, carried_after, stepped, Allows}
use Rattle.atomic_table.specs.Table.{Splits, Joins}
use Rattle.atomic_table.proofs.Lists.{at_set, set_else, set_again, at_snoc, exchanged}
use Rattle.lra_model.specs.declared.entry.Entry.{Entry}
use Rattle.lra_ticket.specs.declared.view.Place.{Place}
use Rattle.lra_ticket.specs.declared.view.Place.TheVariants.{Idle, Looked, Waiting, Holding, Peeked, Missed, Paired}
use Rattle.lra_ticket.specs.declared.view.Place.TheVariants.{Spent}
use Rattle.lra_ticket.specs.declared.lock.Parts.{Parts}
use Rattle.lra_ticket.specs.declared.view.View.{View}
use Rattle.lra_ticket.specs.History.{entries_by, block_after, longer, number_after, MayAdd}
use Rattle.lra_ticket.specs.Views.{is_resting, has_ticket, holds_lock, Sight, sight, sights_at, sights, bearers, view}
use Rattle.lra_ticket.specs.Views.{moved, newcomer, taking, given}
use Rattle.lra_ticket.specs.inner.Steps.{spent_view, peeking, paired, second, second_at, joined, Hand, Takes, watched}
use Rattle.lra_ticket.specs.inner.Steps.{grabbed, gave, looked, drew, peeked, met}
use Rattle.lra_ticket.specs.Locks.{last_ticket, HasEnded, Suits}
use Rattle.lra_ticket.specs.Rule.{IsPlaced, Fits, Stands, IsHome, IsOut, IsOrderly, IsInLine}
use Rattle.lra_ticket.proofs.Counts.{sum_by-at, term_le, terms_le, some_term, no_terms, set-swap}
use Rattle.lra_ticket.proofs.Histories.{whole, prefix_refl, prefix_trans, in_line, entries_by-between, entries_by-none}
use Rattle.lra_ticket.proofs.Histories.{number_after-kept, number_after-none, entries_by-given, entries_by-others}
use Rattle.lra_ticket.proofs.Histories.{nil_cases, nil_left, nil_right, longer_cases}

abbrev one_if : Bool → ℕ
one_if b = cond b 1 0

-- what a place says stays true as more tickets are drawn
placed_grows : (next next' serving : ℕ) (log seen : List Entry) → next ≤ next' → (p : Place)
    → IsPlaced next serving log seen p → IsPlaced next' serving log seen p
placed_grows next next' serving log seen more Idle h = tt
placed_grows next next' serving log seen more (Looked n) h = omega arith
placed_grows next next' serving log seen more (Waiting t) h = (h.0, omega arith)
placed_grows next next' serving log seen more (Holding t) h = (h.0, omega arith, h.2)
placed_grows next next' serving log seen more (Peeked s) h = h
placed_grows next next' serving log seen more (Missed s n) h = (h.0, omega arith, h.2)
placed_grows next next' serving log seen more (Paired k a) h = tt
placed_grows next next' serving log seen more Spent h = tt

-- and as the next ticket is served, where it is another's
placed_served : (next serving : ℕ) (log log' seen : List Entry) → (p : Place) → has_ticket serving p ≡ 0
    → IsPlaced next serving log seen p → IsPlaced next (serving + 1) log' seen p
placed_served next serving log log' seen Idle other h = tt
placed_served next serving log log' seen (Looked n) other h = h
placed_served next serving log log' seen (Waiting t) other h = dite (ℕ_discrete t serving)
    (λ e. absurd (omega (arith, ap one_if (eq-eqb t serving e)))) (λ n. (omega arith, h.1))
placed_served next serving log log' seen (Holding t) other h = absurd (omega (arith, ap one_if (eq-eqb t serving h.0)))
placed_served next serving log log' seen (Peeked s) other h = omega arith
placed_served next serving log log' seen (Missed s n) other h = (omega arith, h.1, h.2)
placed_served next serving log log' seen (Paired k a) other h = tt
placed_served next serving log log' seen Spent other h = tt

-- the value in the slot that was taken last
abbrev value_or : {X : Type 0} → X → List (ℕ × Option X) → X
value_or d ((k, Some x) ∷ more) = x
value_or d _ = d

module _ {O : Type 0} where
  abbrev own : View O → Sight O
  own v = sight v.number v.origin v.seen v.mine

  -- a view at rest counts as one
  rests_alone : (s : Sight O) (p : Place) → is_resting p ≡ true → sights_at s p ≡ s ∷ []
  rests_alone s Idle e = refl
  rests_alone s (Looked n) e = refl
  rests_alone s (Waiting t) e = refl
  rests_alone s (Holding t) e = refl
  rests_alone s (Peeked t) e = refl
  rests_alone s (Missed t n) e = refl
  rests_alone s (Paired k h) e = absurd (cc)
  rests_alone s Spent e = absurd (cc)

rests_free : (p : Place) → is_resting p ≡ true → holds_lock p ≡ 0
rests_free Idle e = refl
rests_free (Looked n) e = refl
rests_free (Waiting t) e = refl
rests_free (Holding t) e = absurd (cc)
rests_free (Peeked t) e = refl
rests_free (Missed t n) e = refl
rests_free (Paired k h) e = refl
rests_free Spent e = refl

-- what a view at rest has seen says nothing of its place
reseen : (next serving : ℕ) (log seen seen' : List Entry) → (p : Place) → is_resting p ≡ true
    → IsPlaced next serving log seen p → IsPlaced next serving log seen' p
reseen next serving log seen seen' Idle e h = h
reseen next serving log seen seen' (Looked n) e h = h
reseen next serving log seen seen' (Waiting t) e h = h
reseen next serving log seen seen' (Holding t) e h = absurd (cc)
reseen next serving log seen seen' (Peeked s) e h = h
reseen next serving log seen seen' (Missed s n) e h = h
reseen next serving log seen seen' (Paired k a) e h = h
reseen next serving log seen seen' Spent e h = h

ticket_here : (t : ℕ) → one_if (eqb t t) ≡ 1
ticket_here t = ap one_if (eq-eqb t t refl)

-- a ticket that a place has lies between the one that is served and the next one
ticket_between : (next serving : ℕ) (log seen : List Entry) (t : ℕ) (p : Place) → IsPlaced next serving log seen p → 0
    < has_ticket t p → (serving ≤ t) × (t < next)
ticket_between next serving log seen t Idle h has = absurd (omega arith)
ticket_between next serving log seen t (Looked n) h has = absurd (omega arith)
ticket_between next serving log seen t (Waiting u) h has = dite (ℕ_discrete u t)
    (λ e. let a = h.0 in let b = h.1 in (omega arith, omega arith))
    (λ n. absurd (omega (arith, ap one_if (ne_eqb u t n))))
ticket_between next serving log seen t (Holding u) h has = dite (ℕ_discrete u t)
    (λ e. let a = h.0 in let b = h.1 in (omega arith, omega arith))
    (λ n. absurd (omega (arith, ap one_if (ne_eqb u t n))))
ticket_between next serving log seen t (Peeked s) h has = absurd (omega arith)
ticket_between next serving log seen t (Missed s n) h has = absurd (omega arith)
ticket_between next serving log seen t (Paired k a) h has = absurd (omega arith)
ticket_between next serving log seen t Spent h has = absurd (omega arith)

-- the holder of the lock has the ticket that is served
holder_has : (next serving : ℕ) (log seen : List Entry) (p : Place) → IsPlaced next serving log seen p → 0
    < holds_lock p → (has_ticket serving p ≡ 1) × (serving < next)
holder_has next serving log seen Idle h has = absurd (omega arith)
holder_has next serving log seen (Looked n) h has = absurd (omega arith)
holder_has next serving log seen (Waiting u) h has = absurd (omega arith)
holder_has next serving log seen (Holding u) h has = let a = h.0 in let b = h.1 in
    (ap one_if (eq-eqb u serving h.0), omega arith)
holder_has next serving log seen (Peeked s) h has = absurd (omega arith)
holder_has next serving log seen (Missed s n) h has = absurd (omega arith)
holder_has next serving log seen (Paired k a) h has = absurd (omega arith)
holder_has next serving log seen Spent h has = absurd (omega arith)

module _ {X O : Type 0} (origin : X → O) (history : X → List Entry) (lawful : X → Type 0) (o : O) where
  abbrev St : Type 0
  St = State (Option X) (View O)

  abbrev Homes : Type 0
  Homes = List (maybe.Option (Option X))

  abbrev M : Type 0
  M = Hand X O

  abbrev Rule : St → Type 0
  Rule = IsOrderly origin history lawful o

  abbrev tickets : ℕ → View O → ℕ
  tickets t v = has_ticket t v.place

  abbrev numbers : ℕ → View O → ℕ
  numbers n v = bearers n (sights v)

  abbrev holders : View O → ℕ
  holders v = holds_lock v.place

  -- a step of the seat id from v to w, by the words, the slot and the history after it
  steps : (s : St) (r : Rule s) (id : ℕ) (v w : View O) (words' : List ℕ) (homes' : Homes) (next' serving' : ℕ)
      (log' : List Entry) → get_elem? s.views id ≡ some v
      → words' ≡ next' ∷ serving' ∷ [] → serving' ≤ next' → next' < 2 ^ 64 → entries_by 0 log' ≡ []
      → IsHome origin history lawful o log' record { words = words'; homes = homes'; views = set s.views id w }
      ⊎ IsOut {X = X} record { words = words'; homes = homes'; views = set s.views id w }
      → Stands o next' serving' log' w
      → ((j : ℕ) (u : View O) → j ≢ id → get_elem? s.views j ≡ some u → Stands o r.next r.serving r.log u
      → Stands o next' serving' log' u)
      → ((t : ℕ) → sum_by (tickets t) s.views + tickets t w ≤ 1 + tickets t v)
      → ((n : ℕ) → n ≢ 0 → sum_by (numbers n) s.views + numbers n w ≤ 1 + numbers n v)
      → Rule record { words = words'; homes = homes'; views = set s.views id w }
  steps s r id v w words' homes' next' serving' log' at is order fits zeroless slot mine others ticket number = record {
    next = next';
    serving = serving';
    log = log';
    atomic_words = is;
    served = order;
    small = fits;
    slot = slot;
    from_one = zeroless;
    each = λ j u e. ⊎_elim (λ (t : (j ≡ id) × (w ≡ u)). subst (Stands o next' serving' log') t.1 mine)
        (λ (t : (j ≢ id) × (get_elem? s.views j ≡ some u)). others j u t.0 t.1 (r.each j u t.1))
        (at_set s.views id j w u e);
    one_ticket = λ t. let moved-by = sum_by-at (tickets t) s.views id v w at in let bound = ticket t in omega arith;
    one_number = λ n some-n. let moved-by = sum_by-at (numbers n) s.views id v w at in let bound = number n some-n in
        omega arith;
  }

  grown : (r-next next' serving : ℕ) (log : List Entry) → r-next ≤ next' → (u : View O) → Stands o r-next serving log u
      → Stands o next' serving log u
  grown next next' serving log more u h = record {
    placed = placed_grows next next' serving log u.seen more u.place
        h.placed;
    fits = h.fits;
  }

  -- the slot stays as it is
  same_slot : (s : St) (r : Rule s) (id : ℕ) (v w : View O) (words' : List ℕ) → get_elem? s.views id ≡ some v
      → holders w ≡ holders v
      → IsHome origin history lawful o r.log record { words = words'; homes = s.homes; views = set s.views id w }
      ⊎ IsOut {X = X} record { words = words'; homes = s.homes; views = set s.views id w }
  same_slot s r id v w words' at same = let moved-by = sum_by-at holders s.views id v w at in
      ⊎_elim (λ (h : IsHome origin history lawful o r.log s).
      inl record {
        value = h.value;
        stored = h.stored;
        lawful_now = h.lawful_now;
        same_origin = h.same_origin;
        has_log = h.has_log;
        free = let none = h.free in omega arith;
      })
      (λ (h : IsOut s). inr record { empty = h.empty; held = let one = h.held in omega arith }) r.slot

  -- a step that leaves the slot and the history, and may draw tickets
  leaves : (s : St) (r : Rule s) (id : ℕ) (v w : View O) (words' : List ℕ) (next' : ℕ) → get_elem? s.views id ≡ some v
      → words' ≡ next' ∷ r.serving ∷ [] → r.next ≤ next' → next' < 2 ^ 64
      → holders w ≡ holders v → Stands o next' r.serving r.log w → ((t : ℕ) → sum_by (tickets t) s.views + tickets t w
      ≤ 1 + tickets t v) → ((n : ℕ) → numbers n w ≤ numbers n v)
      → Rule record { words = words'; homes = s.homes; views = set s.views id w }
  leaves s r id v w words' next' at is more fits same mine ticket number =
      steps s r id v w words' s.homes next' r.serving r.log at is (let below = r.served in omega arith) fits r.from_one
      (same_slot s r id v w words' at same) mine
      (λ j u other e h. grown r.next next' r.serving r.log more u h) ticket
      (λ n some-n. let bound = r.one_number n some-n in let kept = number n in omega arith)

  -- a load, with this view after it
  abbrev Loads : St → ℕ → ℕ → View O → Type 0
  Loads s i id w = Rule record { words = set s.words i (get_or s.words i 0); homes = s.homes; views = set s.views id w }

  word_again : (s : St) (r : Rule s) (i : ℕ) → set s.words i (get_or s.words i 0) ≡ s.words
  word_again s r i = subst (λ (ws : List ℕ). set ws i (get_or ws i 0) ≡ ws) (sym r.atomic_words) (go i)
    where
      go : (i : ℕ) → set (r.next ∷ r.serving ∷ []) i (get_or (r.next ∷ r.serving ∷ []) i 0) ≡ r.next ∷ r.serving ∷ []
      go zero = refl
      go (suc zero) = refl
      go (suc (suc k)) = refl

  -- a load after which the view is at another place with no ticket
  loads : (s : St) (r : Rule s) (i id : ℕ) (v : View O) (tries : ℕ) (p : Place) → get_elem? s.views id ≡ some v
      → is_resting v.place ≡ true → is_resting p ≡ true
      → ((t : ℕ) → has_ticket t p ≡ 0) → IsPlaced r.next r.serving r.log v.seen p
      → Loads s i id (record v { tries = tries; place = p })
  loads s r i id v tries p at rested rests no-ticket placed = let w : View O = record v { tries = tries; place = p } in
      let h = r.each id v at in let a = rests_alone (own v) v.place rested in let b = rests_alone (own v) p rests in
      subst (λ (ws : List ℕ). Rule record { words = ws; homes = s.homes; views = set s.views id w })
      (sym (word_again s r i))
      (leaves s r id v w s.words r.next at r.atomic_words (omega arith) r.small
      (rests_free p rests ∙ sym (rests_free v.place rested))
      record { placed = placed; fits = subst (AllByRecursion (Fits o r.log)) (a ∙ sym b) h.fits }
      (λ t. let one = r.one_ticket t in let none = no-ticket t in omega arith)
      (λ n. let same = ap (bearers n) (b ∙ sym a) in omega arith))

  unmoved : (s : St) (r : Rule s) (i id : ℕ) (v : View O) → get_elem? s.views id ≡ some v → Loads s i id v
  unmoved s r i id v at =
      subst (λ (x : List ℕ × List (View O)). Rule record { words = x.0; homes = s.homes; views = x.1 })
      (λ k. (sym (word_again s r i) k, sym (set_again s.views id v at) k)) r

  pub looks : (slots id : ℕ) (m : M) → is_resting m.0.place ≡ true → Allows Rule slots id m 0 (λ n. n)
      (looked (step slots 0 0 0 none) m)
  looks slots id m rested s r deep at fits = let n : ℕ = get_or s.words 0 0 in
      let is : n ≡ r.next = ap (λ (ws : List ℕ). get_or ws 0 0) r.atomic_words in (
        moved m.0 (Looked n),
        keeps,
        tt,
        loads s r 0 id m.0 m.0.tries (Looked n) at rested refl (λ t. refl)
            (omega arith),
        refl,
      )

  pub peeks : (slots id : ℕ) (m : M) → is_resting m.0.place ≡ true → Allows Rule slots id m 1 (λ n. n)
      (peeked (step slots 1 0 0 none) m)
  peeks slots id m rested s r deep at fits = let n : ℕ = get_or s.words 1 0 in
      let is : n ≡ r.serving = ap (λ (ws : List ℕ). get_or ws 1 0) r.atomic_words in (
        peeking m.0 n,
        keeps,
        tt,
        loads s r 1 id m.0 (m.0.tries + 1) (Peeked n) at rested refl (λ t. refl) (omega arith),
        refl,
      )

  -- no view has a ticket that was not drawn
  undrawn : (s : St) (r : Rule s) (t : ℕ) → r.next ≤ t → sum_by (tickets t) s.views ≡ 0
  undrawn s r t late = no_terms (tickets t) s.views (λ j u e. dite (ℕ_discrete (tickets t u) 0) (λ z. z)
      (λ n. let b = ticket_between r.next r.serving r.log u.seen t u.place (r.each j u e).placed (omega arith) in
      let low = b.1 in absurd (omega arith)))

  fresh_ticket : (s : St) (r : Rule s) (t : ℕ) → r.next ≡ t → (u : ℕ) → sum_by (tickets u) s.views + one_if (eqb t u)
      ≤ 1
  fresh_ticket s r t is u = dite (ℕ_discrete t u)
      (λ e. let none = undrawn s r u (omega arith) in let one = ap one_if (eq-eqb t u e) in omega arith)
      (λ n. let one = r.one_ticket u in let none = ap one_if (ne_eqb t u n) in omega arith)

  pub draws : (slots id : ℕ) (m : M) (t : ℕ) → m.0.place ≡ Looked t → t + 1 < 2 ^ 64
      → Allows Rule slots id m 0 (λ n. either (eqb n t) (t + 1) n) (drew (step slots 0 t (t + 1) none) m)
  draws slots id m t looked-at small s r deep at fits = let n : ℕ = get_or s.words 0 0 in
      let is : n ≡ r.next = ap (λ (ws : List ℕ). get_or ws 0 0) r.atomic_words in
      let h = r.each id m.0 at in let v = m.0 in let alone : sights v ≡ own v ∷ [] = ap (sights_at (own v)) looked-at in
      let G : ℕ → Type 0 = λ x. (w : View O) × (a : Act (Option X)) × Valid s.homes m.1 a
      × Rule (stepped s 0 x id m.1 w a) × drew (step slots 0 t (t + 1) none) m n (w, carried_after m.1 a) in
      exchanged n t (t + 1) G
      (λ hit. let below = r.served in let free = ap holds_lock looked-at in
      let unticketed = λ (u : ℕ). ap (has_ticket u) looked-at in let drawn = fresh_ticket s r t (sym is ∙ hit) in (
        moved v (Waiting t),
        keeps,
        tt,
        leaves s r id v (moved v (Waiting t)) (set s.words 0 (t + 1)) (t + 1) at
            (ap (λ (ws : List ℕ). set ws 0 (t + 1)) r.atomic_words) (omega arith) small (sym free)
            record { placed = (omega arith, omega arith); fits = subst (AllByRecursion (Fits o r.log)) alone h.fits }
            (λ u. let bound = drawn u in omega arith) (λ k. let same = ap (bearers k) alone in omega arith),
        ((λ _. refl), λ miss. absurd (miss hit)),
      ))
      (λ miss. (v, keeps, tt, unmoved s r 0 id v at, ((λ hit. absurd (miss hit)), λ _. refl)))

  -- the value at home suits each view that counts as one
  suits : (s : St) (r : Rule s) (h : IsHome origin history lawful o r.log s) (id : ℕ) (v : View O)
      → get_elem? s.views id ≡ some v → sights v ≡ own v ∷ [] → Suits origin history lawful v h.value
  suits s r h id v at alone = let f = subst (AllByRecursion (Fits o r.log)) alone (r.each id v at).fits in
      let fit = f.0 in record {
        lawful_now = h.lawful_now;
        same_origin = h.same_origin ∙ sym fit.same_origin;
        begins = subst (IsPrefix v.seen) (sym h.has_log) fit.begins;
        seen_own = sym fit.own;
        own = ap (entries_by v.number) h.has_log ∙ (fit.all_seen ∙ sym fit.own);
        enrolled = fit.enrolled;
      }

  -- the slot goes to the seat, whose ticket is served
  handed : (s : St) (r : Rule s) (h : IsHome origin history lawful o r.log s) (id : ℕ) (v : View O) (t next' : ℕ)
      (words' : List ℕ) → get_elem? s.views id ≡ some v → sights v ≡ own v ∷ []
      → t ≡ r.serving → t < next' → r.next ≤ next' → next' < 2 ^ 64 → words' ≡ next' ∷ r.serving ∷ [] → holders v ≡ 0
      → ((u : ℕ) → sum_by (tickets u) s.views + one_if (eqb t u) ≤ 1 + tickets u v)
      → Rule record {
        words = words';
        homes = set s.homes 0 none;
        views =
            set s.views id (taking v t (history h.value));
      }
  handed s r h id v t next' words' at alone is-served low more small is unheld ticket = let w : View O = taking v t
      (history h.value) in let f = subst (AllByRecursion (Fits o r.log)) alone (r.each id v at).fits in let fit = f.0 in
      let moved-by = sum_by-at holders s.views id v w at in let none-held = h.free in
      steps s r id v w words' (set s.homes 0 none) next' r.serving r.log at is
      (let below = r.served in omega arith) small r.from_one
      (inr record { empty = ap (λ (hs : Homes). set hs 0 none) h.stored; held = omega arith })
      record {
        placed = (is-served, low, h.has_log);
        fits = (
          record {
            same_origin = fit.same_origin;
            begins = subst (λ (l : List Entry). IsPrefix (history h.value) l) h.has_log (prefix_refl (history h.value));
            all_seen = ap (entries_by v.number) (sym h.has_log);
            own = fit.own ∙ (sym fit.all_seen ∙ ap (entries_by v.number) (sym h.has_log));
            enrolled = fit.enrolled;
          },
          tt,
        );
      }
      (λ j u other e k. grown r.next next' r.serving r.log more u k) ticket
      (λ n some-n. let one = r.one_number n some-n in let same = ap (bearers n) alone in omega arith)

  -- the value is at home where the seat, which does not hold the lock, has the ticket that is served
  home_at_turn : (s : St) (r : Rule s) (id : ℕ) (v : View O) → get_elem? s.views id ≡ some v → holders v ≡ 0
      → tickets r.serving v ≡ 1 → IsHome origin history lawful o r.log s
  home_at_turn s r id v at unheld has = ⊎_elim (λ (h : IsHome origin history lawful o r.log s). h)
      (λ (h : IsOut s). let held = h.held in let t = some_term holders s.views (omega arith) in let j = t.0 in
      let u = t.1 in let holds = t.3 in
      let k = holder_has r.next r.serving r.log u.seen u.place (r.each j u t.2).placed t.3 in
      let both = terms_le (tickets r.serving) s.views id j v u
      (λ e. let same : v ≡ u = some-injective v u (sym at ∙ (ap (get_elem? s.views) (sym e) ∙ t.2)) in
      let z = ap holders same in omega arith) at t.2 in
      let one = r.one_ticket r.serving in let k₀ = k.0 in absurd (omega arith)) r.slot

  -- and where no ticket is drawn that is not served
  home_at_rest : (s : St) (r : Rule s) → r.next ≡ r.serving → IsHome origin history lawful o r.log s
  home_at_rest s r same = ⊎_elim (λ (h : IsHome origin history lawful o r.log s). h)
      (λ (h : IsOut s). let held = h.held in let t = some_term holders s.views (omega arith) in let j = t.0 in
      let u = t.1 in let k = holder_has r.next r.serving r.log u.seen u.place (r.each j u t.2).placed t.3 in
      let k₁ = k.1 in absurd (omega arith)) r.slot

  pub watches : (slots id : ℕ) (m : M) (t : ℕ) → m.0.place ≡ Waiting t
      → Allows Rule slots id m 1 (λ n. n) (watched origin history lawful (step slots 1 0 0 none) m)
  watches slots id m t waiting s r deep at fits = let n : ℕ = get_or s.words 1 0 in
      let is : n ≡ r.serving = ap (λ (ws : List ℕ). get_or ws 1 0) r.atomic_words in let v = m.0 in
      let alone : sights v ≡ own v ∷ [] = ap (sights_at (own v)) waiting in
      let placed = subst (IsPlaced r.next r.serving r.log v.seen) waiting (r.each id v at).placed in
      let ticketed = λ (u : ℕ). ap (has_ticket u) waiting in
      let ticket-of : (u : ℕ) → m.0.place ≡ Waiting u
      → t ≡ u = λ u e. (let same : Waiting t ≡ Waiting u = sym waiting ∙ e in cc) in
      dite (ℕ_discrete n t)
      (λ served. let turn : t ≡ r.serving = sym served ∙ is in
      let h = home_at_turn s r id v at (ap holds_lock waiting)
      (ticketed r.serving ∙ ap one_if (eq-eqb t r.serving turn)) in let x = h.value in let low = placed.1 in (
        taking v t (history x),
        takes 0 (Some x),
        ap (λ (hs : Homes). get_elem? hs 0) h.stored,
        subst (λ (ws : List ℕ). Rule record {
          words = ws;
          homes = set s.homes 0 none;
          views =
              set s.views id (taking v t (history x));
        }) (sym (word_again s r 1))
            (handed s r h id v t r.next s.words at alone turn placed.1 (omega arith) r.small r.atomic_words
            (ap holds_lock waiting) (λ u. let one = r.one_ticket u in let mine = ticketed u in omega arith)),
        λ u e. (
          (λ _. subst (λ (k : ℕ). Takes origin history lawful k m (taking v t (history x), (0, Some x) ∷ m.1))
              (ticket-of u e) (x, suits s r h id v at alone, refl)),
          λ ne. absurd (ne (served ∙ ticket-of u e)),
        ),
      ))
      (λ unserved. (
        v,
        keeps,
        tt,
        unmoved s r 1 id v at,
        λ u e. (
          (λ hit. absurd (unserved (hit ∙ sym (ticket-of u e)))),
          λ _. refl,
        ),
      ))

  pub grabs : (slots id : ℕ) (m : M) (t : ℕ) → m.0.place ≡ Peeked t → t + 1 < 2 ^ 64
      → Allows Rule slots id m 0 (λ n. either (eqb n t) (t + 1) n) (grabbed origin history lawful
      (step slots 0 t (t + 1) none) m)
  grabs slots id m t peeked-at small s r deep at fits = let n : ℕ = get_or s.words 0 0 in
      let is : n ≡ r.next = ap (λ (ws : List ℕ). get_or ws 0 0) r.atomic_words in
      let v = m.0 in let alone : sights v ≡ own v ∷ [] = ap (sights_at (own v)) peeked-at in
      let low : t ≤ r.serving = subst (IsPlaced r.next r.serving r.log v.seen) peeked-at (r.each id v at).placed in
      let below = r.served in let free = ap holds_lock peeked-at in
      let unticketed = λ (u : ℕ). ap (has_ticket u) peeked-at in
      let G : ℕ → Type 0 = λ y. (w : View O) × (a : Act (Option X)) × Valid s.homes m.1 a
      × Rule (stepped s 0 y id m.1 w a) × grabbed origin history lawful (step slots 0 t (t + 1) none) m n
      (w, carried_after m.1 a) in
      exchanged n t (t + 1) G
      (λ hit. let turn : t ≡ r.serving = omega arith in let h = home_at_rest s r (omega arith) in let x = h.value in
      let drawn = fresh_ticket s r t (sym is ∙ hit) in (
        taking v t (history x),
        takes 0 (Some x),
        ap (λ (hs : Homes). get_elem? hs 0) h.stored,
        handed s r h id v t (t + 1) (set s.words 0 (t + 1)) at alone turn (omega arith) (omega arith) small
            (ap (λ (ws : List ℕ). set ws 0 (t + 1)) r.atomic_words) free
            (λ u. let bound = drawn u in let none-yet = unticketed u in omega arith),
        ((λ _. (x, suits s r h id v at alone, refl)), λ miss. absurd (miss hit)),
      ))
      (λ miss. (
        moved v (Missed t n),
        keeps,
        tt,
        loads s r 0 id v v.tries (Missed t n) at (ap is_resting peeked-at) refl (λ u. refl) (low, omega arith, miss),
        ((λ hit. absurd (miss hit)), λ _. refl),
      ))

  -- no view has a number that no entry bears
  unborne : (s : St) (r : Rule s) (k : ℕ) → k ≢ 0 → entries_by k r.log ≡ [] → sum_by (numbers k) s.views ≡ 0
  unborne s r k some-k none-k = no_terms (numbers k) s.views (λ j u e. go (sights u) (r.each j u e).fits)
    where
      one : (x : Sight O) → Fits o r.log x → one_if (eqb x.number k) ≡ 0
      one x fit = dite (ℕ_discrete x.number k)
          (λ e. absurd (fit.enrolled (λ z. some-k (sym e ∙ z)) (fit.own
          ∙ (sym fit.all_seen ∙ (ap (λ (i : ℕ). entries_by i r.log) e ∙ none-k)))))
          (λ ne. ap one_if (ne_eqb x.number k ne))

      go : (xs : List (Sight O)) → AllByRecursion (Fits o r.log) xs → bearers k xs ≡ 0
      go [] h = refl
      go (x ∷ xs) h = let a = one x h.0 in let b = go xs h.1 in omega arith

  -- what fits a history fits it with a block that bears no number of it
  fits_on : (log block : List Entry) (xs : List (Sight O)) → AllByRecursion (Fits o log) xs
      → ((x : Sight O) → Fits o log x → 0 < bearers x.number xs → entries_by x.number (log ++ block)
      ≡ entries_by x.number log) → AllByRecursion (Fits o (log ++ block)) xs
  fits_on log block [] h apart = tt
  fits_on log block (x ∷ xs) h apart = let fit = h.0 in let here = ap one_if (eq-eqb x.number x.number refl) in (
    record {
      same_origin = fit.same_origin;
      begins = prefix_trans x.seen log (log ++ block) fit.begins (block, refl);
      all_seen = apart x fit (omega arith) ∙ fit.all_seen;
      own = fit.own;
      enrolled = fit.enrolled;
    },
    fits_on log block xs h.1 (λ y f some-y. apart y f (omega arith)),
  )

  pub gives_back : (slots id : ℕ) (m : M) (t : ℕ) (x : X) → m.0.place ≡ Holding t → t + 1 < 2 ^ 64 → m.1 ≡ (0, Some x)
      ∷ [] → lawful x → ((y : X) → lawful y → entries_by 0 (history y) ≡ [])
      → origin x ≡ m.0.origin → IsPrefix m.0.seen (history x) → MayAdd m.0.number m.0.seen
      (block_after m.0.seen (history x))
      → Allows Rule slots id m 1 (λ _. t + 1) (λ _. gave history (step slots 1 (t + 1) 0 none) m (t + 1))
  gives_back slots id m t x holding small carried ok law from-here begins may s r deep at fits = let v = m.0 in
      let block = block_after v.seen (history x) in let w : View O = given v (history x) in
      let alone : sights v ≡ own v ∷ [] = ap (sights_at (own v)) holding in let stand = r.each id v at in
      let f = subst (AllByRecursion (Fits o r.log)) alone stand.fits in let fit = f.0 in
      let placed = subst (IsPlaced r.next r.serving r.log v.seen) holding stand.placed in let turn = placed.0 in
      let low = placed.1 in let seen-log : v.seen ≡ r.log = placed.2 in
      let longer-by : r.log ++ block ≡ history x = ap (λ (l : List Entry). l ++ block) (sym seen-log)
      ∙ whole v.seen (history x) begins in
      let may-log : MayAdd v.number r.log block = subst (λ (l : List Entry). MayAdd v.number l block) seen-log may in
      let none-zero : entries_by 0 v.seen ≡ [] = ap (entries_by 0) seen-log ∙ r.from_one in
      let k : ℕ = number_after v.number block in
      let mine-after : v.mine ++ block ≡ entries_by k (history x) =
      entries_by-given v.number v.seen block v.mine may fit.own none-zero
      ∙ ap (entries_by k) (whole v.seen (history x) begins) in
      let holds-one = ap holds_lock holding in
      let has-one = ap (has_ticket r.serving) holding ∙ ap one_if (eq-eqb t r.serving turn) in
      let moved-by = sum_by-at holders s.views id v w at in
      let is-out : IsOut s = ⊎_elim (λ (h : IsHome origin history lawful o r.log s). let none-held = h.free in
      let mine = term_le holders s.views id v at in absurd (omega arith)) (λ (h : IsOut s). h) r.slot in
      let one-held = is-out.held in
      let no-zero-block : block ≢ [] → k ≢ 0 = may.numbered in
      -- another view's number is not the one after the block
      let apart : (j : ℕ) (u : View O) → j ≢ id → get_elem? s.views j ≡ some u → (y : Sight O) → Fits o r.log y → 0
      < bearers y.number (sights u) → entries_by y.number (r.log ++ block)
      ≡ entries_by y.number r.log = λ j u other e y fy borne.
      nil_cases (entries_by y.number (r.log ++ block) ≡ entries_by y.number r.log) block
      (λ none-added. ap (λ (l : List Entry). entries_by y.number (r.log ++ l)) none-added
      ∙ ap (entries_by y.number) (append-nil r.log))
      (λ some-added. entries_by-others y.number v.number r.log block may-log (λ same. dite (ℕ_discrete v.number 0)
      (λ z. fy.enrolled (λ y0. no-zero-block some-added (sym same ∙ y0))
      (fy.own ∙ (sym fy.all_seen ∙ (ap (λ (i : ℕ). entries_by i r.log) same ∙ may-log.fresh z some-added))))
      (λ some-number. let same' : y.number ≡ v.number = same ∙ number_after-kept v.number block some-number in
      let both = terms_le (numbers v.number) s.views id j v u other at e in
      let one = r.one_number v.number some-number in
      let mine = ap (bearers v.number) alone in let here = ap one_if (eq-eqb v.number v.number refl) in
      let theirs = ap (λ (i : ℕ). bearers i (sights u)) same' in absurd (omega arith)))) in (
        w,
        gives,
        tt,
        subst (λ (c : List (ℕ × Option X)). Rule (stepped s 1 (t + 1) id c w gives)) (sym carried)
            (steps s r id v w (set s.words 1 (t + 1)) (set s.homes 0 (some (Some x))) r.next (r.serving + 1) (history x)
            at
            (ap (λ (ws : List ℕ). set ws 1 (t + 1)) r.atomic_words ∙ ap (λ (i : ℕ). r.next ∷ (i + 1) ∷ []) turn)
            (omega arith) r.small (law x ok)
            (inl record {
              value = x;
              stored = ap (λ (hs : Homes). set hs 0 (some (Some x))) is-out.empty;
              lawful_now =
                  ok;
              same_origin = from-here ∙ fit.same_origin;
              has_log = refl;
              free = omega arith;
            })
            record {
              placed = tt;
              fits = (
                record {
                  same_origin = fit.same_origin;
                  begins = prefix_refl (history x);
                  all_seen = refl;
                  own = mine-after;
                  enrolled = λ some-k none-mine. dite (ℕ_discrete v.number 0)
                      (λ z. nil_cases ⊥ block (λ none-added. some-k (number_after-none v.number block none-added ∙ z))
                      (λ some-added. some-added (nil_right v.mine block none-mine)))
                      (λ some-number. fit.enrolled some-number (nil_left v.mine block none-mine));
                },
                tt,
              );
            }
            (λ j u other e h. let both = terms_le (tickets r.serving) s.views id j v u other at e in
            let one = r.one_ticket r.serving in record {
              placed = placed_served r.next r.serving r.log (history x) u.seen u.place (omega arith) h.placed;
              fits = subst (λ (l : List Entry). AllByRecursion (Fits o l) (sights u)) longer-by
                  (fits_on r.log block (sights u) h.fits (apart j u other e));
            })
            (λ u. let one = r.one_ticket u in omega arith)
            (λ n some-n. let one = r.one_number n some-n in let before = ap (bearers n) alone in
            dite (ℕ_discrete v.number 0)
            (λ z. nil_cases (sum_by (numbers n) s.views + (one_if (eqb k n) + 0) ≤ 1 + numbers n v) block
            (λ none-added. let same = ap (λ (i : ℕ). one_if (eqb i n)) (number_after-none v.number block none-added) in
            omega arith)
            (λ some-added. dite (ℕ_discrete k n)
            (λ e. let none-yet = unborne s r n some-n
            (ap (λ (i : ℕ). entries_by i r.log) (sym e) ∙ may-log.fresh z some-added) in
            let here = ap one_if (eq-eqb k n e) in omega arith)
            (λ ne. let here = ap one_if (ne_eqb k n ne) in omega arith)))
            (λ some-number. let same = ap (λ (i : ℕ). one_if (eqb i n))
            (number_after-kept v.number block some-number) in omega arith))),
        λ y e. let same : x ≡ y = ap (value_or x) (sym carried ∙ e) in
            ap (λ (z : X). (given v (history z), rest m.1)) same,
      )

  -- one more view, which holds nothing
  adds : (s : St) (r : Rule s) (w : View O) → Stands o r.next r.serving r.log w → holders w ≡ 0
      → ((t : ℕ) → tickets t w ≡ 0) → ((n : ℕ) → n ≢ 0 → sum_by (numbers n) s.views + numbers n w ≤ 1)
      → Rule record { words = s.words; homes = s.homes; views = s.views ++ w ∷ [] }
  adds s r w stands unheld unticketed number = record {
    next = r.next;
    serving = r.serving;
    log = r.log;
    atomic_words = r.atomic_words;
    served = r.served;
    small = r.small;
    slot = ⊎_elim (λ (h : IsHome origin history lawful o r.log s).
        inl record {
          value = h.value;
          stored = h.stored;
          lawful_now = h.lawful_now;
          same_origin = h.same_origin;
          has_log = h.has_log;
          free = let none-held = h.free in let more = sum_by_push holders s.views w in omega arith;
        })
        (λ (h : IsOut s). inr record {
          empty = h.empty;
          held = let one = h.held in
              let more = sum_by_push holders s.views w in omega arith;
        }) r.slot;
    from_one = r.from_one;
    each = λ j u e. ⊎_elim (r.each j u) (λ (same : w ≡ u). subst (Stands o r.next r.serving r.log) same stands)
        (at_snoc s.views w u j e);
    one_ticket = λ t. let one = r.one_ticket t in let none-here = unticketed t in
        let more = sum_by_push (tickets t) s.views w in omega arith;
    one_number = λ n some-n. let bound = number n some-n in let more = sum_by_push (numbers n) s.views w in omega arith;
  }

  pub branches : (id : ℕ) (v : View O) → is_resting v.place ≡ true → Splits Rule id v v (newcomer v)
  branches id v rested s r at = let f = subst (AllByRecursion (Fits o r.log)) (rests_alone (own v) v.place rested)
      (r.each id v at).fits in let fit = f.0 in let none-zero = entries_by-none 0 v.seen r.log fit.begins r.from_one in
      subst (λ (vs : List (View O)). Rule record { words = s.words; homes = s.homes; views = vs ++ newcomer v ∷ [] })
      (sym (set_again s.views id v at))
      (adds s r (newcomer v)
      record {
        placed = tt;
        fits = (
          record {
            same_origin = fit.same_origin;
            begins = fit.begins;
            all_seen = r.from_one
                ∙ sym none-zero;
            own = sym none-zero;
            enrolled = λ some-number. absurd (some-number refl);
          },
          tt,
        );
      }
      refl (λ t. refl) (λ n some-n. let one = r.one_number n some-n in
      let zero-here = ap one_if (ne_eqb 0 n (λ e. some-n (sym e))) in omega arith))

  -- a seat at rest is spent
  spends : (s : St) (r : Rule s) (id : ℕ) (v : View O) (blank : O) → get_elem? s.views id ≡ some v → is_resting v.place
      ≡ true
      → Rule record { words = s.words; homes = s.homes; views = set s.views id (spent_view blank) }
  spends s r id v blank at rested = leaves s r id v (spent_view blank) s.words r.next at r.atomic_words (omega arith)
      r.small (sym (rests_free v.place rested)) record { placed = tt; fits = tt }
      (λ t. let one = r.one_ticket t in omega arith) (λ n. omega arith)

  -- where another seat is spent before
  apart_at : (s : St) (id other : ℕ) (v w both : View O) → ¬ (other ≡ id) → get_elem? (set s.views id both) other
      ≡ some w → get_elem? s.views other ≡ some w
  apart_at s id other v w both apart there = sym (set_else s.views id other both apart) ∙ there

  pub merges : (id : ℕ) (v : View O) (other : ℕ) (w : View O) (blank : O) → is_resting v.place ≡ true
      → is_resting w.place ≡ true → Joins Rule id v other w (joined v w) (spent_view blank)
  merges id v other w blank rested rested-too s r at apart there =
      let f = subst (AllByRecursion (Fits o r.log)) (rests_alone (own v) v.place rested) (r.each id v at).fits in
      let fit = f.0 in
      let g = subst (AllByRecursion (Fits o r.log)) (rests_alone (own w) w.place rested-too)
      (r.each other w (apart_at s id other v w (joined v w) apart there)).fits in let fit' = g.0 in
      let merged : Fits o r.log (sight v.number v.origin (longer v.seen w.seen) v.mine) =
      longer_cases (λ (l : List Entry). Fits o r.log (sight v.number v.origin l v.mine)) v.seen w.seen r.log
      fit.begins fit'.begins
      (λ p. let same = entries_by-between v.number v.seen w.seen r.log p fit'.begins fit.all_seen in record {
        same_origin = fit.same_origin;
        begins = fit'.begins;
        all_seen = fit.all_seen ∙ sym same;
        own = fit.own ∙ sym same;
        enrolled = fit.enrolled;
      })
      (λ p. fit) in
      let alone = rests_alone (own (joined v w)) v.place rested in let was-alone = rests_alone (own v) v.place rested in
      let stand = r.each id v at in
      spends record { words = s.words; homes = s.homes; views = set s.views id (joined v w) }
      (leaves s r id v (joined v w) s.words r.next at r.atomic_words (omega arith) r.small refl
      record {
        placed = reseen r.next r.serving r.log v.seen (longer v.seen w.seen) v.place rested stand.placed;
        fits =
            subst (AllByRecursion (Fits o r.log)) (sym alone) (merged, tt);
      }
      (λ t. let one = r.one_ticket t in omega arith)
      (λ n. let same = ap (bearers n) alone in let was = ap (bearers n) was-alone in omega arith))
      other w blank there rested-too

  pub pairs : (id : ℕ) (v : View O) (other : ℕ) (w : View O) (blank : O) → is_resting v.place ≡ true
      → is_resting w.place ≡ true → Joins Rule id v other w (paired v w) (spent_view blank)
  unfolding spends leaves steps
  pairs id v other w blank rested rested-too s r at apart there =
      let there' = apart_at s id other v w (paired v w) apart there in let alone = rests_alone (own v) v.place rested in
      let alone-too = rests_alone (own w) w.place rested-too in
      let f = subst (AllByRecursion (Fits o r.log)) alone (r.each id v at).fits in let fit = f.0 in
      let g = subst (AllByRecursion (Fits o r.log)) alone-too (r.each other w there').fits in let fit' = g.0 in
      let views' : List (View O) = set s.views other (spent_view blank) in
      let s' : St = record { words = s.words; homes = s.homes; views = views' } in
      let at' : get_elem? views' id ≡ some v = set_else s.views other id (spent_view blank) (λ e. apart (sym e)) ∙ at in
      let r' = spends s r other w blank there' rested-too in
      subst (λ (vs : List (View O)). Rule record { words = s.words; homes = s.homes; views = vs })
      (set-swap s.views other id (spent_view blank) (paired v w) apart)
      (steps s' r' id v (paired v w) s.words s.homes r.next r.serving r.log at' r.atomic_words r.served r.small
      r.from_one (same_slot s' r' id v (paired v w) s.words at' (sym (rests_free v.place rested)))
      record {
        placed = tt;
        fits = (
          fit,
          (
            record {
              same_origin = fit.same_origin;
              begins = fit'.begins;
              all_seen = fit'.all_seen;
              own = refl;
              enrolled = λ some-number none-mine. fit'.enrolled some-number (fit'.own ∙ none-mine);
            },
            tt,
          ),
        );
      }
      (λ j u ne e h. h) (λ t. let one = r'.one_ticket t in omega arith)
      (λ n some-n. let one = r.one_number n some-n in
      let moved-by = sum_by-at (numbers n) s.views other w (spent_view blank) there' in
      let mine = ap (bearers n) alone in let theirs = ap (bearers n) alone-too in omega arith))

  pub compares : (slots id : ℕ) (m : M) → Allows Rule slots id m 0 (λ n. n) (met (step slots 0 0 0 none) m)
  compares slots id m s r deep at _ = (
    m.0,
    keeps,
    tt,
    unmoved s r 0 id m.0 at,
    (
      refl,
      λ k h e. let f = subst (λ (p : Place). AllByRecursion (Fits o r.log) (sights_at (own m.0) p)) e
          (r.each id m.0 at).fits in let fit = f.0 in let kept = f.1.0 in record {
            in_line = in_line m.0.seen h r.log fit.begins kept.begins;
            complete = λ p. entries_by-between m.0.number m.0.seen h r.log p kept.begins fit.all_seen ∙ sym fit.own;
            apart = λ some-number same. let two = ap (λ (p : Place). bearers m.0.number (sights_at (own m.0) p)) e in
                let first = ap one_if (eq-eqb m.0.number m.0.number refl) in
                let second = ap one_if (eq-eqb k m.0.number (sym same)) in
                let here = term_le (numbers m.0.number) s.views id m.0 at in
                let one = r.one_number m.0.number some-number in omega arith;
          },
    ),
  )

  pub parts : (id : ℕ) (v : View O) (k : ℕ) (h : List Entry) → v.place ≡ Paired k h
      → Splits Rule id v (moved v Idle) (second v)
  unfolding leaves steps
  parts id v k h paired-at s r at = let f = subst
      (λ (p : Place). AllByRecursion (Fits o r.log) (sights_at (own v) p)) paired-at (r.each id v at).fits in
      let fit = f.0 in let kept = f.1.0 in
      let v' = moved v Idle in let w : View O = view k v.origin h (entries_by k h) 0 Idle in
      let two : (n : ℕ) → numbers n v ≡ one_if (eqb v.number n) + (one_if (eqb k n) + 0) = λ n. ap
      (λ (p : Place). bearers n (sights_at (own v) p)) paired-at in
      let s' : St = record { words = s.words; homes = s.homes; views = set s.views id v' } in
      let r' : Rule s' = leaves s r id v v' s.words r.next at r.atomic_words (omega arith) r.small
      (sym (ap holds_lock paired-at)) record { placed = tt; fits = (fit, tt) }
      (λ t. let one = r.one_ticket t in omega arith) (λ n. let both = two n in omega arith) in
      subst (λ (x : View O). Rule record { words = s.words; homes = s.homes; views = set s.views id v' ++ x ∷ [] })
      (sym (ap (second_at v) paired-at))
      (adds s' r' w record { placed = tt; fits = (kept, tt) } refl (λ t. refl)
      (λ n some-n. let one = r.one_number n some-n in let both = two n in
      let moved-by = sum_by-at (numbers n) s.views id v v' at in omega arith))

  -- the value of a lock that serves the ticket which is never drawn
  pub ends : (v : View O) (parts : Parts X) → v.place ≡ Peeked last_ticket → HasEnded origin history lawful o v parts
      → (x : X) × (parts.value ≡ Some x) × Suits origin history lawful v x
  ends v parts peeked-at end = let s = end.state in let r = end.orderly in let id = end.known.0 in
      let at = end.known.1 in let low : last_ticket ≤ r.serving = subst
      (IsPlaced r.next r.serving r.log v.seen) peeked-at (r.each id v at).placed in
      let below = r.served in let small = r.small in let h = home_at_rest s r (omega arith) in
      let same : parts.value ≡ Some h.value = ⊎_elim (λ (e : s.homes ≡ some parts.value ∷ []). let f = h.stored in cc)
      (λ (out : IsOut s). let one = out.held in let none-held = h.free in absurd (omega arith)) end.slot in
      (h.value, same, suits s r h id v at (ap (sights_at (own v)) peeked-at))

  fits_at : (log : List Entry) (xs : List (Sight O)) (k : ℕ) (x : Sight O) → AllByRecursion (Fits o log) xs
      → slice_get xs k ≡ Some x → Fits o log x
  fits_at log [] k x h e = absurd (cc)
  fits_at log (y ∷ ys) zero x h e = let same : y ≡ x = cc in subst (Fits o log) same h.0
  fits_at log (y ∷ ys) (suc k) x h e = fits_at log ys k x h.1 e

  -- of what two views have seen, one begins the other
  pub stand_in_line : (s : St) → Rule s → IsInLine s
  stand_in_line s r x y a b = in_line x.seen y.seen r.log (fits_at r.log (sights a.2) a.1 x (r.each a.0 a.2 a.3).fits
      a.4).begins (fits_at r.log (sights b.2) b.1 y (r.each b.0 b.2 b.3).fits b.4).begins
