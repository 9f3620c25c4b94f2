-- The endpoints of members, with whether there are places for their repeats.
use Rattle.std.proofs.Common.{◌≡◌, inl, inr, ℕ, zero, suc, Bool, true, false, List, [], ◌∷◌, ◌++◌, Option, Some, None}
use Rattle.std.proofs.Common.{refl, sym, ap, ◌∙◌, IfSome, slice_get, slice_set}
use Rattle.std.specs.Prelude.{cond, nat_lt, option_map}
use Rattle.std.specs.Option.{option_map_or}
use Rattle.std.proofs.lemmas.List.{map-set, length-map}
use Rattle.std.proofs.lemmas.Option.{slice_get-map}
use Rattle.lra_model.specs.declared.asks.AskKind.{AskKind}
use Rattle.lra_model.specs.declared.asks.AskKind.TheVariants as ask
use Rattle.lra_model.specs.declared.asks.Outcome.{Outcome}
use Rattle.lra_model.specs.Addresses.{Addresses}
use Rattle.lra_model.specs.Words.{is_undecided}
use Rattle.lra_model.specs.Members.{Asked}
use Rattle.lra_model.specs.Wants.{stage_of}
use Rattle.lra_laws.specs.Rows.{row_at, change_row}
use Rattle.lra_laws.specs.Snapshots.{Repeats, Endpoint, no_repeats, again, with_repeat, with_answer, new_endpoint}
use Rattle.lra_rows.specs.Rowed.{takes_one, is_ready_at}
use Rattle.lra_rows.specs.Steps.{Repeated, without_last, with_repeats, repeats_back}
use Rattle.lra_rows.specs.inner.Counts.{RepeatsTo}
use Rattle.lra_rows.specs.inner.Held.{repeats_at}
use Rattle.lra_rows.specs.inner.Reached.{Reached, endpoints_in, ready_in, answered, with_stage, stages_back}
use Rattle.lra_rows.proofs.Rooms.{row_at-map, map-change_row, map-same, change_none, map-more, map-without_last}
use Rattle.lra_rows.proofs.Steps.{answer_back}
use Rattle.lra_states.proofs.Replacing.{slice_get-set_same, slice_get-set_other}
use Rattle.std.proofs.lemmas.Bool.{cases_eq}

-- ---- one member

-- one more repeat is what was there, and one more
pub repeated : (m : ℕ) (stage : AskKind) (c : Endpoint) → with_repeats stage (again m (repeats_at stage c)) c
    ≡ with_repeat m stage c
repeated m ask.Complete c = refl
repeated m ask.Compensate c = refl
repeated m ask.Forget c = refl
repeated m ask.After c = refl
repeated m ask.Status c = refl

-- a member that answered, with the repeats that it had
pub answered_stays : (m : ℕ) (o : Outcome) (x : Asked) (r : Reached) → (is_undecided o ≡ true → r.is_ready ≡ true)
    → with_stage (stage_of x.kind x.direction) (repeats_at (stage_of x.kind x.direction) r.endpoint) (answered m o x r)
    ≡ r
answered_stays m o x r ready = λ i. record r { endpoint = by_place r.is_ready refl i }
  where
    stage : AskKind
    stage = stage_of x.kind x.direction

    by_outcome : (b : Bool) → is_undecided o ≡ b → r.is_ready ≡ false → with_answer m o x r.endpoint ≡ r.endpoint
    by_outcome false e g = ap (λ (b : Bool). cond b (with_repeat m stage r.endpoint) r.endpoint) e
    by_outcome true e g = absurd (let h = ready e in cc)

    by_place : (b : Bool) → r.is_ready ≡ b → cond b (with_repeats stage (repeats_at stage r.endpoint)
        (with_answer m o x r.endpoint)) (with_answer m o x r.endpoint) ≡ r.endpoint
    by_place true g = answer_back m o x r.endpoint
    by_place false g = by_outcome (is_undecided o) refl g

-- what is known of one of them is known where it stands
pub few_at : (n : ℕ) (rows : List Reached) (p : ℕ) (x : Reached) → row_at rows p ≡ Some x
    → IfSome (row_at (endpoints_in rows) p) (RepeatsTo n) → RepeatsTo n x.endpoint
few_at n rows p x there h = (rw (row_at-map (λ (r : Reached). r.endpoint) rows p, there) at h)

pub ready_at : (rows : List Reached) (p : ℕ) (x : Reached) → row_at rows p ≡ Some x → is_ready_at (ready_in rows) p
    ≡ true → x.is_ready ≡ true
ready_at rows p x there h = (rw (row_at-map (λ (r : Reached). r.is_ready) rows p, there) at h)

-- ---- all of them

-- a member answers
pub contacts_answered : (m : ℕ) (o : Outcome) (x : Asked) (n : ℕ) (rows : List Reached)
    → endpoints_in (change_row (answered m o x) n rows) ≡ change_row (with_answer m o x) n (endpoints_in rows)
contacts_answered m o x n rows = map-change_row (λ (r : Reached). r.endpoint) (answered m o x) (with_answer m o x)
    (λ r. refl) n rows

pub ready_answered : (m : ℕ) (o : Outcome) (x : Asked) (n : ℕ) (rows : List Reached)
    → ready_in (change_row (answered m o x) n rows) ≡ ready_in rows
ready_answered m o x n rows = map-change_row (λ (r : Reached). r.is_ready) (answered m o x) (λ b. b) (λ r. refl) n rows
    ∙ change_none n (ready_in rows)

-- and its repeats are put back
contacts_put : (stage : AskKind) (repeats : Repeats) (n : ℕ) (rows : List Reached)
    → endpoints_in (change_row (with_stage stage repeats) n rows) ≡ cond (is_ready_at (ready_in rows) n)
    (change_row (with_repeats stage repeats) n (endpoints_in rows)) (endpoints_in rows)
contacts_put stage repeats zero rows = refl
contacts_put stage repeats (suc k) rows =
    of_row (slice_get rows k) refl
    ∙ sym (ap (λ (o : Option Bool). cond (option_map_or (λ b. b) o true)
    (change_row (with_repeats stage repeats) (suc k) (endpoints_in rows)) (endpoints_in rows))
    (slice_get-map (λ (r : Reached). r.is_ready) rows k))
  where
    there : (o : Option Reached) → slice_get rows k ≡ o → slice_get (endpoints_in rows) k
        ≡ option_map (λ (r : Reached). r.endpoint) o
    there o e = slice_get-map (λ (r : Reached). r.endpoint) rows k ∙ ap (option_map (λ (r : Reached). r.endpoint)) e

    of_place : (r : Reached) → slice_get rows k ≡ Some r → (b : Bool) → r.is_ready ≡ b
        → endpoints_in (slice_set rows k (with_stage stage repeats r)) ≡ cond b
        (change_row (with_repeats stage repeats) (suc k) (endpoints_in rows)) (endpoints_in rows)
    of_place r e true g =
        map-set (λ (r : Reached). r.endpoint) rows k (with_stage stage repeats r)
        ∙ ap (λ (b : Bool). slice_set (endpoints_in rows) k (cond b (with_repeats stage repeats r.endpoint) r.endpoint))
        g
        ∙ sym (ap (λ (o : Option Endpoint). option_map_or (λ (c : Endpoint). slice_set (endpoints_in rows) k
        (with_repeats stage repeats c)) o (endpoints_in rows)) (there (Some r) e))
    of_place r e false g = map-same (λ (r : Reached). r.endpoint) rows k r (with_stage stage repeats r) e
        (ap (λ (b : Bool). cond b (with_repeats stage repeats r.endpoint) r.endpoint) g)

    of_row : (o : Option Reached) → slice_get rows k ≡ o
        → endpoints_in (change_row (with_stage stage repeats) (suc k) rows)
        ≡ cond (option_map_or (λ b. b) (option_map (λ (r : Reached). r.is_ready) (slice_get rows k)) true)
        (change_row (with_repeats stage repeats) (suc k) (endpoints_in rows)) (endpoints_in rows)
    of_row None e =
        rw (e, there None e) refl
    of_row (Some r) e =
        ap (λ (o : Option Reached). endpoints_in
        (option_map_or (λ (x : Reached). slice_set rows k (with_stage stage repeats x)) o rows)) e
        ∙ of_place r e r.is_ready refl
        ∙ sym (ap (λ (o : Option Reached). cond (option_map_or (λ b. b) (option_map (λ (r : Reached). r.is_ready) o)
        true) (change_row (with_repeats stage repeats) (suc k) (endpoints_in rows)) (endpoints_in rows)) e)

pub contacts_back : (o : Option Repeated) (rows : List Reached) → endpoints_in (stages_back o rows)
    ≡ repeats_back o (ready_in rows) (endpoints_in rows)
contacts_back None rows = refl
contacts_back (Some x) rows = contacts_put x.stage x.repeats x.member rows

pub ready_back : (o : Option Repeated) (rows : List Reached) → ready_in (stages_back o rows) ≡ ready_in rows
ready_back None rows = refl
ready_back (Some x) rows = map-change_row (λ (r : Reached). r.is_ready) (with_stage x.stage x.repeats) (λ b. b)
    (λ r. refl) x.member rows ∙ change_none x.member (ready_in rows)

-- a place for repeats is made
pub ready_there : (rows : List Reached) (k : ℕ) (x n : Reached) → slice_get rows k ≡ Some x → n.is_ready ≡ true
    → is_ready_at (ready_in (slice_set rows k n)) (suc k) ≡ true
ready_there rows k x n there h = rw (
  row_at-map (λ (r : Reached). r.is_ready) (slice_set rows k n) (suc k),
  slice_get-set_same rows k x n there,
) h

pub ready_kept : (rows : List Reached) (k : ℕ) (x n : Reached) → slice_get rows k ≡ Some x
    → (x.is_ready ≡ true → n.is_ready ≡ true) → (j : ℕ) → is_ready_at (ready_in rows) j ≡ true
    → is_ready_at (ready_in (slice_set rows k n)) j ≡ true
ready_kept rows k x n there kept zero h = refl
ready_kept rows k x n there kept (suc j) h =
    elim (cases_eq j k) [
      | inl same ↦ rw (ap (λ (i : ℕ). is_ready_at (ready_in (slice_set rows k n)) (suc i)) same)
          (ready_there rows k x n there (kept (ready_at rows (suc k) x there (rw same at h))))
      | inr apart ↦ rw (
        row_at-map (λ (r : Reached). r.is_ready) (slice_set rows k n) (suc j),
        slice_get-set_other rows k j n apart,
      ) (rw (row_at-map (λ (r : Reached). r.is_ready) rows (suc j)) at h)
    ]

pub ready_past : (rows : List Reached) (k : ℕ) → slice_get rows k ≡ None → is_ready_at (ready_in rows) (suc k) ≡ true
ready_past rows k there = rw (row_at-map (λ (r : Reached). r.is_ready) rows (suc k), there) refl

-- ---- the rows, one more and one less

pub contacts_more : (rows : List Reached) (uris : Addresses) → endpoints_in
    (rows ++ record { endpoint = new_endpoint uris; is_ready = false } ∷ []) ≡ endpoints_in rows
    ++ new_endpoint uris ∷ []
contacts_more rows uris = map-more (λ (r : Reached). r.endpoint) rows (record
    { endpoint = new_endpoint uris; is_ready = false })

pub ready_more : (rows : List Reached) (uris : Addresses) → ready_in (rows
    ++ record { endpoint = new_endpoint uris; is_ready = false } ∷ []) ≡ ready_in rows ++ false ∷ []
ready_more rows uris = map-more (λ (r : Reached). r.is_ready) rows (record
    { endpoint = new_endpoint uris; is_ready = false })

pub contacts_less : (rows : List Reached) → endpoints_in (without_last rows) ≡ without_last (endpoints_in rows)
contacts_less rows = map-without_last (λ (r : Reached). r.endpoint) rows

pub ready_less : (rows : List Reached) → ready_in (without_last rows) ≡ without_last (ready_in rows)
ready_less rows = map-without_last (λ (r : Reached). r.is_ready) rows

-- there is as much room
pub takes_reached : (rows : List Reached) (capacity : ℕ) → takes_one (endpoints_in rows) capacity
    ≡ takes_one rows capacity
takes_reached rows capacity = ap (λ (n : ℕ). nat_lt n capacity) (length-map rows (λ (r : Reached). r.endpoint))

-- what is read of one that is there
pub addresses_at : (rows : List Reached) (n : ℕ) (o : Option Reached) → o ≡ row_at rows n
    → option_map (λ (r : Reached). r.endpoint.addresses) o ≡ option_map (λ (c : Endpoint). c.addresses)
    (row_at (endpoints_in rows) n)
addresses_at rows n o e = of_row o ∙ ap (λ (x : Option Reached). option_map (λ (c : Endpoint). c.addresses)
    (option_map (λ (r : Reached). r.endpoint) x)) e ∙ sym (ap (option_map (λ (c : Endpoint). c.addresses))
    (row_at-map (λ (r : Reached). r.endpoint) rows n))
  where
    of_row : (o : Option Reached) → option_map (λ (r : Reached). r.endpoint.addresses) o
        ≡ option_map (λ (c : Endpoint). c.addresses) (option_map (λ (r : Reached). r.endpoint) o)
    of_row None = refl
    of_row (Some r) = refl

pub repeats_of : (rows : List Reached) (n : ℕ) (stage : AskKind) (o : Option Reached) → o ≡ row_at rows n
    → option_map_or (λ (r : Reached). repeats_at stage r.endpoint) o no_repeats
    ≡ option_map_or (repeats_at stage) (row_at (endpoints_in rows) n) no_repeats
repeats_of rows n stage o e = of_row o ∙ ap (λ (x : Option Reached). option_map_or (repeats_at stage)
    (option_map (λ (r : Reached). r.endpoint) x) no_repeats) e ∙ sym (ap
    (λ (x : Option Endpoint). option_map_or (repeats_at stage) x no_repeats)
    (row_at-map (λ (r : Reached). r.endpoint) rows n))
  where
    of_row : (o : Option Reached) → option_map_or (λ (r : Reached). repeats_at stage r.endpoint) o no_repeats
        ≡ option_map_or (repeats_at stage) (option_map (λ (r : Reached). r.endpoint) o) no_repeats
    of_row None = refl
    of_row (Some r) = refl

pub ready_of : (rows : List Reached) (n : ℕ) (o : Option Reached) → o ≡ row_at rows n
    → option_map_or (λ (r : Reached). r.is_ready) o true ≡ is_ready_at (ready_in rows) n
ready_of rows n o e = of_row o ∙ ap (λ (x : Option Reached). option_map_or (λ b. b)
    (option_map (λ (r : Reached). r.is_ready) x) true) e ∙ sym (ap (λ (x : Option Bool). option_map_or (λ b. b) x true)
    (row_at-map (λ (r : Reached). r.is_ready) rows n))
  where
    of_row : (o : Option Reached) → option_map_or (λ (r : Reached). r.is_ready) o true
        ≡ option_map_or (λ b. b) (option_map (λ (r : Reached). r.is_ready) o) true
    of_row None = refl
    of_row (Some r) = refl
