-- What is decided suits what is known.
use Rattle.std.proofs.Common.{◌≡◌, ℕ, ◌+◌, ◌*◌, ◌^◌, ◌<◌, ◌==◌, Bool, true, false, ◌&&◌, not, if◌then◌else◌, List, []}
use Rattle.std.proofs.Common.{◌∷◌, Option, None, Some, inl, inr, refl, arith}
use Rattle.std.specs.Prelude.{max, nat_lt, IsTrue, IfSome, option_map}
use Rattle.std.specs.List.{slice_get}
use Rattle.std.specs.Option.{option_or}
use Rattle.std.proofs.lemmas.Bool.Decides.{eqb_tells}
use Rattle.lra_rotation.specs.declared.journal.RotationJournal.{RotationJournal}
use Rattle.lra_rotation.specs.declared.journal.Observation.{Observation}
use Rattle.lra_rotation.specs.declared.action.Stage.{Stage}
use Rattle.lra_rotation.specs.declared.action.Stage.TheVariants as stage
use Rattle.lra_rotation.specs.declared.action.RotationAction.{RotationAction}
use Rattle.lra_rotation.specs.declared.action.RotationAction.TheVariants as action
use Rattle.lra_rotation.specs.declared.journal.RotationWorker.{RotationWorker}
use Rattle.lra_rotation.specs.States.{State, has_next}
use Rattle.lra_rotation.specs.Deciding.{next_instance, is_near_end, wants_close, wants_leave, wants_archive}
use Rattle.lra_rotation.specs.Deciding.{newest_waits}
use Rattle.lra_rotation.specs.Deciding.{wants_again, may_archive, first_that, forward, closing_of, wants_next, rolling}
use Rattle.lra_rotation.specs.Deciding.{leaving, retrying, is_drained, ending, chosen, decide}
use Rattle.lra_rotation.specs.Laws.{Suits, some_is, rotates}
use Rattle.lra_rotation.proofs.Orders.{both, or_left, or_right, and_both, some_at, some_weaker_is}

-- what holds of what is chosen
either_suits : (P : RotationAction → Type 0) (o p : Option RotationAction) → IfSome o P → IfSome p P
    → IfSome (option_or o p) P
either_suits P None p h k = k
either_suits P (Some a) p h k = h

if_suits : (P : RotationAction → Type 0) (b : Bool) (a : RotationAction) (o : Option RotationAction) → (b ≡ true → P a)
    → IfSome o P → IfSome (if b then Some a else o) P
if_suits P true a o h k = h refl
if_suits P false a o h k = k

when_suits : (P : RotationAction → Type 0) (b : Bool) (o : Option RotationAction) → (b ≡ true → IfSome o P)
    → IfSome (if b then o else None) P
when_suits P true o h = h refl
when_suits P false o h = tt

clearing_suits : (s : State) (observations : List Observation) (o : Option ℕ) → IfSome (option_map action.Remove o)
    (Suits s observations)
clearing_suits s observations None = tt
clearing_suits s observations (Some i) = tt

same : (i : ℕ) → (i == i) ≡ true
same i = elim (eqb_tells i i) [ inl h ↦ h.0 | inr h ↦ absurd (h.1 refl) ]

-- what is done with the first that passes a test suits, where it suits at any that does
first_that_suits : (P : RotationAction → Type 0) (p : RotationJournal → Bool) (f : ℕ → RotationAction)
    (js : List RotationJournal) → ((i : ℕ) → some_is p js i ≡ true → P (f i)) → IfSome (first_that p f js) P
first_that_suits P p f [] k = tt
first_that_suits P p f (j ∷ js) k = if_suits P (p j) (f j.instance) (first_that p f js)
    (λ h. k j.instance (or_left ((j.instance == j.instance) && p j) (some_is p js j.instance)
    (and_both (j.instance == j.instance) (p j) (same j.instance) h)))
    (first_that_suits P p f js (λ i h. k i (or_right ((j.instance == i) && p j) (some_is p js i) h)))

near : (observations : List Observation) (j : RotationJournal) → wants_close observations j ≡ true
    → is_near_end observations j.instance ≡ true
near observations j h = (both (not j.is_closed) (is_near_end observations j.instance) h).1

older_closing_suits : (s : State) (observations : List Observation) (js : List RotationJournal)
    → IfSome (first_that (wants_close observations) action.Close js) (Suits s observations)
older_closing_suits s observations js = first_that_suits (Suits s observations) (wants_close observations) action.Close
    js (λ i h. some_at (wants_close observations) (is_near_end observations) js i (near observations) h)

closing_suits : (s : State) (observations : List Observation) (newest : Option RotationJournal)
    (older : List RotationJournal) → IfSome (closing_of newest older observations) (Suits s observations)
closing_suits s observations None older = older_closing_suits s observations older
closing_suits s observations (Some j) older = if_suits (Suits s observations) (wants_close observations j)
    (action.Close j.instance) (first_that (wants_close observations) action.Close older) (near observations j)
    (older_closing_suits s observations older)

pub some_weaker : (P Q : RotationAction → Type 0) (o : Option RotationAction) → ((a : RotationAction) → P a → Q a)
    → IfSome o P → IfSome o Q
some_weaker P Q None f h = tt
some_weaker P Q (Some a) f h = f a h

may : (ws : List RotationWorker) (observations : List Observation) (r : ℕ) (j : RotationJournal)
    → wants_archive ws observations r j ≡ true → may_archive ws observations r j ≡ true
may ws observations r j h = (both (not j.stays) (may_archive ws observations r j) h).1

may_again : (ws : List RotationWorker) (observations : List Observation) (r : ℕ) (j : RotationJournal)
    → wants_again ws observations r j ≡ true → may_archive ws observations r j ≡ true
may_again ws observations r j h = (both j.stays (may_archive ws observations r j) h).1

leaving_suits : (s : State) (observations : List Observation) → IfSome (leaving s observations) (Suits s observations)
leaving_suits s observations = when_suits P (rotates s) _
    (λ e. either_suits P _ _
    (first_that_suits P (wants_archive s.workers observations s.settings.remember) action.Archive s.older
    (λ i h. (
      some_weaker_is (wants_archive s.workers observations s.settings.remember)
          (may_archive s.workers observations s.settings.remember) s.older i
          (may s.workers observations s.settings.remember) h,
      (both s.settings.rolls (has_next s.version) e).0,
    )))
    (first_that_suits P (wants_leave observations s.settings.remember) action.Withdraw s.older (λ i h. (h, e))))
  where
    P : RotationAction → Type 0
    P = Suits s observations

retrying_suits : (s : State) (observations : List Observation) → IfSome (retrying s observations) (Suits s observations)
retrying_suits s observations = when_suits P s.settings.rolls _
    (λ e. first_that_suits P (wants_again s.workers observations s.settings.remember) action.Archive s.older
    (λ i h. (
      some_weaker_is (wants_again s.workers observations s.settings.remember)
          (may_archive s.workers observations s.settings.remember) s.older i
          (may_again s.workers observations s.settings.remember) h,
      e,
    )))
  where
    P : RotationAction → Type 0
    P = Suits s observations

-- what comes next is greater than what was noted
number_above : (b : Bool) (n noted : ℕ) → noted < n → IfSome (if b then Some n else None) (λ i. noted < i)
number_above true n noted h = h
number_above false n noted h = tt

next_above : (site moment noted : ℕ) → IfSome (next_instance site moment noted) (λ i. noted < i)
next_above site moment noted =
    number_above (nat_lt (max (site * 2 ^ 44 + moment) (noted + 1)) (site * 2 ^ 44 + 2 ^ 44))
    (max (site * 2 ^ 44 + moment) (noted + 1)) noted (above_max (site * 2 ^ 44 + moment) noted)
  where
    above_max : (m n : ℕ) → n < max m (n + 1)
    above_max m n = omega arith

note_suits : (s : State) (observations : List Observation) → s.stage ≡ stage.Idle → IsTrue (rotates s)
    → IsTrue (not (newest_waits s observations)) → (next : Option ℕ) → IfSome next (λ i. s.noted < i)
    → IfSome (option_map action.Note next) (Suits s observations)
note_suits s observations e r w None h = tt
note_suits s observations e r w (Some i) h = (h, e, r, w)

forward_suits : (s : State) (observations : List Observation) (st : Stage) → s.stage ≡ st → IsTrue (rotates s)
    → IsTrue (not (newest_waits s observations)) → (next : Option ℕ) → IfSome next (λ i. s.noted < i)
    → IfSome (forward st (wants_next s observations) next) (Suits s observations)
forward_suits s observations stage.Idle e r w next h = note_suits s observations e r w next h
forward_suits s observations (stage.Noted i) e r w next h = (e, r, w)
forward_suits s observations (stage.Prepared i) e r w next h = if_suits (Suits s observations)
    (wants_next s observations) (action.Name i) None (λ wanted. (e, r, wanted, w)) tt
forward_suits s observations (stage.Named i) e r w next h = (e, r, w)

rolling_suits : (s : State) (moment : ℕ) (observations : List Observation) → IfSome (rolling s moment observations)
    (Suits s observations)
rolling_suits s moment observations = when_suits (Suits s observations) (rotates s && not (newest_waits s observations))
    (forward s.stage (wants_next s observations) (next_instance s.settings.site moment s.noted))
    (λ e. let k = both (rotates s) (not (newest_waits s observations)) e in
    forward_suits s observations s.stage refl k.0 k.1 (next_instance s.settings.site moment s.noted)
    (next_above s.settings.site moment s.noted))

ending_suits : (s : State) (observations : List Observation) → IfSome (ending s observations) (Suits s observations)
ending_suits s observations = if_suits (Suits s observations) (s.settings.drains && is_drained s observations)
    action.End None (both s.settings.drains (is_drained s observations)) tt

-- what is decided, of whatever is known
pub decide_suits : (s : State) (moment : ℕ) (own : Bool) (observations : List Observation)
    → IfSome (decide s moment own observations) (Suits s observations)
decide_suits s moment own observations = over_suits s.is_over own
  where
    P : RotationAction → Type 0
    P = Suits s observations

    all_suits : IfSome (chosen s moment observations) P
    all_suits =
        either_suits P _ _
        (either_suits P _ _
        (either_suits P _ _
        (either_suits P _ _ (either_suits P _ _ (clearing_suits s observations (slice_get s.leftovers 0))
        (closing_suits s observations s.newest s.older)) (leaving_suits s observations))
        (rolling_suits s moment observations)) (ending_suits s observations)) (retrying_suits s observations)

    over_suits : (over mine : Bool) → IfSome (if over then None else if not mine then Some action.Fail
        else chosen s moment observations) P
    over_suits true mine = tt
    over_suits false true = all_suits
    over_suits false false = tt
