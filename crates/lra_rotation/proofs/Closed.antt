-- What is closed stays so, the newest accepts new work, and what fails is tried again.
use Rattle.std.proofs.Common.{◌≡◌, ℕ, ◌<◌, ◌≤◌, ◌==◌, Bool, true, false, ◌&&◌, not, if◌then◌else◌, List, [], ◌∷◌, ◌++◌}
use Rattle.std.proofs.Common.{Option, None, Some, inl, inr, refl, sym, ap, ◌∙◌, subst, arith}
use Rattle.std.specs.Prelude.{IfSome, IsSome, nat_lt, is_none, option_map, option_to_list}
use Rattle.std.specs.Option.{option_or, option_map_or}
use Rattle.std.proofs.lemmas.Bool.Decides.{eqb_tells}
use Rattle.lra_rotation.specs.declared.settings.RotationSettings.{RotationSettings}
use Rattle.lra_rotation.specs.declared.journal.RotationJournal.{RotationJournal}
use Rattle.lra_rotation.specs.declared.journal.Observation.{Observation}
use Rattle.lra_rotation.specs.declared.journal.RotationWorker.{RotationWorker}
use Rattle.lra_rotation.specs.declared.action.Stage.TheVariants as stage
use Rattle.lra_rotation.specs.declared.action.Change.{Change}
use Rattle.lra_rotation.specs.declared.action.Change.TheVariants as change
use Rattle.lra_rotation.specs.declared.action.NewWork.{NewWork}
use Rattle.lra_rotation.specs.declared.action.NewWork.TheVariants as work
use Rattle.lra_rotation.specs.declared.action.RotationAction.{RotationAction}
use Rattle.lra_rotation.specs.declared.action.RotationAction.TheVariants as action
use Rattle.lra_rotation.specs.States.{State, has_next, next_version, listed, instance_of, set, new_work, new_work_of}
use Rattle.lra_rotation.specs.States.{is_current}
use Rattle.lra_rotation.specs.Deciding.{decide, is_near_end, is_drained, wants_close, wants_leave}
use Rattle.lra_rotation.specs.Deciding.{wants_archive, may_archive, closing_of, wants_again, first_that, clearing}
use Rattle.lra_rotation.specs.Deciding.{closing, rolling, leaving, retrying, ending, chosen}
use Rattle.lra_rotation.specs.Disks.{Disk, carried, opened, restored, found, found_all, last_of, last_from, front_of}
use Rattle.lra_rotation.specs.Runs.{World, Look, Event, Does, Fails, Restarts, Follows, Refuses, Begins, Ends}
use Rattle.lra_rotation.specs.Runs.{other_workers, other_holds, worker, has_session, done, failed, followed, decided}
use Rattle.lra_rotation.specs.Runs.{did, did_fail, started, follows, begins, after, run, first_start, changed}
use Rattle.lra_rotation.specs.Runs.{changed_at, change_all, apart_from, new_journal}
use Rattle.lra_rotation.specs.Laws.{Suits, RowsBelow, Ascend, has, some_is, is_among, served, Shut, IsObservedAgain}
use Rattle.lra_rotation.specs.Laws.{IsTaker, Tells, ClosedStaysClosed, TakesOrTells, AnswersAtTheNewest, TakersAscend}
use Rattle.lra_rotation.specs.Laws.{IsAsBefore, FailsInPlace, IsTriedAgain, TriesAgain, EndsOnceDrained}
use Rattle.lra_rotation.specs.Laws.{LeavesBeforeRolling, IsPlain, NeverRolls, KeepsTheFile, file}
use Rattle.lra_rotation.proofs.Orders.{both, or_cases, or_left, or_right, front_below, same_instance, has_below}
use Rattle.lra_rotation.proofs.Among.{is_among-append, same_tells, last_most}
use Rattle.lra_rotation.proofs.Sound.{IsSound, Fits, at_stage, switched_rows}
use Rattle.lra_rotation.proofs.Standing.{IsTop}
use Rattle.lra_rotation.proofs.Holding.{current_session, closed_instance, failed_set}
use Rattle.lra_rotation.proofs.Whole.{IsGood, good, good_after, good_crash, decided_suits, suits_at, plain}
use Rattle.lra_rotation.proofs.Whole.{follows_disk, begins_disk}

shut_append : (i : ℕ) (xs ys : List RotationJournal) → Shut i xs → Shut i ys → Shut i (xs ++ ys)
shut_append i [] ys h k = k
shut_append i (x ∷ xs) ys h k = (h.0, shut_append i xs ys h.1 k)

shut_front : (i : ℕ) (xs ys : List RotationJournal) → Shut i (xs ++ ys) → Shut i xs
shut_front i [] ys h = tt
shut_front i (x ∷ xs) ys h = (h.0, shut_front i xs ys h.1)

shut_back : (i : ℕ) (xs ys : List RotationJournal) → Shut i (xs ++ ys) → Shut i ys
shut_back i [] ys h = h
shut_back i (x ∷ xs) ys h = shut_back i xs ys h.1

abbrev IsShut : ℕ → RotationJournal → Type 0
IsShut i j = j.instance ≡ i → j.is_closed ≡ true

shut_one : (i : ℕ) (c : Change) (j : RotationJournal) → IsShut i j → IsShut i (changed c j)
shut_one i change.Close j h = λ _. refl
shut_one i (change.Leave v) j h = h
shut_one i change.Stay j h = h

shut_changed : (i k : ℕ) (c : Change) (j : RotationJournal) → IsShut i j → IsShut i (changed_at c k j)
shut_changed i k c j h =
    let P : Bool → Type 0 = λ b. IsShut i (if b then changed c j else j) in
    elim (eqb_tells j.instance k) [ inl m ↦ subst P (sym m.0) (shut_one i c j h) | inr m ↦ subst P (sym m.0) h ]

shut_change : (i k : ℕ) (c : Change) (js : List RotationJournal) → Shut i js → Shut i (change_all c k js)
shut_change i k c [] h = tt
shut_change i k c (j ∷ js) h = (shut_changed i k c j h.0, shut_change i k c js h.1)

shut_apart : (i k : ℕ) (js : List RotationJournal) → Shut i js → Shut i (apart_from k js)
shut_apart i k [] h = tt
shut_apart i k (j ∷ js) h =
    elim (j.instance == k) as (λ b. Shut i (if not b then j ∷ apart_from k js else apart_from k js)) [
      | true ↦ shut_apart i k js h.1
      | false ↦ (h.0, shut_apart i k js h.1)
    ]

newest_closed : (i k : ℕ) (newest : Option RotationJournal) → Shut i (option_to_list newest)
    → Shut i (option_to_list (option_map (changed_at change.Close k) newest))
newest_closed i k None h = tt
newest_closed i k (Some j) h = (shut_changed i k change.Close j h.0, tt)

shut_done : (s : State) (d : Disk) (used : List ℕ) (observations : List Observation) (a : RotationAction) (i : ℕ)
    → Suits s observations a → IsSound s d used → has (served s) i ≡ true → Shut i (served s)
    → Shut i (served (done s a))
shut_done s d used observations (action.Remove k) i suits h there shut = shut
shut_done s d used observations (action.Note k) i suits h there shut = shut
shut_done s d used observations (action.Prepare k) i suits h there shut = shut
shut_done s d used observations (action.Name k) i suits h there shut = shut
shut_done s d used observations (action.Switch k) i suits h there shut =
    let at : Fits s.noted d.first s.newest used (stage.Named k) = at_stage s d used (stage.Named k) h suits.0 in
    let lt : i < k = has_below k i (served s) (switched_rows s.noted d.first k s.older s.newest h.known at.2) there in
    shut_append i (served s) (new_journal k ∷ []) shut (λ e. absurd (omega arith), tt)
shut_done s d used observations (action.Close k) i suits h there shut =
    shut_append i (change_all change.Close k s.older) (option_to_list (option_map (changed_at change.Close k) s.newest))
    (shut_change i k change.Close s.older (shut_front i s.older (option_to_list s.newest) shut))
    (newest_closed i k s.newest (shut_back i s.older (option_to_list s.newest) shut))
shut_done s d used observations (action.Withdraw k) i suits h there shut =
    shut_append i (change_all (change.Leave (next_version s.version)) k s.older) (option_to_list s.newest)
    (shut_change i k (change.Leave (next_version s.version)) s.older (shut_front i s.older (option_to_list s.newest)
    shut)) (shut_back i s.older (option_to_list s.newest) shut)
shut_done s d used observations (action.Archive k) i suits h there shut =
    shut_append i (apart_from k s.older) (option_to_list s.newest)
    (shut_apart i k s.older (shut_front i s.older (option_to_list s.newest) shut))
    (shut_back i s.older (option_to_list s.newest) shut)
shut_done s d used observations action.End i suits h there shut = shut
shut_done s d used observations action.Fail i suits h there shut = shut

shut_stay : (s : State) (k i : ℕ) → Shut i (served s)
    → Shut i (change_all change.Stay k s.older ++ option_to_list s.newest)
shut_stay s k i shut =
    shut_append i (change_all change.Stay k s.older) (option_to_list s.newest)
    (shut_change i k change.Stay s.older (shut_front i s.older (option_to_list s.newest) shut))
    (shut_back i s.older (option_to_list s.newest) shut)

shut_failed : (s : State) (a : RotationAction) (i : ℕ) → Shut i (served s) → Shut i (served (failed s a))
shut_failed s (action.Remove k) i shut = shut
shut_failed s (action.Note k) i shut = shut
shut_failed s (action.Prepare k) i shut = shut
shut_failed s (action.Name k) i shut = shut
shut_failed s (action.Switch k) i shut = shut
shut_failed s (action.Close k) i shut = shut
shut_failed s (action.Withdraw k) i shut = shut_stay s k i shut
shut_failed s (action.Archive k) i shut = shut_stay s k i shut
shut_failed s action.End i shut = shut
shut_failed s action.Fail i shut = shut

shut_did : (w : World) (observations : List Observation) (o : Option RotationAction) (i : ℕ)
    → IfSome o (Suits w.state observations) → IsSound w.state w.disk w.used → has (served w.state) i ≡ true
    → Shut i (served w.state) → Shut i (served (did w o).state)
shut_did w observations None i suits h there shut = shut
shut_did w observations (Some a) i suits h there shut = shut_done w.state w.disk w.used observations a i suits h there
    shut

shut_did_fail : (w : World) (took : Bool) (o : Option RotationAction) (i : ℕ) → Shut i (served w.state)
    → Shut i (served (did_fail w took o).state)
shut_did_fail w took None i shut = shut
shut_did_fail w took (Some a) i shut = shut_failed w.state a i shut

-- at a start, what is observed to be near its end is closed
shut_found : (i first : ℕ) (observations : List Observation) (is : List ℕ) → is_near_end observations i ≡ true
    → Shut i (found_all first observations is)
shut_found i first observations [] e = tt
shut_found i first observations (k ∷ is) e = (
  λ same. or_right (nat_lt k first) (is_near_end observations k)
      (subst (λ (x : ℕ). is_near_end observations x ≡ true) (sym same) e),
  shut_found i first observations is e,
)

shut_last : (i first : ℕ) (observations : List Observation) (o : Option ℕ) → is_near_end observations i ≡ true
    → Shut i (option_to_list (option_map (found first observations) o))
shut_last i first observations None e = tt
shut_last i first observations (Some k) e = (
  λ same. or_right (nat_lt k first) (is_near_end observations k)
      (subst (λ (x : ℕ). is_near_end observations x ≡ true) (sym same) e),
  tt,
)

shut_opened : (settings : RotationSettings) (d : Disk) (observations : List Observation) (i : ℕ)
    → is_near_end observations i ≡ true → Shut i (served (opened settings d observations))
shut_opened settings d observations i e = shut_append i (found_all d.first observations (front_of d.journals))
    (option_to_list (option_map (found d.first observations) (last_of d.journals)))
    (shut_found i d.first observations (front_of d.journals) e) (shut_last i d.first observations (last_of d.journals)
    e)

shut_started : (settings : RotationSettings) (w : World) (is_restored : Bool) (observations : List Observation) (i : ℕ)
    → is_near_end observations i ≡ true → Shut i (served (started settings is_restored observations w).state)
shut_started settings w true observations i e = shut_opened settings (restored w.disk) observations i e
shut_started settings w false observations i e = shut_opened settings w.disk observations i e

-- whatever holds of what is known where workers don't matter holds once one has followed, or begun something
follows_keeps : (P : State → Type 0) (w : World) (k v : ℕ)
    → ((ws : List RotationWorker) → P (record w.state { workers = ws })) → P w.state → P (follows w k v).state
follows_keeps P w k v f h =
    elim (v == w.state.version) as
    (λ b. P (if b then record w {
      state = followed w.state k v;
      holds = other_holds k w.holds
          ++ record { number = k; seen = v; journals = set w.state } ∷ [];
    } else w).state) [
      | true ↦ elim (v == w.state.version) as
          (λ b. P (if b then record w.state { workers = other_workers k w.state.workers ++ worker k v ∷ [] }
          else w.state)) [ true ↦ f (other_workers k w.state.workers ++ worker k v ∷ []) | false ↦ h ]
      | false ↦ h
    ]

begins_keeps : (P : State → Type 0) (w : World) (k i : ℕ) → P w.state → P (begins w k i).state
begins_keeps P w k i h = elim (has_session w.holds k i && is_among i (set w.state)) as
    (λ b. P (if b then record w { busy = i ∷ w.busy } else w).state) [ true ↦ h | false ↦ h ]

pub closed_stays_closed : ClosedStaysClosed
closed_stays_closed settings d es e i folder seen there shut = after_each e seen
  where
    w : World
    w = run (first_start settings d) es

    after_each : (e : Event) → IsObservedAgain i e → Shut i (served (after w e).state)
    after_each (Does look) seen = shut_did w look.observations (decided w look) i (decided_suits w look)
        (good settings d es folder).base there shut
    after_each (Fails look took) seen = shut_did_fail w took (decided w look) i shut
    after_each (Restarts look took settings is_restored observations) seen =
        shut_started settings (did_fail w took (decided w look)) is_restored observations i seen
    after_each (Follows k v) seen = follows_keeps (λ s. Shut i (served s)) w k v (λ ws. shut) shut
    after_each (Refuses k) seen = shut
    after_each (Begins k n) seen = begins_keeps (λ s. Shut i (served s)) w k n shut
    after_each (Ends n) seen = shut

-- ---- the journal that accepts new work, or why none does

open_tells : (j : RotationJournal) (closed : Bool) (i : ℕ) → (if closed then work.Full else work.Accepted j.instance)
    ≡ work.Accepted i → (j.instance ≡ i) × (closed ≡ false)
open_tells j true i e = absurd (let k : work.Full ≡ work.Accepted i = e in cc)
open_tells j false i e = (cc, refl)

at_newest : (newest : Option RotationJournal) (i : ℕ) → new_work_of newest ≡ work.Accepted i
    → IfSome newest (λ n. (n.instance ≡ i) × (n.is_closed ≡ false)) × (is_none newest ≡ false)
at_newest None i e = absurd (let k : work.NoJournal ≡ work.Accepted i = e in cc)
at_newest (Some n) i e = (open_tells n n.is_closed i e, refl)

new_work_at : (over drains : Bool) (t : NewWork) (i : ℕ) → (if over then work.Over else if drains then work.Draining
    else t) ≡ work.Accepted i → (over ≡ false) × (drains ≡ false) × (t ≡ work.Accepted i)
new_work_at true drains t i e = absurd (let k : work.Over ≡ work.Accepted i = e in cc)
new_work_at false true t i e = absurd (let k : work.Draining ≡ work.Accepted i = e in cc)
new_work_at false false t i e = (refl, refl, e)

rows_at : (i : ℕ) (older : List RotationJournal) (newest : Option RotationJournal)
    → IfSome newest (λ n. RowsBelow n.instance older) → IfSome newest (λ n. (n.instance ≡ i) × (n.is_closed ≡ false))
    × (is_none newest ≡ false) → RowsBelow i older
rows_at i older None under k = absurd (let k : true ≡ false = k.1 in cc)
rows_at i older (Some n) under k = subst (λ (m : ℕ). RowsBelow m older) k.0.0 under

taker : (w : World) (i : ℕ) → IsGood w → new_work w.state ≡ work.Accepted i → IsTaker w.state i
taker w i g e =
    let a = new_work_at w.state.is_over w.state.settings.drains (new_work_of w.state.newest) i e in
    let n = at_newest w.state.newest i a.2 in
    record {
      newest = n.0;
      others = rows_at i w.state.older w.state.newest g.base.known.under n;
      drains = a.1;
      goes_on = a.0;
    }

-- what is told is true
full_tells : (j : RotationJournal) (closed : Bool) → (if closed then work.Full else work.Accepted j.instance)
    ≡ work.Full → closed ≡ true
full_tells j true e = refl
full_tells j false e = absurd (let k : work.Accepted j.instance ≡ work.Full = e in cc)

abbrev Reason : Bool → Bool → Option RotationJournal → NewWork → Type 0
Reason over drains newest (work.Accepted i) = Unit {0}
Reason over drains newest work.Over = over ≡ true
Reason over drains newest work.Draining = drains ≡ true
Reason over drains newest work.Full = option_map_or (λ n. n.is_closed) newest false ≡ true
Reason over drains newest work.NoJournal = newest ≡ None
Reason over drains newest work.Behind = ⊥

reason : (over drains : Bool) (newest : Option RotationJournal)
    → Reason over drains newest (if over then work.Over else if drains then work.Draining else new_work_of newest)
reason true drains newest = refl
reason false true newest = refl
reason false false None = refl
reason false false (Some n) = elim n.is_closed as (λ b. b ≡ n.is_closed
    → Reason false false (Some n) (if b then work.Full else work.Accepted n.instance)) [
      | true ↦ λ e. sym e
      | false ↦
          λ e. tt
    ] refl

tells : (w : World) → IsGood w → (t : NewWork) → new_work w.state ≡ t → Reason w.state.is_over w.state.settings.drains
    w.state.newest t → Tells w.state t
tells w g (work.Accepted i) e r = taker w i g e
tells w g work.Over e r = r
tells w g work.Draining e r = r
tells w g work.Full e r = r
tells w g work.NoJournal e r = r
tells w g work.Behind e r = absurd r

pub takes_or_tells : TakesOrTells
takes_or_tells settings d es folder = let w : World = run (first_start settings d) es in
    tells w (good settings d es folder) (new_work w.state) refl (reason w.state.is_over w.state.settings.drains
    w.state.newest)

answer_is : (b : Bool) (t : NewWork) (i : ℕ) → (if b then t else work.Behind) ≡ work.Accepted i → (b ≡ true)
    × (t ≡ work.Accepted i)
answer_is true t i e = (refl, e)
answer_is false t i e = absurd (let k : work.Behind ≡ work.Accepted i = e in cc)

newest_among : (newest : Option RotationJournal) (i : ℕ) → IfSome newest (λ n. (n.instance ≡ i) × (n.is_closed ≡ false))
    × (is_none newest ≡ false) → is_among i (instance_of newest) ≡ true
newest_among None i k = absurd (let k : true ≡ false = k.1 in cc)
newest_among (Some n) i k = or_left (n.instance == i) false (same_tells i n.instance (sym k.0.0))

pub answers_at_the_newest : AnswersAtTheNewest
answers_at_the_newest settings d es k i folder e =
    let w : World = run (first_start settings d) es in
    let g : IsGood w = good settings d es folder in
    let a = answer_is (is_current w.state.workers k w.state.version) (new_work w.state) i e in
    let n = at_newest w.state.newest i (new_work_at w.state.is_over w.state.settings.drains (new_work_of w.state.newest)
    i a.1).2 in (
      taker w i g a.1,
      current_session w.state.version (set w.state) w.disk.journals w.state.older w.holds k i g.held.each
          (is_among-append i (listed w.state.older) (instance_of w.state.newest)
          ∙ or_right (is_among i (listed w.state.older)) (is_among i (instance_of w.state.newest))
          (newest_among w.state.newest i n))
          (subst (λ (ws : List RotationWorker). is_current ws k w.state.version ≡ true) g.held.workers a.0),
    )

-- ---- it never goes back

abbrev AtLeast : ℕ → Option RotationJournal → Type 0
AtLeast i None = ⊥
AtLeast i (Some n) = i ≤ n.instance

least_switched : (i k : ℕ) (newest : Option RotationJournal) → IfSome newest (λ n. n.instance < k) → AtLeast i newest
    → i ≤ k
least_switched i k None lt h = absurd h
least_switched i k (Some n) lt h = omega arith

least_closed : (i k : ℕ) (newest : Option RotationJournal) → AtLeast i newest
    → AtLeast i (option_map (changed_at change.Close k) newest)
least_closed i k None h = h
least_closed i k (Some n) h = subst (λ (m : ℕ). i ≤ m) (sym (same_instance change.Close k n)) h

least_done : (s : State) (d : Disk) (used : List ℕ) (observations : List Observation) (a : RotationAction) (i : ℕ)
    → Suits s observations a → IsSound s d used → AtLeast i s.newest → AtLeast i (done s a).newest
least_done s d used observations (action.Remove k) i suits h l = l
least_done s d used observations (action.Note k) i suits h l = l
least_done s d used observations (action.Prepare k) i suits h l = l
least_done s d used observations (action.Name k) i suits h l = l
least_done s d used observations (action.Switch k) i suits h l =
    let at : Fits s.noted d.first s.newest used (stage.Named k) = at_stage s d used (stage.Named k) h suits.0 in
    least_switched i k s.newest at.2 l
least_done s d used observations (action.Close k) i suits h l = least_closed i k s.newest l
least_done s d used observations (action.Withdraw k) i suits h l = l
least_done s d used observations (action.Archive k) i suits h l = l
least_done s d used observations action.End i suits h l = l
least_done s d used observations action.Fail i suits h l = l

failed_newest : (s : State) (a : RotationAction) → (failed s a).newest ≡ s.newest
failed_newest s (action.Remove k) = refl
failed_newest s (action.Note k) = refl
failed_newest s (action.Prepare k) = refl
failed_newest s (action.Name k) = refl
failed_newest s (action.Switch k) = refl
failed_newest s (action.Close k) = refl
failed_newest s (action.Withdraw k) = refl
failed_newest s (action.Archive k) = refl
failed_newest s action.End = refl
failed_newest s action.Fail = refl

least_did : (w : World) (observations : List Observation) (o : Option RotationAction) (i : ℕ)
    → IfSome o (Suits w.state observations) → IsGood w → AtLeast i w.state.newest → AtLeast i (did w o).state.newest
least_did w observations None i suits g l = l
least_did w observations (Some a) i suits g l = least_done w.state w.disk w.used observations a i suits g.base l

least_did_fail : (w : World) (took : Bool) (o : Option RotationAction) (i : ℕ) → AtLeast i w.state.newest
    → AtLeast i (did_fail w took o).state.newest
least_did_fail w took None i l = l
least_did_fail w took (Some a) i l = subst (AtLeast i) (sym (failed_newest w.state a)) l

least_opened : (first i n : ℕ) (observations : List Observation) (is : List ℕ) → i ≤ n → Ascend is
    → is_among n is ≡ true → AtLeast i (option_map (found first observations) (last_of is))
least_opened first i n observations [] le a m = absurd (let m : false ≡ true = m in cc)
least_opened first i n observations (x ∷ xs) le a m = let most : n ≤ last_from x xs =
    last_most n x xs (front_below x xs a.0 a.1) m in omega arith

least_found : (first i : ℕ) (observations : List Observation) (is : List ℕ) (newest : Option RotationJournal)
    → Ascend is → IfSome newest (IsTop is) → AtLeast i newest
    → AtLeast i (option_map (found first observations) (last_of is))
least_found first i observations is None a top l = absurd l
least_found first i observations is (Some n) a top l = least_opened first i n.instance observations is l a top.0

least_started : (settings : RotationSettings) (w : World) (is_restored : Bool) (observations : List Observation) (i : ℕ)
    → IsGood w → AtLeast i w.state.newest → AtLeast i (started settings is_restored observations w).state.newest
least_started settings w true observations i g l = least_found (restored w.disk).first i observations w.disk.journals
    w.state.newest g.base.disk.ordered g.stands.top l
least_started settings w false observations i g l = least_found w.disk.first i observations w.disk.journals
    w.state.newest g.base.disk.ordered g.stands.top l

least_after : (w : World) (e : Event) (i : ℕ) → IsGood w → AtLeast i w.state.newest → AtLeast i (after w e).state.newest
least_after w (Does look) i g l = least_did w look.observations (decided w look) i (decided_suits w look) g l
least_after w (Fails look took) i g l = least_did_fail w took (decided w look) i l
least_after w (Restarts look took settings is_restored observations) i g l =
    least_started settings (did_fail w took (decided w look)) is_restored observations i (good_crash w look took g)
    (least_did_fail w took (decided w look) i l)
least_after w (Follows k v) i g l = follows_keeps (λ s. AtLeast i s.newest) w k v (λ ws. l) l
least_after w (Refuses k) i g l = l
least_after w (Begins k n) i g l = begins_keeps (λ s. AtLeast i s.newest) w k n l
least_after w (Ends n) i g l = l

least_run : (w : World) (es : List Event) (i : ℕ) → IsGood w → AtLeast i w.state.newest
    → AtLeast i (run w es).state.newest
least_run w [] i g l = l
least_run w (e ∷ es) i g l = least_run (after w e) es i (good_after w e g) (least_after w e i g l)

least_begun : (newest : Option RotationJournal) (i : ℕ) → IfSome newest (λ n. (n.instance ≡ i) × (n.is_closed ≡ false))
    × (is_none newest ≡ false) → AtLeast i newest
least_begun None i k = absurd (let k : true ≡ false = k.1 in cc)
least_begun (Some n) i k = let e = k.0.0 in omega arith

least_ended : (newest : Option RotationJournal) (i k : ℕ) → AtLeast i newest
    → IfSome newest (λ n. (n.instance ≡ k) × (n.is_closed ≡ false)) × (is_none newest ≡ false) → i ≤ k
least_ended None i k l n = absurd l
least_ended (Some m) i k l n = let e = n.0.0 in omega arith

newest_at : (s : State) (i : ℕ) → new_work s ≡ work.Accepted i
    → IfSome s.newest (λ n. (n.instance ≡ i) × (n.is_closed ≡ false)) × (is_none s.newest ≡ false)
newest_at s i e = at_newest s.newest i (new_work_at s.is_over s.settings.drains (new_work_of s.newest) i e).2

pub takers_ascend : TakersAscend
takers_ascend settings d es fs i k folder e f =
    let w : World = run (first_start settings d) es in
    least_ended (run w fs).state.newest i k (least_run w fs i (good settings d es folder)
    (least_begun w.state.newest i (newest_at w.state i e))) (newest_at (run w fs).state k f)

-- ---- what has failed

as_before : (w : World) (took : Bool) (a : RotationAction) → IsAsBefore w (did_fail w took (Some a))
as_before w took (action.Remove k) = record {
  set = refl;
  newest = refl;
  noted = refl;
  version = refl;
  workers = refl;
  stage = inl refl;
}
as_before w took (action.Note k) = record {
  set = refl;
  newest = refl;
  noted = refl;
  version = refl;
  workers = refl;
  stage = inl refl;
}
as_before w took (action.Prepare k) = record {
  set = refl;
  newest = refl;
  noted = refl;
  version = refl;
  workers = refl;
  stage = inr refl;
}
as_before w took (action.Name k) = record {
  set = refl;
  newest = refl;
  noted = refl;
  version = refl;
  workers = refl;
  stage = inl refl;
}
as_before w took (action.Switch k) = record {
  set = refl;
  newest = refl;
  noted = refl;
  version = refl;
  workers = refl;
  stage = inl refl;
}
as_before w took (action.Close k) = record {
  set = refl;
  newest = refl;
  noted = refl;
  version = refl;
  workers = refl;
  stage = inl refl;
}
as_before w took (action.Withdraw k) = record {
  set = failed_set w.state (action.Withdraw k);
  newest = refl;
  noted = refl;
  version = refl;
  workers = refl;
  stage = inl refl;
}
as_before w took (action.Archive k) = record {
  set = failed_set w.state (action.Archive k);
  newest = refl;
  noted = refl;
  version = refl;
  workers = refl;
  stage = inl refl;
}
as_before w took action.End = record {
  set = refl;
  newest = refl;
  noted = refl;
  version = refl;
  workers = refl;
  stage = inl refl;
}
as_before w took action.Fail = record {
  set = refl;
  newest = refl;
  noted = refl;
  version = refl;
  workers = refl;
  stage = inl refl;
}

nothing_did_fail : (w : World) (took : Bool) (o : Option RotationAction) → IsAsBefore w (did_fail w took o)
nothing_did_fail w took None = record {
  set = refl;
  newest = refl;
  noted = refl;
  version = refl;
  workers = refl;
  stage = inl refl;
}
nothing_did_fail w took (Some a) = as_before w took a

pub fails_in_place : FailsInPlace
fails_in_place w look took = nothing_did_fail w took (decided w look)

-- what was to be done of two decisions: where the first was that, or nothing, the other is too
abbrev Gives : RotationAction → Option RotationAction → Option RotationAction → Type 0
Gives a o p = o ≡ Some a → p ≡ Some a

abbrev Keeps : RotationAction → Option RotationAction → Option RotationAction → Type 0
Keeps a o p = Gives a o p × (o ≡ None → p ≡ None)

keeps_or : (a : RotationAction) (o oo p pp : Option RotationAction) → Keeps a o oo → Keeps a p pp
    → Keeps a (option_or o p) (option_or oo pp)
keeps_or a (Some b) oo p pp h k = (
  λ e. ap (λ (x : Option RotationAction). option_or x pp) (h.0 e),
  λ e. absurd (let e : Some b ≡ None = e in cc),
)
keeps_or a None oo p pp h k = (
  λ e. ap (λ (x : Option RotationAction). option_or x pp) (h.1 refl) ∙ k.0 e,
  λ e. ap (λ (x : Option RotationAction). option_or x pp) (h.1 refl) ∙ k.1 e,
)

gives_or : (a : RotationAction) (o oo p pp : Option RotationAction) → Gives a o oo → (p ≡ Some a → ⊥)
    → Gives a (option_or o p) (option_or oo pp)
gives_or a (Some b) oo p pp h n e = ap (λ (x : Option RotationAction). option_or x pp) (h e)
gives_or a None oo p pp h n e = absurd (n e)

keeps_same : (a : RotationAction) (o p : Option RotationAction) → p ≡ o → Keeps a o p
keeps_same a o p s = (λ e. s ∙ e, λ e. s ∙ e)

keeps_if : (a : RotationAction) (b : Bool) (o p : Option RotationAction) → Keeps a o p
    → Keeps a (if b then o else None) (if b then p else None)
keeps_if a true o p h = h
keeps_if a false o p h = (λ e. e, λ e. e)

-- the first of some journals, where one of them stays
never : (p : RotationJournal → Bool) (f : ℕ → RotationAction) (a : RotationAction) (js : List RotationJournal)
    → ((i : ℕ) → f i ≡ a → ⊥) → first_that p f js ≡ Some a → ⊥
never p f a [] n e = let e : None ≡ Some a = e in cc
never p f a (j ∷ js) n e = by (λ m. never p f a js n m) (p j) e
  where
    by : (first_that p f js ≡ Some a → ⊥) → (b : Bool)
        → (if b then Some (f j.instance) else first_that p f js) ≡ Some a → ⊥
    by rest true m = n j.instance (let m : Some (f j.instance) ≡ Some a = m in cc)
    by rest false m = rest m

none_stays : (p : RotationJournal → Bool) (f : ℕ → RotationAction) (k : ℕ) (js : List RotationJournal)
    → ((j : RotationJournal) → p (changed change.Stay j) ≡ false) → first_that p f js ≡ None
    → first_that p f (change_all change.Stay k js) ≡ None
none_stays p f k [] h e = e
none_stays p f k (j ∷ js) h e = by (λ n. none_stays p f k js h n) (p j) refl e
  where
    still : p j ≡ false → p (changed_at change.Stay k j) ≡ false
    still m = elim (j.instance == k) as (λ b. p (if b then changed change.Stay j else j) ≡ false) [
      | true ↦ h j
      | false ↦ m
    ]

    by : (first_that p f js ≡ None → first_that p f (change_all change.Stay k js) ≡ None) → (b : Bool) → p j ≡ b
        → (if b then Some (f j.instance) else first_that p f js) ≡ None
        → first_that p f (changed_at change.Stay k j ∷ change_all change.Stay k js) ≡ None
    by rest true m n = absurd (let n : Some (f j.instance) ≡ None = n in cc)
    by rest false m n = subst (λ (b : Bool). (if b then Some (f (changed_at change.Stay k j).instance)
        else first_that p f (change_all change.Stay k js)) ≡ None) (sym (still m)) (rest n)

same_stays : (p : RotationJournal → Bool) (f : ℕ → RotationAction) (k : ℕ) (js : List RotationJournal)
    → ((j : RotationJournal) → p (changed change.Stay j) ≡ p j)
    → first_that p f (change_all change.Stay k js) ≡ first_that p f js
same_stays p f k [] h = refl
same_stays p f k (j ∷ js) h =
    ap (λ (b : Bool). if b then Some (f (changed_at change.Stay k j).instance)
    else first_that p f (change_all change.Stay k js)) test
    ∙ ap (λ (i : ℕ). if p j then Some (f i) else first_that p f (change_all change.Stay k js))
    (same_instance change.Stay k j)
    ∙ ap (λ (o : Option RotationAction). if p j then Some (f j.instance) else o) (same_stays p f k js h)
  where
    test : p (changed_at change.Stay k j) ≡ p j
    test = elim (j.instance == k) as (λ b. p (if b then changed change.Stay j else j) ≡ p j) [
      | true ↦ h j
      | false ↦ refl
    ]

closing_stays : (observations : List Observation) (k : ℕ) (newest : Option RotationJournal)
    (older : List RotationJournal)
    → closing_of newest (change_all change.Stay k older) observations ≡ closing_of newest older observations
closing_stays observations k None older = same_stays (wants_close observations) action.Close k older (λ j. refl)
closing_stays observations k (Some n) older =
    ap (λ (o : Option RotationAction). if wants_close observations n then Some (action.Close n.instance) else o)
    (same_stays (wants_close observations) action.Close k older (λ j. refl))

ending_never : (b : Bool) (k : ℕ) → (if b then Some action.End else None) ≡ Some (action.Withdraw k) → ⊥
ending_never true k e = let e : Some action.End ≡ Some (action.Withdraw k) = e in cc
ending_never false k e = let e : None ≡ Some (action.Withdraw k) = e in cc

retrying_never : (b : Bool) (o : Option RotationAction) (k : ℕ) → (o ≡ Some (action.Withdraw k) → ⊥)
    → (if b then o else None) ≡ Some (action.Withdraw k) → ⊥
retrying_never true o k n e = n e
retrying_never false o k n e = let e : None ≡ Some (action.Withdraw k) = e in cc

-- one that couldn't be withdrawn is to be withdrawn again
withdrawn_again : (s : State) (look : Look) (k : ℕ)
    → decide s look.moment look.own look.observations ≡ Some (action.Withdraw k)
    → decide (failed s (action.Withdraw k)) look.moment look.own look.observations ≡ Some (action.Withdraw k)
withdrawn_again s look k e = over s.is_over look.own e
  where
    obs : List Observation
    obs = look.observations

    r : ℕ
    r = s.settings.remember

    later : State
    later = failed s (action.Withdraw k)

    a : RotationAction
    a = action.Withdraw k

    archive : Keeps a (first_that (wants_archive s.workers obs r) action.Archive s.older)
        (first_that (wants_archive s.workers obs r) action.Archive later.older)
    archive = (
      λ m. absurd (never (wants_archive s.workers obs r) action.Archive a s.older
          (λ i n. let n : action.Archive i ≡ action.Withdraw k = n in cc) m),
      none_stays (wants_archive s.workers obs r) action.Archive k s.older (λ j. refl),
    )

    leave : Keeps a (first_that (wants_leave obs r) action.Withdraw s.older)
        (first_that (wants_leave obs r) action.Withdraw later.older)
    leave = keeps_same a _ _ (same_stays (wants_leave obs r) action.Withdraw k s.older (λ j. refl))

    leaves : Keeps a (leaving s obs) (leaving later obs)
    leaves = keeps_if a (s.settings.rolls && has_next s.version) _ _
        (keeps_or a _ _ _ _ archive leave)

    begins : Keeps a (option_or (clearing s) (closing s obs)) (option_or (clearing later) (closing later obs))
    begins = keeps_or a _ _ _ _ (keeps_same a (clearing s) (clearing later) refl)
        (keeps_same a (closing s obs) (closing later obs) (closing_stays obs k s.newest s.older))

    goes : Keeps a (option_or (option_or (option_or (clearing s) (closing s obs)) (leaving s obs))
        (rolling s look.moment obs))
        (option_or (option_or (option_or (clearing later) (closing later obs)) (leaving later obs))
        (rolling later look.moment obs))
    goes = keeps_or a _ _ _ _ (keeps_or a _ _ _ _ begins leaves)
        (keeps_same a (rolling s look.moment obs) (rolling later look.moment obs) refl)

    all : Gives a (chosen s look.moment obs) (chosen later look.moment obs)
    all = gives_or a _ _ (retrying s obs) (retrying later obs)
        (gives_or a _ _ (ending s obs) (ending later obs) goes.0
        (ending_never (s.settings.drains && is_drained s obs) k))
        (retrying_never s.settings.rolls (first_that (wants_again s.workers obs r) action.Archive s.older) k
        (never (wants_again s.workers obs r) action.Archive a s.older
        (λ i n. let n : action.Archive i ≡ action.Withdraw k = n in cc)))

    over : (b own : Bool) → (if b then None else if not own then Some action.Fail else chosen s look.moment obs)
        ≡ Some a
        → (if b then None else if not own then Some action.Fail else chosen later look.moment obs) ≡ Some a
    over true own m = m
    over false false m = m
    over false true m = all m

tried : (w : World) (look : Look) (took : Bool) (a : RotationAction) → IsTriedAgain a → decided w look ≡ Some a
    → decided (did_fail w took (Some a)) look ≡ Some a
tried w look took (action.Note k) t e = e
tried w look took (action.Name k) t e = e
tried w look took (action.Switch k) t e = e
tried w look took (action.Close k) t e = e
tried w look took (action.Withdraw k) t e = withdrawn_again w.state look k e
tried w look took (action.Remove k) t e = absurd t
tried w look took (action.Prepare k) t e = absurd t
tried w look took (action.Archive k) t e = absurd t
tried w look took action.End t e = absurd t
tried w look took action.Fail t e = absurd t

stay_again : (ws : List RotationWorker) (observations : List Observation) (r : ℕ) (js : List RotationJournal) (i : ℕ)
    → some_is (may_archive ws observations r) js i ≡ true
    → IsSome (first_that (wants_again ws observations r) action.Archive (change_all change.Stay i js))
stay_again ws observations r [] i e = absurd (let e : false ≡ true = e in cc)
stay_again ws observations r (j ∷ js) i e =
    elim (or_cases ((j.instance == i) && may_archive ws observations r j) (some_is (may_archive ws observations r) js i)
    e) [
      | inl m ↦ (let k = both (j.instance == i) (may_archive ws observations r j) m in
          subst (λ (b : Bool). IsSome (first_that (wants_again ws observations r) action.Archive
          ((if b then changed change.Stay j else j) ∷ change_all change.Stay i js))) (sym k.0)
          (here (may_archive ws observations r j) (first_that (wants_again ws observations r) action.Archive
          (change_all change.Stay i js)) k.1))
      | inr m ↦ there (wants_again ws observations r (changed_at change.Stay i j)) (changed_at change.Stay i j).instance
          (first_that (wants_again ws observations r) action.Archive (change_all change.Stay i js))
          (stay_again ws observations r js i m)
    ]
  where
    here : (b : Bool) (o : Option RotationAction) → b ≡ true → IsSome (if b then Some (action.Archive j.instance)
        else o)
    here true o e = refl
    here false o e = absurd (let e : false ≡ true = e in cc)

    there : (b : Bool) (n : ℕ) (o : Option RotationAction) → IsSome o
        → IsSome (if b then Some (action.Archive n) else o)
    there true n o h = refl
    there false n o h = h

again : (w : World) (took : Bool) (observations : List Observation) (i : ℕ)
    → Suits w.state observations (action.Archive i)
    → IsSome (retrying (did_fail w took (Some (action.Archive i))).state observations)
again w took observations i suits =
    rolls w.state.settings.rolls (first_that (wants_again w.state.workers observations w.state.settings.remember)
    action.Archive (change_all change.Stay i w.state.older)) suits.1 (stay_again w.state.workers observations
    w.state.settings.remember w.state.older i suits.0)
  where
    rolls : (b : Bool) (o : Option RotationAction) → b ≡ true → IsSome o → IsSome (if b then o else None)
    rolls true o e h = h
    rolls false o e h = absurd (let e : false ≡ true = e in cc)

pub tries_again : TriesAgain
tries_again w look took a e = (
  λ t. subst (λ (o : Option RotationAction). decided (did_fail w took o) look ≡ Some a) (sym e)
      (tried w look took a t e),
  λ i same. subst (λ (o : Option RotationAction). IsSome (retrying (did_fail w took o).state look.observations))
      (sym (e ∙ ap Some same))
      (again w took look.observations i (suits_at w look (action.Archive i) (e ∙ ap Some same))),
)

-- ---- the end

or_some : (o : Option RotationAction) (a : RotationAction) → IsSome (option_or o (Some a))
or_some None a = refl
or_some (Some b) a = refl

or_more : (o p : Option RotationAction) → IsSome o → IsSome (option_or o p)
or_more None p h = absurd (let h : false ≡ true = h in cc)
or_more (Some a) p h = refl

end_in : (drains drained : Bool) (o p : Option RotationAction) → drains ≡ true → drained ≡ true
    → IsSome (option_or (option_or o (if drains && drained then Some action.End else None)) p)
end_in true true o p e f = or_more (option_or o (Some action.End)) p (or_some o action.End)
end_in true false o p e f = absurd (let f : false ≡ true = f in cc)
end_in false drained o p e f = absurd (let e : false ≡ true = e in cc)

decided_in : (over mine : Bool) (o : Option RotationAction) → over ≡ false → IsSome o
    → IsSome (if over then None else if not mine then Some action.Fail else o)
decided_in true mine o e h = absurd (let k : true ≡ false = e in cc)
decided_in false false o e h = refl
decided_in false true o e h = h

pub ends_once_drained : EndsOnceDrained
ends_once_drained s moment own observations over drains drained =
    decided_in s.is_over own (chosen s moment observations) over (end_in s.settings.drains (is_drained s observations)
    (option_or (option_or (option_or (clearing s) (closing s observations)) (leaving s observations))
    (rolling s moment observations)) (retrying s observations) drains drained)

-- ---- what leaves isn't held up

first_of : (a : RotationAction) (over : Bool) (c k l r e t : Option RotationAction) → over ≡ false → c ≡ None → k ≡ None
    → l ≡ Some a
    → (if over then None else option_or (option_or (option_or (option_or (option_or c k) l) r) e) t) ≡ Some a
first_of a true c k l r e t o p q h = absurd (let o : true ≡ false = o in cc)
first_of a false (Some b) k l r e t o p q h = absurd (let p : Some b ≡ None = p in cc)
first_of a false None (Some b) l r e t o p q h = absurd (let q : Some b ≡ None = q in cc)
first_of a false None None None r e t o p q h = absurd (let h : None ≡ Some a = h in cc)
first_of a false None None (Some b) r e t o p q h = h

pub leaves_before_rolling : LeavesBeforeRolling
leaves_before_rolling s moment observations a o p q h = first_of a s.is_over (clearing s) (closing s observations)
    (leaving s observations) (rolling s moment observations) (ending s observations) (retrying s observations) o p q h

-- ---- a file

-- its one journal is served, on disk, and it never rolls
pub record IsFile (i : ℕ) (s : State) (ds : List ℕ) : Type 0 where
  pub rolls : s.settings.rolls ≡ false
  pub older : s.older ≡ []
  pub newest : instance_of s.newest ≡ i ∷ []
  pub disk : ds ≡ i ∷ []

file_done : (i : ℕ) (s : State) (d : Disk) (a : RotationAction) → IsPlain a → IsFile i s d.journals
    → IsFile i (done s a) (carried a d).journals
file_done i s d (action.Remove k) p h = record { rolls = h.rolls; older = h.older; newest = h.newest; disk = h.disk }
file_done i s d (action.Close k) p h = record {
  rolls = h.rolls;
  older = ap (change_all change.Close k) h.older;
  newest = closed_instance k s.newest ∙ h.newest;
  disk = h.disk;
}
file_done i s d action.End p h = record { rolls = h.rolls; older = h.older; newest = h.newest; disk = h.disk }
file_done i s d action.Fail p h = record { rolls = h.rolls; older = h.older; newest = h.newest; disk = h.disk }
file_done i s d (action.Note k) p h = absurd p
file_done i s d (action.Prepare k) p h = absurd p
file_done i s d (action.Name k) p h = absurd p
file_done i s d (action.Switch k) p h = absurd p
file_done i s d (action.Withdraw k) p h = absurd p
file_done i s d (action.Archive k) p h = absurd p

file_failed : (i : ℕ) (s : State) (ds : List ℕ) (a : RotationAction) → IsPlain a → IsFile i s ds
    → IsFile i (failed s a) ds
file_failed i s ds (action.Remove k) p h = record { rolls = h.rolls; older = h.older; newest = h.newest; disk = h.disk }
file_failed i s ds (action.Close k) p h = h
file_failed i s ds action.End p h = record { rolls = h.rolls; older = h.older; newest = h.newest; disk = h.disk }
file_failed i s ds action.Fail p h = record { rolls = h.rolls; older = h.older; newest = h.newest; disk = h.disk }
file_failed i s ds (action.Note k) p h = absurd p
file_failed i s ds (action.Prepare k) p h = absurd p
file_failed i s ds (action.Name k) p h = absurd p
file_failed i s ds (action.Switch k) p h = absurd p
file_failed i s ds (action.Withdraw k) p h = absurd p
file_failed i s ds (action.Archive k) p h = absurd p

carried_plain : (d : Disk) (a : RotationAction) → IsPlain a → (carried a d).journals ≡ d.journals
carried_plain d (action.Remove k) p = refl
carried_plain d (action.Close k) p = refl
carried_plain d action.End p = refl
carried_plain d action.Fail p = refl
carried_plain d (action.Note k) p = absurd p
carried_plain d (action.Prepare k) p = absurd p
carried_plain d (action.Name k) p = absurd p
carried_plain d (action.Switch k) p = absurd p
carried_plain d (action.Withdraw k) p = absurd p
carried_plain d (action.Archive k) p = absurd p

abbrev StaysFile : ℕ → World → Type 0
StaysFile i w = IsFile i w.state w.disk.journals

file_did : (i : ℕ) (w : World) (observations : List Observation) (o : Option RotationAction)
    → IfSome o (Suits w.state observations) → StaysFile i w → StaysFile i (did w o)
file_did i w observations None suits h = h
file_did i w observations (Some a) suits h = file_done i w.state w.disk a (plain w.state observations h.rolls a suits) h

file_did_fail : (i : ℕ) (w : World) (observations : List Observation) (took : Bool) (o : Option RotationAction)
    → IfSome o (Suits w.state observations) → StaysFile i w → StaysFile i (did_fail w took o)
file_did_fail i w observations took None suits h = h
file_did_fail i w observations true (Some a) suits h = file_failed i w.state (carried a w.disk).journals a
    (plain w.state observations h.rolls a suits) (record {
      rolls = h.rolls;
      older = h.older;
      newest = h.newest;
      disk = carried_plain w.disk a (plain w.state observations h.rolls a suits) ∙ h.disk;
    })
file_did_fail i w observations false (Some a) suits h = file_failed i w.state w.disk.journals a
    (plain w.state observations h.rolls a suits) h

file_opened : (i : ℕ) (settings : RotationSettings) (d : Disk) (observations : List Observation)
    → settings.rolls ≡ false → d.journals ≡ i ∷ [] → IsFile i (opened settings d observations) d.journals
file_opened i settings d observations e k = record {
  rolls = e;
  older = ap (λ (is : List ℕ). found_all d.first observations (front_of is)) k;
  newest = ap (λ (is : List ℕ). instance_of (option_map (found d.first observations) (last_of is))) k;
  disk = k;
}

file_started : (i : ℕ) (settings : RotationSettings) (w : World) (is_restored : Bool) (observations : List Observation)
    → settings.rolls ≡ false → StaysFile i w → StaysFile i (started settings is_restored observations w)
file_started i settings w true observations e h = file_opened i settings (restored w.disk) observations e h.disk
file_started i settings w false observations e h = file_opened i settings w.disk observations e h.disk

file_by : (i : ℕ) (s : State) (ds : List ℕ) (ws : List RotationWorker) → IsFile i s ds
    → IsFile i (record s { workers = ws }) ds
file_by i s ds ws h = record { rolls = h.rolls; older = h.older; newest = h.newest; disk = h.disk }

file_follows : (i : ℕ) (w : World) (k v : ℕ) → StaysFile i w → StaysFile i (follows w k v)
file_follows i w k v h = subst (λ (d : Disk). IsFile i (follows w k v).state d.journals) (sym (follows_disk w k v))
    (follows_keeps (λ s. IsFile i s w.disk.journals) w k v (λ ws. file_by i w.state w.disk.journals ws h) h)

file_begins : (i : ℕ) (w : World) (k n : ℕ) → StaysFile i w → StaysFile i (begins w k n)
file_begins i w k n h = subst (λ (d : Disk). IsFile i (begins w k n).state d.journals) (sym (begins_disk w k n))
    (begins_keeps (λ s. IsFile i s w.disk.journals) w k n h)

file_run : (i : ℕ) (w : World) (es : List Event) → NeverRolls es → StaysFile i w → StaysFile i (run w es)
file_run i w [] n h = h
file_run i w (Does look ∷ es) n h = file_run i (after w (Does look)) es n
    (file_did i w look.observations (decided w look) (decided_suits w look) h)
file_run i w (Fails look took ∷ es) n h = file_run i (after w (Fails look took)) es n
    (file_did_fail i w look.observations took (decided w look) (decided_suits w look) h)
file_run i w (Restarts look took settings is_restored observations ∷ es) n h =
    file_run i (after w (Restarts look took settings is_restored observations)) es n.1
    (file_started i settings (did_fail w took (decided w look)) is_restored observations n.0
    (file_did_fail i w look.observations took (decided w look) (decided_suits w look) h))
file_run i w (Follows k v ∷ es) n h = file_run i (after w (Follows k v)) es n (file_follows i w k v h)
file_run i w (Refuses k ∷ es) n h = file_run i (after w (Refuses k)) es n (file_by i w.state w.disk.journals _ h)
file_run i w (Begins k m ∷ es) n h = file_run i (after w (Begins k m)) es n (file_begins i w k m h)
file_run i w (Ends m ∷ es) n h = file_run i (after w (Ends m)) es n h

pub keeps_the_file : KeepsTheFile
keeps_the_file settings i es e n =
    let h : StaysFile i (run (first_start settings (file i)) es) = file_run i (first_start settings (file i)) es n
    (file_opened i settings (file i) [] e refl) in
    let w : World = run (first_start settings (file i)) es in
    (ap (λ (js : List RotationJournal). listed js ++ instance_of w.state.newest) h.older ∙ h.newest, h.disk)
