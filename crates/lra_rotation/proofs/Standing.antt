-- What is known stands on disk, and what stands in use there is known.
use Rattle.std.proofs.Common.{◌≡◌, ◌≢◌, ◌⊎◌, ℕ, ◌<◌, ◌==◌, Bool, true, false, ◌&&◌, ◌||◌, not, if◌then◌else◌, List, []}
use Rattle.std.proofs.Common.{◌∷◌, ◌++◌, Option, None, Some, inl, inr, refl, sym, ap, ◌∙◌, subst, arith}
use Rattle.std.specs.Prelude.{IsTrue, IfSome, is_none, option_map, option_to_list}
use Rattle.std.proofs.lemmas.Bool.Decides.{eqb_tells}
use Rattle.lra_rotation.specs.declared.settings.RotationSettings.{RotationSettings}
use Rattle.lra_rotation.specs.declared.journal.RotationJournal.{RotationJournal}
use Rattle.lra_rotation.specs.declared.journal.Observation.{Observation}
use Rattle.lra_rotation.specs.declared.journal.RotationWorker.{RotationWorker}
use Rattle.lra_rotation.specs.declared.action.Stage.{Stage}
use Rattle.lra_rotation.specs.declared.action.Stage.TheVariants as stage
use Rattle.lra_rotation.specs.declared.action.Change.{Change}
use Rattle.lra_rotation.specs.declared.action.Change.TheVariants as change
use Rattle.lra_rotation.specs.declared.action.RotationAction.{RotationAction}
use Rattle.lra_rotation.specs.declared.action.RotationAction.TheVariants as action
use Rattle.lra_rotation.specs.States.{State, next_version, listed, instance_of, set}
use Rattle.lra_rotation.specs.Deciding.{is_done, is_free, is_waiting, is_left_by_all, wants_leave, may_archive}
use Rattle.lra_rotation.specs.Disks.{Disk, carried, opened, without, found, found_all, last_of, last_from, front_of}
use Rattle.lra_rotation.specs.Disks.{front_from}
use Rattle.lra_rotation.specs.Runs.{done, failed, changed, changed_at, change_all, apart_from, new_journal}
use Rattle.lra_rotation.specs.Laws.{Suits, has, some_is, is_among, is_next}
use Rattle.lra_rotation.proofs.Orders.{both, or_cases, or_left, or_right, same_instance, has_some, Those, those_weaker}
use Rattle.lra_rotation.proofs.Orders.{only, RowsAscend}
use Rattle.lra_rotation.proofs.Among.{is_among-append, is_among-without, moved, left_was, pushed_was, pushed_is}
use Rattle.lra_rotation.proofs.Among.{last_among, front_among, last_or_front, same_of, same_tells}
use Rattle.lra_rotation.proofs.Sound.{IsSound, IsKnown, Fits, older_below}

-- a journal stands in use on disk, unless archiving it has failed, which was tried only once it had left the set
abbrev pub IsPresent : List ℕ → RotationJournal → Type 0
IsPresent ds j = (j.stays ≡ false → is_among j.instance ds ≡ true)
    × (is_none j.left ≡ true → is_among j.instance ds ≡ true)

abbrev pub Present : List ℕ → List RotationJournal → Type 0
Present ds [] = Unit {0}
Present ds (j ∷ js) = IsPresent ds j × Present ds js

-- the newest does, and is in the set
abbrev pub IsTop : List ℕ → RotationJournal → Type 0
IsTop ds n = (is_among n.instance ds ≡ true) × (n.stays ≡ false) × (is_none n.left ≡ true)

-- the next one does, once it has its name
abbrev pub IsNamed : List ℕ → Stage → Type 0
IsNamed ds stage.Idle = Unit {0}
IsNamed ds (stage.Noted i) = Unit {0}
IsNamed ds (stage.Prepared i) = Unit {0}
IsNamed ds (stage.Named i) = is_among i ds ≡ true

abbrev pub Knows : List ℕ → List RotationJournal → Option RotationJournal → Stage → Type 0
Knows ds older newest st = (i : ℕ) → is_among i ds ≡ true → (has (older ++ option_to_list newest) i || is_next st i)
    ≡ true

pub record IsStanding (ds : List ℕ) (older : List RotationJournal) (newest : Option RotationJournal) (st : Stage) : Type
    0 where
  pub present : Present ds older
  pub top : IfSome newest (IsTop ds)
  pub named : IsNamed ds st
  pub knows : Knows ds older newest st

-- ---- what is there

pub has_append : (xs ys : List RotationJournal) (i : ℕ) → has (xs ++ ys) i ≡ (has xs i || has ys i)
has_append [] ys i = refl
has_append (x ∷ xs) ys i = ap (λ b. (x.instance == i) || b) (has_append xs ys i) ∙ or_assoc (x.instance == i) (has xs i)
    (has ys i)
  where
    or_assoc : (a b c : Bool) → (a || (b || c)) ≡ ((a || b) || c)
    or_assoc true b c = refl
    or_assoc false b c = refl

has_left : (xs ys : List RotationJournal) (i : ℕ) → has xs i ≡ true → has (xs ++ ys) i ≡ true
has_left xs ys i e = has_append xs ys i ∙ or_left (has xs i) (has ys i) e

has_right : (xs ys : List RotationJournal) (i : ℕ) → has ys i ≡ true → has (xs ++ ys) i ≡ true
has_right xs ys i e = has_append xs ys i ∙ or_right (has xs i) (has ys i) e

has_either : (xs ys : List RotationJournal) (i : ℕ) → has (xs ++ ys) i ≡ true → (has xs i ≡ true) ⊎ (has ys i ≡ true)
has_either xs ys i e = or_cases (has xs i) (has ys i) (sym (has_append xs ys i) ∙ e)

has_change : (c : Change) (k : ℕ) (js : List RotationJournal) (i : ℕ) → has (change_all c k js) i ≡ has js i
has_change c k [] i = refl
has_change c k (j ∷ js) i = ap (λ (m : ℕ). (m == i) || has (change_all c k js) i) (same_instance c k j)
    ∙ ap (λ b. (j.instance == i) || b) (has_change c k js i)

has_apart : (k : ℕ) (js : List RotationJournal) (i : ℕ) → i ≢ k → has js i ≡ true → has (apart_from k js) i ≡ true
has_apart k [] i d e = e
has_apart k (j ∷ js) i d e =
    let P : Bool → Type 0 = λ b. has (if not b then j ∷ apart_from k js else apart_from k js) i ≡ true in
    elim (eqb_tells j.instance k) [
      | inl m ↦ subst P (sym m.0) (elim (or_cases (j.instance == i) (has js i) e) [
        | inl n ↦ absurd (d (sym (same_of j.instance i n) ∙ m.1))
        | inr n ↦ has_apart k js i d n
      ])
      | inr m ↦ subst P (sym m.0) (elim (or_cases (j.instance == i) (has js i) e) [
        | inl n ↦ or_left (j.instance == i) (has (apart_from k js) i) n
        | inr n ↦ or_right (j.instance == i) (has (apart_from k js) i) (has_apart k js i d n)
      ])
    ]

has_newest : (k : ℕ) (newest : Option RotationJournal) (i : ℕ) → has (option_to_list newest) i ≡ true
    → has (option_to_list (option_map (changed_at change.Close k) newest)) i ≡ true
has_newest k None i e = e
has_newest k (Some n) i e = ap (λ (m : ℕ). (m == i) || false) (same_instance change.Close k n) ∙ e

-- ---- what is present

present_more : (ds es : List ℕ) (js : List RotationJournal) → ((i : ℕ) → is_among i ds ≡ true → is_among i es ≡ true)
    → Present ds js → Present es js
present_more ds es [] f h = tt
present_more ds es (j ∷ js) f h = (
  (λ e. f j.instance (h.0.0 e), λ e. f j.instance (h.0.1 e)),
  present_more ds es js f h.1,
)

top_more : (ds es : List ℕ) (newest : Option RotationJournal) → ((i : ℕ) → is_among i ds ≡ true → is_among i es ≡ true)
    → IfSome newest (IsTop ds) → IfSome newest (IsTop es)
top_more ds es None f h = tt
top_more ds es (Some n) f h = (f n.instance h.0, h.1, h.2)

present_push : (ds : List ℕ) (js : List RotationJournal) (newest : Option RotationJournal) → Present ds js
    → IfSome newest (IsTop ds) → Present ds (js ++ option_to_list newest)
present_push ds [] None h k = tt
present_push ds [] (Some n) h k = ((λ _. k.0, λ _. k.0), tt)
present_push ds (j ∷ js) newest h k = (h.0, present_push ds js newest h.1 k)

-- a change that keeps a journal present, where all of its instance are so
abbrev Bears : List ℕ → Change → RotationJournal → Type 0
Bears ds c j = IsPresent ds j → IsPresent ds (changed c j)

present_one : (ds : List ℕ) (c : Change) (k : ℕ) (j : RotationJournal) → (j.instance ≡ k → Bears ds c j)
    → IsPresent ds j → IsPresent ds (changed_at c k j)
present_one ds c k j f h =
    let P : Bool → Type 0 = λ b. IsPresent ds (if b then changed c j else j) in
    elim (eqb_tells j.instance k) [
      | inl m ↦ subst P (sym m.0) (f m.1 h)
      | inr m ↦ subst P (sym m.0) h
    ]

present_close : (ds : List ℕ) (k : ℕ) (js : List RotationJournal) → Present ds js
    → Present ds (change_all change.Close k js)
present_close ds k [] h = tt
present_close ds k (j ∷ js) h = (present_one ds change.Close k j (λ _ g. g) h.0, present_close ds k js h.1)

abbrev is_inside : RotationJournal → Bool
is_inside j = is_none j.left

present_leave : (ds : List ℕ) (v k : ℕ) (js : List RotationJournal) → Those k is_inside js → Present ds js
    → Present ds (change_all (change.Leave v) k js)
present_leave ds v k [] t h = tt
present_leave ds v k (j ∷ js) t h = (
  present_one ds (change.Leave v) k j (λ e g. (λ _. g.1 (t.0 e), λ (n : false ≡ true). absurd (cc))) h.0,
  present_leave ds v k js t.1 h.1,
)

abbrev pub has_left_set : RotationJournal → Bool
has_left_set j = not (is_none j.left)

shut_none : (o : Option ℕ) → not (is_none o) ≡ true → is_none o ≡ true → ⊥
shut_none None e k = absurd (let e : false ≡ true = e in cc)
shut_none (Some v) e k = absurd (let k : false ≡ true = k in cc)

present_stay : (ds : List ℕ) (k : ℕ) (js : List RotationJournal) → Present ds js
    → Present ds (change_all change.Stay k js)
present_stay ds k [] h = tt
present_stay ds k (j ∷ js) h = (
  present_one ds change.Stay k j (λ _ g. (λ (n : true ≡ false). absurd (cc), g.1)) h.0,
  present_stay ds k js h.1,
)

-- one that was archived, though that failed
present_gone : (ds : List ℕ) (k : ℕ) (js : List RotationJournal) → Those k has_left_set js → Present ds js
    → Present (without k ds) (change_all change.Stay k js)
present_gone ds k [] t h = tt
present_gone ds k (j ∷ js) t h = (one, present_gone ds k js t.1 h.1)
  where
    one : IsPresent (without k ds) (changed_at change.Stay k j)
    one =
        let P : Bool → Type 0 = λ b. IsPresent (without k ds) (if b then changed change.Stay j else j) in
        elim (eqb_tells j.instance k) [
          | inl m ↦ subst P (sym m.0) (λ (n : true ≡ false). absurd (cc), λ n. absurd (shut_none j.left (t.0 m.1) n))
          | inr m ↦ subst P (sym m.0) (
            λ n. is_among-without j.instance k ds m.1 (h.0.0 n),
            λ n. is_among-without j.instance k ds m.1 (h.0.1 n),
          )
        ]

present_apart : (ds : List ℕ) (k : ℕ) (js : List RotationJournal) → Present ds js
    → Present (without k ds) (apart_from k js)
present_apart ds k [] h = tt
present_apart ds k (j ∷ js) h =
    let P : Bool → Type 0 = λ b. Present (without k ds) (if not b then j ∷ apart_from k js else apart_from k js) in
    elim (eqb_tells j.instance k) [
      | inl m ↦ subst P (sym m.0) (present_apart ds k js h.1)
      | inr m ↦
          subst P (sym m.0) (
            (
              λ n. is_among-without j.instance k ds m.1 (h.0.0 n),
              λ n. is_among-without j.instance k ds
                  m.1 (h.0.1 n),
            ),
            present_apart ds k js h.1,
          )
    ]

top_close : (ds : List ℕ) (k : ℕ) (newest : Option RotationJournal) → IfSome newest (IsTop ds)
    → IfSome (option_map (changed_at change.Close k) newest) (IsTop ds)
top_close ds k None h = tt
top_close ds k (Some n) h = elim (n.instance == k) as (λ b. IsTop ds (if b then changed change.Close n else n))
    [ true ↦ h | false ↦ h ]

top_without : (ds : List ℕ) (k : ℕ) (newest : Option RotationJournal) → IfSome newest (λ n. k < n.instance)
    → IfSome newest (IsTop ds) → IfSome newest (IsTop (without k ds))
top_without ds k None lt h = tt
top_without ds k (Some n) lt h = (is_among-without n.instance k ds (λ e. omega arith) h.0, h.1, h.2)

-- the next one is another than one that is older
named_without : (ds : List ℕ) (k noted first : ℕ) (newest : Option RotationJournal) (used : List ℕ) (st : Stage)
    → IfSome newest (λ n. k < n.instance) → IsTrue (not (is_none newest)) → Fits noted first newest used st
    → IsNamed ds st → IsNamed (without k ds) st
named_without ds k noted first newest used stage.Idle lt there fits h = tt
named_without ds k noted first newest used (stage.Noted i) lt there fits h = tt
named_without ds k noted first newest used (stage.Prepared i) lt there fits h = tt
named_without ds k noted first None used (stage.Named i) lt there fits h = absurd (let there : false ≡ true = there in
    cc)
named_without ds k noted first (Some n) used (stage.Named i) lt there fits h =
    is_among-without i k ds (λ e. let more = fits.2 in omega arith) h

-- ---- what is known

knows_at : (ds : List ℕ) (older : List RotationJournal) (newest : Option RotationJournal) (st at : Stage) → st ≡ at
    → Knows ds older newest st → Knows ds older newest at
knows_at ds older newest st at e h = subst (λ (x : Stage). Knows ds older newest x) e h

-- where the journals that are known have all that others had, and the next one is no other
knows_more : (ds : List ℕ) (older later : List RotationJournal) (newest last : Option RotationJournal) (st : Stage)
    → ((i : ℕ) → has (older ++ option_to_list newest) i ≡ true → has (later ++ option_to_list last) i ≡ true)
    → Knows ds older newest st → Knows ds later last st
knows_more ds older later newest last st f h i e =
    elim (or_cases (has (older ++ option_to_list newest) i) (is_next st i) (h i e)) [
      | inl m ↦ or_left (has (later ++ option_to_list last) i) (is_next st i) (f i m)
      | inr m ↦ or_right (has (later ++ option_to_list last) i) (is_next st i) m
    ]

has_changed : (c : Change) (k : ℕ) (older : List RotationJournal) (newest : Option RotationJournal) (i : ℕ)
    → has (older ++ option_to_list newest) i ≡ true → has (change_all c k older ++ option_to_list newest) i ≡ true
has_changed c k older newest i e = elim (has_either older (option_to_list newest) i e) [
  | inl m ↦ has_left (change_all c k older) (option_to_list newest) i (has_change c k older i ∙ m)
  | inr m ↦ has_right (change_all c k older) (option_to_list newest) i m
]

has_closed : (k : ℕ) (older : List RotationJournal) (newest : Option RotationJournal) (i : ℕ)
    → has (older ++ option_to_list newest) i ≡ true
    → has (change_all change.Close k older ++ option_to_list (option_map (changed_at change.Close k) newest)) i ≡ true
has_closed k older newest i e = elim (has_either older (option_to_list newest) i e) [
  | inl m ↦ has_left (change_all change.Close k older) (option_to_list (option_map (changed_at change.Close k) newest))
      i (has_change change.Close k older i ∙ m)
  | inr m ↦ has_right (change_all change.Close k older) (option_to_list (option_map (changed_at change.Close k) newest))
      i (has_newest k newest i m)
]

knows_named : (ds : List ℕ) (older : List RotationJournal) (newest : Option RotationJournal) (k : ℕ) (st : Stage)
    → is_next st k ≡ true → ((i : ℕ) → (k == i) ≡ true → is_next st i ≡ true)
    → Knows ds older newest (stage.Prepared k) → Knows (without k ds ++ k ∷ []) older newest st
knows_named ds older newest k st here there h i e = elim (pushed_was i k ds e) [
  | inl m ↦ or_right (has (older ++ option_to_list newest) i) (is_next st i) (there i (same_tells i k (sym m)))
  | inr m ↦ (elim (or_cases (has (older ++ option_to_list newest) i) (k == i) (h i m)) [
    | inl n ↦ or_left (has (older ++ option_to_list newest) i) (is_next st i) n
    | inr n ↦ or_right (has (older ++ option_to_list newest) i) (is_next st i) (there i n)
  ])
]

knows_switched : (ds : List ℕ) (older : List RotationJournal) (newest : Option RotationJournal) (k : ℕ)
    → Knows ds older newest (stage.Named k) → Knows ds (older ++ option_to_list newest) (Some (new_journal k))
    stage.Idle
knows_switched ds older newest k h i e = or_left (has ((older ++ option_to_list newest) ++ new_journal k ∷ []) i) false
    (elim (or_cases (has (older ++ option_to_list newest) i) (k == i) (h i e)) [
      | inl m ↦ has_left (older ++ option_to_list newest) (new_journal k ∷ []) i m
      | inr m ↦ has_right (older ++ option_to_list newest) (new_journal k ∷ []) i (or_left (k == i) false m)
    ])

knows_archived : (ds : List ℕ) (older : List RotationJournal) (newest : Option RotationJournal) (k : ℕ) (st : Stage)
    → Knows ds older newest st → Knows (without k ds) (apart_from k older) newest st
knows_archived ds older newest k st h i e =
    let w = left_was i k ds e in
    elim (or_cases (has (older ++ option_to_list newest) i) (is_next st i) (h i w.1)) [
      | inr m ↦ or_right (has (apart_from k older ++ option_to_list newest) i) (is_next st i) m
      | inl m ↦ or_left (has (apart_from k older ++ option_to_list newest) i) (is_next st i)
          (elim (has_either older (option_to_list newest) i m) [
            | inl n ↦ has_left (apart_from k older) (option_to_list newest) i (has_apart k older i w.0 n)
            | inr n ↦ has_right (apart_from k older) (option_to_list newest) i n
          ])
    ]

knows_less : (ds : List ℕ) (older : List RotationJournal) (newest : Option RotationJournal) (k : ℕ) (st : Stage)
    → Knows ds older newest st → Knows (without k ds) older newest st
knows_less ds older newest k st h i e = h i (left_was i k ds e).1

-- ---- what is done next keeps all that

abbrev Stands : State → Disk → Type 0
Stands s d = IsStanding d.journals s.older s.newest s.stage

pub left_all : (ws : List RotationWorker) (observations : List Observation) (r : ℕ) (j : RotationJournal)
    → may_archive ws observations r j ≡ true → has_left_set j ≡ true
left_all ws observations r j h =
    has_version ws j.left (both (is_done observations r j.instance && is_free observations j.instance
    && not (is_waiting observations j.instance)) (is_left_by_all ws j) h).1
  where
    has_version : (ws : List RotationWorker) (o : Option ℕ)
        → is_left_by_all ws (record { instance = 0; is_closed = false; left = o; stays = false }) ≡ true
        → not (is_none o) ≡ true
    has_version ws None e = absurd (let e : false ≡ true = e in cc)
    has_version ws (Some v) e = refl

leave_inside : (observations : List Observation) (r : ℕ) (j : RotationJournal) → wants_leave observations r j ≡ true
    → is_inside j ≡ true
leave_inside observations r j h =
    (both (is_none j.left) (is_done observations r j.instance)
    (both (is_none j.left && is_done observations r j.instance) (not (is_waiting observations j.instance)) h).0).0

pub those_left : (s : State) (observations : List Observation) (k : ℕ) → RowsAscend s.older
    → some_is (may_archive s.workers observations s.settings.remember) s.older k ≡ true → Those k has_left_set s.older
those_left s observations k a e = those_weaker k (may_archive s.workers observations s.settings.remember) has_left_set
    s.older (left_all s.workers observations s.settings.remember)
    (only (may_archive s.workers observations s.settings.remember) s.older k a e)

newest_there : (older : List RotationJournal) (newest : Option RotationJournal) (k : ℕ) → (newest ≡ None → older ≡ [])
    → has older k ≡ true → not (is_none newest) ≡ true
newest_there older None k f e =
    absurd (let no : false ≡ true = sym (ap (λ (js : List RotationJournal). has js k) (f refl)) ∙ e in cc)
newest_there older (Some n) k f e = refl

alone_of : (noted first : ℕ) (older : List RotationJournal) (newest : Option RotationJournal)
    → IsKnown noted first older newest → newest ≡ None → older ≡ []
alone_of noted first older None h e = h.alone
alone_of noted first older (Some n) h e = absurd (let e : Some n ≡ None = e in cc)

gone_stage : (s : State) (d : Disk) (used : List ℕ) (observations : List Observation) (k : ℕ)
    → some_is (may_archive s.workers observations s.settings.remember) s.older k ≡ true → IsSound s d used → Stands s d
    → IfSome s.newest (IsTop (without k d.journals)) × IsNamed (without k d.journals) s.stage
gone_stage s d used observations k e h g =
    let there : has s.older k ≡ true = has_some (may_archive s.workers observations s.settings.remember) s.older k e in
    let lt : IfSome s.newest (λ n. k < n.instance) =
    (older_below s.noted d.first k s.older s.newest h.known there).1 in (
      top_without d.journals k s.newest lt g.top,
      named_without d.journals k s.noted d.first s.newest used s.stage lt
          (newest_there s.older s.newest k (alone_of s.noted d.first s.older s.newest h.known) there) h.stage g.named,
    )

pub standing_done : (s : State) (d : Disk) (used : List ℕ) (observations : List Observation) (a : RotationAction)
    → Suits s observations a → IsSound s d used → Stands s d → Stands (done s a) (carried a d)
standing_done s d used observations (action.Remove k) suits h g =
    record { present = g.present; top = g.top; named = g.named; knows = g.knows }
standing_done s d used observations (action.Note k) suits h g = record {
  present = g.present;
  top = g.top;
  named = tt;
  knows = knows_at d.journals s.older s.newest s.stage stage.Idle suits.1 g.knows;
}
standing_done s d used observations (action.Prepare k) suits h g =
    record {
      present = g.present;
      top = g.top;
      named = tt;
      knows = prepared (knows_at d.journals s.older s.newest s.stage (stage.Noted k) suits.0 g.knows);
    }
  where
    prepared : Knows d.journals s.older s.newest (stage.Noted k) → Knows d.journals s.older s.newest (stage.Prepared k)
    prepared f i e = elim (or_cases (has (s.older ++ option_to_list s.newest) i) false (f i e)) [
      | inl m ↦ or_left (has (s.older ++ option_to_list s.newest) i) (k == i) m
      | inr m ↦ absurd (let m : false ≡ true = m in cc)
    ]
standing_done s d used observations (action.Name k) suits h g = record {
  present = present_more d.journals (without k d.journals ++ k ∷ []) s.older (λ i e. moved i k d.journals e) g.present;
  top = top_more d.journals (without k d.journals ++ k ∷ []) s.newest (λ i e. moved i k d.journals e) g.top;
  named = pushed_is k d.journals;
  knows = knows_named d.journals s.older s.newest k (stage.Named k) (same_tells k k refl) (λ i e. e)
      (knows_at d.journals s.older s.newest s.stage (stage.Prepared k) suits.0 g.knows);
}
standing_done s d used observations (action.Switch k) suits h g =
    let named : IsNamed d.journals (stage.Named k) = subst (IsNamed d.journals) suits.0 g.named in
    record {
      present = present_push d.journals s.older s.newest g.present g.top;
      top = (named, refl, refl);
      named = tt;
      knows = knows_switched d.journals s.older s.newest k (knows_at d.journals s.older s.newest s.stage (stage.Named k)
          suits.0 g.knows);
    }
standing_done s d used observations (action.Close k) suits h g = record {
  present = present_close d.journals k s.older g.present;
  top = top_close d.journals k s.newest g.top;
  named = g.named;
  knows = knows_more d.journals s.older (change_all change.Close k s.older) s.newest
      (option_map (changed_at change.Close k) s.newest) s.stage (has_closed k s.older s.newest) g.knows;
}
standing_done s d used observations (action.Withdraw k) suits h g = record {
  present = present_leave d.journals (next_version s.version) k s.older
      (those_weaker k (wants_leave observations s.settings.remember) is_inside s.older
      (leave_inside observations s.settings.remember) (only (wants_leave observations s.settings.remember) s.older k
      h.known.ascend suits.0)) g.present;
  top = g.top;
  named = g.named;
  knows = knows_more d.journals s.older (change_all (change.Leave (next_version s.version)) k s.older) s.newest s.newest
      s.stage (has_changed (change.Leave (next_version s.version)) k s.older s.newest) g.knows;
}
standing_done s d used observations (action.Archive k) suits h g =
    let gone = gone_stage s d used observations k suits.0 h g in
    record {
      present = present_apart d.journals k s.older g.present;
      top = gone.0;
      named = gone.1;
      knows = knows_archived d.journals s.older s.newest k s.stage g.knows;
    }
standing_done s d used observations action.End suits h g = record {
  present = g.present;
  top = g.top;
  named = g.named;
  knows = g.knows;
}
standing_done s d used observations action.Fail suits h g = record {
  present = g.present;
  top = g.top;
  named = g.named;
  knows = g.knows;
}

-- a journal that stays
stays_still : (s : State) (d : Disk) (k : ℕ) → Stands s d
    → Stands (record s { older = change_all change.Stay k s.older }) d
stays_still s d k g = record {
  present = present_stay d.journals k s.older g.present;
  top = g.top;
  named = g.named;
  knows = knows_more d.journals s.older (change_all change.Stay k s.older) s.newest s.newest s.stage
      (has_changed change.Stay k s.older s.newest) g.knows;
}

-- a failure, of which the disk has taken nothing
standing_still : (s : State) (d : Disk) (used : List ℕ) (observations : List Observation) (a : RotationAction)
    → Suits s observations a → IsSound s d used → Stands s d → Stands (failed s a) d
standing_still s d used observations (action.Remove k) suits h g =
    record { present = g.present; top = g.top; named = g.named; knows = g.knows }
standing_still s d used observations (action.Note k) suits h g = g
standing_still s d used observations (action.Prepare k) suits h g =
    record {
      present = g.present;
      top = g.top;
      named = tt;
      knows = knows_at d.journals s.older s.newest s.stage
          (stage.Noted k) suits.0 g.knows;
    }
standing_still s d used observations (action.Name k) suits h g = g
standing_still s d used observations (action.Switch k) suits h g = g
standing_still s d used observations (action.Close k) suits h g = g
standing_still s d used observations (action.Withdraw k) suits h g = stays_still s d k g
standing_still s d used observations (action.Archive k) suits h g = stays_still s d k g
standing_still s d used observations action.End suits h g = record {
  present = g.present;
  top = g.top;
  named = g.named;
  knows = g.knows;
}
standing_still s d used observations action.Fail suits h g = record {
  present = g.present;
  top = g.top;
  named = g.named;
  knows = g.knows;
}

-- one of which it has taken all
standing_taken : (s : State) (d : Disk) (used : List ℕ) (observations : List Observation) (a : RotationAction)
    → Suits s observations a → IsSound s d used → Stands s d → Stands (failed s a) (carried a d)
standing_taken s d used observations (action.Name k) suits h g = record {
  present = present_more d.journals (without k d.journals ++ k ∷ []) s.older (λ i e. moved i k d.journals e) g.present;
  top = top_more d.journals (without k d.journals ++ k ∷ []) s.newest (λ i e. moved i k d.journals e) g.top;
  named = subst (IsNamed (without k d.journals ++ k ∷ [])) (sym suits.0) tt;
  knows = knows_at (without k d.journals ++ k ∷ []) s.older s.newest (stage.Prepared k) s.stage (sym suits.0)
      (knows_named d.journals s.older s.newest k (stage.Prepared k) (same_tells k k refl) (λ i e. e)
      (knows_at d.journals s.older s.newest s.stage (stage.Prepared k) suits.0 g.knows));
}
standing_taken s d used observations (action.Archive k) suits h g =
    let gone = gone_stage s d used observations k suits.0 h g in
    record {
      present = present_gone d.journals k s.older (those_left s observations k h.known.ascend suits.0) g.present;
      top = gone.0;
      named = gone.1;
      knows = knows_less d.journals (change_all change.Stay k s.older) s.newest k s.stage
          (knows_more d.journals s.older (change_all change.Stay k s.older) s.newest s.newest s.stage
          (has_changed change.Stay k s.older s.newest) g.knows);
    }
standing_taken s d used observations (action.Remove k) suits h g =
    record { present = g.present; top = g.top; named = g.named; knows = g.knows }
standing_taken s d used observations (action.Note k) suits h g =
    record { present = g.present; top = g.top; named = g.named; knows = g.knows }
standing_taken s d used observations (action.Prepare k) suits h g =
    record {
      present = g.present;
      top = g.top;
      named = tt;
      knows = knows_at d.journals s.older s.newest s.stage
          (stage.Noted k) suits.0 g.knows;
    }
standing_taken s d used observations (action.Switch k) suits h g = g
standing_taken s d used observations (action.Close k) suits h g = g
standing_taken s d used observations (action.Withdraw k) suits h g = stays_still s d k g
standing_taken s d used observations action.End suits h g = record {
  present = g.present;
  top = g.top;
  named = g.named;
  knows = g.knows;
}
standing_taken s d used observations action.Fail suits h g = record {
  present = g.present;
  top = g.top;
  named = g.named;
  knows = g.knows;
}

pub standing_failed : (s : State) (d : Disk) (used : List ℕ) (observations : List Observation) (took : Bool)
    (a : RotationAction) → Suits s observations a → IsSound s d used → Stands s d
    → Stands (failed s a) (if took then carried a d else d)
standing_failed s d used observations true a suits h g = standing_taken s d used observations a suits h g
standing_failed s d used observations false a suits h g = standing_still s d used observations a suits h g

-- ---- a start

present_found : (ds : List ℕ) (first : ℕ) (observations : List Observation) (is : List ℕ)
    → ((i : ℕ) → is_among i is ≡ true → is_among i ds ≡ true) → Present ds (found_all first observations is)
present_found ds first observations [] f = tt
present_found ds first observations (i ∷ is) f = (
  (
    λ _. f i (or_left (i == i) (is_among i is) (same_tells i i refl)),
    λ _. f i (or_left (i == i) (is_among i is) (same_tells i i refl)),
  ),
  present_found ds first observations is
      (λ k e. f k (or_right (i == k) (is_among k is) e)),
)

has_found : (first : ℕ) (observations : List Observation) (is : List ℕ) (i : ℕ) → has (found_all first observations is)
    i ≡ is_among i is
has_found first observations [] i = refl
has_found first observations (k ∷ is) i = ap (λ b. (k == i) || b) (has_found first observations is i)

pub standing_opened : (settings : RotationSettings) (d : Disk) (observations : List Observation)
    → Stands (opened settings d observations) d
standing_opened settings d observations = opens d.first d.journals
  where
    opens : (first : ℕ) (ds : List ℕ) → IsStanding ds (found_all first observations (front_of ds))
        (option_map (found first observations) (last_of ds)) stage.Idle
    opens first [] = record { present = tt; top = tt; named = tt; knows = λ i e. e }
    opens first (x ∷ xs) = record {
      present = present_found (x ∷ xs) first observations (front_from x xs) (λ i e. front_among i x xs e);
      top = (last_among x xs, refl, refl);
      named = tt;
      knows = λ i e. or_left (has (found_all first observations (front_from x xs) ++ found first observations
          (last_from x xs) ∷ []) i) false (elim (last_or_front i x xs e) [
            | inl m ↦ has_left (found_all first observations (front_from x xs))
                (found first observations (last_from x xs) ∷ []) i
                (has_found first observations (front_from x xs) i ∙ m)
            | inr m ↦ has_right (found_all first observations (front_from x xs))
                (found first observations (last_from x xs) ∷ []) i
                (or_left (last_from x xs == i) false (same_tells i (last_from x xs) (sym m)))
          ]);
    }

-- ---- what is in the set is in use on disk

listed_stands : (ds : List ℕ) (js : List RotationJournal) (i : ℕ) → Present ds js → is_among i (listed js) ≡ true
    → is_among i ds ≡ true
listed_stands ds [] i h e = absurd (let e : false ≡ true = e in cc)
listed_stands ds (j ∷ js) i h e = by (λ k. listed_stands ds js i h.1 k) (is_none j.left) refl e
  where
    by : (is_among i (listed js) ≡ true → is_among i ds ≡ true) → (b : Bool) → is_none j.left ≡ b
        → is_among i (if b then j.instance ∷ listed js else listed js) ≡ true → is_among i ds ≡ true
    by rest true m n = elim (or_cases (j.instance == i) (is_among i (listed js)) n) [
      | inl k ↦ subst (λ (x : ℕ). is_among x ds ≡ true) (same_of j.instance i k) (h.0.1 m)
      | inr k ↦ rest k
    ]
    by rest false m n = rest n

pub set_stands : (s : State) (d : Disk) (i : ℕ) → Stands s d → is_among i (set s) ≡ true → is_among i d.journals ≡ true
set_stands s d i g e = elim (or_cases (is_among i (listed s.older)) (is_among i (instance_of s.newest))
    (sym (is_among-append i (listed s.older) (instance_of s.newest)) ∙ e)) [
      | inl m ↦ listed_stands d.journals s.older i g.present m
      | inr m ↦ top_stands d.journals s.newest i g.top m
    ]
  where
    top_stands : (ds : List ℕ) (newest : Option RotationJournal) (i : ℕ) → IfSome newest (IsTop ds)
        → is_among i (instance_of newest) ≡ true → is_among i ds ≡ true
    top_stands ds None i h e = absurd (let e : false ≡ true = e in cc)
    top_stands ds (Some n) i h e = elim (or_cases (n.instance == i) false e) [
      | inl k ↦ subst (λ (x : ℕ). is_among x ds ≡ true) (same_of n.instance i k) h.0
      | inr k ↦ absurd (let k : false ≡ true = k in cc)
    ]
