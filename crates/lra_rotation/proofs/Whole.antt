-- The laws of whole runs.
use Rattle.std.proofs.Common.{◌≡◌, ◌≢◌, ◌⊎◌, ℕ, ◌<◌, ◌≤◌, ◌==◌, Bool, true, false, ◌&&◌, ◌||◌, not, if◌then◌else◌, List}
use Rattle.std.proofs.Common.{[], ◌∷◌, ◌++◌, Option, None, Some, inl, inr, refl, sym, ap, ◌∙◌, subst, arith}
use Rattle.std.specs.Prelude.{IfSome, is_none, option_to_list}
use Rattle.std.specs.List.{list_any}
use Rattle.std.proofs.lemmas.Bool.Decides.{eqb_tells}
use Rattle.lra_rotation.specs.declared.settings.RotationSettings.{RotationSettings}
use Rattle.lra_rotation.specs.declared.journal.RotationJournal.{RotationJournal}
use Rattle.lra_rotation.specs.declared.journal.Observation.{Observation}
use Rattle.lra_rotation.specs.declared.journal.RotationWorker.{RotationWorker}
use Rattle.lra_rotation.specs.declared.action.RotationAction.{RotationAction}
use Rattle.lra_rotation.specs.declared.action.RotationAction.TheVariants as action
use Rattle.lra_rotation.specs.States.{State, has_next, set}
use Rattle.lra_rotation.specs.Deciding.{decide, is_done, is_free, is_waiting, is_left_by_all, may_archive}
use Rattle.lra_rotation.specs.Disks.{Disk, carried, restored, without}
use Rattle.lra_rotation.specs.Runs.{World, Look, Event, Does, Fails, Restarts, Follows, Refuses, Begins, Ends, Hold}
use Rattle.lra_rotation.specs.Runs.{decided, did, did_fail, started, followed, worker, other_workers, other_holds}
use Rattle.lra_rotation.specs.Runs.{follows, begins, has_session, after, run, first_start}
use Rattle.lra_rotation.specs.Laws.{Suits, IsFolder, IsArchivable, GivesNoneTwice, KeepsOneNewest, ArchivesWhatIsDone}
use Rattle.lra_rotation.specs.Laws.{HoldsWhatStands, Honest, AreHonest, LosesNothingBegun, EndsWhatIsDrained}
use Rattle.lra_rotation.specs.Laws.{BeginsNothingRetired, IsPlain, NeverRotates, is_among, stands, LosesNone, KnowsAll}
use Rattle.lra_rotation.proofs.Orders.{both, or_cases, or_left, or_right, has_some, some_at, Retired, retired_append}
use Rattle.lra_rotation.proofs.Among.{moved, passed, is_among-without, left_was, same_of}
use Rattle.lra_rotation.proofs.Suited.{decide_suits, some_weaker}
use Rattle.lra_rotation.proofs.Sound.{IsSound, IsKnown, sound_done, sound_failed, sound_opened, sound_restored}
use Rattle.lra_rotation.proofs.Sound.{sound_first as sound_begun, older_below}
use Rattle.lra_rotation.proofs.Standing.{IsStanding, IsTop, standing_done, standing_failed, standing_opened, set_stands}
use Rattle.lra_rotation.proofs.Standing.{left_all}
use Rattle.lra_rotation.proofs.Holding.{AreHeld, held_done, held_failed, refused_workers, followed_workers}
use Rattle.lra_rotation.proofs.Holding.{followed_each, each_others, unheld, no_session, session_stands, outside_at}
use Rattle.lra_rotation.proofs.Holding.{outside_set, IsHeld, EachHold}

-- all of a service fits together
pub record IsGood (w : World) : Type 0 where
  pub base : IsSound w.state w.disk w.used
  pub stands : IsStanding w.disk.journals w.state.older w.state.newest w.state.stage
  pub held : AreHeld w.state w.disk w.holds

pub decided_suits : (w : World) (look : Look) → IfSome (decided w look) (Suits w.state look.observations)
decided_suits w look = decide_suits w.state look.moment look.own look.observations

abbrev EachHeld : State → Disk → List Hold → Type 0
EachHeld s d hs = EachHold (IsHeld s.version (set s) d.journals s.older) hs

top_in : (ds : List ℕ) (newest : Option RotationJournal) → IfSome newest (IsTop ds)
    → IfSome newest (λ n. is_none n.left ≡ true)
top_in ds None h = tt
top_in ds (Some n) h = h.2

good_did : (w : World) (observations : List Observation) (o : Option RotationAction)
    → IfSome o (Suits w.state observations) → IsGood w → IsGood (did w o)
good_did w observations None suits h = h
good_did w observations (Some a) suits h = record {
  base = sound_done w.state w.disk w.used observations a suits h.base;
  stands = standing_done w.state w.disk w.used observations a suits h.base h.stands;
  held = held_done w.state w.disk w.used w.holds observations a (top_in w.disk.journals w.state.newest h.stands.top)
      suits h.base h.held;
}

good_did_fail : (w : World) (observations : List Observation) (took : Bool) (o : Option RotationAction)
    → IfSome o (Suits w.state observations) → IsGood w → IsGood (did_fail w took o)
good_did_fail w observations took None suits h = h
good_did_fail w observations took (Some a) suits h = record {
  base = sound_failed w.state w.disk w.used observations took a suits h.base;
  stands = standing_failed w.state w.disk w.used observations took a suits h.base h.stands;
  held = held_failed w.state w.disk w.holds observations took a suits h.held;
}

good_started : (settings : RotationSettings) (w : World) (is_restored : Bool) (observations : List Observation)
    → IsGood w → IsGood (started settings is_restored observations w)
good_started settings w true observations h = record {
  base = sound_restored settings w.state w.disk observations w.used
      h.base;
  stands = standing_opened settings (restored w.disk) observations;
  held =
      record { workers = refl; each = tt };
}
good_started settings w false observations h = record {
  base = sound_opened settings w.state w.disk observations w.used
      h.base;
  stands = standing_opened settings w.disk observations;
  held = record { workers = refl; each = tt };
}

sound_by : (s : State) (d : Disk) (used : List ℕ) (ws : List RotationWorker) → IsSound s d used
    → IsSound (record s { workers = ws }) d used
sound_by s d used ws h = record { noted = h.noted; disk = h.disk; known = h.known; stage = h.stage }

good_follows : (w : World) (k v : ℕ) → IsGood w → IsGood (follows w k v)
good_follows w k v h =
    let P : Bool → Type 0 =
    λ b. IsGood
    (if b then
    record w {
      state = (if b then record w.state { workers = other_workers k w.state.workers ++ worker k v ∷ [] }
          else w.state);
      holds = other_holds k w.holds ++ record { number = k; seen = v; journals = set w.state } ∷ [];
    }
    else w) in
    elim (eqb_tells v w.state.version) [
      | inl m ↦ subst P (sym m.0) (record {
        base = sound_by w.state w.disk w.used (other_workers k w.state.workers ++ worker k v ∷ []) h.base;
        stands = h.stands;
        held = record {
          workers = followed_workers w.state.workers k v (set w.state) w.holds h.held.workers;
          each = followed m.1;
        };
      })
      | inr m ↦ subst P (sym m.0) h
    ]
  where
    followed : v ≡ w.state.version
        → EachHeld w.state w.disk (other_holds k w.holds ++ record { number = k; seen = v; journals = set w.state }
        ∷ [])
    followed e =
        subst (λ (n : ℕ). EachHeld w.state w.disk (other_holds k w.holds ++ record {
          number = k;
          seen = n;
          journals = set w.state;
        } ∷ [])) (sym e)
        (followed_each w.state w.disk w.used k w.holds (λ i m. set_stands w.state w.disk i h.stands m) h.base
        h.held.each)

good_refuses : (w : World) (k : ℕ) → IsGood w → IsGood (after w (Refuses k))
good_refuses w k h = record {
  base = sound_by w.state w.disk w.used (other_workers k w.state.workers) h.base;
  stands = h.stands;
  held = record {
    workers = refused_workers w.state.workers k w.holds h.held.workers;
    each = each_others (IsHeld w.state.version (set w.state) w.disk.journals w.state.older) k w.holds h.held.each;
  };
}

good_busy : (w : World) (is : List ℕ) → IsGood w → IsGood (record w { busy = is })
good_busy w is h = record { base = h.base; stands = h.stands; held = h.held }

good_begins : (w : World) (k i : ℕ) → IsGood w → IsGood (begins w k i)
good_begins w k i h = elim (has_session w.holds k i && is_among i (set w.state)) as
    (λ b. IsGood (if b then record w { busy = i ∷ w.busy } else w))
    [ true ↦ good_busy w (i ∷ w.busy) h | false ↦ h ]

pub good_after : (w : World) (e : Event) → IsGood w → IsGood (after w e)
good_after w (Does look) h = good_did w look.observations (decided w look) (decided_suits w look) h
good_after w (Fails look took) h = good_did_fail w look.observations took (decided w look) (decided_suits w look) h
good_after w (Restarts look took settings is_restored observations) h =
    good_started settings (did_fail w took (decided w look)) is_restored observations
    (good_did_fail w look.observations took (decided w look) (decided_suits w look) h)
good_after w (Follows k v) h = good_follows w k v h
good_after w (Refuses k) h = good_refuses w k h
good_after w (Begins k i) h = good_begins w k i h
good_after w (Ends i) h = good_busy w (without i w.busy) h

pub good_crash : (w : World) (look : Look) (took : Bool) → IsGood w → IsGood (did_fail w took (decided w look))
good_crash w look took h = good_did_fail w look.observations took (decided w look) (decided_suits w look) h

pub good_run : (w : World) (es : List Event) → IsGood w → IsGood (run w es)
good_run w [] h = h
good_run w (e ∷ es) h = good_run (after w e) es (good_after w e h)

pub good_first : (settings : RotationSettings) (d : Disk) → IsFolder d → IsGood (first_start settings d)
good_first settings d h = record {
  base = sound_begun settings d h;
  stands = standing_opened settings d [];
  held = record { workers = refl; each = tt };
}

pub good : (settings : RotationSettings) (d : Disk) (es : List Event) → IsFolder d
    → IsGood (run (first_start settings d) es)
good settings d es h = good_run (first_start settings d) es (good_first settings d h)

pub gives_none_twice : GivesNoneTwice
gives_none_twice settings d es h = (good settings d es h).base.noted.ascend

pub keeps_one_newest : KeepsOneNewest
keeps_one_newest settings d es h = let k = (good settings d es h).base.known in
    record { older = k.under; alone = k.alone; newest = k.within }

pub knows_all : KnowsAll
knows_all settings d es i h = let g = good settings d es h in (
  λ e. g.stands.knows i e,
  λ e. set_stands (run (first_start settings d) es).state
      (run (first_start settings d) es).disk i g.stands e,
)

of_some : (P : RotationAction → Type 0) (o : Option RotationAction) (a : RotationAction) → o ≡ Some a → IfSome o P → P a
of_some P o a e h = subst (λ (x : Option RotationAction). IfSome x P) e h

pub suits_at : (w : World) (look : Look) (a : RotationAction) → decided w look ≡ Some a
    → Suits w.state look.observations a
suits_at w look a e = of_some (Suits w.state look.observations) (decided w look) a e (decided_suits w look)

pub done_of : (ws : List RotationWorker) (observations : List Observation) (r : ℕ) (j : RotationJournal)
    → may_archive ws observations r j ≡ true → is_done observations r j.instance ≡ true
done_of ws observations r j h = (both (is_done observations r j.instance) (is_free observations j.instance)
    (both (is_done observations r j.instance && is_free observations j.instance)
    (not (is_waiting observations j.instance))
    (both (is_done observations r j.instance && is_free observations j.instance
    && not (is_waiting observations j.instance)) (is_left_by_all ws j) h).0).0).0

free_of : (ws : List RotationWorker) (observations : List Observation) (r : ℕ) (j : RotationJournal)
    → may_archive ws observations r j ≡ true → is_free observations j.instance ≡ true
free_of ws observations r j h = (both (is_done observations r j.instance) (is_free observations j.instance)
    (both (is_done observations r j.instance && is_free observations j.instance)
    (not (is_waiting observations j.instance))
    (both (is_done observations r j.instance && is_free observations j.instance
    && not (is_waiting observations j.instance)) (is_left_by_all ws j) h).0).0).1

rested_of : (ws : List RotationWorker) (observations : List Observation) (r : ℕ) (j : RotationJournal)
    → may_archive ws observations r j ≡ true → not (is_waiting observations j.instance) ≡ true
rested_of ws observations r j h = (both (is_done observations r j.instance && is_free observations j.instance)
    (not (is_waiting observations j.instance))
    (both (is_done observations r j.instance && is_free observations j.instance
    && not (is_waiting observations j.instance)) (is_left_by_all ws j) h).0).1

archivable : (w : World) (look : Look) (i : ℕ) → IsGood w → decided w look ≡ Some (action.Archive i)
    → IsArchivable w look.observations i
archivable w look i g e =
    let suits : Suits w.state look.observations (action.Archive i) = suits_at w look (action.Archive i) e in
    let may : RotationJournal → Bool = may_archive w.state.workers look.observations w.state.settings.remember in
    record {
      older = (older_below w.state.noted w.disk.first i w.state.older w.state.newest g.base.known
          (has_some may w.state.older i suits.0)).1;
      there = has_some may w.state.older i suits.0;
      done = some_at may (is_done look.observations w.state.settings.remember) w.state.older i
          (done_of w.state.workers look.observations w.state.settings.remember) suits.0;
      free = some_at may (is_free look.observations) w.state.older i (free_of w.state.workers look.observations
          w.state.settings.remember) suits.0;
      rested = some_at may (λ (n : ℕ). not (is_waiting look.observations n)) w.state.older i
          (rested_of w.state.workers look.observations w.state.settings.remember) suits.0;
      outside = outside_at (set w.state) may w.state.older i (left_all w.state.workers look.observations
          w.state.settings.remember) (outside_set w.state w.disk w.used g.base) suits.0;
      left = λ k. no_session w.holds k i (unheld w.state w.disk w.holds look.observations i g.held suits.0);
    }

pub archives_what_is_done : ArchivesWhatIsDone
archives_what_is_done settings d es look i h e = archivable (run (first_start settings d) es) look i
    (good settings d es h) e

pub holds_what_stands : HoldsWhatStands
holds_what_stands settings d es k i h e =
    let w : World = run (first_start settings d) es in
    session_stands w.state.version (set w.state) w.disk.journals w.state.older w.holds k i
    (good settings d es h).held.each e

pub ends_what_is_drained : EndsWhatIsDrained
ends_what_is_drained s moment own observations e = of_some (Suits s observations) (decide s moment own observations)
    action.End e (decide_suits s moment own observations)

-- ---- what was begun is in use

abbrev Kept : List ℕ → Disk → Type 0
Kept busy d = (i : ℕ) → is_among i busy ≡ true → is_among i d.journals ≡ true

kept_carried : (s : State) (observations : List Observation) (busy : List ℕ) (d : Disk) (a : RotationAction)
    → Suits s observations a → ((i : ℕ) → is_among i busy ≡ true → is_done observations s.settings.remember i ≡ false)
    → Kept busy d → Kept busy (carried a d)
kept_carried s observations busy d (action.Remove k) suits honest h = h
kept_carried s observations busy d (action.Note k) suits honest h = h
kept_carried s observations busy d (action.Prepare k) suits honest h = h
kept_carried s observations busy d (action.Name k) suits honest h = λ i e. moved i k d.journals (h i e)
kept_carried s observations busy d (action.Switch k) suits honest h = h
kept_carried s observations busy d (action.Close k) suits honest h = h
kept_carried s observations busy d (action.Withdraw k) suits honest h = h
kept_carried s observations busy d (action.Archive k) suits honest h = λ i e. is_among-without i k d.journals
    (other i e) (h i e)
  where
    other : (i : ℕ) → is_among i busy ≡ true → i ≢ k
    other i e same = absurd (let no : false ≡ true = sym (honest i e)
        ∙ subst (λ (x : ℕ). is_done observations s.settings.remember x ≡ true) (sym same)
        (some_at (may_archive s.workers observations s.settings.remember) (is_done observations s.settings.remember)
        s.older k (done_of s.workers observations s.settings.remember) suits.0) in cc)
kept_carried s observations busy d action.End suits honest h = h
kept_carried s observations busy d action.Fail suits honest h = h

kept_did : (w : World) (observations : List Observation) (o : Option RotationAction)
    → IfSome o (Suits w.state observations) → Honest w observations → Kept w.busy w.disk
    → Kept (did w o).busy (did w o).disk
kept_did w observations None suits honest h = h
kept_did w observations (Some a) suits honest h = kept_carried w.state observations w.busy w.disk a suits
    (λ i e. honest w.state.settings.remember i e) h

kept_did_fail : (w : World) (observations : List Observation) (took : Bool) (o : Option RotationAction)
    → IfSome o (Suits w.state observations) → Honest w observations → Kept w.busy w.disk
    → Kept (did_fail w took o).busy (did_fail w took o).disk
kept_did_fail w observations took None suits honest h = h
kept_did_fail w observations true (Some a) suits honest h = kept_carried w.state observations w.busy w.disk a suits
    (λ i e. honest w.state.settings.remember i e) h
kept_did_fail w observations false (Some a) suits honest h = h

kept_started : (settings : RotationSettings) (w : World) (is_restored : Bool) (observations : List Observation)
    → Kept w.busy w.disk → Kept (started settings is_restored observations w).busy
    (started settings is_restored observations w).disk
kept_started settings w true observations h = h
kept_started settings w false observations h = h

abbrev IsKept : World → Type 0
IsKept w = Kept w.busy w.disk

kept_follows : (w : World) (k v : ℕ) → IsKept w → IsKept (follows w k v)
kept_follows w k v h = elim (v == w.state.version) as
    (λ b. IsKept (if b then record w {
      state = followed w.state k v;
      holds = other_holds k w.holds
          ++ record { number = k; seen = v; journals = set w.state } ∷ [];
    } else w)) [ true ↦ h | false ↦ h ]

kept_begins : (w : World) (k i : ℕ) → IsGood w → IsKept w → IsKept (begins w k i)
kept_begins w k i g h = by (has_session w.holds k i && is_among i (set w.state)) refl
  where
    by : (b : Bool) → (has_session w.holds k i && is_among i (set w.state)) ≡ b
        → IsKept (if b then record w { busy = i ∷ w.busy } else w)
    by false e = h
    by true e = λ n m. elim (or_cases (i == n) (is_among n w.busy) m) [
      | inl p ↦ subst (λ (x : ℕ). is_among x w.disk.journals ≡ true) (same_of i n p)
          (session_stands w.state.version (set w.state) w.disk.journals w.state.older w.holds k i g.held.each
          (both (has_session w.holds k i) (is_among i (set w.state)) e).0)
      | inr p ↦ h n p
    ]

kept_run : (w : World) (es : List Event) → IsGood w → AreHonest w es → IsKept w → IsKept (run w es)
kept_run w [] g honest h = h
kept_run w (Does look ∷ es) g honest h = kept_run (after w (Does look)) es (good_after w (Does look) g) honest.1
    (kept_did w look.observations (decided w look) (decided_suits w look) honest.0 h)
kept_run w (Fails look took ∷ es) g honest h = kept_run (after w (Fails look took)) es
    (good_after w (Fails look took) g) honest.1 (kept_did_fail w look.observations took (decided w look)
    (decided_suits w look) honest.0 h)
kept_run w (Restarts look took settings is_restored observations ∷ es) g honest h =
    kept_run (after w (Restarts look took settings is_restored observations)) es
    (good_after w (Restarts look took settings is_restored observations) g) honest.1
    (kept_started settings (did_fail w took (decided w look)) is_restored observations
    (kept_did_fail w look.observations took (decided w look) (decided_suits w look) honest.0 h))
kept_run w (Follows k v ∷ es) g honest h = kept_run (after w (Follows k v)) es (good_after w (Follows k v) g) honest.1
    (kept_follows w k v h)
kept_run w (Refuses k ∷ es) g honest h = kept_run (after w (Refuses k)) es (good_after w (Refuses k) g) honest.1 h
kept_run w (Begins k i ∷ es) g honest h = kept_run (after w (Begins k i)) es (good_after w (Begins k i) g) honest.1
    (kept_begins w k i g h)
kept_run w (Ends i ∷ es) g honest h = kept_run (after w (Ends i)) es (good_after w (Ends i) g) honest.1
    (λ n m. h n (left_was n i w.busy m).1)

pub loses_nothing_begun : LosesNothingBegun
loses_nothing_begun settings d es i folder honest e = kept_run (first_start settings d) es
    (good_first settings d folder) honest (λ (n : ℕ) (m : false ≡ true). absurd (cc)) i e

-- ---- what is retired stays so

carried-first : (a : RotationAction) (d : Disk) → (carried a d).first ≡ d.first
carried-first (action.Remove i) d = refl
carried-first (action.Note i) d = refl
carried-first (action.Prepare i) d = refl
carried-first (action.Name i) d = refl
carried-first (action.Switch i) d = refl
carried-first (action.Close i) d = refl
carried-first (action.Withdraw i) d = refl
carried-first (action.Archive i) d = refl
carried-first action.End d = refl
carried-first action.Fail d = refl

first_did : (w : World) (o : Option RotationAction) → w.disk.first ≤ (did w o).disk.first
first_did w None = omega arith
first_did w (Some a) = let e = carried-first a w.disk in omega arith

first_did_fail : (w : World) (took : Bool) (o : Option RotationAction) → w.disk.first ≤ (did_fail w took o).disk.first
first_did_fail w took None = omega arith
first_did_fail w true (Some a) = let e = carried-first a w.disk in omega arith
first_did_fail w false (Some a) = omega arith

first_started : (settings : RotationSettings) (w : World) (is_restored : Bool) (observations : List Observation)
    → IsGood w → w.disk.first ≤ (started settings is_restored observations w).disk.first
first_started settings w true observations h = let a =
    (sound_opened settings w.state w.disk observations w.used h.base).disk.least in a
first_started settings w false observations h = omega arith

pub follows_disk : (w : World) (k v : ℕ) → (follows w k v).disk ≡ w.disk
follows_disk w k v = elim (v == w.state.version) as
    (λ b. (if b then record w {
      state = followed w.state k v;
      holds = other_holds k w.holds
          ++ record { number = k; seen = v; journals = set w.state } ∷ [];
    } else w).disk ≡ w.disk) [
      | true ↦ refl
      | false ↦
          refl
    ]

pub begins_disk : (w : World) (k i : ℕ) → (begins w k i).disk ≡ w.disk
begins_disk w k i = elim (has_session w.holds k i && is_among i (set w.state)) as
    (λ b. (if b then record w { busy = i ∷ w.busy } else w).disk
    ≡ w.disk) [ true ↦ refl | false ↦ refl ]

first_after : (w : World) (e : Event) → IsGood w → w.disk.first ≤ (after w e).disk.first
first_after w (Does look) h = first_did w (decided w look)
first_after w (Fails look took) h = first_did_fail w took (decided w look)
first_after w (Restarts look took settings is_restored observations) h =
    let v : World = did_fail w took (decided w look) in
    let a : w.disk.first ≤ v.disk.first = first_did_fail w took (decided w look) in
    let b : v.disk.first ≤ (started settings is_restored observations v).disk.first =
    first_started settings v is_restored observations (good_crash w look took h) in
    omega arith
first_after w (Follows k v) h = subst (λ (d : Disk). w.disk.first ≤ d.first) (sym (follows_disk w k v)) (omega arith)
first_after w (Refuses k) h = omega arith
first_after w (Begins k i) h = subst (λ (d : Disk). w.disk.first ≤ d.first) (sym (begins_disk w k i)) (omega arith)
first_after w (Ends i) h = omega arith

first_run : (w : World) (es : List Event) → IsGood w → w.disk.first ≤ (run w es).disk.first
first_run w [] h = omega arith
first_run w (e ∷ es) h =
    let a = first_after w e h in
    let b = first_run (after w e) es (good_after w e h) in
    omega arith

none_begins : (first i : ℕ) (js : List RotationJournal) → i < first → Retired first js
    → list_any (λ (j : RotationJournal). (j.instance == i) && not j.is_closed) js ≡ false
none_begins first i [] lt h = refl
none_begins first i (j ∷ js) lt h = both_false ((j.instance == i) && not j.is_closed)
    (list_any (λ (k : RotationJournal). (k.instance == i) && not k.is_closed) js) (here (eqb_tells j.instance i))
    (none_begins first i js lt h.1)
  where
    both_false : (a b : Bool) → a ≡ false → b ≡ false → (a || b) ≡ false
    both_false a b p q = ap (λ x. x || b) p ∙ q

    shut : (a c : Bool) → c ≡ true → (a && not c) ≡ false
    shut true c p = ap not p
    shut false c p = refl

    here : ((j.instance == i) ≡ true × (j.instance ≡ i)) ⊎ ((j.instance == i) ≡ false × (j.instance ≢ i))
        → ((j.instance == i) && not j.is_closed) ≡ false
    here (inl e) = shut (j.instance == i) j.is_closed (h.0 (let same = e.1 in omega arith))
    here (inr e) = ap (λ x. x && not j.is_closed) e.0

all_retired : (first : ℕ) (noted : ℕ) (older : List RotationJournal) (newest : Option RotationJournal)
    → IsKnown noted first older newest → Retired first (older ++ option_to_list newest)
all_retired first noted older None h = retired_append first older [] h.retired tt
all_retired first noted older (Some n) h = retired_append first older (n ∷ []) h.retired (h.taker, tt)

pub begins_nothing_retired : BeginsNothingRetired
begins_nothing_retired settings again d es fs look took observations i folder le =
    let w : World = run (first_start settings d) es in
    let v : World = after w (Restarts look took again true observations) in
    let h : IsGood v = good_after w (Restarts look took again true observations) (good settings d es folder) in
    let z : World = run v fs in
    let k : IsGood z = good_run v fs h in
    let grows : v.disk.first ≤ z.disk.first = first_run v fs h in
    let lt : i < z.disk.first = omega arith in
    none_begins z.disk.first i (z.state.older ++ option_to_list z.state.newest) lt
    (all_retired z.disk.first z.state.noted z.state.older z.state.newest k.base.known)

-- ---- a service that doesn't roll

rolls_not : (s : State) → s.settings.rolls ≡ false → (s.settings.rolls && has_next s.version) ≡ true → ⊥
rolls_not s e h = absurd (let k : false ≡ true = sym e ∙ (both s.settings.rolls (has_next s.version) h).0 in cc)

pub plain : (s : State) (observations : List Observation) → s.settings.rolls ≡ false → (a : RotationAction)
    → Suits s observations a → IsPlain a
plain s observations e (action.Remove i) h = tt
plain s observations e (action.Note i) h = rolls_not s e h.2
plain s observations e (action.Prepare i) h = rolls_not s e h.1
plain s observations e (action.Name i) h = rolls_not s e h.1
plain s observations e (action.Switch i) h = rolls_not s e h.1
plain s observations e (action.Close i) h = tt
plain s observations e (action.Withdraw i) h = rolls_not s e h.1
plain s observations e (action.Archive i) h = absurd (let k : false ≡ true = sym e ∙ h.1 in cc)
plain s observations e action.End h = tt
plain s observations e action.Fail h = tt

pub never_rotates_a_file : NeverRotates
never_rotates_a_file s moment own observations e = some_weaker (Suits s observations) IsPlain
    (decide s moment own observations) (plain s observations e) (decide_suits s moment own observations)

-- ---- no journal is lost

carried_stands : (a : RotationAction) (d : Disk) (i : ℕ) → stands i d ≡ true → stands i (carried a d) ≡ true
carried_stands (action.Remove k) d i h = h
carried_stands (action.Note k) d i h = h
carried_stands (action.Prepare k) d i h = h
carried_stands (action.Name k) d i h = elim (or_cases (is_among i d.journals) (is_among i d.ended) h) [
  | inl e ↦ or_left (is_among i (without k d.journals ++ k ∷ [])) (is_among i d.ended) (moved i k d.journals e)
  | inr e ↦ or_right (is_among i (without k d.journals ++ k ∷ [])) (is_among i d.ended) e
]
carried_stands (action.Switch k) d i h = h
carried_stands (action.Close k) d i h = h
carried_stands (action.Withdraw k) d i h = h
carried_stands (action.Archive k) d i h = passed i k d.journals d.ended h
carried_stands action.End d i h = h
carried_stands action.Fail d i h = h

stands_did : (w : World) (o : Option RotationAction) (i : ℕ) → stands i w.disk ≡ true → stands i (did w o).disk ≡ true
stands_did w None i h = h
stands_did w (Some a) i h = carried_stands a w.disk i h

stands_did_fail : (w : World) (took : Bool) (o : Option RotationAction) (i : ℕ) → stands i w.disk ≡ true
    → stands i (did_fail w took o).disk ≡ true
stands_did_fail w took None i h = h
stands_did_fail w true (Some a) i h = carried_stands a w.disk i h
stands_did_fail w false (Some a) i h = h

stands_started : (settings : RotationSettings) (w : World) (is_restored : Bool) (observations : List Observation)
    (i : ℕ) → stands i w.disk ≡ true → stands i (started settings is_restored observations w).disk ≡ true
stands_started settings w true observations i h = h
stands_started settings w false observations i h = h

pub loses_no_journal : LosesNone
loses_no_journal w (Does look) i h = stands_did w (decided w look) i h
loses_no_journal w (Fails look took) i h = stands_did_fail w took (decided w look) i h
loses_no_journal w (Restarts look took settings is_restored observations) i h =
    stands_started settings (did_fail w took (decided w look)) is_restored observations i
    (stands_did_fail w took (decided w look) i h)
loses_no_journal w (Follows k v) i h = subst (λ (d : Disk). stands i d ≡ true) (sym (follows_disk w k v)) h
loses_no_journal w (Refuses k) i h = h
loses_no_journal w (Begins k n) i h = subst (λ (d : Disk). stands i d ≡ true) (sym (begins_disk w k n)) h
loses_no_journal w (Ends n) i h = h
