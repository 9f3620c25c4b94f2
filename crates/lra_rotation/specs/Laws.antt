-- Laws of every run.
use Rattle.std.specs.Prelude.{◌≡◌, ◌⊎◌, ℕ, ◌+◌, ◌<◌, ◌≤◌, ◌==◌, Bool, true, false, not, ◌&&◌, ◌||◌, IsTrue, List, []}
use Rattle.std.specs.Prelude.{◌∷◌, ◌++◌, None, Some, IfSome, IfNone, option_to_list, IsSome}
use Rattle.std.specs.List.{list_any}
use Rattle.std.specs.Option.{option_map_or}
use Rattle.lra_rotation.specs.declared.settings.RotationSettings.{RotationSettings}
use Rattle.lra_rotation.specs.declared.journal.RotationJournal.{RotationJournal}
use Rattle.lra_rotation.specs.declared.journal.Observation.{Observation}
use Rattle.lra_rotation.specs.declared.action.Stage.{Stage}
use Rattle.lra_rotation.specs.declared.action.Stage.TheVariants as stage
use Rattle.lra_rotation.specs.declared.action.NewWork.{NewWork}
use Rattle.lra_rotation.specs.declared.action.NewWork.TheVariants as work
use Rattle.lra_rotation.specs.declared.action.RotationAction.{RotationAction}
use Rattle.lra_rotation.specs.declared.action.RotationAction.TheVariants as action
use Rattle.lra_rotation.specs.States.{State, has_next, set, new_work, answers}
use Rattle.lra_rotation.specs.Deciding.{decide, is_near_end, is_done, is_free, is_waiting, is_drained, wants_next}
use Rattle.lra_rotation.specs.Deciding.{wants_leave, newest_waits, may_archive, clearing, closing, leaving, retrying}
use Rattle.lra_rotation.specs.Disks.{Disk, noted_on}
use Rattle.lra_rotation.specs.Runs.{World, Look, Event, Does, Fails, Restarts, Follows, Refuses, Begins, Ends}
use Rattle.lra_rotation.specs.Runs.{has_session, decided, after, run, first_start}

-- each of some numbers is greater than one
abbrev pub AllAbove : ℕ → List ℕ → Type 0
AllAbove n [] = Unit {0}
AllAbove n (i ∷ is) = (n < i) × AllAbove n is

-- each of some numbers is greater than those before it
abbrev pub Ascend : List ℕ → Type 0
Ascend [] = Unit {0}
Ascend (i ∷ is) = AllAbove i is × Ascend is

-- the instance of each of some journals is less than a number
abbrev pub RowsBelow : ℕ → List RotationJournal → Type 0
RowsBelow n [] = Unit {0}
RowsBelow n (j ∷ js) = (j.instance < n) × RowsBelow n js

-- a journal of an instance is among some
abbrev pub has : List RotationJournal → ℕ → Bool
has js i = list_any (λ j. j.instance == i) js

-- something may be begun in the journal of an instance
abbrev pub may_begin : State → ℕ → Bool
may_begin s i = list_any (λ j. (j.instance == i) && not j.is_closed) (s.older ++ option_to_list s.newest)

-- one of some journals is that of an instance, and passes a test
abbrev pub some_is : (RotationJournal → Bool) → List RotationJournal → ℕ → Bool
some_is p js i = list_any (λ j. (j.instance == i) && p j) js

-- a service rolls, and its set can have another version
abbrev pub rotates : State → Bool
rotates s = s.settings.rolls && has_next s.version

-- an action may be decided: an instance is noted if it is greater than all that were, and used once it is noted; the
-- next journal gets its name once it is wanted, and accepts new work once it has that, all while the newest doesn't
-- wait; one is closed if it is near its end; one that isn't the newest leaves the set if it is done, never comes back,
-- and is archived if it is done and all have left it; a service ends if it drains and is drained
abbrev pub Suits : State → List Observation → RotationAction → Type 0
Suits s observations (action.Remove i) = Unit {0}
Suits s observations (action.Note i) = (s.noted < i) × (s.stage ≡ stage.Idle) × IsTrue (rotates s)
    × IsTrue (not (newest_waits s observations))
Suits s observations (action.Prepare i) = (s.stage ≡ stage.Noted i) × IsTrue (rotates s)
    × IsTrue (not (newest_waits s observations))
Suits s observations (action.Name i) = (s.stage ≡ stage.Prepared i) × IsTrue (rotates s)
    × IsTrue (wants_next s observations) × IsTrue (not (newest_waits s observations))
Suits s observations (action.Switch i) = (s.stage ≡ stage.Named i) × IsTrue (rotates s)
    × IsTrue (not (newest_waits s observations))
Suits s observations (action.Close i) = IsTrue (is_near_end observations i)
Suits s observations (action.Withdraw i) = IsTrue (some_is (wants_leave observations s.settings.remember) s.older i)
    × IsTrue (rotates s)
Suits s observations (action.Archive i) = IsTrue (some_is (may_archive s.workers observations s.settings.remember)
    s.older i) × IsTrue s.settings.rolls
Suits s observations action.End = IsTrue s.settings.drains × IsTrue (is_drained s observations)
Suits s observations action.Fail = Unit {0}

-- a folder as a service leaves it, and so is one with one journal that is noted, as that of a file: its journals
-- ascend, and what was noted last is the greatest
pub record IsFolder (d : Disk) : Type 0 where
  pub ordered : Ascend d.journals
  pub noted : noted_on d ≤ d.newest
  pub first : d.first ≤ noted_on d + 1

-- there is no older journal without a newest, and each is less than that, which was noted
pub record IsOrdered (s : State) : Type 0 where
  pub older : IfSome s.newest (λ n. RowsBelow n.instance s.older)
  pub alone : IfNone s.newest (s.older ≡ [])
  pub newest : IfSome s.newest (λ n. n.instance ≤ s.noted)

-- no instance is used twice: each is greater than those before it
abbrev pub GivesNoneTwice : Type 0
GivesNoneTwice = (settings : RotationSettings) (d : Disk) (es : List Event) → IsFolder d
    → Ascend (run (first_start settings d) es).used

-- the newest journal is greater than all others, at each moment
abbrev pub KeepsOneNewest : Type 0
KeepsOneNewest = (settings : RotationSettings) (d : Disk) (es : List Event) → IsFolder d
    → IsOrdered (run (first_start settings d) es).state

-- a number is among some
abbrev pub is_among : ℕ → List ℕ → Bool
is_among i js = list_any (λ j. j == i) js

-- a journal may be archived: it is less than the newest, is done, doesn't wait, isn't in the set, nobody is at work in
-- it, and no worker has a session in it
pub record IsArchivable (w : World) (observations : List Observation) (i : ℕ) : Type 0 where
  pub older : IfSome w.state.newest (λ n. i < n.instance)
  pub there : IsTrue (has w.state.older i)
  pub done : IsTrue (is_done observations w.state.settings.remember i)
  pub free : IsTrue (is_free observations i)
  pub rested : IsTrue (not (is_waiting observations i))
  pub outside : is_among i (set w.state) ≡ false
  pub left : (k : ℕ) → has_session w.holds k i ≡ false

-- a journal is archived only if it may be
abbrev pub ArchivesWhatIsDone : Type 0
ArchivesWhatIsDone = (settings : RotationSettings) (d : Disk) (es : List Event) (look : Look) (i : ℕ) → IsFolder d
    → decided (run (first_start settings d) es) look ≡ Some (action.Archive i)
    → IsArchivable (run (first_start settings d) es) look.observations i

-- each journal in which a worker has a session is in use on disk: it was never archived, nor lost
abbrev pub HoldsWhatStands : Type 0
HoldsWhatStands = (settings : RotationSettings) (d : Disk) (es : List Event) (k i : ℕ) → IsFolder d
    → has_session (run (first_start settings d) es).holds k i ≡ true
    → is_among i (run (first_start settings d) es).disk.journals ≡ true

-- observations say of no journal that it is done in which something is still to end
abbrev pub Honest : World → List Observation → Type 0
Honest w observations = (remember i : ℕ) → is_among i w.busy ≡ true → is_done observations remember i ≡ false

-- the observations of an event are honest
abbrev pub IsHonest : World → Event → Type 0
IsHonest w (Does look) = Honest w look.observations
IsHonest w (Fails look took) = Honest w look.observations
IsHonest w (Restarts look took settings is_restored observations) = Honest w look.observations
IsHonest w (Follows k v) = Unit {0}
IsHonest w (Refuses k) = Unit {0}
IsHonest w (Begins k i) = Unit {0}
IsHonest w (Ends i) = Unit {0}

-- the observations of each event of a run are honest
abbrev pub AreHonest : World → List Event → Type 0
AreHonest w [] = Unit {0}
AreHonest w (e ∷ es) = IsHonest w e × AreHonest (after w e) es

-- what was begun, by whichever worker, is in a journal in use until it ends
abbrev pub LosesNothingBegun : Type 0
LosesNothingBegun = (settings : RotationSettings) (d : Disk) (es : List Event) (i : ℕ) → IsFolder d
    → AreHonest (first_start settings d) es → is_among i (run (first_start settings d) es).busy ≡ true
    → is_among i (run (first_start settings d) es).disk.journals ≡ true

-- a service ends by itself only if it drains and is drained
abbrev pub EndsWhatIsDrained : Type 0
EndsWhatIsDrained = (s : State) (moment : ℕ) (own : Bool) (observations : List Observation)
    → decide s moment own observations ≡ Some action.End → IsTrue s.settings.drains × IsTrue (is_drained s observations)

-- the greatest instance that is retired at a start after a restore: what was noted by then
abbrev pub retired_at : World → Look → Bool → RotationSettings → ℕ
retired_at w look took settings = noted_on (after w (Restarts look took settings false [])).disk

-- nothing is begun in a retired journal, whatever comes after the restore
abbrev pub BeginsNothingRetired : Type 0
BeginsNothingRetired = (settings again : RotationSettings) (d : Disk) (es fs : List Event) (look : Look) (took : Bool)
    (observations : List Observation) (i : ℕ)
    → IsFolder d
    → i ≤ retired_at (run (first_start settings d) es) look took again
    → may_begin (run (after (run (first_start settings d) es) (Restarts look took again true observations)) fs).state i
    ≡ false

-- an action doesn't note, prepare, name, switch to, withdraw or archive a journal
abbrev pub IsPlain : RotationAction → Type 0
IsPlain (action.Remove i) = Unit {0}
IsPlain (action.Note i) = ⊥
IsPlain (action.Prepare i) = ⊥
IsPlain (action.Name i) = ⊥
IsPlain (action.Switch i) = ⊥
IsPlain (action.Close i) = Unit {0}
IsPlain (action.Withdraw i) = ⊥
IsPlain (action.Archive i) = ⊥
IsPlain action.End = Unit {0}
IsPlain action.Fail = Unit {0}

-- a service that doesn't roll, as that of one file, does plain actions only
abbrev pub NeverRotates : Type 0
NeverRotates = (s : State) (moment : ℕ) (own : Bool) (observations : List Observation) → s.settings.rolls ≡ false
    → IfSome (decide s moment own observations) IsPlain

-- the disk of a file: a folder with one journal
abbrev pub file : ℕ → Disk
file i = record { newest = i; first = 0; journals = i ∷ []; prepared = []; ended = [] }

-- no start among some events is of a service that rolls
abbrev pub NeverRolls : List Event → Type 0
NeverRolls [] = Unit {0}
NeverRolls (Does look ∷ es) = NeverRolls es
NeverRolls (Fails look took ∷ es) = NeverRolls es
NeverRolls (Restarts look took settings is_restored observations ∷ es) = (settings.rolls ≡ false) × NeverRolls es
NeverRolls (Follows k v ∷ es) = NeverRolls es
NeverRolls (Refuses k ∷ es) = NeverRolls es
NeverRolls (Begins k i ∷ es) = NeverRolls es
NeverRolls (Ends i ∷ es) = NeverRolls es

-- the set of a file's service is that one journal, on disk and in service, whatever comes
abbrev pub KeepsTheFile : Type 0
KeepsTheFile = (settings : RotationSettings) (i : ℕ) (es : List Event) → settings.rolls ≡ false → NeverRolls es
    → (set (run (first_start settings (file i)) es).state ≡ i ∷ [])
    × ((run (first_start settings (file i)) es).disk.journals ≡ i ∷ [])

-- a journal stands on disk, in use or among those that have ended
abbrev pub stands : ℕ → Disk → Bool
stands i d = is_among i d.journals || is_among i d.ended

-- a journal that stands on disk stands there whatever is done, fails or is broken off
abbrev pub LosesNone : Type 0
LosesNone = (w : World) (e : Event) (i : ℕ) → stands i w.disk ≡ true → stands i (after w e).disk ≡ true

-- the journals that are known, the newest last
abbrev pub served : State → List RotationJournal
served s = s.older ++ option_to_list s.newest

-- an instance is that of the next journal, once that may have its name
abbrev pub is_next : Stage → ℕ → Bool
is_next stage.Idle i = false
is_next (stage.Noted k) i = false
is_next (stage.Prepared k) i = k == i
is_next (stage.Named k) i = k == i

-- each journal in use on disk is known, or comes next, and each in the set is in use on disk
abbrev pub KnowsAll : Type 0
KnowsAll = (settings : RotationSettings) (d : Disk) (es : List Event) (i : ℕ) → IsFolder d
    → (is_among i (run (first_start settings d) es).disk.journals ≡ true
    → (has (served (run (first_start settings d) es).state) i
    || is_next (run (first_start settings d) es).state.stage i) ≡ true)
    × (is_among i (set (run (first_start settings d) es).state) ≡ true
    → is_among i (run (first_start settings d) es).disk.journals ≡ true)

-- nothing is begun in the journal of an instance: it is closed wherever it stands
abbrev pub Shut : ℕ → List RotationJournal → Type 0
Shut i [] = Unit {0}
Shut i (j ∷ js) = (j.instance ≡ i → j.is_closed ≡ true) × Shut i js

-- a start observes again that a journal is near its end
abbrev pub IsObservedAgain : ℕ → Event → Type 0
IsObservedAgain i (Does look) = Unit {0}
IsObservedAgain i (Fails look took) = Unit {0}
IsObservedAgain i (Restarts look took settings is_restored observations) = is_near_end observations i ≡ true
IsObservedAgain i (Follows k v) = Unit {0}
IsObservedAgain i (Refuses k) = Unit {0}
IsObservedAgain i (Begins k j) = Unit {0}
IsObservedAgain i (Ends j) = Unit {0}

-- a journal that is served and closed is so after whatever happens
abbrev pub ClosedStaysClosed : Type 0
ClosedStaysClosed = (settings : RotationSettings) (d : Disk) (es : List Event) (e : Event) (i : ℕ)
    → IsFolder d
    → IsObservedAgain i e
    → has (served (run (first_start settings d) es).state) i ≡ true
    → Shut i (served (run (first_start settings d) es).state)
    → Shut i (served (after (run (first_start settings d) es) e).state)

-- a journal may accept new work that names none: it is the newest, isn't closed, and is greater than all others, and
-- its service neither drains nor is over
pub record IsTaker (s : State) (i : ℕ) : Type 0 where
  pub newest : IfSome s.newest (λ n. (n.instance ≡ i) × (n.is_closed ≡ false))
  pub others : RowsBelow i s.older
  pub drains : s.settings.drains ≡ false
  pub goes_on : s.is_over ≡ false

-- an answer to who accepts new work is true
abbrev pub Tells : State → NewWork → Type 0
Tells s (work.Accepted i) = IsTaker s i
Tells s work.Over = s.is_over ≡ true
Tells s work.Draining = s.settings.drains ≡ true
Tells s work.Full = option_map_or (λ n. n.is_closed) s.newest false ≡ true
Tells s work.NoJournal = s.newest ≡ None
Tells s work.Behind = ⊥

-- the journal that accepts new work that names none is told, or a true reason why no journal does
abbrev pub TakesOrTells : Type 0
TakesOrTells = (settings : RotationSettings) (d : Disk) (es : List Event) → IsFolder d
    → Tells (run (first_start settings d) es).state (new_work (run (first_start settings d) es).state)

-- a worker begins new work that names no journal in the newest alone, and only with a session there
abbrev pub AnswersAtTheNewest : Type 0
AnswersAtTheNewest = (settings : RotationSettings) (d : Disk) (es : List Event) (k i : ℕ) → IsFolder d
    → answers (run (first_start settings d) es).state k ≡ work.Accepted i
    → IsTaker (run (first_start settings d) es).state i × (has_session (run (first_start settings d) es).holds k i
    ≡ true)

-- a journal that accepts new work is never less than one that did before, over whatever comes, starts among it: one
-- that has given up its place never accepts new work again
abbrev pub TakersAscend : Type 0
TakersAscend = (settings : RotationSettings) (d : Disk) (es fs : List Event) (i k : ℕ) → IsFolder d
    → new_work (run (first_start settings d) es).state ≡ work.Accepted i
    → new_work (run (run (first_start settings d) es) fs).state ≡ work.Accepted k
    → i ≤ k

-- the set, the newest journal, what was noted and the workers are as they were, and the next journal is where it was,
-- or begun anew
pub record IsAsBefore (w v : World) : Type 0 where
  pub set : set v.state ≡ set w.state
  pub newest : v.state.newest ≡ w.state.newest
  pub noted : v.state.noted ≡ w.state.noted
  pub version : v.state.version ≡ w.state.version
  pub workers : v.state.workers ≡ w.state.workers
  pub stage : (v.state.stage ≡ w.state.stage) ⊎ (v.state.stage ≡ stage.Idle)

-- a failure advances nothing
abbrev pub FailsInPlace : Type 0
FailsInPlace = (w : World) (look : Look) (took : Bool) → IsAsBefore w (after w (Fails look took))

-- an action that fails is decided again at the same observations: all but a preparation, which is never tried with the
-- same instance, a removal, which the next start does again, and archiving, which is tried again once nothing else is
-- to be done
abbrev pub IsTriedAgain : RotationAction → Type 0
IsTriedAgain (action.Remove i) = ⊥
IsTriedAgain (action.Note i) = Unit {0}
IsTriedAgain (action.Prepare i) = ⊥
IsTriedAgain (action.Name i) = Unit {0}
IsTriedAgain (action.Switch i) = Unit {0}
IsTriedAgain (action.Close i) = Unit {0}
IsTriedAgain (action.Withdraw i) = Unit {0}
IsTriedAgain (action.Archive i) = ⊥
IsTriedAgain action.End = ⊥
IsTriedAgain action.Fail = ⊥

-- what has failed is tried again, and what couldn't be archived once nothing else is to be done
abbrev pub TriesAgain : Type 0
TriesAgain = (w : World) (look : Look) (took : Bool) (a : RotationAction) → decided w look ≡ Some a
    → (IsTriedAgain a → decided (after w (Fails look took)) look ≡ Some a)
    × ((i : ℕ) → a ≡ action.Archive i → IsSome (retrying (after w (Fails look took)).state look.observations))

-- a service that drains and is drained goes on to its end: something is decided until it is over
abbrev pub EndsOnceDrained : Type 0
EndsOnceDrained = (s : State) (moment : ℕ) (own : Bool) (observations : List Observation) → s.is_over ≡ false
    → s.settings.drains ≡ true → is_drained s observations ≡ true → IsSome (decide s moment own observations)

-- a journal that is to leave isn't held up by the next one, which may fail again and again
abbrev pub LeavesBeforeRolling : Type 0
LeavesBeforeRolling = (s : State) (moment : ℕ) (observations : List Observation) (a : RotationAction)
    → s.is_over ≡ false → clearing s ≡ None → closing s observations ≡ None → leaving s observations ≡ Some a
    → decide s moment true observations ≡ Some a
