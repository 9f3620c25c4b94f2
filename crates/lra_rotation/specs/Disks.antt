-- A folder's journals on disk, what an action does to them, and what a service knows that starts with them. This is a
-- model: no clause says that the system's files do so.
use Rattle.std.specs.Prelude.{ℕ, ◌+◌, max, ◌==◌, nat_lt, false, not, List, [], ◌∷◌, ◌++◌, ◌||◌, filter, Option, None}
use Rattle.std.specs.Prelude.{Some, option_map}
use Rattle.lra_rotation.specs.declared.settings.RotationSettings.{RotationSettings}
use Rattle.lra_rotation.specs.declared.journal.RotationJournal.{RotationJournal}
use Rattle.lra_rotation.specs.declared.action.Stage.TheVariants as stage
use Rattle.lra_rotation.specs.declared.action.RotationAction.{RotationAction}
use Rattle.lra_rotation.specs.declared.action.RotationAction.TheVariants as action
use Rattle.lra_rotation.specs.declared.journal.Observation.{Observation}
use Rattle.lra_rotation.specs.States.{State}
use Rattle.lra_rotation.specs.Deciding.{is_near_end}

-- a folder on disk: the file `newest`; the least instance in whose journal anything is begun, by the file `restored`;
-- the journals in use, the oldest first; those that are being prepared; and what `ended` has
pub record Disk : Type 0 where
  pub newest : ℕ
  pub first : ℕ
  pub journals : List ℕ
  pub prepared : List ℕ
  pub ended : List ℕ

-- all but one number
abbrev pub without : ℕ → List ℕ → List ℕ
without i is = filter (λ j. not (j == i)) is

-- what an action leaves on disk; done once more it leaves the same (this project's choice)
abbrev pub carried : RotationAction → Disk → Disk
carried (action.Remove i) d = record d { prepared = without i d.prepared }
carried (action.Note i) d = record d { newest = i }
carried (action.Prepare i) d = record d { prepared = without i d.prepared ++ i ∷ [] }
carried (action.Name i) d = record d { prepared = without i d.prepared; journals = without i d.journals ++ i ∷ [] }
carried (action.Switch i) d = d
carried (action.Close i) d = d
carried (action.Withdraw i) d = d
carried (action.Archive i) d = record d { journals = without i d.journals; ended = without i d.ended ++ i ∷ [] }
carried action.End d = d
carried action.Fail d = d

-- the greatest of some numbers
abbrev pub greatest : List ℕ → ℕ
greatest [] = 0
greatest (i ∷ is) = max i (greatest is)

-- the greatest instance that is noted on disk, or whose journal is in use or has ended
abbrev pub noted_on : Disk → ℕ
noted_on d = max d.newest (max (greatest d.journals) (greatest d.ended))

-- a journal that was found: it is closed if it was there when the folder was restored, or is near its end
abbrev pub found : ℕ → List Observation → ℕ → RotationJournal
found first observations i = record {
  instance = i;
  is_closed = nat_lt i first || is_near_end observations i;
  left = None;
  stays = false;
}

-- the journals of all instances that were found
abbrev pub found_all : ℕ → List Observation → List ℕ → List RotationJournal
found_all first observations [] = []
found_all first observations (i ∷ is) = found first observations i ∷ found_all first observations is

-- the last of a list, or else an element before it
abbrev pub last_from : {A : Type 0} → A → List A → A
last_from x [] = x
last_from x (y ∷ ys) = last_from y ys

-- the last of a list, if there is one
abbrev pub last_of : {A : Type 0} → List A → Option A
last_of [] = None
last_of (x ∷ xs) = Some (last_from x xs)

-- all of an element and a list but the last
abbrev pub front_from : {A : Type 0} → A → List A → List A
front_from x [] = []
front_from x (y ∷ ys) = x ∷ front_from y ys

-- all of a list but the last
abbrev pub front_of : {A : Type 0} → List A → List A
front_of [] = []
front_of (x ∷ xs) = front_from x xs

-- what a service knows that starts with a folder: it has no worker yet
abbrev pub opened : RotationSettings → Disk → List Observation → State
opened settings d observations = record {
  settings = settings;
  noted = noted_on d;
  older = found_all d.first
      observations (front_of d.journals);
  newest = option_map (found d.first observations) (last_of d.journals);
  stage =
      stage.Idle;
  leftovers = d.prepared;
  version = 0;
  workers = [];
  is_over = false;
}

-- a folder that was restored: nothing is begun any more in what it has (this project's choice)
abbrev pub restored : Disk → Disk
restored d = record d { first = noted_on d + 1 }
