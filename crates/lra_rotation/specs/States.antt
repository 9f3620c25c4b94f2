-- What a rotation knows: the journals that are served, the stage of the next one, and the workers that follow.
use Rattle.std.specs.Prelude.{ℕ, ◌+◌, ◌-◌, ◌^◌, ◌==◌, nat_lt, Bool, false, ◌&&◌, ◌||◌, if◌then◌else◌, List}
use Rattle.std.specs.Prelude.{[], ◌∷◌, ◌++◌, Option, None, Some, is_none}
use Rattle.std.specs.List.{list_any}
use Rattle.std.specs.Option.{option_map_or}
use Rattle.lra_rotation.specs.declared.settings.RotationSettings.{RotationSettings}
use Rattle.lra_rotation.specs.declared.journal.RotationJournal.{RotationJournal}
use Rattle.lra_rotation.specs.declared.journal.RotationWorker.{RotationWorker}
use Rattle.lra_rotation.specs.declared.action.Stage.{Stage}
use Rattle.lra_rotation.specs.declared.action.NewWork.{NewWork}
use Rattle.lra_rotation.specs.declared.action.NewWork.TheVariants as work

-- what is known: the settings, the greatest instance that was noted, the older journals and the newest, the stage of
-- the next one, the leftovers of a service before, the version of the set that is served, the workers, and whether the
-- service is over
pub record State : Type 0 where
  pub settings : RotationSettings
  pub noted : ℕ
  pub older : List RotationJournal
  pub newest : Option RotationJournal
  pub stage : Stage
  pub leftovers : List ℕ
  pub version : ℕ
  pub workers : List RotationWorker
  pub is_over : Bool

-- a version isn't the last
abbrev pub has_next : ℕ → Bool
has_next v = nat_lt v (2 ^ 64 - 1)

-- the version after one, or the last of all
abbrev pub next_version : ℕ → ℕ
next_version v = if has_next v then v + 1 else v

-- the instances of those of some journals that haven't left the set
abbrev pub listed : List RotationJournal → List ℕ
listed [] = []
listed (j ∷ js) = if is_none j.left then j.instance ∷ listed js else listed js

-- the instance of a journal, if there is one
abbrev pub instance_of : Option RotationJournal → List ℕ
instance_of None = []
instance_of (Some j) = j.instance ∷ []

-- the set that is served: the instances of the journals that haven't left it, the newest last
abbrev pub set : State → List ℕ
set s = listed s.older ++ instance_of s.newest

-- a journal has an instance, and is closed
abbrev pub is_closed_at : ℕ → RotationJournal → Bool
is_closed_at i j = (j.instance == i) && j.is_closed

-- one of some journals has an instance, and is closed
abbrev pub has_closed : List RotationJournal → ℕ → Bool
has_closed js i = list_any (λ j. (j.instance == i) && j.is_closed) js

-- one of the journals that are served, the newest or an older one, has an instance, and is closed
abbrev pub is_closed_in : State → ℕ → Bool
is_closed_in s i = option_map_or (is_closed_at i) s.newest false || has_closed s.older i

-- the newest journal accepts new work if it isn't closed
abbrev pub new_work_of : Option RotationJournal → NewWork
new_work_of None = work.NoJournal
new_work_of (Some j) = if j.is_closed then work.Full else work.Accepted j.instance

-- the journal that accepts new work that names none, or the reason why no journal does: the newest accepts it, of a
-- service that neither drains nor is over (this project's choice)
abbrev pub new_work : State → NewWork
new_work s = if s.is_over then work.Over else if s.settings.drains then work.Draining else new_work_of s.newest

-- a worker follows the set of a version
abbrev pub is_current : List RotationWorker → ℕ → ℕ → Bool
is_current ws k v = list_any (λ w. (w.number == k) && (w.seen == v)) ws

-- the journal in which a worker begins new work that names none, or the reason why it doesn't
abbrev pub answers : State → ℕ → NewWork
answers s k = if is_current s.workers k s.version then new_work s else work.Behind
