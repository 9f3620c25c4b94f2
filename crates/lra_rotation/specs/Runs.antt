-- Runs of a service and its disk: actions that are done, or fail, or are broken off by a crash, starts, workers that
-- follow, refuse, and begin and end actions.
use Rattle.std.specs.Prelude.{ℕ, ◌==◌, Bool, true, false, not, ◌&&◌, map, if◌then◌else◌, List, [], ◌∷◌, ◌++◌, filter}
use Rattle.std.specs.Prelude.{Option, None, Some, option_map, option_to_list}
use Rattle.std.specs.List.{list_any}
use Rattle.lra_rotation.specs.declared.settings.RotationSettings.{RotationSettings}
use Rattle.lra_rotation.specs.declared.journal.RotationJournal.{RotationJournal}
use Rattle.lra_rotation.specs.declared.journal.Observation.{Observation}
use Rattle.lra_rotation.specs.declared.journal.RotationWorker.{RotationWorker}
use Rattle.lra_rotation.specs.declared.action.Stage.TheVariants as stage
use Rattle.lra_rotation.specs.declared.action.Change.{Change}
use Rattle.lra_rotation.specs.declared.action.Change.TheVariants as change
use Rattle.lra_rotation.specs.declared.action.RotationAction.{RotationAction}
use Rattle.lra_rotation.specs.declared.action.RotationAction.TheVariants as action
use Rattle.lra_rotation.specs.States.{State, next_version, set}
use Rattle.lra_rotation.specs.Deciding.{decide}
use Rattle.lra_rotation.specs.Disks.{Disk, carried, opened, restored, without}

-- a journal after a change: one that leaves the set is to be archived for the first time
abbrev pub changed : Change → RotationJournal → RotationJournal
changed change.Close j = record j { is_closed = true }
changed (change.Leave v) j = record j { left = Some v; stays = false }
changed change.Stay j = record j { stays = true }

-- a journal after a change of an instance's journal
abbrev pub changed_at : Change → ℕ → RotationJournal → RotationJournal
changed_at c i j = if j.instance == i then changed c j else j

-- some journals after a change of an instance's journal
abbrev pub change_all : Change → ℕ → List RotationJournal → List RotationJournal
change_all c i js = map (changed_at c i) js

-- all journals but that of an instance
abbrev pub apart_from : ℕ → List RotationJournal → List RotationJournal
apart_from i js = filter (λ j. not (j.instance == i)) js

-- the journal of an instance that is new
abbrev pub new_journal : ℕ → RotationJournal
new_journal i = record { instance = i; is_closed = false; left = None; stays = false }

-- what is known once an action is done
abbrev pub done : State → RotationAction → State
done s (action.Remove i) = record s { leftovers = without i s.leftovers }
done s (action.Note i) = record s { noted = i; stage = stage.Noted i }
done s (action.Prepare i) = record s { stage = stage.Prepared i }
done s (action.Name i) = record s { stage = stage.Named i }
done s (action.Switch i) = record s {
  older = s.older ++ option_to_list s.newest;
  newest = Some (new_journal i);
  stage = stage.Idle;
  version = next_version s.version;
}
done s (action.Close i) = record s {
  older = change_all change.Close i s.older;
  newest = option_map (changed_at change.Close i) s.newest;
}
done s (action.Withdraw i) = record s {
  older = change_all (change.Leave (next_version s.version)) i s.older;
  version = next_version s.version;
}
done s (action.Archive i) = record s { older = apart_from i s.older }
done s action.End = record s { is_over = true }
done s action.Fail = record s { is_over = true }

-- what is known once an action has failed: an instance that was noted isn't used then, and a journal that can't be
-- withdrawn or archived stays (this project's choice)
abbrev pub failed : State → RotationAction → State
failed s (action.Remove i) = record s { leftovers = without i s.leftovers }
failed s (action.Note i) = s
failed s (action.Prepare i) = record s { stage = stage.Idle }
failed s (action.Name i) = s
failed s (action.Switch i) = s
failed s (action.Close i) = s
failed s (action.Withdraw i) = record s { older = change_all change.Stay i s.older }
failed s (action.Archive i) = record s { older = change_all change.Stay i s.older }
failed s action.End = record s { is_over = true }
failed s action.Fail = record s { is_over = true }

-- all workers but one
abbrev pub other_workers : ℕ → List RotationWorker → List RotationWorker
other_workers k ws = filter (λ w. not (w.number == k)) ws

-- what is known once a worker doesn't answer any more
abbrev pub refused : State → ℕ → State
refused s k = record s { workers = other_workers k s.workers }

-- a worker that follows the set of a version
abbrev pub worker : ℕ → ℕ → RotationWorker
worker k v = record { number = k; seen = v }

-- what is known once a worker has followed: only the set that is served now counts
abbrev pub followed : State → ℕ → ℕ → State
followed s k v = if v == s.version then record s { workers = other_workers k s.workers ++ worker k v ∷ [] } else s

-- what a worker that answers really has: a session in each of some journals, as the set was when it followed
pub record Hold : Type 0 where
  pub number : ℕ
  pub seen : ℕ
  pub journals : List ℕ

-- what all workers but one have
abbrev pub other_holds : ℕ → List Hold → List Hold
other_holds k hs = filter (λ h. not (h.number == k)) hs

-- a worker has a session in the journal of an instance
abbrev pub has_session : List Hold → ℕ → ℕ → Bool
has_session hs k i = list_any (λ h. (h.number == k) && list_any (λ j. j == i) h.journals) hs

-- a service, its disk, the instances that were used, in order, what workers have, and the journals in which something
-- was begun and hasn't ended
pub record World : Type 0 where
  pub state : State
  pub disk : Disk
  pub used : List ℕ
  pub holds : List Hold
  pub busy : List ℕ

-- what a service learns before a decision: the clock's moment, whether the journals are its own, and observations
pub record Look : Type 0 where
  pub moment : ℕ
  pub own : Bool
  pub observations : List Observation

-- an event: what is decided is done; it fails, and the disk has taken it or not; the service crashes in its midst, and
-- starts again, as after a restore or not; a worker has a session in each journal of the set of a version, or has given
-- up all; it begins something in a journal; and all ends that was begun there
pub data Event : Type 0 where
  Does : Look → Event
  Fails : Look → Bool → Event
  Restarts : Look → Bool → RotationSettings → Bool → List Observation → Event
  Follows : ℕ → ℕ → Event
  Refuses : ℕ → Event
  Begins : ℕ → ℕ → Event
  Ends : ℕ → Event

-- the instances that were used, with that of an action: an instance is used once its journal is begun, whether that
-- comes to anything or not
abbrev pub used_with : RotationAction → List ℕ → List ℕ
used_with (action.Prepare i) used = used ++ i ∷ []
used_with (action.Remove i) used = used
used_with (action.Note i) used = used
used_with (action.Name i) used = used
used_with (action.Switch i) used = used
used_with (action.Close i) used = used
used_with (action.Withdraw i) used = used
used_with (action.Archive i) used = used
used_with action.End used = used
used_with action.Fail used = used

-- the action that a service decides on after a look
abbrev pub decided : World → Look → Option RotationAction
decided w look = decide w.state look.moment look.own look.observations

-- a world once an action is done
abbrev pub did : World → Option RotationAction → World
did w None = w
did w (Some a) = record w { state = done w.state a; disk = carried a w.disk; used = used_with a w.used }

-- a world once an action has failed, of which the disk has taken all or nothing
abbrev pub did_fail : World → Bool → Option RotationAction → World
did_fail w took None = w
did_fail w took (Some a) = record w {
  state = failed w.state a;
  disk = (if took then carried a w.disk else w.disk);
  used = used_with a w.used;
}

-- a world in which a service starts with a disk
abbrev pub started_on : RotationSettings → Disk → List ℕ → List ℕ → List Observation → World
started_on settings d used busy observations = record {
  state = opened settings d observations;
  disk = d;
  used = used;
  holds = [];
  busy = busy;
}

-- a world in which a service starts anew, after a restore or not
abbrev pub started : RotationSettings → Bool → List Observation → World → World
started settings is_restored observations w = started_on settings (if is_restored then restored w.disk else w.disk)
    w.used w.busy observations

-- a world in which a worker comes with the set of a version: if that is served, it has a session in each journal of it;
-- if not, it is as it was
abbrev pub follows : World → ℕ → ℕ → World
follows w k v = if v == w.state.version then record w {
  state = followed w.state k v;
  holds = other_holds k w.holds
      ++ record { number = k; seen = v; journals = set w.state } ∷ [];
} else w

-- a world in which a worker begins something where it has a session: a journal that has left the set accepts no writes,
-- since its file was closed as it left
abbrev pub begins : World → ℕ → ℕ → World
begins w k i = if has_session w.holds k i && list_any (λ j. j == i) (set w.state) then record w { busy = i ∷ w.busy }
    else w

-- a world after an event
abbrev pub after : World → Event → World
after w (Does look) = did w (decided w look)
after w (Fails look took) = did_fail w took (decided w look)
after w (Restarts look took settings is_restored observations) = started settings is_restored observations
    (did_fail w took (decided w look))
after w (Follows k v) = follows w k v
after w (Refuses k) = record w { state = refused w.state k; holds = other_holds k w.holds }
after w (Begins k i) = begins w k i
after w (Ends i) = record w { busy = without i w.busy }

-- a world after some events
abbrev pub run : World → List Event → World
run w [] = w
run w (e ∷ es) = run (after w e) es

-- a world in which a service starts for the first time, with a folder, or with a file, which is a folder of one journal
abbrev pub first_start : RotationSettings → Disk → World
first_start settings d = started_on settings d [] [] []
