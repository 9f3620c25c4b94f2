-- Decisions on the next action, by what is known, by the clock, and by observations of the journals.
use Rattle.std.specs.Prelude.{ℕ, ◌+◌, ◌*◌, ◌^◌, max, ◌==◌, nat_lt, nat_le, Bool, true, false, not, ◌&&◌, ◌||◌}
use Rattle.std.specs.Prelude.{if◌then◌else◌, List, [], ◌∷◌, Option, None, Some, option_map, is_none}
use Rattle.std.specs.List.{list_any, list_all, slice_get}
use Rattle.std.specs.Option.{option_or, option_map_or}
use Rattle.lra_rotation.specs.declared.journal.RotationJournal.{RotationJournal}
use Rattle.lra_rotation.specs.declared.journal.Observation.{Observation}
use Rattle.lra_rotation.specs.declared.journal.RotationWorker.{RotationWorker}
use Rattle.lra_rotation.specs.declared.action.Stage.{Stage}
use Rattle.lra_rotation.specs.declared.action.Stage.TheVariants as stage
use Rattle.lra_rotation.specs.declared.action.RotationAction.{RotationAction}
use Rattle.lra_rotation.specs.declared.action.RotationAction.TheVariants as action
use Rattle.lra_rotation.specs.States.{State, has_next}

-- the least instance of a site that is greater than those noted, and no earlier than a moment: the 16 bits of the site
-- stand before the 44 bits of a moment in milliseconds (this project's choice)
abbrev pub next_instance : ℕ → ℕ → ℕ → Option ℕ
next_instance site moment noted = if nat_lt (max (site * 2 ^ 44 + moment) (noted + 1)) (site * 2 ^ 44 + 2 ^ 44) then
    Some (max (site * 2 ^ 44 + moment) (noted + 1)) else None

-- a journal is observed to have as much as it is to have
abbrev pub is_full : List Observation → ℕ → Bool
is_full observations i = list_any (λ x. (x.instance == i) && x.is_full) observations

-- a journal is observed to have hardly any room left
abbrev pub is_near_end : List Observation → ℕ → Bool
is_near_end observations i = list_any (λ x. (x.instance == i) && x.is_near_end) observations

-- a journal is observed to be done: all of it has ended, and it has been quiet for as long as it is retained
abbrev pub is_done : List Observation → ℕ → ℕ → Bool
is_done observations remember i = list_any (λ x. (x.instance == i) && x.is_settled && nat_le remember x.quiet)
    observations

-- nobody is observed to be at work in a journal
abbrev pub is_free : List Observation → ℕ → Bool
is_free observations i = list_any (λ x. (x.instance == i) && x.is_free) observations

-- a journal is observed to wait: a step on it failed lately, and the pause after that hasn't passed
abbrev pub is_waiting : List Observation → ℕ → Bool
is_waiting observations i = list_any (λ x. (x.instance == i) && x.is_waiting) observations

-- each worker follows the set of a version, or a later one
abbrev pub is_followed_by_all : List RotationWorker → ℕ → Bool
is_followed_by_all workers v = list_all (λ w. nat_le v w.seen) workers

-- a journal has left the set, and each worker follows a set without it
abbrev pub is_left_by_all : List RotationWorker → RotationJournal → Bool
is_left_by_all workers j = option_map_or (is_followed_by_all workers) j.left false

-- a journal is to be closed: it is near its end (this project's choice)
abbrev pub wants_close : List Observation → RotationJournal → Bool
wants_close observations j = not j.is_closed && is_near_end observations j.instance

-- a journal that isn't the newest is to leave the set: it is done, and doesn't wait (this project's choice)
abbrev pub wants_leave : List Observation → ℕ → RotationJournal → Bool
wants_leave observations remember j = is_none j.left && is_done observations remember j.instance
    && not (is_waiting observations j.instance)

-- a journal may be archived: it is done, nobody is at work in it, it doesn't wait, and each worker has left it (this
-- project's choice)
abbrev pub may_archive : List RotationWorker → List Observation → ℕ → RotationJournal → Bool
may_archive workers observations remember j = is_done observations remember j.instance && is_free observations
    j.instance && not (is_waiting observations j.instance) && is_left_by_all workers j

-- a journal is to be archived for the first time
abbrev pub wants_archive : List RotationWorker → List Observation → ℕ → RotationJournal → Bool
wants_archive workers observations remember j = not j.stays && may_archive workers observations remember j

-- archiving a journal has failed, and is to be tried again
abbrev pub wants_again : List RotationWorker → List Observation → ℕ → RotationJournal → Bool
wants_again workers observations remember j = j.stays && may_archive workers observations remember j

-- the action on the first of some journals that passes a test
abbrev pub first_that : (RotationJournal → Bool) → (ℕ → RotationAction) → List RotationJournal → Option RotationAction
first_that p f [] = None
first_that p f (j ∷ js) = if p j then Some (f j.instance) else first_that p f js

-- each of some journals is done, and couldn't be archived
abbrev pub are_drained : List RotationJournal → List Observation → ℕ → Bool
are_drained [] observations remember = true
are_drained (j ∷ js) observations remember = j.stays && is_done observations remember j.instance && are_drained js
    observations remember

-- the action that comes next for the journal that is being prepared: its instance is noted before it is used, and it
-- takes its place once it is wanted
abbrev pub forward : Stage → Bool → Option ℕ → Option RotationAction
forward stage.Idle wanted next = option_map action.Note next
forward (stage.Noted i) wanted next = Some (action.Prepare i)
forward (stage.Prepared i) wanted next = if wanted then Some (action.Name i) else None
forward (stage.Named i) wanted next = Some (action.Switch i)

-- the action that removes the first of the leftovers
abbrev pub clearing : State → Option RotationAction
clearing s = option_map action.Remove (slice_get s.leftovers 0)

-- the action that closes the newest journal, or the first of the others that is to be closed
abbrev pub closing_of : Option RotationJournal → List RotationJournal → List Observation → Option RotationAction
closing_of None older observations = first_that (wants_close observations) action.Close older
closing_of (Some j) older observations = if wants_close observations j then Some (action.Close j.instance)
    else first_that (wants_close observations) action.Close older

-- the action that closes the first journal that is to be closed, the newest before all others
abbrev pub closing : State → List Observation → Option RotationAction
closing s observations = closing_of s.newest s.older observations

-- another journal is to take the place of the newest: that is closed or full, or there is none (this project's choice)
abbrev pub wants_next : State → List Observation → Bool
wants_next s observations = option_map_or (λ j. j.is_closed || is_full observations j.instance) s.newest true

-- the newest journal is observed to wait: a step that makes the next one failed lately, or the next one has no
-- callback worker yet
abbrev pub newest_waits : State → List Observation → Bool
newest_waits s observations = option_map_or (λ j. is_waiting observations j.instance) s.newest false

-- the action that comes next for the journal that is being prepared, in a service that rolls, unless the newest waits
-- (this project's choice)
abbrev pub rolling : State → ℕ → List Observation → Option RotationAction
rolling s moment observations = if s.settings.rolls && has_next s.version && not (newest_waits s observations) then
    forward s.stage (wants_next s observations) (next_instance s.settings.site moment s.noted) else None

-- the action on the first journal that is to be archived, or leave the set: one that has left never comes back, since
-- its file was closed for good
abbrev pub leaving : State → List Observation → Option RotationAction
leaving s observations = if s.settings.rolls && has_next s.version then
    option_or (first_that (wants_archive s.workers observations s.settings.remember) action.Archive s.older)
    (first_that (wants_leave observations s.settings.remember) action.Withdraw s.older) else None

-- the action that archives the first journal whose archiving is to be tried again
abbrev pub retrying : State → List Observation → Option RotationAction
retrying s observations = if s.settings.rolls then first_that (wants_again s.workers observations s.settings.remember)
    action.Archive s.older else None

-- nothing is left to be done: the newest journal is done, and each older one is done and couldn't be archived
abbrev pub is_drained : State → List Observation → Bool
is_drained s observations = option_map_or (λ j. is_done observations s.settings.remember j.instance) s.newest true
    && are_drained s.older observations s.settings.remember

-- the action that ends a service that drains, once nothing is left to be done (this project's choice)
abbrev pub ending : State → List Observation → Option RotationAction
ending s observations = if s.settings.drains && is_drained s observations then Some action.End else None

-- the action that is done next: leftovers are removed, journals near their end are closed, those that are done leave
-- and are archived, the next one goes on, at last all ends, and until then what couldn't be archived is tried again; so
-- a disk on which none can be prepared holds up none that is to leave (this project's choice)
abbrev pub chosen : State → ℕ → List Observation → Option RotationAction
chosen s moment observations =
    option_or
    (option_or (option_or (option_or (option_or (clearing s) (closing s observations)) (leaving s observations))
    (rolling s moment observations)) (ending s observations)) (retrying s observations)

-- the action that is done next of a service that isn't over, if the journals are still its own
abbrev pub decide : State → ℕ → Bool → List Observation → Option RotationAction
decide s moment own observations = if s.is_over then None else if not own then Some action.Fail
    else chosen s moment observations
