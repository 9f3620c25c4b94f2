-- The health of a service.
use Rattle.std.specs.Prelude.{ℕ, ◌-◌, nat_lt, nat_le, nat_eq, Bool, true, false, ◌&&◌, not, cond, List, [], ◌∷◌, ◌++◌}
use Rattle.std.specs.Prelude.{length, replicate, codes, Option, Some, None, is_some}
use Rattle.std.specs.Fmt.{decimal, digits}
use Rattle.std.specs.Option.{option_map_or}
use Rattle.lra_overview.specs.declared.overview.Facts.{Facts}
use Rattle.lra_overview.specs.declared.health.Probe.{Probe}
use Rattle.lra_overview.specs.declared.health.Probe.TheVariants as probe
use Rattle.lra_overview.specs.declared.health.Answered.{Answered}
use Rattle.lra_overview.specs.Laying.{joined}

-- the journal accepts writes and makes them durable
abbrev pub keeps : Facts → Bool
keeps facts = not facts.has_failed

-- there are fewer actions and members than there may be, by the numbers that the coordinator reported; if it reported
-- none, this holds
abbrev pub counts_fit : Facts → Option Answered → Bool
counts_fit facts (Some told) = nat_lt told.actions facts.most_actions && nat_lt told.members facts.most_members
counts_fit facts None = true

-- there is room for bytes, entries, actions and members
abbrev pub has_room : Facts → Option Answered → Bool
has_room facts answered = nat_lt facts.bytes facts.most_bytes && nat_lt facts.entries facts.most_entries
    && counts_fit facts answered

-- new actions may be started: the service isn't to end, neither now nor once its actions have
abbrev pub takes_starts : Facts → Bool
takes_starts facts = not facts.is_ending

-- each worker knows the journals that there are
abbrev pub follows : Facts → Bool
follows facts = not facts.lags

-- no sync takes longer than it may
abbrev pub syncs_in_time : Facts → Bool
syncs_in_time facts = nat_le facts.sync_age facts.sync_limit

-- no worker and no callback worker has ended
abbrev pub has_threads : Facts → Bool
has_threads facts = nat_eq facts.lost_workers 0 && nat_eq facts.lost_callback_workers 0

-- nothing is wrong that a restart would mend
abbrev pub is_live : Facts → Option Answered → Bool
is_live facts answered = keeps facts && is_some answered && has_threads facts

-- the service accepts anything more
abbrev pub takes_more : Facts → Option Answered → Bool
takes_more facts answered = has_room facts answered && takes_starts facts

-- nothing is late: no worker lags behind the set of journals, and no sync takes too long
abbrev pub is_timely : Facts → Bool
is_timely facts = follows facts && syncs_in_time facts

-- all checks of a probe succeed (MicroProfile Health 4.0, liveness, readiness and startup)
abbrev pub is_up : Probe → Facts → Option Answered → Bool
is_up probe.Whole facts answered = is_live facts answered && takes_more facts answered && is_timely facts
is_up probe.Live facts answered = is_live facts answered
is_up probe.Ready facts answered = is_live facts answered && takes_more facts answered && is_timely facts
is_up probe.Started facts answered = true

-- ---- texts (MicroProfile Health 4.0, the response's JSON)

-- the word for the outcome of a check
abbrev pub word : Bool → List ℕ
word up = cond up (codes "UP") (codes "DOWN")

-- a check's beginning: its name and its outcome
abbrev pub check : List ℕ → Bool → List ℕ
check name up = joined (codes "{\"name\":\"" ∷ name ∷ codes "\",\"status\":\"" ∷ word up ∷ codes "\"" ∷ [])

-- a number of a check's data
abbrev pub measured : List ℕ → ℕ → List ℕ
measured name n = joined (codes "\"" ∷ name ∷ codes "\":" ∷ decimal n ∷ [])

-- the check of whether the journal accepts writes and makes them durable
abbrev pub journal : Facts → List ℕ
journal facts =
    joined
    (check (codes "journal") (keeps facts)
    ∷ codes ",\"data\":{"
    ∷ measured (codes "bytes") facts.bytes
    ∷ codes ","
    ∷ measured (codes "entries") facts.entries
    ∷ codes "}}"
    ∷ []
    )

-- the check of a coordinator that answers, with the numbers that it reported
abbrev pub answer : Answered → List ℕ
answer told =
    joined
    (check (codes "lock") true
    ∷ codes ",\"data\":{"
    ∷ measured (codes "actions") told.actions
    ∷ codes ","
    ∷ measured (codes "members") told.members
    ∷ codes "}}"
    ∷ []
    )

-- the check of a coordinator that doesn't answer
abbrev pub silence : List ℕ
silence = joined (check (codes "lock") false ∷ codes "}" ∷ [])

-- the check of whether the coordinator answers
abbrev pub lock : Option Answered → List ℕ
lock (Some told) = answer told
lock None = silence

-- the room for actions and members
abbrev pub room_left : Facts → Answered → List ℕ
room_left facts told =
    joined
    (codes ","
    ∷ measured (codes "actions") (facts.most_actions - told.actions)
    ∷ codes ","
    ∷ measured (codes "members") (facts.most_members - told.members)
    ∷ []
    )

-- the room for actions and members, if their numbers are known
abbrev pub room_counted : Facts → Option Answered → List ℕ
room_counted facts (Some told) = room_left facts told
room_counted facts None = []

-- the check of whether there is room, and how much
abbrev pub room : Facts → Option Answered → List ℕ
room facts answered =
    joined
    (check (codes "room") (has_room facts answered)
    ∷ codes ",\"data\":{"
    ∷ measured (codes "bytes") (facts.most_bytes - facts.bytes)
    ∷ codes ","
    ∷ measured (codes "entries") (facts.most_entries - facts.entries)
    ∷ room_counted facts answered
    ∷ codes "}}"
    ∷ []
    )

-- the check of whether new actions may be started
abbrev pub starts : Facts → List ℕ
starts facts = joined (check (codes "starts") (takes_starts facts) ∷ codes "}" ∷ [])

-- the checks of whether the service accepts anything more
abbrev pub openings : Facts → Option Answered → List ℕ
openings facts answered = joined (room facts answered ∷ codes "," ∷ starts facts ∷ [])

-- how many workers and callback workers have ended
abbrev pub lost : Facts → List ℕ
lost facts =
    joined (measured (codes "ended_workers") facts.lost_workers ∷ codes ","
    ∷ measured (codes "ended_callback_workers") facts.lost_callback_workers ∷ [])

-- the name of a journal's file, without its extension: fifteen hexadecimal digits in lower case, with leading zeros
unfoldable pub stem : ℕ → List ℕ
stem i = replicate (15 - length (digits 16 false i)) 48 ++ digits 16 false i

-- the field for a journal whose callbacks stand still
abbrev pub journal_standing : ℕ → List ℕ
journal_standing i = joined (codes ",\"callbacks_of\":\"" ∷ stem i ∷ codes "\"" ∷ [])

-- the field for the journal whose callbacks stand still, if any do
abbrev pub standing : Facts → List ℕ
standing facts = option_map_or journal_standing facts.standing []

-- the check of whether all threads run, and the journal whose callbacks stand still if they don't
abbrev pub threads : Facts → List ℕ
threads facts = joined (check (codes "threads") (has_threads facts) ∷ codes ",\"data\":{" ∷ lost facts ∷ standing facts
    ∷ codes "}}" ∷ [])

-- how long the sync under way has taken, and how long it may take
abbrev pub ages : Facts → List ℕ
ages facts = joined (measured (codes "age_ms") facts.sync_age ∷ codes "," ∷ measured (codes "limit_ms") facts.sync_limit
    ∷ [])

-- the check of whether a sync takes too long
abbrev pub sync : Facts → List ℕ
sync facts = joined (check (codes "sync") (syncs_in_time facts) ∷ codes ",\"data\":{" ∷ ages facts ∷ codes "}}" ∷ [])

-- the end of the check of the set of journals, with the reason if a worker lags behind the set
abbrev pub set_data : Facts → List ℕ
set_data facts = cond facts.lags
    (codes ",\"data\":{\"reason\":\"a worker can't follow a change of the set of journals\"}}") (codes "}")

-- the check of whether a worker lags behind the set of journals
abbrev pub set : Facts → List ℕ
set facts = joined (check (codes "set") (follows facts) ∷ set_data facts ∷ [])

-- the checks of whether nothing is late
abbrev pub delays : Facts → List ℕ
delays facts = joined (set facts ∷ codes "," ∷ sync facts ∷ [])

-- the check of whether the service has started, which is so whenever it replies
abbrev pub started : List ℕ
started = joined (check (codes "started") true ∷ codes "}" ∷ [])

-- the checks of whether the service should be started anew
abbrev pub live : Facts → Option Answered → List ℕ
live facts answered = joined (journal facts ∷ codes "," ∷ lock answered ∷ codes "," ∷ threads facts ∷ [])

-- the checks of whether clients can send requests to the service
abbrev pub ready : Facts → Option Answered → List ℕ
ready facts answered = joined (live facts answered ∷ codes "," ∷ openings facts answered ∷ codes "," ∷ delays facts
    ∷ [])

-- the checks of a probe
abbrev pub checks : Probe → Facts → Option Answered → List ℕ
checks probe.Whole facts answered = ready facts answered
checks probe.Live facts answered = live facts answered
checks probe.Ready facts answered = ready facts answered
checks probe.Started facts answered = started

-- the health of a service, as a probe asks for it
unfoldable pub health : Probe → Facts → Option Answered → List ℕ
health p facts answered =
    joined (codes "{\"status\":\"" ∷ word (is_up p facts answered) ∷ codes "\",\"checks\":[" ∷ checks p facts answered
    ∷ codes "]}\n" ∷ [])
