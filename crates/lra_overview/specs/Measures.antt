-- Measures, in the text format 0.0.4 of Prometheus.
use Rattle.std.specs.Prelude.{ℕ, ◌-◌, ◌*◌, ◌/◌, ◌%◌, ◌^◌, ◌==◌, min, Bool, if◌then◌else◌, List, [], ◌∷◌, codes}
use Rattle.std.specs.Prelude.{Option, Some, None}
use Rattle.std.specs.List.{flat_map}
use Rattle.std.specs.Fmt.{decimal}
use Rattle.lra_model.specs.Names.{action_status_name}
use Rattle.lra_overview.specs.declared.counts.Counts.{Counts}
use Rattle.lra_overview.specs.declared.counts.Totals.{Totals}
use Rattle.lra_overview.specs.declared.metrics.Kind.{Kind}
use Rattle.lra_overview.specs.declared.metrics.Kind.TheVariants.{Gauge, Counter, Histogram}
use Rattle.lra_overview.specs.declared.metrics.TheConstants.{OVERDUE}
use Rattle.lra_overview.specs.declared.overdue.Overdue.{Overdue}
use Rattle.lra_overview.specs.declared.overview.Facts.{Facts}
use Rattle.lra_overview.specs.declared.shares.Share.{Share}
use Rattle.lra_overview.specs.Laying.{joined}

-- how the line that says a measure's kind ends
abbrev pub kind_end : Kind → List ℕ
kind_end Gauge = codes " gauge\n"
kind_end Counter = codes " counter\n"
kind_end Histogram = codes " histogram\n"

-- the description of a measure, and its kind
abbrev pub description : List ℕ → Kind → List ℕ → List ℕ
description name kind help =
    joined
    (codes "# HELP " ∷ name ∷ codes " " ∷ help ∷ codes "\n# TYPE " ∷ name ∷ kind_end kind ∷ [])

-- a measure that is a whole number
abbrev pub whole_measure : List ℕ → Kind → List ℕ → ℕ → List ℕ
whole_measure name kind help n = joined (description name kind help ∷ name ∷ codes " " ∷ decimal n ∷ codes "\n" ∷ [])

-- the last digit of how often a number has so many parts, or nothing if that is no part
abbrev pub digit : ℕ → ℕ → List ℕ
digit n scale = if scale == 0 then [] else decimal (n / scale % 10)

-- the digits after the point of a number of so many parts of one, six at most
abbrev pub digits : ℕ → ℕ → List ℕ
digits n parts =
    joined
    (digit n (parts / 10)
    ∷ digit n (parts / 100)
    ∷ digit n (parts / 1000)
    ∷ digit n (parts / 10000)
    ∷ digit n (parts / 100000)
    ∷ digit n (parts / 1000000)
    ∷ []
    )

-- how many whole ones a number of so many parts of one has
abbrev pub ones : ℕ → ℕ → ℕ
ones n parts = if parts == 0 then 0 else n / parts

-- the number of parts beside these
abbrev pub rest : ℕ → ℕ → ℕ
rest n parts = if parts == 0 then 0 else n % parts

-- a number of so many parts of one: the whole ones, a point, and the digits of the rest
abbrev pub in_parts : ℕ → ℕ → List ℕ
in_parts n parts = joined (decimal (ones n parts) ∷ codes "." ∷ digits (rest n parts) parts ∷ [])

-- a measure of so many parts of one
abbrev pub parts_measure : List ℕ → Kind → List ℕ → ℕ → ℕ → List ℕ
parts_measure name kind help n parts =
    joined (description name kind help ∷ name ∷ codes " " ∷ in_parts n parts ∷ codes "\n" ∷ [])

-- a measure that is a whole number, if the number is known
abbrev pub whole_if : List ℕ → Kind → List ℕ → Option ℕ → List ℕ
whole_if name kind help None = []
whole_if name kind help (Some n) = whole_measure name kind help n

-- a measure of so many parts of one, if the number is known
abbrev pub parts_if : List ℕ → Kind → List ℕ → Option ℕ → ℕ → List ℕ
parts_if name kind help None parts = []
parts_if name kind help (Some n) parts = parts_measure name kind help n parts

-- the beginning of a line of a measure that has a label
abbrev pub labelled : List ℕ → List ℕ → List ℕ → List ℕ
labelled name label value = joined (name ∷ codes "{" ∷ label ∷ codes "=\"" ∷ value ∷ codes "\"} " ∷ [])

-- a line of a measure that has a label, with a whole number
abbrev pub line : List ℕ → List ℕ → List ℕ → ℕ → List ℕ
line name label value n = joined (labelled name label value ∷ decimal n ∷ codes "\n" ∷ [])

-- a flag as a number
abbrev pub number_of : Bool → ℕ
number_of flag = if flag then 1 else 0

-- ---- the measures of actions and members

-- how many actions have a status
unfoldable pub share : Share → List ℕ
share s = line (codes "lra_actions") (codes "state") (action_status_name s.status) s.count

-- the totals of actions and members
unfoldable pub totals : Totals → List ℕ
totals t =
    joined
    (whole_measure (codes "lra_actions_started_total") Counter
    (codes "Actions that were started, of the journals that are served and of those that were archived since.")
    t.actions
    ∷ whole_measure (codes "lra_members_joined_total") Counter
    (codes "Members that joined, of the journals that are served and of those that were archived since.")
    t.members
    ∷ whole_measure (codes "lra_actions_failed_total") Counter
    (codes "Actions that ended as failed, of the journals that are served and of those that were archived since.")
    t.failed
    ∷ []
    )

-- how many actions have each status, and the totals
unfoldable pub counts : List Share → Totals → List ℕ
counts shares t =
    joined
    (description (codes "lra_actions") Gauge (codes "Actions by their status.") ∷ flat_map share shares ∷ totals t ∷ [])

-- how many members hold up ends
unfoldable pub overdue : Overdue → List ℕ
overdue o =
    joined
    (description (codes "lra_members_overdue") Gauge OVERDUE.now
    ∷ line (codes "lra_members_overdue") (codes "why") (codes "silent") o.silent
    ∷ line (codes "lra_members_overdue") (codes "why") (codes "waiting") o.waiting
    ∷ whole_measure (codes "lra_members_at_it") Gauge
    (codes "Members of actions that are closing or cancelling that answered last that they are at it.") o.at_it
    ∷ []
    )

-- how many members are still to be told how their action ended
abbrev pub untold : ℕ → List ℕ
untold n =
    whole_measure (codes "lra_members_untold") Gauge
    (codes "Members of actions that have ended that are still to be told so, or to be forgotten.") n

-- the measures of actions and members, with the milliseconds for which the oldest that hasn't ended is known
unfoldable pub histories : Counts → Totals → ℕ → List ℕ
histories c t oldest =
    joined
    (counts c.shares t
    ∷ overdue c.overdue
    ∷ untold c.untold
    ∷ parts_measure (codes "lra_oldest_unended_seconds") Gauge
    (codes "How long the oldest action that has not ended is known to be there; 0 where none is.") oldest 1000
    ∷ []
    )

-- ---- the measures of the service

-- how many millionths of a limit are left
abbrev pub left : ℕ → ℕ → ℕ
left count most = if most == 0 then 0 else min ((most - count) * 1000000) (2 ^ 64 - 1) / most

-- the part of a limit that is left
abbrev pub left_line : List ℕ → ℕ → ℕ → List ℕ
left_line limit count most =
    joined
    (labelled (codes "lra_journal_room_ratio") (codes "limit") limit ∷ in_parts (left count most) 1000000 ∷ codes "\n"
    ∷ [])

-- the part of each limit of the newest journal that is left
unfoldable pub room : Facts → Counts → List ℕ
room f newest =
    joined
    (description (codes "lra_journal_room_ratio") Gauge (codes "Which part of a limit of the newest journal is left.")
    ∷ left_line (codes "actions") newest.actions f.most_actions
    ∷ left_line (codes "bytes") f.bytes f.most_bytes
    ∷ left_line (codes "entries") f.entries f.most_entries
    ∷ left_line (codes "members") newest.members f.most_members
    ∷ []
    )

-- the measures of the journals
unfoldable pub journal : Facts → List ℕ
journal f =
    joined
    (whole_measure (codes "lra_journal_bytes") Gauge (codes "Bytes that the newest journal has.") f.bytes
    ∷ whole_measure (codes "lra_journal_entries") Gauge (codes "Entries that the newest journal has.") f.entries
    ∷ whole_measure (codes "lra_journal_failed") Gauge (codes "Whether the disk of the journals has failed.")
    (number_of f.has_failed)
    ∷ whole_measure (codes "lra_journals") Gauge (codes "Journals that are served.") f.journals
    ∷ []
    )

-- how long the sync under way has taken, how many threads have ended, and whether a worker lags behind
unfoldable pub sync : Facts → List ℕ
sync f =
    joined
    (parts_measure (codes "lra_sync_age_seconds") Gauge
    (codes "How long the sync of the disk that is under way has taken; 0 where none is.") f.sync_age 1000
    ∷ description (codes "lra_threads_ended") Gauge (codes "Threads that have ended though the service goes on.")
    ∷ line (codes "lra_threads_ended") (codes "kind") (codes "worker") f.lost_workers
    ∷ line (codes "lra_threads_ended") (codes "kind") (codes "callback_worker") f.lost_callback_workers
    ∷ whole_measure (codes "lra_set_behind") Gauge
    (codes "Whether a worker can't follow a change of the set of journals.") (number_of f.lags)
    ∷ []
    )

-- the measures of connections and callbacks
unfoldable pub traffic : Facts → List ℕ
traffic f =
    joined
    (whole_measure (codes "lra_connections") Gauge (codes "Connections of services that are open.") f.connections
    ∷ whole_measure (codes "lra_callbacks_in_flight") Gauge (codes "Callbacks to members that are under way.")
    f.callbacks
    ∷ []
    )

-- the measures of the process, as far as the system reports them
unfoldable pub process : Facts → List ℕ
process f =
    joined
    (parts_measure (codes "process_start_time_seconds") Gauge
    (codes "Start time of the process since unix epoch in seconds.") f.began 1000
    ∷ parts_if (codes "process_cpu_seconds_total") Counter (codes "Total user and system CPU time spent in seconds.")
    f.processor_ticks 100
    ∷ whole_if (codes "process_resident_memory_bytes") Gauge (codes "Resident memory size in bytes.") f.resident_bytes
    ∷ whole_if (codes "process_virtual_memory_bytes") Gauge (codes "Virtual memory size in bytes.") f.virtual_bytes
    ∷ []
    )

-- the measures of the service and of its process
unfoldable pub service : Facts → Counts → List ℕ
service f newest = joined (journal f ∷ sync f ∷ room f newest ∷ traffic f ∷ process f ∷ [])

-- all measures, from the counts of all journals that are served, the totals, and the counts of the newest journal
unfoldable pub metrics : Facts → Counts → Totals → Counts → ℕ → List ℕ
metrics f c t newest oldest = joined (histories c t oldest ∷ service f newest ∷ [])
