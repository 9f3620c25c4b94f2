-- The results of queries.
use Rattle.std.specs.Prelude.{◌≡◌, ◌⊎◌, ℕ, zero, suc, ◌+◌, ◌<◌, nat_lt, Bool, true, false, ◌&&◌, not, List, [], ◌∷◌}
use Rattle.std.specs.Prelude.{◌++◌, length, take, drop, map, filter, Option, Some, None, option_map, Result, Ok, Err}
use Rattle.std.specs.Prelude.{cond}
use Rattle.std.specs.Option.{option_map_or}
use Rattle.std.specs.List.{find, position_or_len, list_any}
use Rattle.lra_model.specs.declared.status.ActionStatus.{ActionStatus}
use Rattle.lra_model.specs.declared.status.ActionStatus.TheVariants as action
use Rattle.lra_model.specs.declared.asks.AskKind.{AskKind}
use Rattle.lra_model.specs.Words.{when, has_ended, has_finished_cancelling, is_done_completing, is_done_compensating}
use Rattle.lra_model.specs.Words.{same_status}
use Rattle.lra_model.specs.History.{History, clerks, actions, members, is_among}
use Rattle.lra_model.specs.Actions.{parent, children, members_of}
use Rattle.lra_model.specs.Members.{stays, member_status, outstanding_ask}
use Rattle.lra_model.specs.Ends.{action_is, settles}
use Rattle.lra_model.specs.Wants.{wants, repeat_count, last_repeat}
use Rattle.lra_commands.specs.declared.command.Command.TheVariants as command
use Rattle.lra_commands.specs.declared.command.Told.{Told}
use Rattle.lra_commands.specs.declared.command.Told.TheVariants as told
use Rattle.lra_commands.specs.declared.query.Query.{Query}
use Rattle.lra_commands.specs.declared.query.Query.TheVariants as query
use Rattle.lra_commands.specs.declared.query.Blocker.{Blocker}
use Rattle.lra_commands.specs.declared.query.Blocker.TheVariants as awaited
use Rattle.lra_commands.specs.declared.query.Listing.{Listing}
use Rattle.lra_commands.specs.declared.query.Listing.TheVariants as listing
use Rattle.lra_commands.specs.declared.query.Row.{Row}
use Rattle.lra_commands.specs.declared.query.Row.TheVariants as row
use Rattle.lra_commands.specs.declared.query.Want.{Want}
use Rattle.lra_commands.specs.declared.query.QueryResult.{QueryResult}
use Rattle.lra_commands.specs.declared.query.QueryResult.TheVariants as known
use Rattle.lra_commands.specs.declared.refusal.Refusal.{Refusal}
use Rattle.lra_commands.specs.declared.refusal.Refusal.TheVariants as refusal
use Rattle.lra_commands.specs.declared.limits.Limits.{Limits}
use Rattle.lra_commands.specs.declared.limits.Terms.{Terms}
use Rattle.lra_commands.specs.Calls.{Command, Call}
use Rattle.lra_commands.specs.Blocks.{block}
use Rattle.lra_commands.specs.Refusals.{status_at}
use Rattle.lra_commands.specs.Answers.{answer}
use Rattle.lra_commands.specs.Due.{due_after, stage_wanted}

-- ---- rows, from a place on

-- how many rows one query looks at (this project's choice)
abbrev pub most_rows : ℕ
most_rows = 256

-- the rows that a query looks at, from a place on
abbrev pub looked_at : {X : Type 0} → List X → ℕ → List X
looked_at xs place = take most_rows (drop place xs)

-- the result where none of the rows looked at passes: where to go on, unless those were the last
abbrev pub none_told : {X : Type 0} → QueryResult → List X → ℕ → QueryResult
none_told last xs place = cond (nat_lt (place + most_rows) (length xs)) (known.Further (place + most_rows)) last

-- the result for rows from a place on: the first of those looked at that passes a test, with its place (this project's
-- choice)
abbrev pub first_from : {X : Type 0} → (X → Bool) → (ℕ → X → QueryResult) → QueryResult → List X → ℕ → QueryResult
first_from test told last xs place = option_map_or (told (place + position_or_len test (looked_at xs place)))
    (find test (looked_at xs place)) (none_told last xs place)

-- ---- what an action waits for

-- the rows of an action: its members, those that left among them, each with the ask of it that is outstanding, and then
-- the actions nested directly in it (this project's choice of order)
unfoldable pub rows_of : History → ℕ → List Blocker
rows_of J a = map (λ p. awaited.Member p (outstanding_ask J p)) (members_of J a) ++ map awaited.Action (children J a)

-- whether a row holds the end of an action that has a status: of a Closing one a member that stays and is not done
-- completing, or a nested action that hasn't ended; of a Cancelling one a member that stays and is not done
-- compensating, or a nested action that hasn't finished cancelling (MicroProfile LRA 2.0, LRAStatus)
abbrev pub holds_end : ActionStatus → History → Blocker → Bool
holds_end action.Closing J (awaited.Member p ask) = stays J p && not (is_done_completing (member_status J p))
holds_end action.Closing J (awaited.Action b) = not (action_is has_ended J b)
holds_end action.Cancelling J (awaited.Member p ask) = stays J p && not (is_done_compensating (member_status J p))
holds_end action.Cancelling J (awaited.Action b) = not (action_is has_finished_cancelling J b)
holds_end _ J row = false

-- what an action waits for, from a place on: the first of the rows looked at that holds its end (this project's choice)
unfoldable pub awaited_from : History → ℕ → ℕ → QueryResult
awaited_from J a place = first_from (holds_end (status_at J a) J) known.Awaits known.AwaitsNothing (rows_of J a) place

-- ---- listings

-- what a member is to be asked next: the number of attempts, and from when on it is asked again (this project's choice)
abbrev pub want_told : Limits → History → ℕ → Option Want
want_told l J p =
    option_map
    (λ (kind : AskKind). record {
      kind = kind;
      repeats = repeat_count J p (stage_wanted J p kind);
      due = due_after l (repeat_count J p (stage_wanted J p kind)) (last_repeat J p (stage_wanted J p kind));
    })
    (wants J p)

-- a member's row: its status, the ask of it that is outstanding, and what it is to be asked next (MicroProfile LRA 2.0,
-- ParticipantStatus; the asks are this project's choice)
abbrev pub member_row : Limits → History → ℕ → Row
member_row l J p = row.Member p (member_status J p) (outstanding_ask J p) (want_told l J p)

-- an action's row: its status and the action that it is nested in (MicroProfile LRA 2.0, LRAStatus and nested LRAs)
abbrev pub action_row : History → ℕ → Row
action_row J a = row.Action a (status_at J a) (parent J a)

-- the rows that a listing goes along: an action's members, those that left among them, the actions nested directly in
-- it, or all actions (MicroProfile LRA 2.0, participants, nested LRAs and LRAs)
unfoldable pub rows_along : Limits → History → Listing → List Row
rows_along l J (listing.Members a) = map (member_row l J) (members_of J a)
rows_along l J (listing.Nested a) = map (action_row J) (children J a)
rows_along l J (listing.Actions status) = map (action_row J) (actions J)

-- whether a row that a listing goes along belongs to it: of actions, where a status is given, one that has it
-- (MicroProfile LRA 2.0, all LRAs by status)
abbrev pub belongs : Listing → Row → Bool
belongs (listing.Actions (Some status)) (row.Action a now parent) = same_status status now
belongs _ _ = true

-- the next row of a listing, from a place on (this project's choice)
unfoldable pub row_from : Limits → History → Listing → ℕ → QueryResult
row_from l J x place = first_from (belongs x) known.Row known.NoMore (rows_along l J x) place

-- where to go on from a place, of so many rows, unless all of them were looked at
abbrev pub next_of : ℕ → ℕ → Option ℕ
next_of rows place = when (nat_lt (place + most_rows) rows) (place + most_rows)

-- how many of the rows looked at from a place on belong to a listing, and where to go on (this project's choice)
unfoldable pub count_from : Limits → History → Listing → ℕ → QueryResult
count_from l J x place = known.Counted (length (filter (belongs x) (looked_at (rows_along l J x) place)))
    (next_of (length (rows_along l J x)) place)

-- whether the action of a listing is there, where it is of one
abbrev pub is_listed : History → Listing → Bool
is_listed J (listing.Members a) = is_among (actions J) a
is_listed J (listing.Nested a) = is_among (actions J) a
is_listed J (listing.Actions status) = true

-- ---- the result of each query

-- the result for something that is there, or else the refusal since it isn't
abbrev pub known_where : Bool → QueryResult → Refusal → Result QueryResult Refusal
known_where there k r = cond there (Ok k) (Err r)

-- the result of a query: the history and the pauses between asks alone decide it, and it changes nothing (this
-- project's choice)
unfoldable pub tell : Limits → History → Query → Result QueryResult Refusal
tell l J (query.ActionStatus a) = known_where (is_among (actions J) a) (known.ActionIs (status_at J a))
    refusal.NoSuchAction
tell l J (query.MemberStatus p) = known_where (is_among (members J) p) (known.MemberIs (member_status J p))
    refusal.NoSuchMember
tell l J (query.Awaited a place) = known_where (is_among (actions J) a) (awaited_from J a place) refusal.NoSuchAction
tell l J (query.Row x place) = known_where (is_listed J x) (row_from l J x place) refusal.NoSuchAction
tell l J (query.Count x place) = known_where (is_listed J x) (count_from l J x place) refusal.NoSuchAction

-- ---- commands that ask

-- the query that a command is, where it only asks
abbrev pub asks : Command → Option Query
asks (command.Status a) = Some (query.ActionStatus a)
asks (command.MemberStatus p) = Some (query.MemberStatus p)
asks _ = None

-- the result of a query, as a command's answer; no command asks for rows
abbrev pub told_as : QueryResult → Told
told_as (known.ActionIs status) = told.ActionIs status
told_as (known.MemberIs status) = told.MemberIs status
told_as _ = told.Idle

-- the result of a query, or its refusal, as the answer to a command
abbrev pub answer_as : Result QueryResult Refusal → Result Told Refusal
answer_as (Ok k) = Ok (told_as k)
answer_as (Err r) = Err r

-- a command that only asks gets the result of its query as its answer, where its clerk is enrolled, and appends nothing
abbrev pub CommandsAsk : Type 0
CommandsAsk = (s : Terms) (J : History) (c : Call) (q : Query) → asks c.command ≡ Some q
    → (answer s J c ≡ cond (is_among (clerks J) c.by) (answer_as (tell s.limits J q)) (Err refusal.NoSuchClerk))
    × (block s J c ≡ [])

-- a query is refused only because what it asks about isn't there
abbrev pub QueriesMiss : Type 0
QueriesMiss = (l : Limits) (J : History) (q : Query) (r : Refusal) → tell l J q ≡ Err r → (r ≡ refusal.NoSuchAction)
    ⊎ (r ≡ refusal.NoSuchMember)

-- an action that is Closing or Cancelling may end exactly where no row of it holds its end
abbrev pub RowsHoldEnds : Type 0
RowsHoldEnds = (J : History) (a : ℕ) (status : ActionStatus) → (status ≡ action.Closing) ⊎ (status ≡ action.Cancelling)
    → settles (Some status) J a ≡ not (list_any (holds_end status J) (rows_of J a))

-- the rows that are returned from the result of one query on: its row and those from the place after it, or those from
-- where to go on
abbrev pub rows_after : (ℕ → List Row) → QueryResult → List Row
rows_after on (known.Row place r) = r ∷ on (place + 1)
rows_after on (known.Further place) = on place
rows_after on _ = []

-- the rows that are returned where a listing is asked for again and again, at most so many times
abbrev pub told_on : ℕ → Limits → History → Listing → ℕ → List Row
told_on zero l J x place = []
told_on (suc n) l J x place = rows_after (told_on n l J x) (row_from l J x place)

-- a listing that is asked for so is returned whole: each row that belongs to it, once, in order
abbrev pub ListingsAreToldWhole : Type 0
ListingsAreToldWhole = (l : Limits) (J : History) (x : Listing) (n : ℕ) → length (rows_along l J x) < n
    → told_on n l J x 0 ≡ filter (belongs x) (rows_along l J x)

-- how many rows are counted from the result of one query on, with those from where to go on
abbrev pub counted_after : (ℕ → ℕ) → QueryResult → ℕ
counted_after on (known.Counted count (Some place)) = count + on place
counted_after on (known.Counted count None) = count
counted_after _ _ = 0

-- how many rows are counted where a count is asked for again and again, at most so many times
abbrev pub counted_on : ℕ → Limits → History → Listing → ℕ → ℕ
counted_on zero l J x place = 0
counted_on (suc n) l J x place = counted_after (counted_on n l J x) (count_from l J x place)

-- a listing that is counted so is counted whole: each row that belongs to it, once
abbrev pub ListingsAreCountedWhole : Type 0
ListingsAreCountedWhole = (l : Limits) (J : History) (x : Listing) (n : ℕ) → length (rows_along l J x) < n
    → counted_on n l J x 0 ≡ length (filter (belongs x) (rows_along l J x))
