-- What the code decides on each command, by what it finds of a history.
use Rattle.std.specs.Prelude.{◌≡◌, ℕ, ◌+◌, ◌-◌, ◌^◌, ◌==◌, min, nat_le, Bool, true, false, ◌&&◌, not, cond, length}
use Rattle.std.specs.Prelude.{Option, Some, None, is_some, Result, Ok, Err}
use Rattle.std.specs.Option.{option_map_or, option_and_then}
use Rattle.lra_model.specs.declared.version.Version.{Version}
use Rattle.lra_model.specs.declared.version.Version.TheVariants as version
use Rattle.lra_model.specs.declared.status.ActionStatus.{ActionStatus}
use Rattle.lra_model.specs.declared.status.ActionStatus.TheVariants as action
use Rattle.lra_model.specs.declared.status.MemberStatus.{MemberStatus}
use Rattle.lra_model.specs.declared.status.MemberStatus.TheVariants as member
use Rattle.lra_model.specs.declared.status.Ending.{Ending}
use Rattle.lra_model.specs.declared.status.Ending.TheVariants as ending
use Rattle.lra_model.specs.declared.asks.AskKind.{AskKind}
use Rattle.lra_model.specs.declared.asks.Cause.TheVariants as cause
use Rattle.lra_model.specs.declared.asks.Outcome.{Outcome}
use Rattle.lra_model.specs.declared.entry.Deed.{Deed}
use Rattle.lra_model.specs.declared.entry.Deed.TheVariants as deed
use Rattle.lra_model.specs.Addresses.{Addresses}
use Rattle.lra_model.specs.Words.{is_active, has_gone, is_completing, is_compensating, same_kind, same_direction}
use Rattle.lra_model.specs.History.{History, clerks, actions, members, asks, is_among}
use Rattle.lra_model.specs.Joins.{already_member}
use Rattle.lra_model.specs.Tests.{is_moment}
use Rattle.lra_rows.specs.declared.found.ActionRow.{ActionRow}
use Rattle.lra_rows.specs.declared.found.MemberRow.{MemberRow}
use Rattle.lra_rows.specs.declared.found.AskRow.{AskRow}
use Rattle.lra_rows.specs.Found.{found_action, found_member, found_ask}
use Rattle.lra_commands.specs.declared.command.Told.{Told}
use Rattle.lra_commands.specs.declared.command.Told.TheVariants as told
use Rattle.lra_commands.specs.declared.limits.Limits.{Limits}
use Rattle.lra_commands.specs.declared.refusal.Resource.TheVariants as resource
use Rattle.lra_commands.specs.declared.refusal.Refusal.{Refusal}
use Rattle.lra_commands.specs.declared.refusal.Refusal.TheVariants as refusal
use Rattle.lra_commands.specs.Deeds.{outcome_told}
use Rattle.lra_commands.specs.declared.command.Command.TheVariants as command
use Rattle.lra_commands.specs.declared.limits.Terms.{Terms}
use Rattle.lra_commands.specs.declared.query.Query.{Query}
use Rattle.lra_commands.specs.declared.query.Query.TheVariants as query
use Rattle.lra_commands.specs.Calls.{Command}
use Rattle.lra_commands.specs.Queries.{told_as, tell}
use Rattle.lra_validator.specs.declared.due_facts.DueFacts.{DueFacts}
use Rattle.lra_validator.specs.declared.errand.Carried.{Carried}
use Rattle.lra_validator.specs.declared.decision.Decision.{Decision}
use Rattle.lra_validator.specs.declared.decision.Decision.TheVariants as decision
use Rattle.lra_validator.specs.CommandValues.{carried_of}
use Rattle.lra_validator.specs.inner.Stored.{IsReading}

-- what is decided on a command
abbrev pub Judged : Type 0
Judged = Result Decision Refusal

infixl 10 ◌>>=◌
-- what comes next, unless it is refused
abbrev pub ◌>>=◌ : {X Y : Type 0} → Result X Refusal → (X → Result Y Refusal) → Result Y Refusal
(Ok x) >>= next = next x
(Err r) >>= next = Err r

-- that a test holds, or else a refusal
abbrev pub required : Bool → Refusal → Result (Unit {0}) Refusal
required b r = cond b (Ok tt) (Err r)

-- that the clerk is enrolled
abbrev pub known_clerk : History → ℕ → Result (Unit {0}) Refusal
known_clerk J by = required (is_among (clerks J) by) refusal.NoSuchClerk

-- the action, where it is there
abbrev pub known_action : History → ℕ → Result ActionRow Refusal
known_action J a = option_map_or Ok (found_action J a) (Err refusal.NoSuchAction)

-- the member, where it is there
abbrev pub known_member : History → ℕ → Result MemberRow Refusal
known_member J p = option_map_or Ok (found_member J p) (Err refusal.NoSuchMember)

-- that a status is Active
abbrev pub still_open : ActionStatus → Result (Unit {0}) Refusal
still_open status = required (is_active status) (refusal.NotActive status)

-- the action, where it is there and Active
abbrev pub open_action : History → ℕ → Result ActionRow Refusal
open_action J a = do
  r ← known_action J a
  _ ← still_open r.status
  Ok r

-- that a limit's end is a moment
abbrev pub near : ℕ → ℕ → Result (Unit {0}) Refusal
near m limit = required (is_moment (m + limit)) refusal.LimitTooFar

-- a clerk writes a deed at a moment
abbrev pub written : ℕ → ℕ → Deed → Decision
written by m d = decision.Write (record { by = by; moment = m; deed = d })

-- a command writes nothing, and returns this
abbrev pub told_so : Told → Judged
told_so t = Ok (decision.Told t)

-- ---- clerks

-- the number of a new clerk
abbrev pub new_clerk : Limits → History → Result ℕ Refusal
new_clerk l J = cond (nat_le l.clerks (length (clerks J))) (Err (refusal.Full resource.Clerks))
    (Ok (length (clerks J) + 1))

-- an enrolment
abbrev pub enrol : Limits → History → ℕ → Judged
enrol l J m = do
  by ← new_clerk l J
  Ok (written by m deed.Enrol)

-- ---- actions

-- how deep a new action's parent is nested, which has to be Active; 0 where there is to be none
abbrev pub depth_above : History → Option ℕ → Result ℕ Refusal
depth_above J None = Ok 0
depth_above J (Some b) = do
  r ← open_action J b
  Ok r.depth

-- the number of a new action
abbrev pub new_action : Limits → History → Result ℕ Refusal
new_action l J = cond (nat_le l.actions (length (actions J))) (Err (refusal.Full resource.Actions))
    (Ok (length (actions J) + 1))

-- that an action below one of that depth isn't nested too deep
abbrev pub shallow : Limits → ℕ → Result (Unit {0}) Refusal
shallow l above = cond (nat_le l.depth above) (Err refusal.TooDeep) (Ok tt)

-- a start
abbrev pub start : Limits → History → ℕ → ℕ → Option ℕ → ℕ → Judged
start l J by m parent limit = do
  _ ← known_clerk J by
  above ← depth_above J parent
  _ ← near m limit
  _ ← shallow l above
  a ← new_action l J
  Ok (written by m (deed.Start a parent limit))

-- a close, by the action's status
abbrev pub close_at : ℕ → ℕ → ℕ → ActionStatus → Judged
close_at by m a action.Active = Ok (written by m (deed.Close a cause.Client))
close_at by m a action.Closing = told_so (told.Already action.Closing)
close_at by m a action.Closed = told_so (told.Already action.Closed)
close_at by m a action.FailedToClose = told_so (told.Already action.FailedToClose)
close_at by m a status = Err (refusal.NotActive status)

-- a close
abbrev pub close : History → ℕ → ℕ → ℕ → Judged
close J by m a = do
  _ ← known_clerk J by
  r ← known_action J a
  close_at by m a r.status

-- whether there is a parent and it is Active
abbrev pub is_open_above : History → Option ℕ → Bool
is_open_above J o = option_map_or (λ b. option_map_or (λ (r : ActionRow). is_active r.status) (found_action J b) false)
    o false

-- whether the version lets a client cancel what has closed
abbrev pub takes_back : Version → Bool
takes_back version.One = false
takes_back version.Two = true

-- a cancel, by the action's status and whether it may be cancelled once it has closed
abbrev pub cancel_at : ℕ → ℕ → ℕ → ActionStatus → Bool → Judged
cancel_at by m a action.Active back = Ok (written by m (deed.Cancel a cause.Client))
cancel_at by m a action.Closed back = cond back (Ok (written by m (deed.Cancel a cause.Client)))
    (Err (refusal.NotActive action.Closed))
cancel_at by m a action.Closing back = Err (refusal.NotActive action.Closing)
cancel_at by m a action.FailedToClose back = Err (refusal.NotActive action.FailedToClose)
cancel_at by m a status back = told_so (told.Already status)

-- a cancel
abbrev pub cancel : Version → History → ℕ → ℕ → ℕ → Judged
cancel v J by m a = do
  _ ← known_clerk J by
  r ← known_action J a
  cancel_at by m a r.status (takes_back v && is_open_above J r.parent)

-- a tick, by the action that is late
abbrev pub tick : History → ℕ → ℕ → Option ℕ → Judged
tick J by m late = do
  _ ← known_clerk J by
  Ok (option_map_or (λ a. written by m (deed.Cancel a cause.Limit)) late (decision.Told told.Idle))

-- that the version allows renewals of limits
abbrev pub newer : Version → Result (Unit {0}) Refusal
newer version.One = Err refusal.OldJournal
newer version.Two = Ok tt

-- a renewal
abbrev pub renew : Version → History → ℕ → ℕ → ℕ → ℕ → Judged
renew v J by m a limit = do
  _ ← known_clerk J by
  _ ← newer v
  r ← open_action J a
  _ ← near m limit
  Ok (written by m (deed.Renew a limit))

-- ---- members

-- the number of a new member
abbrev pub new_member : Limits → History → Result ℕ Refusal
new_member l J = cond (nat_le l.members (length (members J))) (Err (refusal.Full resource.Members))
    (Ok (length (members J) + 1))

-- that a clerk may let members join an action
abbrev pub joinable : History → ℕ → ℕ → Result (Unit {0}) Refusal
joinable J by a = do
  _ ← known_clerk J by
  r ← open_action J a
  Ok tt

-- a join of an action that is Active, with addresses as they are stored
abbrev pub join_with : Limits → History → ℕ → ℕ → ℕ → Addresses → Judged
join_with l J by m a u =
    option_map_or (λ p. told_so (told.AlreadyMember p)) (already_member J a u)
    (new_member l J >>= λ p. Ok (written by m (deed.Join p a u)))

-- the same, by the result of reading the addresses
abbrev pub join_read : Limits → History → ℕ → ℕ → ℕ → Result Addresses Refusal → Judged
join_read l J by m a read = read >>= join_with l J by m a

-- a join, by whether the clerk may let members join, and the result of reading the addresses
abbrev pub IsJoin : Limits → History → ℕ → ℕ → ℕ → Addresses → Judged → Result (Unit {0}) Refusal → Type 0
IsJoin l J by m a u result (Err r) = result ≡ Err r
IsJoin l J by m a u result (Ok x) = (read : Result Addresses Refusal) × IsReading u read
    × (result ≡ join_read l J by m a read)

-- that a member is the action's
abbrev pub own : ℕ → ℕ → Result (Unit {0}) Refusal
own of a = required (of == a) refusal.WrongAction

-- that a member hasn't left
abbrev pub here : MemberStatus → Result (Unit {0}) Refusal
here status = required (not (has_gone status)) refusal.HasLeft

-- a leave
abbrev pub leave : History → ℕ → ℕ → ℕ → ℕ → Judged
leave J by m a p = do
  _ ← known_clerk J by
  r ← known_action J a
  x ← known_member J p
  _ ← own x.action a
  _ ← here x.status
  _ ← still_open r.status
  Ok (written by m (deed.Leave p))

-- whether the direction of an ending is decided
abbrev pub has_told : MemberRow → Ending → Bool
has_told x ending.Completed = is_some x.completion
has_told x ending.FailedToComplete = is_some x.completion
has_told x ending.Compensated = is_some x.compensation
has_told x ending.FailedToCompensate = is_some x.compensation

-- whether a member is being asked for the ending that it reports
abbrev pub is_awaited : MemberStatus → Ending → Bool
is_awaited status ending.Completed = is_completing status
is_awaited status ending.FailedToComplete = is_completing status
is_awaited status ending.Compensated = is_compensating status
is_awaited status ending.FailedToCompensate = is_compensating status

-- a report of a member that hasn't left
abbrev pub report_at : ℕ → ℕ → ℕ → Ending → MemberRow → Judged
report_at by m p e x =
    cond (has_told x e) (told_so (told.MemberAlready x.status))
    (cond (is_awaited x.status e) (Ok (written by m (deed.Report p (outcome_told e)))) (Err refusal.NotAsked))

-- a report
abbrev pub report : History → ℕ → ℕ → ℕ → Ending → Judged
report J by m p e = do
  _ ← known_clerk J by
  x ← known_member J p
  _ ← here x.status
  report_at by m p e x

-- ---- asks

-- the number of a new ask
abbrev pub new_ask : History → ℕ
new_ask J = min (length (asks J) + 1) (2 ^ 64 - 1)

-- an ask of a member, by what it wants
abbrev pub ask_for : History → ℕ → ℕ → ℕ → Option AskKind → Decision
ask_for J by m p None = decision.Told told.Idle
ask_for J by m p (Some kind) = written by m (deed.Ask (new_ask J) p kind)

-- what a member wants
abbrev pub wanted_by : History → ℕ → Option AskKind
wanted_by J p = option_and_then (λ (r : MemberRow). r.want) (found_member J p)

-- the next ask, by the member whose want is due
abbrev pub next_ask : History → ℕ → ℕ → Option ℕ → Judged
next_ask J by m due = do
  _ ← known_clerk J by
  Ok (option_map_or (λ p. ask_for J by m p (wanted_by J p)) due (decision.Told told.Idle))

-- whether an ask is outstanding, and has the errand's member, kind and direction
abbrev pub is_carried : Carried → AskRow → Bool
is_carried e r = r.outstanding && ((r.member == e.member) && same_kind r.kind e.kind
    && same_direction r.direction e.direction)

-- that the errand's ask is outstanding, and has its member, kind and direction
abbrev pub awaited : History → Carried → Result (Unit {0}) Refusal
awaited J e = required (option_map_or (is_carried e) (found_ask J e.ask) false) refusal.NotAsked

-- a reply
abbrev pub reply : History → ℕ → ℕ → Carried → Outcome → Judged
reply J by m e o = do
  _ ← known_clerk J by
  _ ← awaited J e
  Ok (written by m (deed.Reply e.ask o))

-- a restart
abbrev pub restart : History → ℕ → ℕ → Judged
restart J by m = do
  _ ← known_clerk J by
  Ok (written by m deed.Restart)

-- ---- queries

-- a command that only asks
abbrev pub ask : Limits → History → ℕ → Query → Judged
ask l J by q = do
  _ ← known_clerk J by
  k ← tell l J q
  told_so (told_as k)

-- ---- every command

-- what is decided on a command
abbrev pub IsJudged : Terms → History → ℕ → ℕ → DueFacts → Command → Judged → Type 0
IsJudged s J by m x command.Enrol result = result ≡ enrol s.limits J m
IsJudged s J by m x (command.Start parent limit) result = result ≡ start s.limits J by m parent limit
IsJudged s J by m x (command.Join a uris) result = IsJoin s.limits J by m a uris.now result (joinable J by a)
IsJudged s J by m x (command.Leave a p) result = result ≡ leave J by m a p
IsJudged s J by m x (command.Close a) result = result ≡ close J by m a
IsJudged s J by m x (command.Cancel a) result = result ≡ cancel s.version J by m a
IsJudged s J by m x command.Tick result = result ≡ tick J by m x.late
IsJudged s J by m x command.NextAsk result = result ≡ next_ask J by m x.due
IsJudged s J by m x (command.Record errand o) result = result ≡ reply J by m (carried_of errand.now) o
IsJudged s J by m x (command.Report p e) result = result ≡ report J by m p e
IsJudged s J by m x command.Restart result = result ≡ restart J by m
IsJudged s J by m x (command.Renew a limit) result = result ≡ renew s.version J by m a limit
IsJudged s J by m x (command.Status a) result = result ≡ ask s.limits J by (query.ActionStatus a)
IsJudged s J by m x (command.MemberStatus p) result = result ≡ ask s.limits J by (query.MemberStatus p)
