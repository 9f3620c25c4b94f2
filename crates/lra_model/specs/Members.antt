-- What a history says of a member: its action, its addresses, what it was asked, what it answered, and its status.
use Rattle.std.specs.Prelude.{ℕ, ◌==◌, Bool, true, false, ◌&&◌, not, List, filter, Option, Some, None, unwrap_or}
use Rattle.std.specs.Prelude.{option_map, is_some, cond}
use Rattle.std.specs.List.{filter_map, find, list_any}
use Rattle.lra_model.specs.declared.status.MemberStatus.{MemberStatus}
use Rattle.lra_model.specs.declared.status.MemberStatus.TheVariants as member
use Rattle.lra_model.specs.declared.asks.AskKind.{AskKind}
use Rattle.lra_model.specs.declared.asks.AskKind.TheVariants as ask
use Rattle.lra_model.specs.declared.asks.Direction.{Direction}
use Rattle.lra_model.specs.declared.asks.Direction.TheVariants as direction
use Rattle.lra_model.specs.declared.asks.Outcome.{Outcome}
use Rattle.lra_model.specs.declared.asks.Outcome.TheVariants as outcome
use Rattle.lra_model.specs.declared.entry.Deed.{Deed}
use Rattle.lra_model.specs.declared.entry.Deed.TheVariants.{Join, Leave, Skip, Ask, Reply, Report, Restart}
use Rattle.lra_model.specs.declared.entry.Entry.{Entry}
use Rattle.lra_model.specs.Addresses.{Addresses}
use Rattle.lra_model.specs.Words.{when, is_decisive, is_done, same_kind, same_direction}
use Rattle.lra_model.specs.History.{History, Step, steps, first, last, read_deeds, members}
use Rattle.lra_model.specs.Actions.{top}

-- the action that a deed lets a member join (this project's journal)
abbrev pub action_given : ℕ → Deed → Option ℕ
action_given p (Join q a uris) = when (q == p) a
action_given p _ = None

-- the action that a member joined, or 0, which is no action's number, where there is no such member (MicroProfile LRA
-- 2.0, joining an LRA)
unfoldable pub action_of : History → ℕ → ℕ
action_of J p = unwrap_or (first (read_deeds (action_given p) J)) 0

-- the members of an outermost action and of all that stand below it, those that left among them; an action that is
-- nested in another has none (MicroProfile LRA 2.0, top-level LRA)
unfoldable pub members_under : History → ℕ → List ℕ
members_under J t = filter (λ p. top J (action_of J p) == t) (members J)

-- addresses of which there is none
abbrev pub no_addresses : Addresses
no_addresses = record { compensate = None; complete = None; status = None; forget = None; after = None }

-- the addresses that a deed lets a member join with (this project's journal)
abbrev pub addresses_given : ℕ → Deed → Option Addresses
addresses_given p (Join q a uris) = when (q == p) uris
addresses_given p _ = None

-- the addresses that a member joined with, which never change (MicroProfile LRA 2.0, joining an LRA)
unfoldable pub addresses_of : History → ℕ → Addresses
addresses_of J p = unwrap_or (first (read_deeds (addresses_given p) J)) no_addresses

-- whether a deed is that a member leaves (this project's journal)
abbrev pub is_leave_of : ℕ → Deed → Bool
is_leave_of p (Leave q) = q == p
is_leave_of p _ = false

-- whether a member has left its action (MicroProfile LRA 2.0, leaving an LRA)
unfoldable pub has_left : History → ℕ → Bool
has_left J p = list_any (λ (e : Entry). is_leave_of p e.deed) J

-- whether a member stays: it can be compensated and has not left, so that a listener, with an after address alone,
-- never does (MicroProfile LRA 2.0, participants and listeners)
unfoldable pub stays : History → ℕ → Bool
stays J p = is_some (addresses_of J p).compensate && not (has_left J p)

-- whether a deed asks a member for a kind (this project's journal)
abbrev pub is_ask_for : ℕ → AskKind → Deed → Bool
is_ask_for p kind (Ask n q asked) = (q == p) && same_kind asked kind
is_ask_for p kind _ = false

-- whether a member was ever asked for a kind (this project's choice)
unfoldable pub was_asked : History → ℕ → AskKind → Bool
was_asked J p kind = list_any (λ (e : Entry). is_ask_for p kind e.deed) J

-- the direction of a status ask and of a report: compensation once the member was asked to compensate, completion
-- before (this project's choice)
abbrev pub status_direction : History → ℕ → Direction
status_direction J p = cond (was_asked J p ask.Compensate) direction.Compensation direction.Completion

-- the direction of an ask, by what stands before it: forget and after notices go neither way (this project's choice)
abbrev pub ask_direction : History → ℕ → AskKind → Direction
ask_direction J p ask.Complete = direction.Completion
ask_direction J p ask.Compensate = direction.Compensation
ask_direction J p ask.Status = status_direction J p
ask_direction J p ask.Forget = direction.Neither
ask_direction J p ask.After = direction.Neither

-- an ask that was made (this project's choice)
pub record Asked : Type 0 where
  pub number : ℕ
  pub member : ℕ
  pub kind : AskKind
  pub direction : Direction

-- the ask that a step makes (this project's journal)
abbrev pub asked_at : Step → Option Asked
asked_at s = of_deed s.entry.deed
  where
    of_deed : Deed → Option Asked
    of_deed (Ask n p kind) =
        Some (record { number = n; member = p; kind = kind; direction = ask_direction s.past p kind })
    of_deed _ = None

-- the ask of a number, where it was made (this project's choice)
unfoldable pub ask_of : History → ℕ → Option Asked
ask_of J n = find (λ (a : Asked). a.number == n) (filter_map asked_at (steps J))

-- what came of an ask, and when (this project's choice)
pub record Replied : Type 0 where
  pub to : Asked
  pub outcome : Outcome
  pub moment : ℕ

-- the reply that a step gives, with the ask that it answers (this project's journal)
abbrev pub replied_at : Step → Option Replied
replied_at s = of_deed s.entry.deed
  where
    of_deed : Deed → Option Replied
    of_deed (Reply n o) = option_map (λ (a : Asked). record { to = a; outcome = o; moment = s.entry.moment })
        (ask_of s.past n)
    of_deed _ = None

-- the replies of a history, in their order (this project's choice)
unfoldable pub replies : History → List Replied
replies J = filter_map replied_at (steps J)

-- what an entry says of a member in a direction (this project's choice)
pub record Heard : Type 0 where
  pub member : ℕ
  pub direction : Direction
  pub outcome : Outcome

-- What a step says of a member: a reply in the direction of its ask, a report in that of the member, and a skip as Done
-- in completion (this project's choice).
abbrev pub heard_at : Step → Option Heard
heard_at s = of_deed s.entry.deed
  where
    of_deed : Deed → Option Heard
    of_deed (Reply n o) = option_map (λ (a : Asked). record { member = a.member; direction = a.direction; outcome = o })
        (ask_of s.past n)
    of_deed (Report p o) = Some (record { member = p; direction = status_direction s.past p; outcome = o })
    of_deed (Skip p) = Some (record { member = p; direction = direction.Completion; outcome = outcome.Done })
    of_deed _ = None

-- whether what an entry says decides a direction of a member (this project's choice)
abbrev pub decides : ℕ → Direction → Heard → Bool
decides p d h = (h.member == p) && same_direction h.direction d && is_decisive h.outcome

-- the outcome that decides a direction of a member: the first decisive one, which later ones don't change (this
-- project's choice)
unfoldable pub decided : History → ℕ → Direction → Option Outcome
decided J p d = option_map (λ (h : Heard). h.outcome) (find (decides p d) (filter_map heard_at (steps J)))

-- one of three values, by the outcome that decides a direction: Done, Failed, or none yet (this project's notation)
abbrev pub by_decision : {X : Type 0} → Option Outcome → X → X → X → X
by_decision (Some outcome.Done) done failed open_yet = done
by_decision (Some outcome.Failed) done failed open_yet = failed
by_decision _ done failed open_yet = open_yet

-- The status of a member, the first that fits: Left; Compensated or FailedToCompensate where compensation is decided;
-- Compensating where it was asked to compensate; Completed or FailedToComplete where completion is decided; Completing
-- where it was asked to complete; else Active (MicroProfile LRA 2.0, ParticipantStatus; Left is this project's choice).
unfoldable pub member_status : History → ℕ → MemberStatus
member_status J p =
    cond (has_left J p) member.Left
    (by_decision (decided J p direction.Compensation) member.Compensated member.FailedToCompensate
    (cond (was_asked J p ask.Compensate) member.Compensating
    (by_decision (decided J p direction.Completion) member.Completed member.FailedToComplete
    (cond (was_asked J p ask.Complete) member.Completing member.Active))))

-- the last reply of a member in a direction (this project's choice)
unfoldable pub last_reply : History → ℕ → Direction → Option Outcome
last_reply J p d = last
    (filter_map (λ (r : Replied). when ((r.to.member == p) && same_direction r.to.direction d) r.outcome) (replies J))

-- whether a member has answered an ask of a kind with Done (this project's choice)
unfoldable pub was_answered : History → ℕ → AskKind → Bool
was_answered J p kind = list_any (λ (r : Replied). (r.to.member == p) && same_kind r.to.kind kind && is_done r.outcome)
    (replies J)

-- whether an ask is outstanding after a deed that bears on it (this project's journal)
abbrev pub standing_given : ℕ → Deed → Option Bool
standing_given n (Ask m p kind) = when (m == n) true
standing_given n (Reply m o) = when (m == n) false
standing_given n Restart = Some false
standing_given n _ = None

-- whether an ask is outstanding: it was made, and neither its reply nor a restart stands after it (this project's
-- choice)
unfoldable pub is_outstanding : History → ℕ → Bool
is_outstanding J n = unwrap_or (last (read_deeds (standing_given n) J)) false

-- the number of the ask that a deed makes of a member (this project's journal)
abbrev pub ask_given : ℕ → Deed → Option ℕ
ask_given p (Ask n q kind) = when (q == p) n
ask_given p _ = None

-- the number of the ask of a member that is outstanding, where there is one (this project's choice)
unfoldable pub outstanding_ask : History → ℕ → Option ℕ
outstanding_ask J p = find (is_outstanding J) (read_deeds (ask_given p) J)
