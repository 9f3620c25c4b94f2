-- When a deed is allowed, by the facts of the history before it.
use Rattle.std.specs.Prelude.{ℕ, ◌+◌, ◌-◌, ◌^◌, ◌==◌, nat_le, Bool, true, false, ◌&&◌, ◌||◌, not, List, Option, is_some}
use Rattle.std.specs.Prelude.{is_none}
use Rattle.std.specs.Option.{option_map_or}
use Rattle.lra_model.specs.declared.status.ActionStatus.{ActionStatus}
use Rattle.lra_model.specs.declared.asks.AskKind.{AskKind}
use Rattle.lra_model.specs.declared.asks.AskKind.TheVariants as ask
use Rattle.lra_model.specs.declared.asks.Outcome.{Outcome}
use Rattle.lra_model.specs.declared.asks.Cause.{Cause}
use Rattle.lra_model.specs.declared.asks.Cause.TheVariants as cause
use Rattle.lra_model.specs.declared.version.Version.{Version}
use Rattle.lra_model.specs.declared.version.Version.TheVariants as version
use Rattle.lra_model.specs.Addresses.{Addresses, Presence}
use Rattle.lra_model.specs.Words.{is_active, is_closing, is_cancelling, is_closed, is_cancellable, is_untouched}
use Rattle.lra_model.specs.Words.{is_completing, is_completed, is_compensating, member_has_failed, is_decisive}
use Rattle.lra_model.specs.Words.{is_accepted, outcome_suits}
use Rattle.lra_model.specs.Facts.{ActionFacts, MemberFacts, Facts}

-- whether there is such an action and it passes a test (this project's choice of words)
abbrev pub at_action : (ActionFacts → Bool) → Facts → ℕ → Bool
at_action test f a = option_map_or test (f.action a) false

-- whether there is such a member and it passes a test (this project's choice of words)
abbrev pub at_member : (MemberFacts → Bool) → Facts → ℕ → Bool
at_member test f p = option_map_or test (f.member p) false

-- whether there is such an action and its status passes a test (this project's choice of words)
abbrev pub status_is : (ActionStatus → Bool) → Facts → ℕ → Bool
status_is test = at_action (λ (a : ActionFacts). test a.status)

-- whether an action has a parent whose status passes a test (MicroProfile LRA 2.0, nested LRAs)
abbrev pub parent_is : (ActionStatus → Bool) → Facts → ActionFacts → Bool
parent_is test f a = option_map_or (status_is test f) a.parent false

-- whether there is no parent or it passes a test (this project's choice of words)
abbrev pub each_parent : (ℕ → Bool) → Option ℕ → Bool
each_parent test parent = option_map_or test parent true

-- whether a limit's end is a moment: a number below 2^64 (this project's choice)
abbrev pub is_moment : ℕ → Bool
is_moment n = nat_le n (2 ^ 64 - 1)

-- An action may be closed with its parent where it is Active and its parent is Closing (MicroProfile LRA 2.0: closing
-- an LRA closes what is nested in it).
abbrev pub may_close_with_parent : Facts → ActionFacts → Bool
may_close_with_parent f a = is_active a.status && parent_is is_closing f a

-- A close is allowed by its cause: the client may close an Active action (MicroProfile LRA 2.0, closing an LRA), the
-- parent an action that may be closed with it, and a limit nothing.
abbrev pub may_close : Cause → Facts → ActionFacts → Bool
may_close cause.Client f a = is_active a.status
may_close cause.Parent f a = may_close_with_parent f a
may_close cause.Limit f a = false

-- In version 2 a client may cancel a nested action that is Closed, as long as its parent is Active (this project's
-- choice).
abbrev pub may_take_back : Version → Facts → ActionFacts → Bool
may_take_back version.One f a = false
may_take_back version.Two f a = is_closed a.status && parent_is is_active f a

-- whether the limit in force isn't 0 and has passed at a moment (MicroProfile LRA 2.0, timeLimit)
abbrev pub limit_has_passed : ℕ → ActionFacts → Bool
limit_has_passed moment a = not (a.limit.length_of == 0) && nat_le (a.limit.since + a.limit.length_of) moment

-- The client may cancel an Active action (MicroProfile LRA 2.0, cancelling an LRA), and in version 2 a nested Closed
-- one whose parent is Active.
abbrev pub may_cancel_as_client : Version → Facts → ActionFacts → Bool
may_cancel_as_client v f a = is_active a.status || may_take_back v f a

-- An action may be cancelled with its parent where it is Active, Closed or FailedToClose and its parent is Cancelling
-- (MicroProfile LRA 2.0: cancelling an LRA cancels what is nested in it; FailedToClose is this project's choice).
abbrev pub may_cancel_with_parent : Facts → ActionFacts → Bool
may_cancel_with_parent f a = is_cancellable a.status && parent_is is_cancelling f a

-- An action may be cancelled by its limit where it is Active and the limit has passed (MicroProfile LRA 2.0,
-- timeLimit).
abbrev pub may_cancel_by_limit : ℕ → ActionFacts → Bool
may_cancel_by_limit moment a = is_active a.status && limit_has_passed moment a

-- A cancel is allowed by its cause: the client, the parent or the limit.
abbrev pub may_cancel : Version → ℕ → Cause → Facts → ActionFacts → Bool
may_cancel v moment cause.Client f a = may_cancel_as_client v f a
may_cancel v moment cause.Parent f a = may_cancel_with_parent f a
may_cancel v moment cause.Limit f a = may_cancel_by_limit moment a

-- A member may have up to five addresses: compensate or after at least; complete, status and forget go with compensate.
-- Each is the text of an address (MicroProfile LRA 2.0, joining an LRA).
abbrev pub addresses_fit : (List ℕ → Bool) → Addresses → Bool
addresses_fit is_address u =
    (is_some u.compensate || (is_some u.after && is_none u.complete && is_none u.status && is_none u.forget))
    && is_text u.compensate && is_text u.complete && is_text u.status && is_text u.forget && is_text u.after
  where
    is_text : Option (List ℕ) → Bool
    is_text text = option_map_or is_address text true

-- A member may be completed without being asked where it is Active in a Closing action and has a compensate address and
-- no complete address (MicroProfile LRA 2.0: a participant may have no complete callback).
abbrev pub may_skip : Facts → MemberFacts → Bool
may_skip f p = status_is is_closing f p.action && is_untouched p.status && not p.addresses.complete
    && p.addresses.compensate

-- whether there is the address that an ask of a kind goes to (MicroProfile LRA 2.0, the participant's callbacks)
abbrev pub has_address : AskKind → Presence → Bool
has_address ask.Complete u = u.complete
has_address ask.Compensate u = u.compensate
has_address ask.Status u = u.status
has_address ask.Forget u = u.forget
has_address ask.After u = u.after

-- whether the last answer, where there is one, is that of a member that goes on by itself (MicroProfile LRA 2.0: 202
-- Accepted)
abbrev pub was_accepted : Option Outcome → Bool
was_accepted reply = option_map_or is_accepted reply false

-- When it is time for an ask of a kind, whatever addresses the member has and whether or not it is being asked
-- (MicroProfile LRA 2.0, ParticipantStatus). Forget goes to members that failed and to completed members of nested
-- actions; both notices wait until the outermost action has ended (this project's choice).
abbrev pub is_time_for : AskKind → Facts → MemberFacts → Bool
is_time_for ask.Complete f p = status_is is_closing f p.action && (is_untouched p.status || is_completing p.status)
is_time_for ask.Compensate f p = status_is is_cancelling f p.action &&
    (is_untouched p.status || is_completed p.status || is_compensating p.status)
is_time_for ask.Status f p = (is_completing p.status && was_accepted p.completion)
    || (is_compensating p.status && was_accepted p.compensation)
is_time_for ask.Forget f p =
    at_action (λ (a : ActionFacts). a.top_has_ended && (member_has_failed p.status
    || (is_completed p.status && is_some a.parent))) f p.action && not p.has_forgotten
is_time_for ask.After f p = at_action (λ (a : ActionFacts). a.top_has_ended) f p.action && not p.was_told

-- whether a member may be asked for a kind now: no ask of it is outstanding, it has the address, and it is time (this
-- project's choice)
abbrev pub may_ask : AskKind → Facts → MemberFacts → Bool
may_ask kind f p = not p.is_asked && has_address kind p.addresses && is_time_for kind f p

-- whether a reply may come: its ask is outstanding, and its outcome suits the ask's kind (this project's choice)
abbrev pub may_reply : Facts → ℕ → Outcome → Bool
may_reply f n o = option_map_or (λ (kind : AskKind). outcome_suits kind o) (f.outstanding n) false

-- whether a member may report an outcome: it is completing or compensating, and the outcome is Done or Failed
-- (MicroProfile LRA 2.0, ParticipantStatus)
abbrev pub may_report : Outcome → MemberFacts → Bool
may_report o p = (is_completing p.status || is_compensating p.status) && is_decisive o
