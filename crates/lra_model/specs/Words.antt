-- Tests of statuses, kinds, outcomes and directions.
use Rattle.std.specs.Prelude.{Bool, true, false, ◌||◌, Option, Some, None}
use Rattle.lra_model.specs.declared.status.ActionStatus.{ActionStatus}
use Rattle.lra_model.specs.declared.status.ActionStatus.TheVariants as action
use Rattle.lra_model.specs.declared.status.MemberStatus.{MemberStatus}
use Rattle.lra_model.specs.declared.status.MemberStatus.TheVariants as member
use Rattle.lra_model.specs.declared.asks.AskKind.{AskKind}
use Rattle.lra_model.specs.declared.asks.AskKind.TheVariants as ask
use Rattle.lra_model.specs.declared.asks.Direction.{Direction}
use Rattle.lra_model.specs.declared.asks.Direction.TheVariants as direction
use Rattle.lra_model.specs.declared.asks.Outcome.{Outcome}
use Rattle.lra_model.specs.declared.asks.Outcome.TheVariants as outcome

-- a value where a test holds, and nothing else (this project's notation)
abbrev pub when : {X : Type 0} → Bool → X → Option X
when true x = Some x
when false x = None

-- whether an action is Active, so that its client may close or cancel it (MicroProfile LRA 2.0, LRAStatus)
abbrev pub is_active : ActionStatus → Bool
is_active action.Active = true
is_active _ = false

-- whether an action's members are being completed: Closing (MicroProfile LRA 2.0, LRAStatus)
abbrev pub is_closing : ActionStatus → Bool
is_closing action.Closing = true
is_closing _ = false

-- whether an action's members are being compensated: Cancelling (MicroProfile LRA 2.0, LRAStatus)
abbrev pub is_cancelling : ActionStatus → Bool
is_cancelling action.Cancelling = true
is_cancelling _ = false

-- whether an action has closed without failure: Closed, and not FailedToClose (MicroProfile LRA 2.0, LRAStatus)
abbrev pub is_closed : ActionStatus → Bool
is_closed action.Closed = true
is_closed _ = false

-- whether an action has ended, well or in failure: Closed, FailedToClose, Cancelled or FailedToCancel (MicroProfile LRA
-- 2.0, LRAStatus)
abbrev pub has_ended : ActionStatus → Bool
has_ended action.Closed = true
has_ended action.FailedToClose = true
has_ended action.Cancelled = true
has_ended action.FailedToCancel = true
has_ended _ = false

-- whether an action has ended in failure: FailedToClose or FailedToCancel (MicroProfile LRA 2.0, LRAStatus)
abbrev pub has_failed : ActionStatus → Bool
has_failed action.FailedToClose = true
has_failed action.FailedToCancel = true
has_failed _ = false

-- whether an action has ended after it was cancelled, well or in failure: Cancelled or FailedToCancel (MicroProfile LRA
-- 2.0, LRAStatus)
abbrev pub has_finished_cancelling : ActionStatus → Bool
has_finished_cancelling action.Cancelled = true
has_finished_cancelling action.FailedToCancel = true
has_finished_cancelling _ = false

-- whether a Cancelling parent cancels an action: one that is Active, Closed or FailedToClose (MicroProfile LRA 2.0,
-- nested LRAs; FailedToClose is this project's choice)
abbrev pub is_cancellable : ActionStatus → Bool
is_cancellable action.Active = true
is_cancellable action.Closed = true
is_cancellable action.FailedToClose = true
is_cancellable _ = false

-- whether two statuses are the same
abbrev pub same_status : ActionStatus → ActionStatus → Bool
same_status action.Active action.Active = true
same_status action.Closing action.Closing = true
same_status action.Closed action.Closed = true
same_status action.FailedToClose action.FailedToClose = true
same_status action.Cancelling action.Cancelling = true
same_status action.Cancelled action.Cancelled = true
same_status action.FailedToCancel action.FailedToCancel = true
same_status _ _ = false

-- whether a member is Active: it hasn't left, and was asked neither to complete nor to compensate (MicroProfile LRA
-- 2.0, ParticipantStatus)
abbrev pub is_untouched : MemberStatus → Bool
is_untouched member.Active = true
is_untouched _ = false

-- whether a member is completing (MicroProfile LRA 2.0, ParticipantStatus)
abbrev pub is_completing : MemberStatus → Bool
is_completing member.Completing = true
is_completing _ = false

-- whether a member has completed (MicroProfile LRA 2.0, ParticipantStatus)
abbrev pub is_completed : MemberStatus → Bool
is_completed member.Completed = true
is_completed _ = false

-- whether a member is compensating (MicroProfile LRA 2.0, ParticipantStatus)
abbrev pub is_compensating : MemberStatus → Bool
is_compensating member.Compensating = true
is_compensating _ = false

-- whether a member has compensated (MicroProfile LRA 2.0, ParticipantStatus)
abbrev pub is_compensated : MemberStatus → Bool
is_compensated member.Compensated = true
is_compensated _ = false

-- whether a member has failed, either way: FailedToComplete or FailedToCompensate (MicroProfile LRA 2.0,
-- ParticipantStatus)
abbrev pub member_has_failed : MemberStatus → Bool
member_has_failed member.FailedToComplete = true
member_has_failed member.FailedToCompensate = true
member_has_failed _ = false

-- whether a member has left its action (this project's choice: the standard has no such status)
abbrev pub has_gone : MemberStatus → Bool
has_gone member.Left = true
has_gone _ = false

-- whether a Closing action needn't wait for a member: Completed or FailedToComplete (MicroProfile LRA 2.0, LRAStatus)
abbrev pub is_done_completing : MemberStatus → Bool
is_done_completing member.Completed = true
is_done_completing member.FailedToComplete = true
is_done_completing _ = false

-- whether a Cancelling action needn't wait for a member: Compensated or failed (MicroProfile LRA 2.0, LRAStatus)
abbrev pub is_done_compensating : MemberStatus → Bool
is_done_compensating member.Compensated = true
is_done_compensating member.FailedToCompensate = true
is_done_compensating member.FailedToComplete = true
is_done_compensating _ = false

-- whether an outcome decides a direction: Done or Failed (this project's choice)
abbrev pub is_decisive : Outcome → Bool
is_decisive outcome.Done = true
is_decisive outcome.Failed = true
is_decisive _ = false

-- whether an outcome is Done: a forget or an after notice is repeated until it is (MicroProfile LRA 2.0, AfterLRA and
-- forget)
abbrev pub is_done : Outcome → Bool
is_done outcome.Done = true
is_done _ = false

-- whether an outcome is Accepted: the member goes on by itself (MicroProfile LRA 2.0: 202 Accepted)
abbrev pub is_accepted : Outcome → Bool
is_accepted outcome.Accepted = true
is_accepted _ = false

-- whether a member is asked again after an outcome: Accepted or Silent (this project's choice)
abbrev pub is_undecided : Outcome → Bool
is_undecided outcome.Accepted = true
is_undecided outcome.Silent = true
is_undecided _ = false

-- whether two kinds are the same
abbrev pub same_kind : AskKind → AskKind → Bool
same_kind ask.Complete ask.Complete = true
same_kind ask.Compensate ask.Compensate = true
same_kind ask.Status ask.Status = true
same_kind ask.Forget ask.Forget = true
same_kind ask.After ask.After = true
same_kind _ _ = false

-- whether two directions are the same
abbrev pub same_direction : Direction → Direction → Bool
same_direction direction.Completion direction.Completion = true
same_direction direction.Compensation direction.Compensation = true
same_direction direction.Neither direction.Neither = true
same_direction _ _ = false

-- whether an outcome is Silent: the member gave no answer (this project's choice)
abbrev pub is_silent : Outcome → Bool
is_silent outcome.Silent = true
is_silent _ = false

-- whether an ask of a kind may have an outcome: forget and after notices are answered with Done or not at all (this
-- project's choice)
abbrev pub outcome_suits : AskKind → Outcome → Bool
outcome_suits ask.Forget o = is_done o || is_silent o
outcome_suits ask.After o = is_done o || is_silent o
outcome_suits _ o = true
