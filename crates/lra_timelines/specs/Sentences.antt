-- The sentences of a timeline (this project's choice).
use Rattle.std.specs.Prelude.{ℕ, zero, suc, List, [], ◌∷◌, ◌++◌, codes, Option, Some, None, cond}
use Rattle.std.specs.Fmt.{decimal}
use Rattle.lra_model.specs.declared.status.ActionStatus.{ActionStatus}
use Rattle.lra_model.specs.declared.asks.AskKind.{AskKind}
use Rattle.lra_model.specs.declared.asks.AskKind.TheVariants as ask
use Rattle.lra_model.specs.declared.asks.Cause.{Cause}
use Rattle.lra_model.specs.declared.asks.Cause.TheVariants as cause
use Rattle.lra_model.specs.declared.asks.Outcome.{Outcome}
use Rattle.lra_model.specs.declared.asks.Outcome.TheVariants as outcome
use Rattle.lra_model.specs.Addresses.{Addresses}
use Rattle.lra_model.specs.Words.{has_failed, is_silent}
use Rattle.lra_model.specs.Names.{action_status_name}
use Rattle.lra_model.specs.History.{History}
use Rattle.lra_rows.specs.Found.{found_addresses}
use Rattle.lra_verdict_lines.specs.VerdictLines.{joined, line_feed}
use Rattle.lra_timelines.specs.declared.timeline_items.TimelineItem.{TimelineItem}
use Rattle.lra_timelines.specs.declared.timeline_items.TimelineItem.TheVariants.{
  Started,
  Joined,
  Left,
  Closes,
  Cancels,
  Skipped,
  Asked,
}
use Rattle.lra_timelines.specs.declared.timeline_items.TimelineItem.TheVariants.{
  Answered,
  Reported,
  Ended,
  Restarted,
  Renewed,
}
use Rattle.lra_timelines.specs.declared.timeline_items.TimelineItem.TheVariants.{
  NestedStarted,
  NestedCloses,
  NestedCancels,
  NestedEnded,
}
use Rattle.lra_timelines.specs.declared.timeline_items.Told.{Told}
use Rattle.lra_timelines.specs.Times.{moment_text, length_text}

-- the words for the parent of an action; empty if it isn't nested
abbrev pub below_text : Option ℕ → List ℕ
below_text None = []
below_text (Some a) = codes ", below action " ++ decimal a

-- the words for a limit in milliseconds; empty if it is 0, which is none
abbrev pub limit_text : ℕ → List ℕ
limit_text zero = []
limit_text (suc n) = joined (codes ", with a limit of " ∷ length_text (suc n) ∷ [])

-- the sentence for a start: the clerk, the moment, the parent and the limit
abbrev pub started_text : ℕ → ℕ → Option ℕ → ℕ → List ℕ
started_text by moment parent limit =
    joined (codes "started by clerk " ∷ decimal by ∷ codes " at " ∷ moment_text moment ∷ below_text parent
    ∷ limit_text limit ∷ [])

-- the reason why an action is closed
abbrev pub close_reason : Cause → List ℕ
close_reason cause.Client = codes "its client closes it"
close_reason cause.Parent = codes "the action above it is closed"
close_reason cause.Limit = codes "its limit passed"

-- the reason why an action is cancelled
abbrev pub cancel_reason : Cause → List ℕ
cancel_reason cause.Client = codes "its client cancels it"
cancel_reason cause.Parent = codes "the action above it is cancelled"
cancel_reason cause.Limit = codes "its limit passed"

-- the sentence that says that an action has a status, and why
abbrev pub turned_text : List ℕ → ActionStatus → List ℕ
turned_text reason status = joined (reason ∷ codes ": it is " ∷ action_status_name status ∷ [])

-- the sentence that says how an action ended, and why
abbrev pub ended_text : ActionStatus → List ℕ
ended_text status =
    cond (has_failed status)
    (joined (codes "it is " ∷ action_status_name status
    ∷ codes ": all that it waited for has ended, and not all of it well" ∷ []))
    (joined (codes "it is " ∷ action_status_name status ∷ codes ": all that it waited for has ended well" ∷ []))

-- the words for an address, with its name
abbrev pub named_text : List ℕ → List ℕ → List ℕ
named_text name u = joined (codes ", " ∷ name ∷ codes " " ∷ u ∷ [])

-- the words for an address of a member; empty if it has none of that name
abbrev pub address_text : List ℕ → Option (List ℕ) → List ℕ
address_text name None = []
address_text name (Some u) = named_text name u

-- the words for the addresses with which a member joined
abbrev pub addresses_text : Addresses → List ℕ
addresses_text u =
    joined
    (address_text (codes "compensate") u.compensate
    ∷ address_text (codes "complete") u.complete
    ∷ address_text (codes "status") u.status
    ∷ address_text (codes "forget") u.forget
    ∷ address_text (codes "after") u.after
    ∷ []
    )

-- the sentence that says that a member joined, and with which addresses
abbrev pub joined_text : ℕ → Option Addresses → List ℕ
joined_text p None = joined (codes "member " ∷ decimal p ∷ codes " joined" ∷ [])
joined_text p (Some u) = joined (codes "member " ∷ decimal p ∷ codes " joined" ∷ addresses_text u ∷ [])

-- the words for a kind of ask
abbrev pub ask_words : AskKind → List ℕ
ask_words ask.Complete = codes "asked to complete"
ask_words ask.Compensate = codes "asked to compensate"
ask_words ask.Status = codes "asked how far it is"
ask_words ask.Forget = codes "asked to forget"
ask_words ask.After = codes "told how the action ended"

-- the sentence that says that a member is asked, with the ask's number
abbrev pub asked_text : ℕ → ℕ → AskKind → List ℕ
asked_text n p kind = joined (codes "member " ∷ decimal p ∷ codes " is " ∷ ask_words kind ∷ codes " (ask " ∷ decimal n
    ∷ codes ")" ∷ [])

-- the words for the success of a member in a stage
abbrev pub done_words : AskKind → List ℕ
done_words ask.Complete = codes "it is completed"
done_words ask.Compensate = codes "it is compensated"
done_words ask.Status = codes "it is done"
done_words ask.Forget = codes "it has forgotten"
done_words ask.After = codes "it knows how the action ended"

-- the words for the failure of a member in a stage
abbrev pub failed_words : AskKind → List ℕ
failed_words ask.Complete = codes "it failed to complete"
failed_words ask.Compensate = codes "it failed to compensate"
failed_words ask.Status = codes "it failed"
failed_words ask.Forget = codes "it failed to forget"
failed_words ask.After = codes "it failed to note how the action ended"

-- the words for an outcome of a member in a stage
abbrev pub outcome_words : AskKind → Outcome → List ℕ
outcome_words stage outcome.Done = done_words stage
outcome_words stage outcome.Failed = failed_words stage
outcome_words stage outcome.Accepted = codes "it goes on"
outcome_words stage outcome.Silent = codes "nothing"

-- the sentence that says that a member gave no answer to an ask
abbrev pub silent_text : ℕ → ℕ → List ℕ
silent_text n p = codes "member " ++ (decimal p ++ (codes " gave no answer to ask " ++ decimal n))

-- the sentence that says what a member answered
abbrev pub said_text : ℕ → AskKind → Outcome → List ℕ
said_text p stage o = joined (codes "member " ∷ decimal p ∷ codes " answered that " ∷ outcome_words stage o ∷ [])

-- the sentence that says what a member answered to an ask, or that it gave no answer
abbrev pub answered_text : ℕ → ℕ → AskKind → Outcome → List ℕ
answered_text n p stage o = cond (is_silent o) (silent_text n p) (said_text p stage o)

-- the sentence that says what a member reported
abbrev pub reported_text : ℕ → AskKind → Outcome → List ℕ
reported_text p stage o = joined (codes "member " ∷ decimal p ∷ codes " reported that " ∷ outcome_words stage o ∷ [])

-- the sentence that says that a member is completed without being asked
abbrev pub skipped_text : ℕ → List ℕ
skipped_text p = joined (codes "member " ∷ decimal p ∷ codes " is completed without being asked" ∷ [])

-- the sentence that says that the coordinator restarted, and asks are void
abbrev pub restarted_text : List ℕ
restarted_text = codes "the coordinator restarted, and waits for no answer any more"

-- the sentence for a new limit in milliseconds, where 0 is none
abbrev pub renewed_text : ℕ → List ℕ
renewed_text zero = codes "its limit is lifted"
renewed_text (suc n) = joined (codes "its limit is set anew, to " ∷ length_text (suc n) ∷ codes " from now" ∷ [])

-- the sentence that says how a nested action ended
abbrev pub nested_ended_text : ℕ → ActionStatus → List ℕ
nested_ended_text b status = joined (codes "action " ∷ decimal b ∷ codes " below it is " ∷ action_status_name status
    ∷ [])

-- the sentence of a timeline item of a history after which the action has this status
abbrev pub fact_text : History → ActionStatus → TimelineItem → List ℕ
fact_text J status (Started by moment parent limit) = started_text by moment parent limit
fact_text J status (Joined p) = joined_text p (found_addresses J p)
fact_text J status (Left p) = joined (codes "member " ∷ decimal p ∷ codes " left" ∷ [])
fact_text J status (Closes why) = turned_text (close_reason why) status
fact_text J status (Cancels why) = turned_text (cancel_reason why) status
fact_text J status (Skipped p) = skipped_text p
fact_text J status (Asked n p kind) = asked_text n p kind
fact_text J status (Answered n p stage o) = answered_text n p stage o
fact_text J status (Reported p stage o) = reported_text p stage o
fact_text J status Ended = ended_text status
fact_text J status Restarted = restarted_text
fact_text J status (Renewed limit) = renewed_text limit
fact_text J status (NestedStarted b) = joined (codes "action " ∷ decimal b ∷ codes " started below it" ∷ [])
fact_text J status (NestedCloses b) = joined (codes "action " ∷ decimal b ∷ codes " below it is Closing" ∷ [])
fact_text J status (NestedCancels b) = joined (codes "action " ∷ decimal b ∷ codes " below it is Cancelling" ∷ [])
fact_text J status (NestedEnded b s) = nested_ended_text b s

-- the line of a timeline item of a history
abbrev pub told_line : History → Told → List ℕ
told_line J t = joined
    (codes "line " ∷ decimal t.line ∷ codes ": " ∷ fact_text J t.status t.timeline_item ∷ line_feed ∷ [])

-- the head line, which says what status an action has now
abbrev pub head_line : ℕ → Option ℕ → ActionStatus → List ℕ
head_line a None status = joined (codes "action " ∷ decimal a ∷ codes " is " ∷ action_status_name status ∷ line_feed
    ∷ [])
head_line a (Some b) status = joined (codes "action " ∷ decimal a ∷ codes " (nested in " ∷ decimal b ∷ codes ") is "
    ∷ action_status_name status ∷ line_feed ∷ [])
