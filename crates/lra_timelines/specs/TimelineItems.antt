-- The timeline of an action: the meaning of each entry of a history for it (this project's choice).
use Rattle.std.specs.Prelude.{ℕ, ◌+◌, ◌==◌, Bool, false, List, [], ◌∷◌, ◌++◌, length, Option, Some, None, is_some, cond}
use Rattle.std.specs.Option.{option_map_or, option_and_then}
use Rattle.std.specs.List.{flat_map, list_any}
use Rattle.lra_model.specs.declared.status.ActionStatus.{ActionStatus}
use Rattle.lra_model.specs.declared.status.ActionStatus.TheVariants as action
use Rattle.lra_model.specs.declared.status.MemberStatus.{MemberStatus}
use Rattle.lra_model.specs.declared.asks.AskKind.{AskKind}
use Rattle.lra_model.specs.declared.asks.AskKind.TheVariants as ask
use Rattle.lra_model.specs.declared.asks.Outcome.{Outcome}
use Rattle.lra_model.specs.declared.entry.Deed.{Deed}
use Rattle.lra_model.specs.declared.entry.Deed.TheVariants.{Enrol, Start, Join, Leave, Close, Cancel, Skip, Ask, Reply}
use Rattle.lra_model.specs.declared.entry.Deed.TheVariants.{Report, End, Restart, Renew}
use Rattle.lra_model.specs.declared.entry.Entry.{Entry}
use Rattle.lra_model.specs.Words.{is_compensating}
use Rattle.lra_model.specs.Words as words
use Rattle.lra_model.specs.History.{History, Step, steps}
use Rattle.lra_model.specs.Actions.{members_of}
use Rattle.lra_model.specs.Wants.{stage_of}
use Rattle.lra_rows.specs.declared.found.ActionRow.{ActionRow}
use Rattle.lra_rows.specs.declared.found.MemberRow.{MemberRow}
use Rattle.lra_rows.specs.declared.found.AskRow.{AskRow}
use Rattle.lra_rows.specs.Found.{found_action, found_member, found_ask}
use Rattle.lra_timelines.specs.declared.timeline_items.TimelineItem.{TimelineItem}
use Rattle.lra_timelines.specs.declared.timeline_items.TimelineItem.TheVariants as timeline_item
use Rattle.lra_timelines.specs.declared.timeline_items.Told.{Told}

-- an item, if it is one of the action's
abbrev pub when : Bool → TimelineItem → Option TimelineItem
when is_its f = words.when is_its f

-- an optional number is that of the action
abbrev pub is_at : ℕ → Option ℕ → Bool
is_at a o = option_map_or (λ b. b == a) o false

-- a member is one of the action
abbrev pub is_member_of : History → ℕ → ℕ → Bool
is_member_of J a p = option_map_or (λ (r : MemberRow). r.action == a) (found_member J p) false

-- an action is nested directly in the action
abbrev pub is_child_of : History → ℕ → ℕ → Bool
is_child_of J a b = option_map_or (λ (r : ActionRow). is_at a r.parent) (found_action J b) false

-- an ask of a member is outstanding
abbrev pub is_asked : History → ℕ → Bool
is_asked J p = option_map_or (λ (r : MemberRow). is_some r.outstanding) (found_member J p) false

-- the item of an entry about an action: the first one if it is the action itself, the second one if it is nested
-- directly in it
abbrev pub of_action : History → ℕ → ℕ → TimelineItem → TimelineItem → Option TimelineItem
of_action J a b own nested = cond (b == a) (Some own) (when (is_child_of J a b) nested)

-- the item of the start of an action, by its parent
abbrev pub of_start : ℕ → ℕ → Option ℕ → TimelineItem → Option TimelineItem
of_start a b parent own = cond (b == a) (Some own) (when (is_at a parent) (timeline_item.NestedStarted b))

-- the item of a reply to an ask: the answer of the member that was asked, in the stage of the ask
abbrev pub of_reply : History → ℕ → ℕ → Outcome → Option TimelineItem
of_reply J a n o = option_and_then (λ (x : AskRow). when (is_member_of J a x.member)
    (timeline_item.Answered n x.member (stage_of x.kind x.direction) o)) (found_ask J n)

-- the stage of a report, by the member's status before it
abbrev pub stage_reported : MemberStatus → AskKind
stage_reported s = cond (is_compensating s) ask.Compensate ask.Complete

-- the item of a report
abbrev pub of_report : History → ℕ → ℕ → Outcome → Option TimelineItem
of_report J a p o = option_and_then (λ (r : MemberRow). when (r.action == a)
    (timeline_item.Reported p (stage_reported r.status) o)) (found_member J p)

-- the timeline item of an entry after a history, if the entry concerns the action, one of its members, or an action
-- that is nested directly in it
abbrev pub fact_in : ℕ → History → Entry → Option TimelineItem
fact_in a J e = of_deed e.deed
  where
    of_deed : Deed → Option TimelineItem
    of_deed Enrol = None
    of_deed (Start b parent limit) = of_start a b parent (timeline_item.Started e.by e.moment parent limit)
    of_deed (Join p b uris) = when (b == a) (timeline_item.Joined p)
    of_deed (Leave p) = when (is_member_of J a p) (timeline_item.Left p)
    of_deed (Close b cause) = of_action J a b (timeline_item.Closes cause) (timeline_item.NestedCloses b)
    of_deed (Cancel b cause) = of_action J a b (timeline_item.Cancels cause) (timeline_item.NestedCancels b)
    of_deed (Skip p) = when (is_member_of J a p) (timeline_item.Skipped p)
    of_deed (Ask n p kind) = when (is_member_of J a p) (timeline_item.Asked n p kind)
    of_deed (Reply n o) = of_reply J a n o
    of_deed (Report p o) = of_report J a p o
    of_deed (End b status) = of_action J a b timeline_item.Ended (timeline_item.NestedEnded b status)
    of_deed Restart = when (list_any (is_asked J) (members_of J a)) timeline_item.Restarted
    of_deed (Renew b limit) = when (b == a) (timeline_item.Renewed limit)

-- the status of an action, or Active if there is no such action
abbrev pub status_now : History → ℕ → ActionStatus
status_now J a = option_map_or (λ (r : ActionRow). r.status) (found_action J a) action.Active

-- the item of an entry, with its line, its moment and the action's status after it; none if the entry doesn't concern
-- the action
abbrev pub told_of : ℕ → ℕ → ActionStatus → Option TimelineItem → List Told
told_of line moment status None = []
told_of line moment status (Some f) = record { line = line; moment = moment; status = status; timeline_item = f } ∷ []

-- the item of a step, with its line in the journal (the header is line 1), its moment and the action's status after it
abbrev pub told_at : ℕ → Step → List Told
told_at a s = told_of (length s.past + 2) s.entry.moment (status_now (s.past ++ s.entry ∷ []) a)
    (fact_in a s.past s.entry)

-- the timeline of an action: the item of each entry of a history that concerns it, in order
unfoldable pub told : ℕ → History → List Told
told a J = flat_map (told_at a) (steps J)
