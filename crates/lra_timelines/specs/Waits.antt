-- The notes at the end of an action's timeline (this project's choice): what it waits for, which members and nested
-- actions failed, and what its members are asked.
use Rattle.std.specs.Prelude.{ℕ, ◌-◌, ◌==◌, Bool, false, ◌&&◌, not, List, [], ◌∷◌, ◌++◌, map, filter, length, slice_get}
use Rattle.std.specs.Prelude.{codes, Option, Some, None, option_map, is_some, cond}
use Rattle.std.specs.Option.{option_map_or, option_and_then}
use Rattle.std.specs.List.{find, flat_map}
use Rattle.std.specs.Fmt.{decimal}
use Rattle.lra_model.specs.declared.status.ActionStatus.{ActionStatus}
use Rattle.lra_model.specs.declared.status.ActionStatus.TheVariants as action
use Rattle.lra_model.specs.declared.status.MemberStatus.{MemberStatus}
use Rattle.lra_model.specs.declared.asks.AskKind.{AskKind}
use Rattle.lra_model.specs.declared.asks.AskKind.TheVariants as ask
use Rattle.lra_model.specs.Addresses.{Addresses}
use Rattle.lra_model.specs.Words.{is_active, has_ended, has_failed, has_finished_cancelling, is_done_completing}
use Rattle.lra_model.specs.Words.{is_done_compensating, member_has_failed, has_gone, same_kind, is_undecided, is_silent}
use Rattle.lra_model.specs.Names.{action_status_name, member_status_name}
use Rattle.lra_model.specs.History.{History}
use Rattle.lra_model.specs.Actions.{members_of, children}
use Rattle.lra_rows.specs.declared.found.ActionRow.{ActionRow}
use Rattle.lra_model.specs.Wants.{stage_of}
use Rattle.lra_rows.specs.declared.found.MemberRow.{MemberRow}
use Rattle.lra_rows.specs.declared.found.AskRow.{AskRow}
use Rattle.lra_rows.specs.Found.{found_action, found_member, found_addresses, found_ask}
use Rattle.lra_commands.specs.Due.{due_after}
use Rattle.lra_commands.specs.Errands.{address_for}
use Rattle.lra_commands.specs.Terms.{usual}
use Rattle.lra_verdict_lines.specs.VerdictLines.{joined, line_feed}
use Rattle.lra_timelines.specs.declared.timeline_items.TimelineItem.{TimelineItem}
use Rattle.lra_timelines.specs.declared.timeline_items.TimelineItem.TheVariants.{Asked, Answered}
use Rattle.lra_timelines.specs.declared.timeline_items.Told.{Told}
use Rattle.lra_timelines.specs.TimelineItems.{stage_reported}
use Rattle.lra_timelines.specs.Sentences.{ask_words}
use Rattle.lra_timelines.specs.Times.{moment_text, length_text}

-- an action with this status waits for a member with that one, if the member can be compensated: it hasn't left and
-- isn't done (MicroProfile LRA 2.0, LRAStatus)
abbrev pub waits_for_member : ActionStatus → MemberStatus → Bool
waits_for_member action.Closing s = not (has_gone s) && not (is_done_completing s)
waits_for_member action.Cancelling s = not (has_gone s) && not (is_done_compensating s)
waits_for_member _ s = false

-- an action with this status waits for a nested one with that one (MicroProfile LRA 2.0, nested LRAs)
abbrev pub waits_for_action : ActionStatus → ActionStatus → Bool
waits_for_action action.Closing s = not (has_ended s)
waits_for_action action.Cancelling s = not (has_finished_cancelling s)
waits_for_action _ s = false

-- a member can be compensated: it has an address for that
abbrev pub can_compensate : History → ℕ → Bool
can_compensate J p = option_map_or (λ (u : Addresses). is_some u.compensate) (found_addresses J p) false

-- a timeline item is the ask of a number
abbrev pub is_ask : ℕ → Told → Bool
is_ask n t = of_fact t.timeline_item
  where
    of_fact : TimelineItem → Bool
    of_fact (Asked m p kind) = m == n
    of_fact _ = false

-- the words for an open ask: the line that made it, and the moment since which it has no answer
abbrev pub open_text : ℕ → ℕ → ℕ → List ℕ
open_text n line moment = joined (codes "ask " ∷ decimal n ∷ codes ", of line " ∷ decimal line
    ∷ codes ", has no answer since " ∷ moment_text moment ∷ [])

-- the words for an open ask, with its line and moment if the timeline has it
abbrev pub since_text : ℕ → Option Told → List ℕ
since_text n (Some t) = open_text n t.line t.moment
since_text n None = joined (codes "ask " ∷ decimal n ∷ codes " has no answer" ∷ [])

-- the line that says that an action waits for a member
abbrev pub waiting_line : ℕ → MemberStatus → List ℕ
waiting_line p s = joined (codes "waits for member " ∷ decimal p ∷ codes ", which is " ∷ member_status_name s
    ∷ line_feed ∷ [])

-- the line that says that a member has failed
abbrev pub failed_line : ℕ → MemberStatus → List ℕ
failed_line p s = joined (codes "member " ∷ decimal p ∷ codes " is " ∷ member_status_name s ∷ line_feed ∷ [])

-- the note on a member's status: the action waits for the member, or both have failed; else empty
abbrev pub row_note : History → ActionStatus → ℕ → MemberRow → List ℕ
row_note J status p r =
    cond (waits_for_member status r.status && can_compensate J p) (waiting_line p r.status)
    (cond (has_failed status && member_has_failed r.status) (failed_line p r.status) [])

-- a member's address for asks of a kind
abbrev pub address_at : History → ℕ → AskKind → Option (List ℕ)
address_at J p kind = option_and_then (address_for kind) (found_addresses J p)

-- the words for an address
abbrev pub place_text : List ℕ → List ℕ
place_text u = codes " at " ++ u

-- the words for an address; empty if there is none
abbrev pub at_text : Option (List ℕ) → List ℕ
at_text None = []
at_text (Some u) = place_text u

-- the line that says that a member is asked, at which address, and since when
abbrev pub open_line : ℕ → AskKind → Option (List ℕ) → List ℕ → List ℕ
open_line p kind u since = joined (codes "member " ∷ decimal p ∷ codes " is " ∷ ask_words kind ∷ at_text u ∷ codes ": "
    ∷ since ∷ line_feed ∷ [])

-- the words that say from which moment on a member is asked again
abbrev pub from_text : ℕ → List ℕ
from_text moment = joined (codes " again, from " ∷ moment_text moment ∷ codes " on by the default pauses" ∷ [])

-- the words for the moment of a retry, by the number of failed asks, the moment of the last one, and the default pauses
abbrev pub again_text : ℕ → Option ℕ → List ℕ
again_text k before = cond (k == 0) [] (from_text (due_after usual k before))

-- the line that says that a member is to be asked, at which address, and from when on
abbrev pub want_line : ℕ → AskKind → Option (List ℕ) → List ℕ → List ℕ
want_line p kind u again = joined (codes "member " ∷ decimal p ∷ codes " is to be " ∷ ask_words kind ∷ at_text u ∷ again
    ∷ line_feed ∷ [])

-- the note on an outstanding ask of a member
abbrev pub asked_note : History → List Told → ℕ → ℕ → AskRow → List ℕ
asked_note J ts p n x = open_line p x.kind (address_at J p x.kind) (since_text n (find (is_ask n) ts))

-- the note on the kind of ask that a member is to get next
abbrev pub wanted_note : History → ℕ → MemberRow → AskKind → List ℕ
wanted_note J p r kind = want_line p kind (address_at J p kind) (again_text r.k r.last)

-- the note on the outstanding ask of a member, or on its next one, whether or not the action waits for the member: at
-- which address, and since when or from when on
abbrev pub ask_note : History → List Told → ℕ → MemberRow → List ℕ
ask_note J ts p r = of_ask r.outstanding
  where
    of_ask : Option ℕ → List ℕ
    of_ask (Some n) = option_map_or (asked_note J ts p n) (found_ask J n) []
    of_ask None = option_map_or (wanted_note J p r) r.want []

-- the stage of the next ask of a member with this status; a status ask belongs to the stage that the member is in
abbrev pub stage_wanted : MemberStatus → AskKind → AskKind
stage_wanted s ask.Status = stage_reported s
stage_wanted s kind = kind

-- the stage of the outstanding ask of a member, or of its next one
abbrev pub stage_now : History → MemberRow → Option AskKind
stage_now J r = of_ask r.outstanding
  where
    of_ask : Option ℕ → Option AskKind
    of_ask (Some n) = option_map (λ (x : AskRow). stage_of x.kind x.direction) (found_ask J n)
    of_ask None = option_map (stage_wanted r.status) r.want

-- a timeline item is an answer of a member in a stage, or the lack of one, after which the member is asked again
abbrev pub is_repeat : ℕ → AskKind → Told → Bool
is_repeat p stage t = of_fact t.timeline_item
  where
    of_fact : TimelineItem → Bool
    of_fact (Answered n q s o) = (q == p) && (same_kind s stage && is_undecided o)
    of_fact _ = false

-- a number of times in words
abbrev pub times_text : ℕ → List ℕ
times_text n = cond (n == 1) (codes "once") (joined (decimal n ∷ codes " times" ∷ []))

-- the words for the outcome of the last call, as far as the journal has it
abbrev pub last_text : Told → List ℕ
last_text t = of_fact t.timeline_item
  where
    of_fact : TimelineItem → List ℕ
    of_fact (Answered n q s o) =
        cond (is_silent o)
        (joined (codes "without an answer (line " ∷ decimal t.line ∷ codes "): the operators' page has the reason"
        ∷ []))
        (joined (codes "with the answer that it goes on (line " ∷ decimal t.line ∷ codes ")" ∷ []))
    of_fact _ = []

-- the line that says how often a member was called, and the outcome of the last call
abbrev pub called_line : ℕ → ℕ → Told → List ℕ
called_line p n t = joined (codes "member " ∷ decimal p ∷ codes " was called " ∷ times_text n ∷ codes " for that, last "
    ∷ last_text t ∷ line_feed ∷ [])

-- the line on the calls of a member; empty if there was none
abbrev pub repeats_line : ℕ → List Told → List ℕ
repeats_line p ts = option_map_or (called_line p (length ts)) (slice_get ts (length ts - 1)) []

-- the note on the calls that a member got so far in the stage of its outstanding ask, or of its next one
abbrev pub repeats_note : History → List Told → ℕ → MemberRow → List ℕ
repeats_note J ts p r = option_map_or (λ (stage : AskKind). repeats_line p (filter (is_repeat p stage) ts))
    (stage_now J r) []

-- the notes on a member, by its row; each is a line or empty
abbrev pub row_notes : History → List Told → ActionStatus → ℕ → MemberRow → List (List ℕ)
row_notes J ts status p r = row_note J status p r ∷ ask_note J ts p r ∷ repeats_note J ts p r ∷ []

-- the notes on a member
abbrev pub member_notes : History → List Told → ActionStatus → ℕ → List (List ℕ)
member_notes J ts status p = option_map_or (row_notes J ts status p) (found_member J p) []

-- the note on a nested action, by its status: the action waits for it, or both have failed; else empty
abbrev pub nested_note : ActionStatus → ℕ → ActionStatus → List ℕ
nested_note status b now =
    cond (waits_for_action status now) (joined (codes "waits for action " ∷ decimal b ∷ codes " below it, which is "
    ∷ action_status_name now ∷ line_feed ∷ []))
    (cond (has_failed status && has_failed now) (joined (codes "action " ∷ decimal b ∷ codes " below it is "
    ∷ action_status_name now ∷ line_feed ∷ [])) [])

-- the note on a nested action
abbrev pub action_note : History → ActionStatus → ℕ → List ℕ
action_note J status b = option_map_or (λ (r : ActionRow). nested_note status b r.status) (found_action J b) []

-- the line that says what an Active action waits for, by its limit in milliseconds, where 0 is none, and the moment
-- from which that counts
abbrev pub client_line : ℕ → ℕ → List ℕ
client_line limit since =
    cond (limit == 0) (codes "waits for its client to close or cancel it\n")
    (joined (codes "waits for its client to close or cancel it, within " ∷ length_text limit ∷ codes " of "
    ∷ moment_text since ∷ line_feed ∷ []))

-- the note on the action itself; empty unless it is Active
abbrev pub own_note : ActionRow → List ℕ
own_note r = cond (is_active r.status) (client_line r.limit r.since) []

-- the notes on an action, then on its members, and then on the actions nested directly in it; each is a line or empty
abbrev pub notes : History → List Told → ℕ → ActionRow → List (List ℕ)
notes J ts a r = own_note r ∷ [] ++ flat_map (member_notes J ts r.status) (members_of J a)
    ++ map (action_note J r.status) (children J a)
