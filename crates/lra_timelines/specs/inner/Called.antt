-- The calls of each action's members, gathered while a journal is read.
use Rattle.std.specs.Prelude.{◌≡◌, ℕ, ◌==◌, Bool, true, false, List, [], ◌∷◌, filter, slice_get}
use Rattle.std.specs.Prelude.{Option, Some, None, option_map, unwrap_or, cond}
use Rattle.std.specs.Option.{option_and_then, option_map_or}
use Rattle.lra_model.specs.declared.asks.Outcome.{Outcome}
use Rattle.lra_model.specs.declared.entry.Deed.{Deed}
use Rattle.lra_model.specs.declared.entry.Deed.TheVariants.{Ask, Reply}
use Rattle.lra_model.specs.declared.entry.Entry.{Entry}
use Rattle.lra_model.specs.Words.{is_undecided}
use Rattle.lra_model.specs.Wants.{stage_of}
use Rattle.lra_model.specs.History.{History}
use Rattle.lra_laws.specs.Snapshots.{snapshot_of, StandsFor}
use Rattle.lra_rows.specs.declared.found.AskRow.{AskRow}
use Rattle.lra_rows.specs.declared.found.MemberRow.{MemberRow}
use Rattle.lra_rows.specs.Found.{found_member, found_ask}
use Rattle.lra_timelines.specs.declared.calls.Call.{Call}
use Rattle.lra_timelines.specs.declared.calls.Calls.{Calls}
use Rattle.lra_timelines.specs.declared.timeline_items.TimelineItem.{TimelineItem}
use Rattle.lra_timelines.specs.declared.timeline_items.TimelineItem.TheVariants.{Asked, Answered}
use Rattle.lra_timelines.specs.declared.timeline_items.Told.{Told}
use Rattle.lra_timelines.specs.TimelineItems.{told, status_now}

-- an item is a call: an ask, or an answer after which the member is asked again
abbrev pub is_call : TimelineItem → Bool
is_call (Asked n p kind) = true
is_call (Answered n p stage o) = is_undecided o
is_call _ = false

-- an item with its line is a call
abbrev pub tells_call : Told → Bool
tells_call t = is_call t.timeline_item

-- the calls in the timeline of an action
abbrev pub calls : ℕ → History → List Told
calls a J = filter tells_call (told a J)

-- the call for an item of a member, with the member's action
abbrev pub of_member : History → ℕ → TimelineItem → Option Call
of_member J p f = option_map (λ (r : MemberRow). record { action = r.action; timeline_item = f }) (found_member J p)

-- the call for the answer to an ask, if the member is asked again after it
abbrev pub of_answer : History → ℕ → Outcome → AskRow → Option Call
of_answer J n o x =
    cond (is_undecided o) (of_member J x.member (Answered n x.member (stage_of x.kind x.direction) o)) None

-- the call for an entry after a history, if the entry is an ask, or an answer after which the member is asked again
abbrev pub call_in : History → Entry → Option Call
call_in J e = of_deed e.deed
  where
    of_deed : Deed → Option Call
    of_deed (Ask n p kind) = of_member J p (Asked n p kind)
    of_deed (Reply n o) = option_and_then (of_answer J n o) (found_ask J n)
    of_deed _ = None

-- the items at the index of an action's number
abbrev pub kept_at : List (List Told) → ℕ → List Told
kept_at rows a = unwrap_or (slice_get rows a) []

-- the items that an action gets when one more is added to an action: that one if they are the same action, else none
abbrev pub kept_more : ℕ → Told → ℕ → List Told
kept_more b t a = cond (b == a) (t ∷ []) []

-- the items that an action gets from an entry at a line and a moment, by the call for that entry, if it has one
abbrev pub told_call : History → ℕ → ℕ → Option Call → ℕ → List Told
told_call J line moment o a = option_map_or (λ (c : Call). kept_more c.action (told_as c) a) o []
  where
    told_as : Call → Told
    told_as c = record { line = line; moment = moment; status = status_now J c.action; timeline_item = c.timeline_item }

-- the calls have the rows of a history, and the items of each action's calls
pub record Keeps (c : Calls) (J : History) : Type 0 where
  pub snapshot : c.rows.snapshot ≡ snapshot_of J
  pub told : (a : ℕ) → kept_at c.told.items a ≡ calls a J

-- the same of a legal history
pub record Called (c : Calls) (J : History) : Type 0 where
  pub stands : StandsFor c.rows.snapshot J
  pub told : (a : ℕ) → kept_at c.told.items a ≡ calls a J
