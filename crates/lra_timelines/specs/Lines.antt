-- The list of a journal's actions (this project's choice): which are listed, how old each is, its members, and what it
-- waits for.
use Rattle.std.specs.Prelude.{◌≡◌, ◌⊎◌, ℕ, zero, suc, ◌-◌, ◌*◌, ◌==◌, nat_lt, Bool, true, ◌&&◌, List, [], ◌∷◌, ◌++◌}
use Rattle.std.specs.Prelude.{length, filter, codes, Option, Some, None, option_map, unwrap_or, cond}
use Rattle.std.specs.Option.{option_map_or}
use Rattle.std.specs.List.{filter_map, flat_map}
use Rattle.std.specs.Fmt.{decimal}
use Rattle.std.specs.Io.KnownBytes.{Appends}
use Rattle.lra_model.specs.declared.version.Version.{Version}
use Rattle.lra_model.specs.declared.status.ActionStatus.{ActionStatus}
use Rattle.lra_model.specs.declared.status.MemberStatus.{MemberStatus}
use Rattle.lra_model.specs.declared.status.MemberStatus.TheVariants as member
use Rattle.lra_model.specs.declared.entry.Entry.{Entry}
use Rattle.lra_model.specs.Words.{same_status}
use Rattle.lra_model.specs.Names.{action_status_name, member_status_name}
use Rattle.lra_model.specs.History.{History, started_by, last_moment}
use Rattle.lra_ids.specs.Identifiers.{id_text}
use Rattle.lra_lines.specs.Line.{or_star}
use Rattle.lra_course.specs.declared.listing.ListedAction.{ListedAction}
use Rattle.lra_course.specs.declared.listing.ListedMember.{ListedMember}
use Rattle.lra_course.specs.Listings.{listed_action, listing}
use Rattle.lra_rows.specs.declared.found.ActionRow.{ActionRow}
use Rattle.lra_rows.specs.Found.{found_action}
use Rattle.lra_auditor.specs.Verdicts.{IsTextOf}
use Rattle.lra_audits.specs.Report.{ReportsAudit}
use Rattle.lra_verdict_lines.specs.VerdictLines.{joined, line_feed}
use Rattle.lra_timelines.specs.declared.listing.Choice.{Choice}
use Rattle.lra_timelines.specs.TimelineItems.{told}
use Rattle.lra_timelines.specs.Waits.{notes}
use Rattle.lra_timelines.specs.Times.{seconds_text}

-- the start of an action, and its moment in milliseconds
pub record Begun : Type 0 where
  pub action : ℕ
  pub moment : ℕ

-- the start that an entry is, if it is one (MicroProfile LRA 2.0, starting an LRA)
abbrev pub begun_by : Entry → Option Begun
begun_by e = option_map (λ a. record { action = a; moment = e.moment }) (started_by e.deed)

-- the starts of a history, in order
unfoldable pub starts : History → List Begun
starts J = filter_map begun_by J

-- the age of an action that started at a moment, up to the chosen moment or the history's last one; 0 if that is before
-- the start
abbrev pub age : Choice → History → ℕ → ℕ
age c J moment = unwrap_or c.now (last_moment J) - moment

-- a status is the wanted one, or any status is wanted
abbrev pub has_status : Option ActionStatus → ActionStatus → Bool
has_status o s = option_map_or (same_status s) o true

-- an age in milliseconds is more than a number of seconds, or any age is wanted
abbrev pub is_older : Option ℕ → ℕ → Bool
is_older o n = option_map_or (λ seconds. nat_lt (seconds * 1000) n) o true

-- an action with this status and this age is to be listed
abbrev pub is_chosen : Choice → ActionStatus → ℕ → Bool
is_chosen c s n = has_status c.status s && is_older c.older_than n

-- the place of a member's status, in the order in which the statuses are listed
abbrev pub place_of : MemberStatus → ℕ
place_of member.Active = 0
place_of member.Completing = 1
place_of member.Completed = 2
place_of member.FailedToComplete = 3
place_of member.Compensating = 4
place_of member.Compensated = 5
place_of member.FailedToCompensate = 6
place_of member.Left = 7

-- all statuses of members, in that order
abbrev pub statuses : List MemberStatus
statuses =
    member.Active ∷ member.Completing ∷ member.Completed ∷ member.FailedToComplete ∷ member.Compensating
    ∷ member.Compensated ∷ member.FailedToCompensate ∷ member.Left ∷ []

-- a member is one of an action, and has the status of a place
abbrev pub is_counted : ℕ → ℕ → ListedMember → Bool
is_counted a p m = (m.action == a) && (place_of m.status == p)

-- the number of members of an action that have the status of a place
abbrev pub count_of : List ListedMember → ℕ → ℕ → ℕ
count_of ms a p = length (filter (is_counted a p) ms)

-- the word for a status and the number of members that have it, unless that is 0
abbrev pub counted : MemberStatus → ℕ → Option (List ℕ)
counted s zero = None
counted s (suc n) = Some (joined (member_status_name s ∷ codes "=" ∷ decimal (suc n) ∷ []))

-- texts with commas between them, or * if there is none
abbrev pub listed_words : List (List ℕ) → List ℕ
listed_words [] = codes "*"
listed_words (t ∷ ts) = t ++ flat_map (λ (u : List ℕ). codes "," ++ u) ts

-- the text of the number of members that have each status, by the number for each place
abbrev pub tally_text : (ℕ → ℕ) → List ℕ
tally_text count = listed_words (filter_map (λ s. counted s (count (place_of s))) statuses)

-- the first half of the line of an action of an instance: its number, its UUID and its status
abbrev pub line_front : List ℕ → ℕ → ListedAction → List ℕ
line_front prefix i x = joined (prefix ∷ decimal x.action ∷ codes " " ∷ id_text i x.action ∷ codes " "
    ∷ action_status_name x.status ∷ [])

-- the second half: the parent's number or *, the age in seconds, and the number of members that have each status
abbrev pub line_end : List ListedMember → ListedAction → ℕ → List ℕ
line_end ms x n =
    joined (codes " " ∷ or_star (option_map decimal x.parent) ∷ codes " " ∷ seconds_text n ∷ codes " "
    ∷ tally_text (count_of ms x.action) ∷ line_feed ∷ [])

-- the line of an action of an instance, by its age
abbrev pub action_line : List ℕ → ℕ → List ListedMember → ListedAction → ℕ → List ℕ
action_line prefix i ms x n = line_front prefix i x ++ line_end ms x n

-- a note after a prefix and two spaces; empty if the note is empty
abbrev pub indented : List ℕ → List ℕ → List ℕ
indented prefix [] = []
indented prefix (c ∷ cs) = prefix ++ (codes "  " ++ (c ∷ cs))

-- the notes at the end of the timeline of an action of a history, an indented line each: what it waits for, which
-- members and nested actions failed, and what its members are asked
abbrev pub waits_text : List ℕ → History → ℕ → List ℕ
waits_text prefix J a =
    option_map_or (λ (r : ActionRow). flat_map (indented prefix) (notes J (told a J) a r)) (found_action J a) []

-- the notes, if the choice includes them
abbrev pub asked_waits : Choice → List ℕ → History → ℕ → List ℕ
asked_waits c prefix J a = cond c.waits (waits_text prefix J a) []

-- the line of an action and its notes, if the action is to be listed
abbrev pub chosen_lines : Choice → List ℕ → ℕ → List ListedMember → ListedAction → ℕ → List ℕ → List ℕ
chosen_lines c prefix i ms x n waits = cond (is_chosen c x.status n) (action_line prefix i ms x n ++ waits) []

-- the lines for a start: the line of its action at the history's end, and the action's notes if the choice includes
-- them
abbrev pub start_lines : Choice → List ℕ → ℕ → History → Begun → List ℕ
start_lines c prefix i J b =
    chosen_lines c prefix i (listing J).members (listed_action J b.action) (age c J b.moment)
    (asked_waits c prefix J b.action)

-- the list for a history of an instance: the lines of each action that is to be listed, in the order of their starts
unfoldable pub lines_text : Choice → List ℕ → ℕ → History → List ℕ
lines_text c prefix i J = flat_map (start_lines c prefix i J) (starts J)

-- the input is the text of this history; the output is the list of its actions, and the status is 0
pub record WritesLines (c : Choice) (prefix input : List ℕ) (status : ℕ) (before after : Option (List ℕ)) (v : Version)
    (i : ℕ) (J : History) : Type 0 where
  pub sound : IsTextOf v i J input
  pub written : Appends before after (lines_text c prefix i J)
  pub answered : status ≡ 0

-- the output is the prefix, and then that of an audit; the status is 1
pub record WritesFault (prefix input : List ℕ) (status : ℕ) (before after : Option (List ℕ)) : Type 0 where
  pub between : Option (List ℕ)
  pub named : Appends before between prefix
  pub told : ReportsAudit input status between after
  pub answered : status ≡ 1

-- the output for a sound journal, or for an unsound one
abbrev pub ListsActions : Choice → List ℕ → List ℕ → ℕ → Option (List ℕ) → Option (List ℕ) → Type 0
ListsActions c prefix input status before after =
    ((v : Version) × (i : ℕ) × (J : History) × WritesLines c prefix input status before after v i J)
    ⊎ WritesFault prefix input status before after
