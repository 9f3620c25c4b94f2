-- The output for one action of a journal, and the program's status (this project's choice).
use Rattle.std.specs.Prelude.{◌≡◌, ◌⊎◌, ℕ, ◌==◌, Bool, true, List, [], ◌∷◌, ◌++◌, codes, Option, None, cond}
use Rattle.std.specs.Option.{option_map_or}
use Rattle.std.specs.List.{flat_map}
use Rattle.std.specs.Io.KnownBytes.{Appends}
use Rattle.lra_model.specs.declared.version.Version.{Version}
use Rattle.lra_model.specs.History.{History}
use Rattle.lra_rows.specs.declared.found.ActionRow.{ActionRow}
use Rattle.lra_rows.specs.Found.{found_action}
use Rattle.lra_auditor.specs.Verdicts.{IsTextOf}
use Rattle.lra_audits.specs.Report.{ReportsAudit}
use Rattle.lra_verdict_lines.specs.VerdictLines.{joined, line_feed}
use Rattle.lra_timelines.specs.declared.wanted.Wanted.{Wanted}
use Rattle.lra_timelines.specs.declared.timeline_items.Told.{Told}
use Rattle.lra_timelines.specs.declared.explaining.Form.{Form}
use Rattle.lra_timelines.specs.declared.explaining.Form.TheVariants.{Text, Svg}
use Rattle.lra_timelines.specs.TimelineItems.{told}
use Rattle.lra_timelines.specs.Sentences.{head_line, told_line}
use Rattle.lra_timelines.specs.Waits.{notes}
use Rattle.lra_timelines.specs.Drawn.{picture}

-- an instance is the wanted one, or any instance is wanted
abbrev pub is_its : Option ℕ → ℕ → Bool
is_its o i = option_map_or (λ j. j == i) o true

-- a timeline in sentences: the head line with the action's status, the items, and the notes
abbrev pub lines_text : History → List ℕ → List Told → List (List ℕ) → List ℕ
lines_text J head ts notes = head ++ flat_map (told_line J) ts ++ joined notes

-- a timeline in a form
abbrev pub shown : Form → History → List ℕ → List Told → List (List ℕ) → List ℕ
shown Text J head ts notes = lines_text J head ts notes
shown Svg J head ts notes = picture J head ts notes

-- the output for an action that exists: its status now; then each entry that concerns it, in order; then what it waits
-- for, which members and nested actions failed, and what its members are asked
abbrev pub timeline_text : Form → History → ℕ → ActionRow → List ℕ
timeline_text form J a r = shown form J (head_line a r.parent r.status) (told a J) (notes J (told a J) a r)

-- the line that says that an action doesn't exist, with its name as it was given
abbrev pub missing_line : List ℕ → List ℕ
missing_line name = joined (codes "unknown action " ∷ name ∷ line_feed ∷ [])

-- the wanted action, if a history of an instance has it
abbrev pub found : Wanted → ℕ → History → Option ActionRow
found w i J = cond (is_its w.instance i) (found_action J w.action) None

-- the output for the wanted action
abbrev pub explained : Form → Wanted → List ℕ → ℕ → History → List ℕ
explained form w name i J = option_map_or (timeline_text form J w.action) (found w i J) (missing_line name)

-- the program's status: 0 if the action exists, else 1
abbrev pub explained_status : Wanted → ℕ → History → ℕ
explained_status w i J = option_map_or (λ (r : ActionRow). 0) (found w i J) 1

-- the input is the text of this history; the output is the timeline of the action, or the line that it doesn't exist
pub record WritesTimeline (form : Form) (w : Wanted) (name input : List ℕ) (status : ℕ) (before after : Option (List ℕ))
    (v : Version) (i : ℕ) (J : History) : Type 0 where
  pub sound : IsTextOf v i J input
  pub written : Appends before after (explained form w name i J)
  pub answered : status ≡ explained_status w i J

-- the output for an action of a sound journal; for an unsound one it is that of an audit, and the status is 1
abbrev pub Explains : Form → Wanted → List ℕ → List ℕ → ℕ → Option (List ℕ) → Option (List ℕ) → Type 0
Explains form w name input status before after =
    ((v : Version) × (i : ℕ) × (J : History) × WritesTimeline form w name input status before after v i J)
    ⊎ ((status ≡ 1) × ReportsAudit input status before after)
