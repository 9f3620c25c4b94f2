-- What the program prints of a verdict, and its status.
use Rattle.std.specs.Prelude.{ℕ, List, [], ◌∷◌, ◌++◌, length, codes}
use Rattle.std.specs.Fmt.{decimal}
use Rattle.std.specs.List.{flat_map}
use Rattle.lra_model.specs.declared.rule.Rule.{Rule}
use Rattle.lra_model.specs.Names.{action_status_name, rule_name}
use Rattle.lra_totals.specs.declared.totals.FailedEnd.{FailedEnd}
use Rattle.lra_totals.specs.declared.totals.Summary.{Summary}
use Rattle.lra_course.specs.declared.verdict.Verdict.{Verdict}
use Rattle.lra_course.specs.declared.verdict.Verdict.TheVariants.{Sound, Unsound}

-- texts one after another
abbrev pub joined : List (List ℕ) → List ℕ
joined [] = []
joined (text ∷ texts) = text ++ joined texts

-- the end of a line
abbrev pub line_feed : List ℕ
line_feed = 10 ∷ []

-- a line for an action that ended in failure: its number, its status and its least failed member
abbrev pub failed_line : FailedEnd → List ℕ
failed_line f = joined (codes "failed " ∷ decimal f.action ∷ codes " " ∷ action_status_name f.status ∷ codes " "
    ∷ decimal f.member ∷ line_feed ∷ [])

-- the first half of a sound journal's counts
abbrev pub entries_counted : Summary → List ℕ
entries_counted s = joined (codes "sound entries " ∷ decimal s.entries ∷ codes " actions " ∷ decimal s.actions
    ∷ codes " unended " ∷ decimal s.unended ∷ [])

-- the second half, to the end of the line
abbrev pub ends_counted : Summary → List ℕ
ends_counted s = joined (codes " closed " ∷ decimal s.closed ∷ codes " cancelled " ∷ decimal s.cancelled
    ∷ codes " failed " ∷ decimal (length s.failed) ∷ line_feed ∷ [])

-- the line of the fault of an unsound one
abbrev pub fault_line : ℕ → Rule → List ℕ
fault_line line rule = joined (codes "unsound line " ∷ decimal line ∷ codes " " ∷ rule_name rule ∷ line_feed ∷ [])

-- the counts of a sound journal and a line for each failed end; or the line and the rule at fault
abbrev pub report_of : Verdict → List ℕ
report_of (Sound s) = entries_counted s ++ ends_counted s ++ flat_map failed_line s.failed
report_of (Unsound line rule) = fault_line line rule

-- 0 for a sound journal, else 1
abbrev pub status_of : Verdict → ℕ
status_of (Sound s) = 0
status_of (Unsound line rule) = 1
