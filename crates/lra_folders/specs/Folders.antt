-- What an audit of a folder's journals writes and returns.
use Rattle.std.specs.Prelude.{◌≡◌, ℕ, ◌+◌, nat_lt, nat_eq, List, [], ◌∷◌, ◌++◌, codes, String, string_bytes, Option}
use Rattle.std.specs.Prelude.{Some, None, IfSome, if◌then◌else◌}
use Rattle.std.specs.Fmt.{decimal}
use Rattle.std.specs.Global.{Global}
use Rattle.std.specs.Io.KnownBytes.{Appends}
use Rattle.lra_course.specs.declared.verdict.Verdict.{Verdict}
use Rattle.lra_course.specs.declared.verdict.Verdict.TheVariants.{Sound, Unsound}
use Rattle.lra_auditor.specs.Verdicts.{IsVerdict}
use Rattle.lra_audits.specs.declared.fault.RunFault.TheVariants.{Read}
use Rattle.lra_audits.specs.Faults.{error_line}
use Rattle.lra_audits.specs.Report.{ReportsAudit}
use Rattle.lra_verdict_lines.specs.VerdictLines.{joined, line_feed, report_of}
use Rattle.lra_reports.specs.Show.{ReportsListing}
use Rattle.lra_folders.specs.declared.deed.Deed.{Deed}
use Rattle.lra_folders.specs.declared.deed.Deed.TheVariants.{Audit, Show}
use Rattle.lra_folders.specs.declared.journals.Tally.{Tally}

-- the path of a name in a folder
abbrev pub path_of : List ℕ → List ℕ → List ℕ
path_of folder name = joined (folder ∷ codes "/" ∷ name ∷ [])

-- one more journal has this verdict
abbrev pub counted : Verdict → Tally → Tally
counted (Sound s) t = record t { sound = t.sound + 1 }
counted (Unsound line rule) t = record t { unsound = t.unsound + 1 }

-- an audit of a folder so far: what was written, what is for standard error, and the counts
pub record Progress : Type 0 where
  pub written : Option (List ℕ)
  pub told : List ℕ
  pub tally : Tally

-- no journal yet
abbrev pub at_first : Option (List ℕ) → Progress
at_first written = record { written = written; told = []; tally = record { sound = 0; unsound = 0; unread = 0 } }

-- one journal more, of these bytes: it has this verdict, and its name and its report were written; or it can't be read,
-- and has a line for standard error
abbrev pub AuditsNext : List ℕ → List ℕ → List ℕ → Option Verdict → Progress → Progress → Type 0
AuditsNext bytes path name (Some verdict) p q =
    IsVerdict bytes verdict × Appends p.written q.written (joined (name ∷ codes " " ∷ report_of verdict ∷ []))
    × (q.told ≡ p.told) × (q.tally ≡ counted verdict p.tally)
AuditsNext bytes path name None p q =
    (q.written ≡ p.written) × (q.told ≡ p.told ++ error_line Read path)
    × (q.tally ≡ record p.tally { unread = p.tally.unread + 1 })

-- the journals of these names were audited, one after another
abbrev pub AuditsEach : (List ℕ → List ℕ) → List ℕ → List (List ℕ) → Progress → Progress → Type 0
AuditsEach bytes folder [] p q = q ≡ p
AuditsEach bytes folder (name ∷ names) p q =
    (verdict : Option Verdict) × (r : Progress) × AuditsNext (bytes (path_of folder name)) (path_of folder name) name
    verdict p r × AuditsEach bytes folder names r q

-- the first half of the last line: how many journals are sound, and how many unsound
abbrev pub verdicts_counted : Tally → List ℕ
verdicts_counted t = joined (codes "journals sound " ∷ decimal t.sound ∷ codes " unsound " ∷ decimal t.unsound ∷ [])

-- the last line, with how many can't be read
abbrev pub totals_line : Tally → List ℕ
totals_line t = verdicts_counted t ++ joined (codes " unread " ∷ decimal t.unread ∷ line_feed ∷ [])

-- 2 where a journal can't be read; else 1 where one isn't sound; else 0
abbrev pub status_of : Tally → ℕ
status_of t = if nat_lt 0 t.unread then 2 else (if nat_lt 0 t.unsound then 1 else 0)

-- the journals of these names, whose bytes are those, were audited one after another; then the counts were written
pub record AuditsAll (bytes : List ℕ → List ℕ) (folder : List ℕ) (names : List (List ℕ))
    (before after : Option (List ℕ)) (told : List ℕ) (status : ℕ) : Type 0 where
  pub last : Progress
  pub each : AuditsEach bytes folder names (at_first before) last
  pub counts : Appends last.written after (totals_line last.tally)
  pub tells : told ≡ last.told
  pub answered : status ≡ status_of last.tally

-- what stands between a journal's name and its report or listing
abbrev pub behind : Deed → List ℕ
behind Audit = codes " "
behind Show = line_feed

-- what was added to a text is the report on the bytes, or their listing, and that is their status
abbrev pub Tells : Deed → List ℕ → ℕ → Option (List ℕ) → Option (List ℕ) → Type 0
Tells Audit bytes status before after = ReportsAudit bytes status before after
Tells Show bytes status before after = ReportsListing bytes status before after

-- one more journal has this status
abbrev pub counted_as : ℕ → Tally → Tally
counted_as status t = if nat_eq status 0 then record t { sound = t.sound + 1 } else record t { unsound = t.unsound + 1 }

-- one journal more, of these bytes: its line, of this status and with this text, was written; or it can't be read, and
-- has a line for standard error
abbrev pub TellsNext : Deed → List ℕ → List ℕ → List ℕ → Option (ℕ × List ℕ) → Progress → Progress → Type 0
TellsNext deed bytes path name (Some (status, text)) p q =
    Tells deed bytes status (Some (name ++ behind deed)) (Some text) × Appends p.written q.written text
    × (q.told ≡ p.told) × (q.tally ≡ counted_as status p.tally)
TellsNext deed bytes path name None p q =
    (q.written ≡ p.written) × (q.told ≡ p.told ++ error_line Read path)
    × (q.tally ≡ record p.tally { unread = p.tally.unread + 1 })

-- the journals of these names were reported, one after another
abbrev pub TellsEach : Deed → (List ℕ → List ℕ) → List ℕ → List (List ℕ) → Progress → Progress → Type 0
TellsEach deed bytes folder [] p q = q ≡ p
TellsEach deed bytes folder (name ∷ names) p q =
    (line : Option (ℕ × List ℕ)) × (r : Progress) × TellsNext deed (bytes (path_of folder name)) (path_of folder name)
    name line p r × TellsEach deed bytes folder names r q

-- the journals of these names, whose bytes are those, were reported one after another; then the counts were written
pub record TellsAll (deed : Deed) (bytes : List ℕ → List ℕ) (folder : List ℕ) (names : List (List ℕ))
    (before after : Option (List ℕ)) (told : List ℕ) (status : ℕ) : Type 0 where
  pub last : Progress
  pub each : TellsEach deed bytes folder names (at_first before) last
  pub counts : Appends last.written after (totals_line last.tally)
  pub tells : told ≡ last.told
  pub answered : status ≡ status_of last.tally

-- a name in a folder, and its file, if that could be opened
abbrev pub IsOpened : {F : Type 0}
    → (List ℕ → Option (List ℕ)) → (F → Option (List ℕ)) → List ℕ → List ℕ → String Global × Option F → Type 0
IsOpened named remaining folder name job = (string_bytes job.0 ≡ name)
    × IfSome job.1 (λ file. IfSome (named (path_of folder name)) (λ all. remaining file ≡ Some all))
