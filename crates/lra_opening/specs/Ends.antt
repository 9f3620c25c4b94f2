-- Output of a service that has ended, or that doesn't start.
use Rattle.std.specs.Prelude.{◌≡◌, ◌⊎◌, ℕ, List, [], ◌∷◌, codes, Option, IfSome, ⊤}
use Rattle.std.specs.Io.KnownBytes.{Appends}
use Rattle.lra_office.specs.Wholes.{whole_lines}
use Rattle.lra_audits.specs.declared.fault.RunFault.TheVariants.{Read, Write, TooLong, Memory, Changed, Line}
use Rattle.lra_course.specs.declared.verdict.Verdict.{Verdict}
use Rattle.lra_auditor.specs.Verdicts.{IsVerdict}
use Rattle.lra_audits.specs.Report.{ReportsAudit}
use Rattle.lra_verdict_lines.specs.VerdictLines.{joined, line_feed, status_of}
use Rattle.lra_opening.specs.declared.fault.ServeFault.{ServeFault}
use Rattle.lra_opening.specs.declared.fault.ServeFault.TheVariants.{Run, File, Address}

-- the line which reports that an address is served
abbrev pub serving_line : List ℕ → List ℕ
serving_line address = joined (codes "serving " ∷ address ∷ line_feed ∷ [])

-- nothing has been written, or just the line which reports that an address is served
abbrev pub SaysAtMost : List ℕ → Option (List ℕ) → Option (List ℕ) → Type 0
SaysAtMost address before after = (after ≡ before) ⊎ Appends before after (serving_line address)

-- the output at a fault: nothing before an address is served, and at most that line if the service may have ended; the
-- file may fail before or after that line; if standard output can't be written, nothing is known; no fault is a
-- script's line
abbrev pub IsSaid : List ℕ → Option (List ℕ) → Option (List ℕ) → ServeFault → Type 0
IsSaid address before after (Run Read) = after ≡ before
IsSaid address before after (Run TooLong) = after ≡ before
IsSaid address before after (Run Changed) = after ≡ before
IsSaid address before after File = SaysAtMost address before after
IsSaid address before after (Run Memory) = SaysAtMost address before after
IsSaid address before after Address = SaysAtMost address before after
IsSaid address before after (Run Write) = ⊤
IsSaid address before after (Run (Line number)) = ⊥

-- an audit finds these lines of a journal sound
pub record IsFoundSound (lines : List ℕ) : Type 0 where
  pub verdict : Verdict
  pub right : IsVerdict lines verdict
  pub sound : status_of verdict ≡ 0

-- the output if a journal isn't served: the report of its audit, which finds the whole lines of what was read unsound;
-- what was read is what was found in the journal's file, if that is known
pub record IsRefused (found before after : Option (List ℕ)) (status : ℕ) : Type 0 where
  pub journal : List ℕ
  pub read : IfSome found (λ (bytes : List ℕ). journal ≡ bytes)
  pub reported : ReportsAudit (whole_lines journal) status before after
  pub unsound : status ≡ 1

-- a fault of an address: the address can't be served, or there was no memory
abbrev pub IsOfAddress : ServeFault → Type 0
IsOfAddress Address = ⊤
IsOfAddress (Run Memory) = ⊤
IsOfAddress (Run Read) = ⊥
IsOfAddress (Run Write) = ⊥
IsOfAddress (Run TooLong) = ⊥
IsOfAddress (Run Changed) = ⊥
IsOfAddress (Run (Line number)) = ⊥
IsOfAddress File = ⊥
