-- That a program reports the audit of its input.
use Rattle.std.specs.Prelude.{◌≡◌, ℕ, List, Option}
use Rattle.std.specs.Io.KnownBytes.{Appends}
use Rattle.lra_course.specs.declared.verdict.Verdict.{Verdict}
use Rattle.lra_auditor.specs.Verdicts.{IsVerdict}
use Rattle.lra_verdict_lines.specs.VerdictLines.{report_of, status_of}

-- what was written is the report of the verdict on the input, and the status is that verdict's
pub record ReportsAudit (input : List ℕ) (status : ℕ) (before after : Option (List ℕ)) : Type 0 where
  pub verdict : Verdict
  pub right : IsVerdict input verdict
  pub written : Appends before after (report_of verdict)
  pub answered : status ≡ status_of verdict
