-- What an invocation writes of its input, and its status.
use Rattle.std.specs.Prelude.{ℕ, List, codes, Option}
use Rattle.lra_reports.specs.declared.words.Invocation.{Invocation}
use Rattle.lra_reports.specs.declared.words.Invocation.TheVariants.{AuditInput, Audit, Show, Upgrade}
use Rattle.lra_audits.specs.Report.{ReportsAudit}
use Rattle.lra_reports.specs.Show.{ReportsListing}
use Rattle.lra_reports.specs.Upgrade.{Upgrades}

-- the bytes of the input that an invocation names: those of standard input, or of a file by its name
abbrev pub input_bytes : Option (List ℕ) → (List ℕ → Option (List ℕ)) → Invocation → Option (List ℕ)
input_bytes standard named AuditInput = standard
input_bytes standard named (Audit file) = named file.now
input_bytes standard named (Show file) = named file.now
input_bytes standard named (Upgrade file) = named file.now

-- what the run that was asked for writes of its input, and its status
abbrev pub Runs : Invocation → List ℕ → ℕ → Option (List ℕ) → Option (List ℕ) → Type 0
Runs AuditInput = ReportsAudit
Runs (Audit file) = ReportsAudit
Runs (Show file) = ReportsListing
Runs (Upgrade file) = Upgrades

-- the name of an input: that of the file, or `-` for standard input
abbrev pub input_name : Invocation → List ℕ
input_name AuditInput = codes "-"
input_name (Audit file) = file.now
input_name (Show file) = file.now
input_name (Upgrade file) = file.now
