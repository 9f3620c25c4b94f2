-- What the words of a command line ask of a journal.
use Rattle.std.specs.Prelude.{◌≡◌, ℕ, List, [], ◌∷◌, codes}
use Rattle.lra_reports.specs.declared.words.Invocation.{Invocation}
use Rattle.lra_reports.specs.declared.words.Invocation.TheVariants.{AuditInput, Audit, Show, Upgrade}
use Rattle.lra_reports.specs.declared.words.Question.{Question}
use Rattle.lra_reports.specs.declared.words.Question.TheVariants.{Run, Salvage, Help, Version}

-- no word is to audit standard input; `audit FILE` is to audit a file, `show FILE` to list it, and `upgrade FILE` to
-- upgrade it
abbrev pub IsInvocation : List (List ℕ) → Invocation → Type 0
IsInvocation words AuditInput = words ≡ []
IsInvocation words (Audit file) = words ≡ codes "audit" ∷ file.now ∷ []
IsInvocation words (Show file) = words ≡ codes "show" ∷ file.now ∷ []
IsInvocation words (Upgrade file) = words ≡ codes "upgrade" ∷ file.now ∷ []

-- words that ask for a run; or `salvage FILE`; or `--help`; or `--version`
abbrev pub IsQuestion : List (List ℕ) → Question → Type 0
IsQuestion words (Run invocation) = IsInvocation words invocation
IsQuestion words (Salvage file) = words ≡ codes "salvage" ∷ file.now ∷ []
IsQuestion words Help = words ≡ codes "--help" ∷ []
IsQuestion words Version = words ≡ codes "--version" ∷ []
