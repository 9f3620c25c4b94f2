-- What every verdict owes to the bytes that it is on.
use Rattle.std.specs.Prelude.{◌≡◌, ℕ, ◌<◌, ◌^◌, true, List}
use Rattle.lra_model.specs.declared.version.Version.{Version}
use Rattle.lra_model.specs.History.{History}
use Rattle.lra_model.specs.Rules.{is_legal}
use Rattle.lra_lines.specs.Line.{text}
use Rattle.lra_addresses.specs.Addresses.{is_address}
use Rattle.lra_course.specs.declared.verdict.Verdict.{Verdict}
use Rattle.lra_course.specs.declared.verdict.Verdict.TheVariants.{Sound}
use Rattle.lra_auditor.specs.Verdicts.{IsVerdict}
use Rattle.lra_totals.specs.Summaries.{summary}

-- no bytes have two verdicts
abbrev pub BytesHaveOneVerdict : Type 0
BytesHaveOneVerdict = (bytes : List ℕ) (x y : Verdict) → IsVerdict bytes x → IsVerdict bytes y → x ≡ y

-- the one verdict on the text of a legal history is that it is sound, with the history's summary
abbrev pub LegalTextsAreSound : Type 0
LegalTextsAreSound =
    (v : Version) (i : ℕ) (J : History) (x : Verdict) → i < 2 ^ 60 → is_legal v is_address J ≡ true
    → IsVerdict (text v i J) x → x ≡ Sound (summary J)
