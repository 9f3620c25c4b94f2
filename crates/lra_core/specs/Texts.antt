-- What an audit says of the texts of histories that commands make.
use Rattle.std.specs.Prelude.{◌≡◌, ℕ, ◌<◌, ◌^◌, List, All}
use Rattle.lra_model.specs.History.{History}
use Rattle.lra_lines.specs.Line.{text}
use Rattle.lra_course.specs.declared.verdict.Verdict.{Verdict}
use Rattle.lra_course.specs.declared.verdict.Verdict.TheVariants.{Sound}
use Rattle.lra_auditor.specs.Verdicts.{IsVerdict}
use Rattle.lra_totals.specs.Summaries.{summary}
use Rattle.lra_commands.specs.declared.limits.Terms.{Terms}
use Rattle.lra_commands.specs.Terms.{AreKeepable}
use Rattle.lra_commands.specs.Calls.{Call, IsCall}
use Rattle.lra_commands.specs.Runs.{after_calls, IsLawful}

-- bytes have the verdict Sound, with the history's summary, and no other
pub record IsSoundAlone (bytes : List ℕ) (J : History) : Type 0 where
  pub sound : IsVerdict bytes (Sound (summary J))
  pub alone : (x : Verdict) → IsVerdict bytes x → x ≡ Sound (summary J)

-- from the history of a new or a reopened coordinator, whatever calls are made, the journal's text is sound, whichever
-- its version and instance
abbrev pub CallsMakeSoundTexts : Type 0
CallsMakeSoundTexts =
    (s : Terms) (i : ℕ) (J : History) (cs : List Call) → i < 2 ^ 60 → AreKeepable s.limits → IsLawful s J
    → All IsCall cs → IsSoundAlone (text s.version i (after_calls s J cs)) (after_calls s J cs)
