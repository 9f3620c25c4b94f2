-- The verdict on a history's entries, in the words of histories.
use Rattle.std.specs.Prelude.{◌≡◌, ℕ, Bool, true, false}
use Rattle.std.specs.Option.{option_map_or}
use Rattle.lra_model.specs.declared.version.Version.{Version}
use Rattle.lra_model.specs.History.{History}
use Rattle.lra_model.specs.Rules.{Fault, first_fault}
use Rattle.lra_addresses.specs.Addresses.{is_address}
use Rattle.lra_totals.specs.Summaries.{summary}
use Rattle.lra_course.specs.declared.verdict.Verdict.{Verdict}
use Rattle.lra_course.specs.declared.verdict.Verdict.TheVariants.{Sound, Unsound}

-- the verdict on entries: their first fault, as if a header stood before them, else their summary
abbrev pub verdict_on : Version → History → Verdict
verdict_on v J = option_map_or (λ (f : Fault). Unsound f.line f.rule) (first_fault v is_address J) (Sound (summary J))

-- whether a verdict is Sound
abbrev pub is_sound : Verdict → Bool
is_sound (Sound s) = true
is_sound (Unsound line rule) = false
