-- Result of an audit of a journal that an opening was fed.
use Rattle.std.proofs.Common.{◌≡◌, ℕ, List, Option, refl, sym, subst}
use Rattle.lra_model.specs.declared.rule.Rule.{Rule}
use Rattle.lra_model.specs.declared.version.Version.{Version}
use Rattle.lra_model.specs.History.{History}
use Rattle.lra_course.specs.declared.verdict.Verdict.TheVariants.{Sound}
use Rattle.lra_totals.specs.Summaries.{summary}
use Rattle.lra_auditor.specs.Verdicts.{IsTextOf, IsFault}
use Rattle.lra_core.specs.Fed.{Fed, IsFed}
use Rattle.lra_office.specs.Wholes.{whole_lines}
use Rattle.lra_office.proofs.Torn.{fed_front}
use Rattle.lra_audits.specs.Report.{ReportsAudit}
use Rattle.lra_opening.specs.Ends.{IsFoundSound, IsRefused}
use Rattle.lra_opening.specs.Places.{IsRead}

-- if the whole lines have a fault, the journal is refused
pub refused : (found before after : Option (List ℕ)) (o : Fed) (line : ℕ) (rule : Rule) (status : ℕ) → IsRead found o
    → IsFault o.front line rule
    → ((input : List ℕ) → IsFault input line rule → ReportsAudit input status before after) → status ≡ 1
    → IsRefused found before after status
refused found before after o line rule status read fault reported one = record {
  journal = read.bytes;
  read = read.all;
  reported = subst (λ (bytes : List ℕ). ReportsAudit bytes status before after) (sym (fed_front read.bytes o read.fed))
      (reported o.front fault);
  unsound = one;
}

-- if the whole lines are the text of a legal history, an audit finds them sound
pub found_sound : (bytes : List ℕ) (o : Fed) → IsFed bytes o → (v : Version) × (i : ℕ) × (J : History)
    × IsTextOf v i J o.front → IsFoundSound (whole_lines bytes)
found_sound bytes o fed (v, i, J, text) =
    subst IsFoundSound (sym (fed_front bytes o fed))
    (record { verdict = Sound (summary J); right = (v, i, J, text, refl); sound = refl })
