-- The text of a history that commands make is sound.
use Rattle.std.proofs.Common.{ℕ, ◌<◌, ◌^◌, ◌≡◌, true, refl}
use Rattle.lra_model.specs.declared.version.Version.{Version}
use Rattle.lra_model.specs.History.{History}
use Rattle.lra_model.specs.Rules.{is_legal}
use Rattle.lra_ids.specs.Addresses.{is_address}
use Rattle.lra_lines.specs.Line.{text}
use Rattle.lra_auditor.proofs.LegalTexts.{legal_has_text}
use Rattle.lra_auditor.proofs.OneVerdict.{legal_text_sound}
use Rattle.lra_commands.proofs.Keeps.{calls_keep}
use Rattle.lra_core.specs.Texts.{IsSoundAlone, CallsMakeSoundTexts}

-- the text of a legal history is sound, and nothing else
pub sound_alone : (v : Version) (i : ℕ) (J : History) → i < 2 ^ 60 → is_legal v is_address J ≡ true
    → IsSoundAlone (text v i J) J
sound_alone v i J h l = record {
  sound = (v, i, J, record { spelled = legal_has_text v i J h l; legal = l; whole = refl }, refl);
  alone = λ x k. legal_text_sound v i J x h l k;
}

pub calls_make_sound : CallsMakeSoundTexts
calls_make_sound s i J cs h l k calls = sound_alone s.version i _ h (calls_keep s J cs l k calls).legal
