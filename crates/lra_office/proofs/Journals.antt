-- The whole lines of an office's journal are sound.
use Rattle.std.proofs.Common.{◌≡◌, ℕ, ◌<◌, ◌^◌, Bool, true, false, List, [], ◌++◌, length, take, refl, sym, ap, ◌∙◌}
use Rattle.std.proofs.Common.{subst, append_assoc, append-nil}
use Rattle.std.specs.Prelude.{All}
use Rattle.std.specs.List.{flat_map}
use Rattle.std.proofs.lemmas.Bool.{true≢false}
use Rattle.std.proofs.lemmas.List.Concat.{flat_map-append}
use Rattle.std.proofs.lemmas.List.Elements.{All-drop}
use Rattle.std.proofs.lemmas.List.Prefix.{front_rest}
use Rattle.lra_model.specs.declared.entry.Entry.{Entry}
use Rattle.lra_model.specs.History.{History}
use Rattle.lra_model.specs.Rules.{is_legal}
use Rattle.lra_laws.proofs.Legal.{legal_begins}
use Rattle.lra_ids.specs.Addresses.{is_address}
use Rattle.lra_lines.specs.Line.{line, header, text, HasLine}
use Rattle.lra_auditor.proofs.LegalTexts.{legal_has_text}
use Rattle.lra_commands.specs.Answers.{growth}
use Rattle.lra_commands.specs.Counters.{Setting, terms_of}
use Rattle.lra_commands.specs.Runs.{IsLawful}
use Rattle.lra_commands.specs.Terms.{AreKeepable}
use Rattle.lra_commands.proofs.Keeps.{call_keeps}
use Rattle.lra_core.specs.Texts.{IsSoundAlone}
use Rattle.lra_core.proofs.Sounds.{sound_alone}
use Rattle.lra_office.specs.Desks.{IsCut}
use Rattle.lra_office.specs.Wholes.{whole_lines}
use Rattle.lra_office.specs.Journals.{HasSoundJournal, JournalsAreSound}
use Rattle.lra_office.proofs.Torn.{IsCutAfter, cut_lines, text_whole}

-- a journal from which nothing was torn
unbroken : (g : Setting) (J : History) (journal : List ℕ) (b : Bool) → g.instance < 2 ^ 60 → IsLawful (terms_of g) J
    → journal ≡ text g.version g.instance J → HasSoundJournal J journal b
unbroken g J journal b small k is =
    let same : whole_lines journal ≡ journal =
    ap whole_lines (is ∙ sym (append-nil (text g.version g.instance J))) ∙ text_whole g.version g.instance J []
    ∙ append-nil (text g.version g.instance J) ∙ sym is in
    record {
      cut = [];
      sound = subst (λ (bytes : List ℕ). IsSoundAlone bytes (J ++ []))
          (ap (text g.version g.instance) (append-nil J) ∙ sym is ∙ sym same)
          (sound_alone g.version g.instance (J ++ []) small (ap (is_legal g.version is_address) (append-nil J)
          ∙ k.legal));
      going = λ h. (refl, same);
    }

-- a journal whose last block was cut short
broken : (g : Setting) (J : History) (journal tail : List ℕ) → g.instance < 2 ^ 60 → AreKeepable g.limits
    → IsLawful (terms_of g) J → journal ≡ text g.version g.instance J ++ tail → IsCut g J tail
    → HasSoundJournal J journal true
broken g J journal tail small limits k is torn =
    record {
      cut = after.front;
      sound = subst (λ (bytes : List ℕ). IsSoundAlone bytes (J ++ after.front)) (sym whole)
          (sound_alone g.version g.instance (J ++ after.front) small legal);
      going = λ h. absurd (true≢false h);
    }
  where
    G : List Entry
    G = growth (terms_of g) J torn.call

    grown : is_legal g.version is_address (J ++ G) ≡ true
    grown = (call_keeps (terms_of g) J torn.call limits k torn.possible).legal

    lines : All (HasLine g.version) G
    lines = subst (All (HasLine g.version)) (front_rest (J ++ G) J G refl)
        (All-drop (HasLine g.version) (length J) (J ++ G) (legal_has_text g.version g.instance (J ++ G) small
        grown).lines)

    after : IsCutAfter G (take torn.count (flat_map line G))
    after = cut_lines g.version G lines torn.count

    legal : is_legal g.version is_address (J ++ after.front) ≡ true
    legal = legal_begins g.version is_address (J ++ after.front) after.rest
        (ap (is_legal g.version is_address) (append_assoc J after.front after.rest
        ∙ ap (λ (es : List Entry). J ++ es) (sym after.parts)) ∙ grown)

    whole : whole_lines journal ≡ text g.version g.instance (J ++ after.front)
    whole = ap whole_lines is ∙ text_whole g.version g.instance J tail
        ∙ ap (λ (xs : List ℕ). text g.version g.instance J ++ xs) (ap whole_lines torn.front ∙ after.whole)
        ∙ append_assoc (header g.version g.instance) (flat_map line J) (flat_map line after.front)
        ∙ ap (λ (xs : List ℕ). header g.version g.instance ++ xs) (sym (flat_map-append line J after.front))

pub journals_sound : JournalsAreSound
journals_sound o c contents count is_stopped d small same = by is_stopped refl
  where
    k : IsLawful (terms_of o.setting) c.history
    k = subst (λ (g : Setting). IsLawful (terms_of g) c.history) same d.coordinator.history

    by : (b : Bool) → is_stopped ≡ b → HasSoundJournal c.history (o.front ++ d.written.taken) is_stopped
    by false h =
        let none : d.written.tail ≡ [] = d.written.going h in
        unbroken o.setting c.history (o.front ++ d.written.taken) is_stopped small k
        (d.written.text ∙ ap (λ (t : List ℕ). text o.setting.version o.setting.instance c.history ++ t) none
        ∙ append-nil (text o.setting.version o.setting.instance c.history))
    by true h =
        subst (λ (b : Bool). HasSoundJournal c.history (o.front ++ d.written.taken) b) (sym h)
        (broken o.setting c.history (o.front ++ d.written.taken) d.written.tail small
        (subst (λ (g : Setting). AreKeepable g.limits) same d.coordinator.limits) k d.written.text
        (d.written.stopped h))
