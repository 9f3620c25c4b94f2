-- The outcome of a call, by what the coordinator prepares.
use Rattle.std.proofs.Common.{◌≡◌, ℕ, ◌<◌, ◌^◌, arith, true, false, cond, List, [], ◌∷◌, ◌++◌, length, take, drop}
use Rattle.std.proofs.Common.{Option, None, refl, sym, ap, subst, ◌∙◌, append_assoc}
use Rattle.std.specs.Prelude.{All, codes, Result, Ok, Err}
use Rattle.std.specs.List.{flat_map}
use Rattle.std.specs.Option.{option_map_or}
use Rattle.std.specs.Result.{is_err}
use Rattle.std.specs.Io.KnownBytes.{Appends}
use Rattle.std.proofs.lemmas.List.{append-nil}
use Rattle.std.proofs.lemmas.List.Elements.{All-drop}
use Rattle.std.proofs.lemmas.List.Prefix.{front_rest}
use Rattle.std.proofs.lemmas.List.Folds.{flat_map-map}
use Rattle.lra_model.specs.declared.entry.Entry.{Entry}
use Rattle.lra_model.specs.declared.version.Version.{Version}
use Rattle.lra_model.specs.History.{History}
use Rattle.lra_lines.specs.Line.{line, HasLine}
use Rattle.lra_lines.specs.Lines.{lines_of}
use Rattle.lra_lines.proofs.Apart.{lines_of_entries}
use Rattle.lra_auditor.proofs.LegalTexts.{legal_has_text}
use Rattle.lra_commands.specs.declared.command.Told.{Told}
use Rattle.lra_commands.specs.declared.refusal.Refusal.{Refusal}
use Rattle.lra_commands.specs.Errands.{Asking}
use Rattle.lra_commands.specs.Calls.{Call}
use Rattle.lra_commands.specs.Blocks.{block}
use Rattle.lra_commands.specs.Answers.{answer, growth}
use Rattle.lra_commands.specs.Counters.{terms_of}
use Rattle.lra_commands.specs.Given.{errand_of}
use Rattle.lra_core.specs.Shape.{Shape, IsSame, IsGrown, IsCoordinator}
use Rattle.lra_core.proofs.Performing.{told_done}
use Rattle.lra_runs.specs.declared.player.Performed.{Performed}
use Rattle.lra_runs.specs.Script.{player, given_by}
use Rattle.lra_runs.specs.Play.{answer_line, errand_line, marked, marked_entries, call_text}
use Rattle.lra_runs.specs.inner.Players.{IsPerformed}
use Rattle.lra_runs.proofs.Growths.{growth_told, growth_refused}

-- ---- the lines of a block

-- the lines of entries are marked one by one
marked_are : (v : Version) (es : List Entry) → All (HasLine v) es → flat_map marked (lines_of (flat_map line es))
    ≡ marked_entries es
marked_are v es h = ap (flat_map marked) (lines_of_entries v es h) ∙ flat_map-map marked line es

-- one more line is marked
pub marked_more : (text out next rest front others : List ℕ) (n : ℕ) → flat_map marked (lines_of text) ≡ out
    ++ flat_map marked (lines_of rest) → lines_of rest ≡ take n rest ∷ lines_of (drop n rest) → front ≡ take n rest
    → others ≡ drop n rest → next ≡ (out ++ codes "+ ") ++ front → flat_map marked (lines_of text) ≡ next
    ++ flat_map marked (lines_of others)
marked_more text out next rest front others n h first f o made =
    h ∙ ap (λ (ls : List (List ℕ)). out ++ flat_map marked ls) (first ∙ (λ i. sym f i ∷ lines_of (sym o i)))
    ∙ sym (append_assoc out (marked front) (flat_map marked (lines_of others)))
    ∙ ap (λ (t : List ℕ). t ++ flat_map marked (lines_of others)) (sym (append_assoc out (codes "+ ") front) ∙ sym made)

-- all lines are marked
pub marked_all : (text out rest : List ℕ) → flat_map marked (lines_of text) ≡ out ++ flat_map marked (lines_of rest)
    → rest ≡ [] → out ≡ flat_map marked (lines_of text)
marked_all text out rest h end = sym (h ∙ ap (λ (r : List ℕ). out ++ flat_map marked (lines_of r)) end ∙ append-nil out)

-- the lines of the last entries of a coordinator's history are marked
pub marked_last : (d : Shape) (J : History) (es : List Entry) → IsCoordinator d → d.history ≡ J ++ es
    → flat_map marked (lines_of (flat_map line es)) ≡ marked_entries es
marked_last d J es h grown =
    let zero_instance : 0 < 2 ^ 60 = omega arith in
    let text = legal_has_text d.setting.version 0 d.history zero_instance h.history.legal in
    let all : All (HasLine d.setting.version) (J ++ es) = subst (All (HasLine d.setting.version)) grown text.lines in
    marked_are d.setting.version es (subst (All (HasLine d.setting.version)) (front_rest (J ++ es) J es refl)
    (All-drop (HasLine d.setting.version) (length J) (J ++ es) all))

-- ---- the outcome of a call

no_errand : (r : Result Told Refusal) (e : Option Asking) (x : Refusal) → r ≡ Err x → cond (is_err r) None e ≡ None
no_errand r e x h = ap (λ (y : Result Told Refusal). cond (is_err y) None e) h

its_errand : (r : Result Told Refusal) (e : Option Asking) (t : Told) → r ≡ Ok t → cond (is_err r) None e ≡ e
its_errand r e t h = ap (λ (y : Result Told Refusal). cond (is_err y) None e) h

pub performed_refused : (c d : Shape) (k : Call) (x : Performed) (r : Refusal) (was now : Option (List ℕ)) → c.setting
    ≡ player → IsSame c d → answer (terms_of d.setting) d.history k ≡ Err r
    → x.is_refused ≡ true → x.given ≡ None → Appends was now (answer_line (Err r)) → IsPerformed c k d x was now
performed_refused c d k x r was now setting same answered is_refused given written =
    record {
      refused = is_refused ∙ sym (ap is_err here);
      given = given ∙ sym none;
      grown = record {
        setting = same.setting;
        history = same.history ∙ sym
            (ap (λ (es : List Entry). c.history ++ es) nothing ∙ append-nil c.history);
      };
      written = subst (Appends was now) (sym text) written;
    }
  where
    here : answer (terms_of player) c.history k ≡ Err r
    here = (λ i. answer (terms_of (sym (same.setting ∙ setting) i)) (sym same.history i) k) ∙ answered

    none : given_by c.history k ≡ None
    none = no_errand (answer (terms_of player) c.history k) (errand_of player c.history k) r here

    nothing : growth (terms_of player) c.history k ≡ []
    nothing = growth_refused (terms_of player) c.history k r here

    text : call_text c.history k ≡ answer_line (Err r)
    text = (λ i. option_map_or errand_line (none i) (answer_line (here i)) ++ marked_entries (nothing i))
        ∙ append-nil (answer_line (Err r))

pub performed_told : (c m d : Shape) (k : Call) (x : Performed) (t : Told) (e : Option Asking) (es : List Entry)
    (was now : Option (List ℕ)) → c.setting ≡ player → IsSame c m → answer (terms_of m.setting) m.history k ≡ Ok t
    → block (terms_of m.setting) m.history k ≡ es → errand_of m.setting m.history k ≡ e → IsGrown m d (m.history ++ es)
    → x.is_refused ≡ false → x.given ≡ e
    → Appends was now (option_map_or errand_line e (answer_line (Ok t)) ++ marked_entries es)
    → IsPerformed c k d x was now
performed_told c m d k x t e es was now setting same answered made asked grown is_refused given written =
    record {
      refused = is_refused ∙ sym (ap is_err here);
      given = given ∙ sym errand;
      grown = record {
        setting = grown.setting ∙ same.setting;
        history = grown.history
            ∙ (λ i. same.history i ++ sym growing i);
      };
      written = subst (Appends was now) (sym text) written;
    }
  where
    here : answer (terms_of player) c.history k ≡ Ok t
    here = (λ i. answer (terms_of (sym (same.setting ∙ setting) i)) (sym same.history i) k) ∙ answered

    growing : growth (terms_of player) c.history k ≡ es
    growing = growth_told (terms_of player) c.history k t here ∙ (λ i. block (terms_of (sym (same.setting ∙ setting) i))
        (sym same.history i) k) ∙ made

    errand : given_by c.history k ≡ e
    errand = its_errand (answer (terms_of player) c.history k) (errand_of player c.history k) t here
        ∙ (λ i. errand_of (sym (same.setting ∙ setting) i) (sym same.history i) k) ∙ asked

    text : call_text c.history k ≡ option_map_or errand_line e (answer_line (Ok t)) ++ marked_entries es
    text = λ i. option_map_or errand_line (errand i) (answer_line (here i)) ++ marked_entries (growing i)

-- a call that writes nothing gives no errand
pub none_given : (m : Shape) (k : Call) (t : Told) → answer (terms_of m.setting) m.history k ≡ Ok t
    → block (terms_of m.setting) m.history k ≡ [] → errand_of m.setting m.history k ≡ None
none_given m k t answered nothing = sym (told_done m m k t (record { setting = refl; history = refl }) answered
    nothing).errand
