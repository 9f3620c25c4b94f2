-- A line of a script, by the call that it makes.
use Rattle.std.proofs.Common.{◌≡◌, ℕ, true, false, cond, List, ◌++◌, Option, Some, None, refl, sym, ap, subst, ◌∙◌}
use Rattle.std.specs.Prelude.{Err, option_map}
use Rattle.std.specs.Option.{option_map_or, option_and_then}
use Rattle.std.specs.Result.{is_err}
use Rattle.std.specs.Io.KnownBytes.{Appends}
use Rattle.lra_model.specs.declared.entry.Entry.{Entry}
use Rattle.lra_model.specs.History.{History}
use Rattle.lra_commands.specs.declared.refusal.Refusal.TheVariants.{NotAsked}
use Rattle.lra_commands.specs.Calls.{Command, Call}
use Rattle.lra_commands.specs.Answers.{answer, after_call}
use Rattle.lra_commands.specs.Counters.{terms_of}
use Rattle.lra_core.specs.Prepares.{is_suited}
use Rattle.lra_core.specs.Shape.{Shape}
use Rattle.lra_runs.specs.declared.player.Performed.{Performed}
use Rattle.lra_runs.specs.declared.player.Player.{Player}
use Rattle.lra_runs.specs.declared.requests.Request.{Request}
use Rattle.lra_runs.specs.declared.requests.Request.TheVariants as request
use Rattle.lra_runs.specs.declared.requests.RequestLine.{RequestLine}
use Rattle.lra_runs.specs.Script.{player, Holding, Stage, command_of, call_of, is_playable, given_by, line_answer}
use Rattle.lra_runs.specs.Script.{line_errand, left, with_given, after_line}
use Rattle.lra_runs.specs.Play.{answer_line, errand_line, marked_entries, call_text, played_line}
use Rattle.lra_runs.specs.inner.Players.{holding, stage_of, placed, IsPerformed, IsPlayedLine}
use Rattle.lra_runs.proofs.Placed.{called, answer_placed, growth_placed, errand_placed, suited_placed}

given_placed : (J : History) (by m : ℕ) (c : Command) → given_by J (called by m (placed c)) ≡ given_by J (called by m c)
given_placed J by m c = λ i. cond (is_err (answer_placed (terms_of player) J by m c i)) None
    (errand_placed player J by m c i)

text_placed : (J : History) (by m : ℕ) (c : Command) → call_text J (called by m (placed c))
    ≡ call_text J (called by m c)
text_placed J by m c =
    λ i. option_map_or errand_line (given_placed J by m c i) (answer_line (answer_placed (terms_of player) J by m c i))
    ++ marked_entries (growth_placed (terms_of player) J by m c i)

-- a line was played by performing its command
pub played_by : (p q : Player) (l : RequestLine) (c : Command) (mid : Shape) (x : Performed) (was now : Option (List ℕ))
    → command_of (holding p.held) l.request ≡ Some (placed c) → is_suited c ≡ true
    → IsPerformed p.coordinator (called l.by l.moment c) mid x was now → q.coordinator ≡ mid
    → ((ask : ℕ) → holding q.held ask ≡ with_given (left (holding p.held) l.request x.is_refused) x.given ask)
    → IsPlayedLine (stage_of p) l (stage_of q) x.is_refused was now
played_by p q l c mid x was now is suited d same held =
    record {
      playable = ap (λ (o : Option Command). option_map_or is_suited o true) is ∙ suited_placed c ∙ suited;
      refused = refused;
      stage = λ i. record {
        history = history i;
        held = λ ask. (held ask
            ∙ (λ j. with_given (left s.held l.request (refused j)) (errand j) ask)) i;
      };
      written = subst (Appends was now) (sym text) d.written;
    }
  where
    s : Stage
    s = stage_of p

    call : call_of s l ≡ Some (called l.by l.moment (placed c))
    call = ap (option_map (called l.by l.moment)) is

    answered : line_answer s l ≡ answer (terms_of player) s.history (called l.by l.moment c)
    answered = ap (λ (o : Option Call). option_map_or (answer (terms_of player) s.history) o (Err NotAsked)) call
        ∙ answer_placed (terms_of player) s.history l.by l.moment c

    refused : x.is_refused ≡ is_err (line_answer s l)
    refused = d.refused ∙ sym (ap is_err answered)

    errand : x.given ≡ line_errand s l
    errand = d.given ∙ sym (ap (option_and_then (given_by s.history)) call ∙ given_placed s.history l.by l.moment c)

    after : (after_line s l).history ≡ after_call (terms_of player) s.history (called l.by l.moment c)
    after = ap (λ (o : Option Call). option_map_or (after_call (terms_of player) s.history) o s.history) call
        ∙ ap (λ (es : List Entry). s.history ++ es) (growth_placed (terms_of player) s.history l.by l.moment c)

    history : q.coordinator.history ≡ (after_line s l).history
    history = ap (λ (d : Shape). d.history) same ∙ d.grown.history ∙ sym after

    text : played_line s l ≡ call_text s.history (called l.by l.moment c)
    text = ap (λ (o : Option Call). option_map_or (call_text s.history) o (answer_line (line_answer s l))) call
        ∙ text_placed s.history l.by l.moment c

left_refused : (held : Holding) (r : Request) → left held r true ≡ held
left_refused held (request.Reply ask outcome) = refl
left_refused held _ = refl

-- a line was refused, since no errand is held for its ask
pub refused_by : (p : Player) (l : RequestLine) (was now : Option (List ℕ)) → command_of (holding p.held) l.request
    ≡ None → Appends was now (answer_line (Err NotAsked)) → IsPlayedLine (stage_of p) l (stage_of p) true was now
refused_by p l was now is written =
    record {
      playable = ap (λ (o : Option Command). option_map_or is_suited o true) is;
      refused = sym (ap is_err answered);
      stage = λ i. record { history = sym after i; held = sym held i };
      written = subst (Appends was now) (sym text) written;
    }
  where
    s : Stage
    s = stage_of p

    call : call_of s l ≡ None
    call = ap (option_map (called l.by l.moment)) is

    answered : line_answer s l ≡ Err NotAsked
    answered = ap (λ (o : Option Call). option_map_or (answer (terms_of player) s.history) o (Err NotAsked)) call

    after : (after_line s l).history ≡ s.history
    after = ap (λ (o : Option Call). option_map_or (after_call (terms_of player) s.history) o s.history) call

    held : (after_line s l).held ≡ s.held
    held = (λ i. with_given (left s.held l.request (is_err (answered i)))
        (option_and_then (given_by s.history) (call i))) ∙ left_refused s.held l.request

    text : played_line s l ≡ answer_line (Err NotAsked)
    text = (λ i. option_map_or (call_text s.history) (call i) (answer_line (answered i)))

-- a line whose outcome its ask can't have isn't played
pub unplayable : (p : Player) (l : RequestLine) (c : Command) → command_of (holding p.held) l.request ≡ Some (placed c)
    → is_suited c ≡ false → is_playable (stage_of p) l ≡ false
unplayable p l c is bad = ap (λ (o : Option Command). option_map_or is_suited o true) is ∙ suited_placed c ∙ bad
