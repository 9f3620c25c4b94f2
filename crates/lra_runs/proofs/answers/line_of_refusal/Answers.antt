use Rattle.std.proofs.Common.{◌≡◌, ◌++◌, ◌∷◌, [], List, ℕ, refl, ap}
use Rattle.std.specs.Prelude.{string_bytes, codes, Err}
use Rattle.std.proofs.lemmas.Result.{IfOk-weaker}
use Rattle.lra_commands.specs.Names.{refusal_name}
use Rattle.lra_verdict_lines.specs.VerdictLines.{joined, line_feed}
use Rattle.lra_runs.specs.Play.{refusal_detail, answer_line}
use Rattle.lra_runs.proofs.answers.line_of_refusal.Goals as goal

pub returns-in-None : goal.returns-in-None
returns-in-None c =
    let none : refusal_detail c.args.refusal ≡ [] = rw (← c.detail.ensures, c.in-None.is) refl in
    let whole : answer_line (Err c.args.refusal) ≡ codes "refused " ++ refusal_name c.args.refusal
    ++ line_feed = ap (λ (d : List ℕ). joined (codes "refused " ∷ refusal_name c.args.refusal ∷ d ∷ line_feed
    ∷ [])) none in
    IfOk-weaker c.format-in-None.result _ (λ text. string_bytes text ≡ answer_line (Err c.args.refusal))
    (λ text h. rw (whole, ← c.name-name.ensures) h) c.format-in-None.ensures.ok
