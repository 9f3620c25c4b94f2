use Rattle.std.proofs.Common.{List, ℕ, ◌++◌, string_bytes, ap, ◌∙◌}
use Rattle.std.specs.Prelude.{codes}
use Rattle.std.specs.Fmt.{decimal}
use Rattle.std.proofs.lemmas.Result.{IfOk-weaker}
use Rattle.lra_timelines.specs.Waits.{times_text}
use Rattle.lra_timelines.proofs.waits.called_line.Goals as goal

pub returns : goal.returns
returns c =
    IfOk-weaker c.format.result _ _ (λ text is.
    is
    ∙ ap (λ (x : List ℕ). codes "member " ++ (decimal c.args.member ++
    (codes " was called " ++ (x ++ (codes " for that, last " ++ (string_bytes c.in_ok-last.last ++ codes "\n"))))))
    c.in_ok-times.ensures
    ∙ ap (λ (x : List ℕ). codes "member " ++ (decimal c.args.member ++
    (codes " was called " ++ (times_text c.args.count ++ (codes " for that, last " ++ (x ++ codes "\n"))))))
    c.in_ok-last.ensures)
    c.format.ensures.ok
