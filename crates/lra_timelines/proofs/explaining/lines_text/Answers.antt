use Rattle.std.proofs.Common.{List, ℕ, ◌++◌, ap, ◌∙◌}
use Rattle.std.specs.List.{flat_map}
use Rattle.lra_timelines.specs.Sentences.{told_line}
use Rattle.lra_timelines.proofs.Writing.{joined_texts}
use Rattle.lra_timelines.proofs.explaining.lines_text.Goals as goal

pub returns : goal.returns
returns c = λ J h.
    c.in_ok-push_str.ensures.bytes
    ∙ ap (λ (t : List ℕ). t ++ c.deref.result.now) (c.in_ok-push_told.ensures J h
    ∙ ap (λ (t : List ℕ). t ++ flat_map (told_line J) c.args.told.now) c.in_ok-text.ensures.ok)
    ∙ ap (λ (t : List ℕ). (c.args.head.now ++ flat_map (told_line J) c.args.told.now) ++ t)
    (c.deref.ensures ∙ c.in_ok-notes.ensures.ok ∙ joined_texts c.args.notes.now)
