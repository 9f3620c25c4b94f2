use Rattle.std.proofs.Common.{◌≡◌, List, ℕ, [], ◌∷◌, ◌++◌, map, string_bytes, subst, ◌∙◌}
use Rattle.std.specs.Prelude.{IfOk}
use Rattle.std.specs.List.{flat_map}
use Rattle.lra_timelines.specs.Drawn.{told_row, note_rows, framed, picture}
use Rattle.lra_timelines.proofs.drawing.draw.Goals as goal

pub returns : goal.returns
unfolding picture
returns c = λ J h.
    let first = c.in_ok-put_row.ensures [] c.new-drawing.ensures in
    let told = c.in_ok-put_told.ensures J _ h first in
    subst
    (λ (row : List ℕ). IfOk c.framed.result (λ text. string_bytes text
    ≡ framed c.args.head.now (row ∷ [] ++ map (told_row J) c.args.told.now
    ++ flat_map note_rows (map string_bytes c.args.notes.now))))
    (c.deref.ensures ∙ c.in_ok-first.ensures)
    (c.framed.ensures _ (c.in_ok-put_notes.ensures _ told))
