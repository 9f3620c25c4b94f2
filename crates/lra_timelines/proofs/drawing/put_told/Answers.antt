use Rattle.std.proofs.Common.{List, ℕ, [], ◌∷◌, ◌++◌, map, take, ap, subst, ◌∙◌, arith}
use Rattle.lra_timelines.specs.Drawn.{told_row}
use Rattle.lra_timelines.specs.inner.Draws.{Draws}
use Rattle.lra_timelines.proofs.Rows.{one_more}
use Rattle.lra_timelines.proofs.drawing.put_told.Goals as goal

pub loop-place-preserved : goal.loop-place-preserved
loop-place-preserved c = λ J cs h draws.
    let before = cs ++ map (told_row J) (take c.loop-place.place c.args.told.now) in
    subst (Draws c.put_row.new.self)
    (ap (λ (x : List ℕ). before ++ x ∷ []) (c.deref.ensures ∙ c.in_ok-content.ensures J h)
    ∙ one_more (told_row J) c.args.told.now c.loop-place.place _ cs (omega (arith, c.loop-place-test.true)))
    (c.in_ok-put_row.ensures before (c.loop-place.invariant J cs h draws))
