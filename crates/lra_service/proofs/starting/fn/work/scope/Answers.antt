use Rattle.std.specs.Prelude.{◌≡◌, List, ◌∷◌, All}
use Rattle.std.proofs.Common.{rules, sym}
use Rattle.std.proofs.lemmas.List.Elements.{All-tail}
use Rattle.lra_service.specs.inner.Opened.{IsAt}
use Rattle.lra_service.proofs.starting.fn.work.scope.Goals as goal

-- what holds of each item of a list holds of each after the first
behind_first : {X : Type 0} (P : X → Type 0) (x : X) (xs ys : List X) → ys ≡ x ∷ xs → All P ys → All P xs
behind_first P x xs ys is all = All-tail P x xs (rw is at all)

-- the job that comes is the first of those that are still to come
pub spawn_scoped-started-requires-after_bounds : goal.spawn_scoped-started-requires-after_bounds
spawn_scoped-started-requires-after_bounds g c κs within =
    let step = c.in-Some.ensures.steps in let h = c.loop-job.invariant.2 0 c.in-Some.job in grind rules

-- and the others come after it
pub loop-job-preserved-else-is_err : goal.loop-job-preserved-else-is_err
loop-job-preserved-else-is_err g c =
    let step = c.in-Some.ensures.steps in (
      tt,
      tt,
      behind_first (λ job. IsAt g.V.LockedService.setting g.V.LockedService.covers
          c.captures.office.now job.1) _ _ _ step.0 c.loop-job.invariant.2,
    )

-- at first all are to come
pub loop-job-init : goal.loop-job-init
loop-job-init g c = (tt, tt, (rw (sym c.into_iter-job-iterator.ensures.into_iter_gives.0) at c.requires.3))
