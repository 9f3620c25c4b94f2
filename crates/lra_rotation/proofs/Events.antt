-- A step is an event.
use Rattle.std.proofs.Common.{Option, sym, ap, ◌∙◌}
use Rattle.lra_rotation.specs.declared.action.RotationAction.{RotationAction}
use Rattle.lra_rotation.specs.declared.action.StepResult.TheVariants as result
use Rattle.lra_rotation.specs.Runs.{did, did_fail}
use Rattle.lra_rotation.specs.Steps.{StepsAreEvents}

pub steps_are_events : StepsAreEvents
steps_are_events w look took result.Nothing t h = h.1 ∙ sym (ap (λ (o : Option RotationAction). (did w o).state) h.0)
steps_are_events w look took (result.Done a) t h = h.1 ∙ sym (ap (λ (o : Option RotationAction). (did w o).state) h.0)
steps_are_events w look took (result.Failed a) t h =
    h.1 ∙ sym (ap (λ (o : Option RotationAction). (did_fail w took o).state) h.0)
