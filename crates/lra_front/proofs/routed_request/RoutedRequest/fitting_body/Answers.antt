use Rattle.std.proofs.Common.{sym, ◌∙◌, inr, refl}
use Rattle.serde_json.specs.View.{view}
use Rattle.lra_front.proofs.Bodies.{fits_value, unfit_value, no_value}
use Rattle.lra_front.proofs.routed_request.RoutedRequest.fitting_body.Goals as goal

pub returns-then-fits : goal.returns-then-fits
returns-then-fits c =
    fits_value c.args.operation _ c.args.self.now.body (view c.in-Ok-Some.value.now) c.requires
    (rw c.in-Ok-Some.field-0-is at c.in-Ok-Some.ensures.ok) (sym c.fits.ensures ∙ c.if-fits.true)

pub returns-else-fits : goal.returns-else-fits
returns-else-fits c =
    inr (
      refl,
      unfit_value c.args.operation _ c.args.self.now.body (view c.in-Ok-Some.value.now) c.requires
          (rw c.in-Ok-Some.field-0-is at c.in-Ok-Some.ensures.ok) (sym c.fits.ensures ∙ c.if-fits.false),
    )

pub returns-in-Ok-None : goal.returns-in-Ok-None
returns-in-Ok-None c = inr (
  refl,
  no_value c.args.operation _ c.args.self.now.body c.requires
      (rw c.in-Ok-None.field-0-is at c.in-Ok-None.ensures.ok),
)
