use Rattle.std.proofs.Common.{◌≡◌, ◌∙◌, Some, None, Ok, inl, sym, ap, subst, arith}
use Rattle.std.specs.Prelude.{◌⊎◌}
use Rattle.lra_courier.specs.declared.callback_exchange.Step.{Step}
use Rattle.lra_courier.specs.Carried.{Carried, IsSent, Comes, tells}
use Rattle.lra_courier.specs.Steps.{StepsTo}
use Rattle.lra_courier.specs.inner.Holding.{carried_of}
use Rattle.lra_courier.proofs.CarriedLemmas.{look_comes}
use Rattle.lra_courier.proofs.callback_exchange.CallbackExchange.next.Goals as goal

pub tell-requires-in-Some-Ok : goal.tell-requires-in-Some-Ok
tell-requires-in-Some-Ok c =
    let h = carried_of c.self.inside in
    let sent : IsSent h = omega (
      arith,
      c.if-self-len.false,
      c.len.ensures,
      c.self.invariant.carried.within,
      c.self.inside.request.ok.0,
    ) in
    look_comes h c.as_slice.result.now c.in_ok-outcome.field-0 c.in-Some-Ok.outcome sent c.as_slice.ensures.value
    c.in_ok-outcome.ensures.looks
    (c.in-Some-Ok.is ∙ ap Some c.in-Some-Ok.field-0-is)

pub returns-in-Some-Ok : goal.returns-in-Some-Ok
returns-in-Some-Ok c =
    let h = carried_of c.self.inside in
    let sent : IsSent h = omega (
      arith,
      c.if-self-len.false,
      c.len.ensures,
      c.self.invariant.carried.within,
      c.self.inside.request.ok.0,
    ) in
    let comes : Comes h (Ok c.in-Some-Ok.outcome) = look_comes h c.as_slice.result.now c.in_ok-outcome.field-0
    c.in-Some-Ok.outcome sent c.as_slice.ensures.value c.in_ok-outcome.ensures.looks
    (c.in-Some-Ok.is ∙ ap Some c.in-Some-Ok.field-0-is) in
    let new = c.tell-in-Some-Ok.new.self in
    subst (λ (step : Step). StepsTo step c.args.self.now new) (sym c.tell-in-Some-Ok.ensures.result)
    (subst (λ (old : Carried). ((old.came ≡ None) ⊎ (old.came ≡ Some (Ok c.in-Some-Ok.outcome)))
    × Comes old (Ok c.in-Some-Ok.outcome) × (new ≡ tells old (Ok c.in-Some-Ok.outcome)))
    c.self.view_is (inl c.in_default.is, comes, c.tell-in-Some-Ok.ensures.new))
