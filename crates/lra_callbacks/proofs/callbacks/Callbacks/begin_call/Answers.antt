use Rattle.std.proofs.Common.{◌∙◌}
use Rattle.lra_callbacks.proofs.Slots.{kept_errands}
use Rattle.lra_callbacks.proofs.callbacks.Callbacks.begin_call.Goals as goal

pub returns-in-Later : goal.returns-in-Later
returns-in-Later g c = kept_errands c.self.inside.calls.slots c.args.key c.in-Some.call.now c.begin.new.self
    (λ call. call.attempt.errand) c.in-Some.ensures.value c.begin.ensures.errand ∙ c.self.view_is

pub returns-in-Never : goal.returns-in-Never
returns-in-Never g c = kept_errands c.self.inside.calls.slots c.args.key c.in-Some.call.now c.begin.new.self
    (λ call. call.attempt.errand) c.in-Some.ensures.value c.begin.ensures.errand ∙ c.self.view_is

pub returns-in-Now : goal.returns-in-Now
returns-in-Now g c = kept_errands c.self.inside.calls.slots c.args.key c.in-Some.call.now c.begin.new.self
    (λ call. call.attempt.errand) c.in-Some.ensures.value c.begin.ensures.errand ∙ c.self.view_is
