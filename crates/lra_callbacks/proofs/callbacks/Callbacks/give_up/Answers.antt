use Rattle.std.proofs.Common.{◌∙◌}
use Rattle.lra_callbacks.proofs.Slots.{kept_errands}
use Rattle.lra_callbacks.proofs.callbacks.Callbacks.give_up.Goals as goal

pub returns-then-give_up : goal.returns-then-give_up
returns-then-give_up g c = kept_errands c.self.inside.calls.slots c.args.key c.in-Some.call.now c.give_up.new.self
    (λ call. call.attempt.errand) c.in-Some.ensures.value c.give_up.ensures.errand ∙ c.self.view_is

pub returns-else-give_up : goal.returns-else-give_up
returns-else-give_up g c = kept_errands c.self.inside.calls.slots c.args.key c.in-Some.call.now c.give_up.new.self
    (λ call. call.attempt.errand) c.in-Some.ensures.value c.give_up.ensures.errand ∙ c.self.view_is
