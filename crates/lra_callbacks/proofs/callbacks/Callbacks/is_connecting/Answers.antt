use Rattle.std.proofs.Common.{◌∙◌}
use Rattle.lra_callbacks.proofs.Slots.{kept_errands}
use Rattle.lra_callbacks.proofs.callbacks.Callbacks.is_connecting.Goals as goal

pub returns-in-Some-target : goal.returns-in-Some-target
returns-in-Some-target g c = kept_errands c.self.inside.calls.slots c.args.key c.in-Some.call.now c.connect.new.self
    (λ call. call.attempt.errand) c.in-Some.ensures.value c.connect.ensures ∙ c.self.view_is

pub returns-in-None : goal.returns-in-None
returns-in-None g c = c.end_unconnected.ensures ∙ (kept_errands c.self.inside.calls.slots c.args.key
    c.in-Some.call.now c.close_socket.new.self (λ call. call.attempt.errand) c.in-Some.ensures.value
    c.close_socket.ensures
    ∙ c.self.view_is)
