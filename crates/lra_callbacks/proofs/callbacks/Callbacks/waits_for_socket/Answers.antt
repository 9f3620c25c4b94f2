use Rattle.std.proofs.Common.{◌∙◌}
use Rattle.lra_callbacks.proofs.Slots.{kept_errands}
use Rattle.lra_callbacks.proofs.callbacks.Callbacks.waits_for_socket.Goals as goal

pub returns : goal.returns
returns g c = kept_errands c.self.inside.calls.slots c.args.key c.in-Some.call.now c.start_over.new.self
    (λ call. call.attempt.errand) c.in-Some.ensures.value c.start_over.ensures ∙ c.self.view_is
