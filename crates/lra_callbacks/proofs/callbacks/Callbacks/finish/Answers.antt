use Rattle.std.proofs.Common.{◌∙◌}
use Rattle.lra_callbacks.proofs.Slots.{kept_errands}
use Rattle.lra_callbacks.proofs.callbacks.Callbacks.finish.Goals as goal

pub returns-then-close_socket : goal.returns-then-close_socket
returns-then-close_socket g c = kept_errands c.self.inside.calls.slots c.args.key c.in-Some.call.now
    c.close_socket.new.self
    (λ call. call.attempt.errand) c.in-Some.ensures.value c.close_socket.ensures ∙ c.self.view_is

pub returns-else-close_socket : goal.returns-else-close_socket
returns-else-close_socket g c = kept_errands c.self.inside.calls.slots c.args.key c.in-Some.call.now
    c.close_socket.new.self
    (λ call. call.attempt.errand) c.in-Some.ensures.value c.close_socket.ensures ∙ c.self.view_is
