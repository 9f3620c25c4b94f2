use Rattle.std.proofs.Common.{◌∙◌}
use Rattle.lra_callbacks.proofs.Slots.{kept_errands}
use Rattle.lra_callbacks.proofs.callbacks.Callbacks.start.Goals as goal

pub returns-then-not-allow : goal.returns-then-not-allow
returns-then-not-allow g c = kept_errands c.self.inside.calls.slots c.args.key c.in-Some.call.now c.open_socket.new.self
    (λ call. call.attempt.errand) c.in-Some.ensures.value c.open_socket.ensures ∙ c.self.view_is

pub returns : goal.returns
returns g c = c.connect.ensures ∙ (kept_errands c.self.inside.calls.slots c.args.key c.in-Some.call.now
    c.open_socket.new.self (λ call. call.attempt.errand) c.in-Some.ensures.value c.open_socket.ensures ∙ c.self.view_is)
