use Rattle.std.proofs.Common.{◌∙◌}
use Rattle.lra_callbacks.proofs.Slots.{kept_errands}
use Rattle.lra_callbacks.proofs.callbacks.Callbacks.advance.Goals as goal

pub returns-in-Waits : goal.returns-in-Waits
returns-in-Waits g c = kept_errands c.self.inside.calls.slots c.args.key c.in-Some.call.now c.advance.new.self
    (λ call. call.attempt.errand) c.in-Some.ensures.value c.advance.ensures ∙ c.self.view_is

pub returns-in-Connected : goal.returns-in-Connected
returns-in-Connected g c = kept_errands c.self.inside.calls.slots c.args.key c.in-Some.call.now c.advance.new.self
    (λ call. call.attempt.errand) c.in-Some.ensures.value c.advance.ensures ∙ c.self.view_is

pub returns-in-Refused : goal.returns-in-Refused
returns-in-Refused g c = c.connect.ensures ∙ (kept_errands c.self.inside.calls.slots c.args.key c.in-Some.call.now
    c.advance.new.self (λ call. call.attempt.errand) c.in-Some.ensures.value c.advance.ensures ∙ c.self.view_is)

pub returns-in-Ended : goal.returns-in-Ended
returns-in-Ended g c = c.finish.ensures ∙ (kept_errands c.self.inside.calls.slots c.args.key c.in-Some.call.now
    c.advance.new.self (λ call. call.attempt.errand) c.in-Some.ensures.value c.advance.ensures ∙ c.self.view_is)
