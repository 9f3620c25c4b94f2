use Rattle.std.proofs.Common.{ap}
use Rattle.slab.specs.Slab.{Slab}
use Rattle.lra_callbacks.proofs.Slots.{taken_in}
use Rattle.lra_callbacks.proofs.callbacks.CallbacksCallbackPool.take.Goals as goal

pub returns-clause-ok : goal.returns-clause-ok
returns-clause-ok g c =
    taken_in c.self.inside.calls.slots c.reserve.new.self.slots c.insert_reserved-key.new.self.slots
    c.insert_reserved-key.result c.new-call.result (c.args.errand, c.args.position) (λ call. call.attempt.errand)
    c.args.self.now
    c.self.view_is (ap (λ (s : Slab _). s.slots) c.reserve.ensures.rest_kept) c.insert_reserved-key.ensures.was_vacant
    c.insert_reserved-key.ensures.updates.changed
    c.insert_reserved-key.ensures.updates.others c.new-call.ensures.errand
