use Rattle.lra_callbacks.specs.Outcomes.{OfGroup}
use Rattle.lra_callbacks.proofs.ResponseParse.{own_comes}
use Rattle.lra_callbacks.proofs.Slots.{given_back, let_go}
use Rattle.lra_callbacks.proofs.callbacks.Callbacks.remove.Goals as goal

pub returns-clause-some : goal.returns-clause-some
returns-clause-some g c =
    given_back c.self.inside.calls.slots c.try_remove.new.self.slots c.args.key c.in-Some.call
    (λ call. call.attempt.errand) c.args.self.now c.finish-came.result
    (λ n came. OfGroup g.G.SyncGroup.keeps n came.0.ask came.0.kind came.1) c.self.view_is c.in-Some.ensures.value
    c.in-Some.ensures.updates.changed c.in-Some.ensures.updates.others
    c.finish-came.ensures.errand (own_comes g.G.SyncGroup.keeps c.in-Some.call.attempt.instance c.finish-came.result
    c.in-Some.call.attempt.errand c.finish-came.ensures.came)

pub returns-clause-none : goal.returns-clause-none
returns-clause-none g c =
    let_go c.self.inside.calls.slots c.try_remove.new.self.slots c.args.key c.in-Some.call (λ call. call.attempt.errand)
    c.args.self.now c.finish-came.result
    c.self.view_is c.in-Some.ensures.value c.in-Some.ensures.updates.changed c.in-Some.ensures.updates.others
    c.finish-came.ensures.errand
