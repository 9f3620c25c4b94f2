use Rattle.lra_callbacks.proofs.ResponseParse.{comes_of}
use Rattle.lra_callbacks.proofs.callbacks.CallbacksCallbackPool.done.Goals as goal

pub returns-in-Some-clause-some : goal.returns-in-Some-clause-some
returns-in-Some-clause-some g c = comes_of g.G.SyncGroup.keeps c.args.self.now _ c.remove.new.self c.remove.result
    c.self.view_is c.remove.ensures.some
