use Rattle.lra_registry.proofs.Grows.{keeps_on, moved_on}
use Rattle.lra_registry.proofs.set_members.SetMembers.catch_up.Goals as goal

pub returns-clause-moved : goal.returns-clause-moved
returns-clause-moved g c = moved_on _ _ _ c.join_all-follows.ensures.moved c.leave_all.ensures.moved

pub returns-clause-base : goal.returns-clause-base
returns-clause-base g c = keeps_on _ _ _ c.join_all-follows.ensures.base c.leave_all.ensures.base
