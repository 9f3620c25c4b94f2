use Rattle.std.proofs.Common.{rules, sym}
use Rattle.lra_rotation.proofs.Opening.{popped_last, popped_front}
use Rattle.lra_rotation.proofs.found_journals.pop_last.Goals as goal

pub returns-clause-last : goal.returns-clause-last
returns-clause-last c = sym (popped_last _ _ _ c.pop.ensures.items (λ e. search rules))

pub returns-clause-front : goal.returns-clause-front
returns-clause-front c = sym (popped_front _ _ _ c.pop.ensures.items (λ e. search rules))
