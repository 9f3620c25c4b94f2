use Rattle.std.proofs.Common.{[], ap, append-nil, ◌∙◌}
use Rattle.lra_ticket.specs.declared.view.View.{View}
use Rattle.lra_microbench.proofs.lock.hand_over.Goals as goal

pub give-pass-requires-clause-extends : goal.give-pass-requires-clause-extends
give-pass-requires-clause-extends g c = ([], append-nil _ ∙ ap (λ (u : View _). u.seen) c.in-Ok.ensures.view.2)
