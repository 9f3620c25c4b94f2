use Rattle.lra_timelines.proofs.Naming.{none_on, end_unread}
use Rattle.lra_timelines.proofs.wanted.of_uri.Goals as goal

pub returns-clause-none : goal.returns-clause-none
returns-clause-none c = none_on c.of_id.result (end_unread c.args.text.now c.in_ok-id.id.now c.in_ok-id.ensures.end)
    c.of_id.ensures.none
