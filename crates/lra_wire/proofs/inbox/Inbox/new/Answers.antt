use Rattle.lra_wire.proofs.StreamLemmas.{prepend_none}
use Rattle.lra_wire.proofs.inbox.Inbox.new.Goals as goal

pub returns-clause-stream : goal.returns-clause-stream
returns-clause-stream g c = prepend_none c.new-kept.result.items (g.R.Read.remaining c.args.reader)
    c.new-kept.ensures.items
