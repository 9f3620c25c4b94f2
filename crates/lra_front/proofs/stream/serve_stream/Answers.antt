use Rattle.std.proofs.Common.{inr}
use Rattle.lra_wire.specs.Inbox.{stream_of}
use Rattle.lra_front.proofs.stream.serve_stream.Goals as goal

pub returns : goal.returns
returns g c = (
  stream_of g.R.Read.remaining c.serve_inbox-end.new.inbox,
  inr (rw c.in-Ok-new.ensures.stream at c.serve_inbox-end.ensures),
)
