use Rattle.std.proofs.Common.{◌-◌, length}
use Rattle.lra_wire.specs.Inbox.{kept_bytes}
use Rattle.lra_wire.specs.Response.{AwaitsResponse}
use Rattle.lra_wire.specs.RequestCursor.{SeesResponse}
use Rattle.lra_wire.proofs.InboxLemmas.{Waits}
use Rattle.lra_wire.proofs.response.next_response.Given as goal

-- what came is of the stream, what was seen of it holds, and more was asked for only where it was wanted
abbrev pub invariant-loop-seen : goal.invariant-loop-seen
invariant-loop-seen g l = Waits g.R.Read.remaining AwaitsResponse l.initial.inbox l.inbox
    × SeesResponse l.seen (kept_bytes l.inbox)

-- how many bytes a response may have still
abbrev pub decreases-loop-seen : goal.decreases-loop-seen
decreases-loop-seen g l = 1048576 - length (kept_bytes l.inbox)
