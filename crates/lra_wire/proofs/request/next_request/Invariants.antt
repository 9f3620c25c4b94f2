use Rattle.std.proofs.Common.{◌-◌, length}
use Rattle.lra_wire.specs.Fronts.{Sees}
use Rattle.lra_wire.specs.Inbox.{kept_bytes}
use Rattle.lra_wire.specs.Request.{AwaitsRequest}
use Rattle.lra_wire.proofs.InboxLemmas.{Waits}
use Rattle.lra_wire.proofs.request.next_request.Given as goal

-- what came is of the stream, what was seen of it holds, and more was asked for only where it was wanted
abbrev pub invariant-loop-front : goal.invariant-loop-front
invariant-loop-front g l = Waits g.R.Read.remaining AwaitsRequest l.initial.inbox l.inbox
    × Sees l.seen (kept_bytes l.inbox)

-- how many bytes a request may have still
abbrev pub decreases-loop-front : goal.decreases-loop-front
decreases-loop-front g l = 73728 - length (kept_bytes l.inbox)
