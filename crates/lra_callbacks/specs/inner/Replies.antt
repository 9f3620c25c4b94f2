-- Replies that are reported for a callback that has ended.
use Rattle.std.specs.Prelude.{ℕ, ◌+◌, ◌/◌, ◌==◌, if◌then◌else◌, Option, Some, None, Result, Ok, Err}
use Rattle.lra_model.specs.declared.asks.Outcome.{Outcome}
use Rattle.lra_model.specs.declared.asks.Outcome.TheVariants.{Done, Accepted, Failed, Silent}
use Rattle.lra_wire.specs.declared.fault.WireFault.TheVariants as wire
use Rattle.lra_courier.specs.declared.fault.CallFault.{CallFault}
use Rattle.lra_courier.specs.declared.fault.CallFault.TheVariants as call
use Rattle.lra_outcomes.specs.declared.reply.Reply.{Reply}
use Rattle.lra_outcomes.specs.declared.reply.Reply.TheVariants as reply
use Rattle.lra_callbacks.specs.declared.replies.End.{End}
use Rattle.lra_callbacks.specs.declared.replies.End.TheVariants as end

-- the reply for an end before any bytes came: a time limit is in whole seconds, rounded up
abbrev pub reply_at : End → Reply
reply_at end.NotSent = reply.NotSent
reply_at end.NotAllowed = reply.NotAllowed
reply_at end.NoAddress = reply.NoAddress
reply_at end.NotConnected = reply.NotConnected
reply_at (end.TimedOut limit) = reply.TimedOut ((limit + 999) / 1_000)
reply_at end.Heard = reply.Cut

-- the reply for a fault: the stream failed or ended before the response, or the bytes are no response
abbrev pub reply_to : CallFault → Reply
reply_to call.Unreached = reply.NotConnected
reply_to (call.Send _) = reply.Cut
reply_to (call.Reply wire.Cut) = reply.Cut
reply_to (call.Reply wire.Io) = reply.Cut
reply_to (call.Reply wire.Memory) = reply.Cut
reply_to (call.Reply _) = reply.NotHttp

-- the reply for a response of that code: none if it brought its member further
abbrev pub reply_with : Outcome → ℕ → Option Reply
reply_with Silent code = Some (if code == 200 then reply.NoState code else reply.Answered code)
reply_with Accepted code = Some (reply.AtIt code)
reply_with Done code = None
reply_with Failed code = None

-- the reply for a callback, by its end, what came of its bytes, and the code of the response
abbrev pub reply_of : End → Option (Result Outcome CallFault) → Option ℕ → Option Reply
reply_of end None code = Some (reply_at end)
reply_of end (Some (Err fault)) code = Some (reply_to fault)
reply_of end (Some (Ok outcome)) (Some code) = reply_with outcome code
reply_of end (Some (Ok outcome)) None = None
