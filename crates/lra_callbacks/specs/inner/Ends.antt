-- Replies that are reported for a callback that has ended, by its socket and by its exchange.
use Rattle.std.specs.Prelude.{◌≡◌, ℕ, Bool, true, false, if◌then◌else◌, Option, Some, None, IfSome}
use Rattle.lra_courier.specs.Codes.{IsCoded}
use Rattle.lra_outcomes.specs.declared.reply.Reply.{Reply}
use Rattle.lra_callbacks.specs.declared.attempt.Flight.{Flight}
use Rattle.lra_callbacks.specs.declared.replies.End.{End}
use Rattle.lra_callbacks.specs.declared.replies.End.TheVariants as end
use Rattle.lra_callbacks.specs.declared.worker_quota.TimeOuts.{TimeOuts}
use Rattle.lra_callbacks.specs.inner.Replies.{reply_of}

-- the time limit that has passed: that to connect until there is a connection, and then that for the whole reply
abbrev pub limit_of : Bool → TimeOuts → ℕ
limit_of is_connected time_outs = if is_connected then time_outs.reply else time_outs.connect

-- a callback with this end had no socket from the system, which says nothing of its member
abbrev pub has_no_socket : End → Bool
has_no_socket end.NotSent = true
has_no_socket _ = false

-- the reply follows from what came of the bytes of the exchange, and from the code of the response that they begin with
abbrev pub Replies : End → Option Flight → Option Reply → Type 0
Replies end None told = told ≡ reply_of end None None
Replies end (Some flight) told =
    (code : Option ℕ) × IfSome code (IsCoded flight.callback_exchange)
    × (told ≡ reply_of end flight.callback_exchange.came code)
