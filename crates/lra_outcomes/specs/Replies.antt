-- The outcome of a callback, in words.
use Rattle.std.specs.Prelude.{ℕ, List, ◌++◌, codes}
use Rattle.std.specs.Fmt.{decimal}
use Rattle.lra_outcomes.specs.declared.reply.Reply.{Reply}
use Rattle.lra_outcomes.specs.declared.reply.Reply.TheVariants.{NotAllowed, NoAddress, NotConnected, TimedOut}
use Rattle.lra_outcomes.specs.declared.reply.Reply.TheVariants.{Cut, NotHttp, Answered, NoState, AtIt, NotSent}

-- the words of an outcome, for operators
abbrev pub words_of : Reply → List ℕ
words_of NotAllowed = codes "the rules don't allow its address"
words_of NoAddress = codes "its host's name has no address"
words_of NotConnected = codes "connection refused"
words_of (TimedOut seconds) = codes "timed out after " ++ decimal seconds ++ codes " s"
words_of Cut = codes "the connection ended before the whole response"
words_of NotHttp = codes "the response isn't HTTP"
words_of (Answered code) = codes "answered " ++ decimal code
words_of (NoState code) = codes "answered " ++ decimal code ++ codes " with a body that names no state"
words_of (AtIt code) = codes "answered " ++ decimal code ++ codes ": it is at it"
words_of NotSent = codes "the request was not sent"
