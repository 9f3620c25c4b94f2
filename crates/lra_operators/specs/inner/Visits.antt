-- The meaning of the bytes that a client sent.
use Rattle.std.specs.Prelude.{◌≡◌, ℕ, List, drop, ⊤}
use Rattle.lra_commands.specs.declared.counter.Order.{Order}
use Rattle.lra_wire.specs.Request.{IsRequest, request_of}
use Rattle.lra_operators.specs.declared.access.Access.{Access}
use Rattle.lra_operators.specs.declared.visiting.Came.{Came}
use Rattle.lra_operators.specs.declared.visiting.Came.TheVariants as came
use Rattle.lra_operators.specs.Orders.{Answers}

-- bytes are what was read of them: if that is a request, they begin with it
abbrev pub IsRead : List ℕ → Came → Type 0
IsRead bytes (came.Request front) = IsRequest bytes (request_of front.request) (drop front.len bytes)
IsRead bytes (came.Refused fault) = ⊤
IsRead bytes came.TooMuch = ⊤

-- what they do to the orders that were given: nothing, if they are no request
abbrev pub AnswersCame : Access → Came → List (ℕ × Order) → List (ℕ × Order) → Type 0
AnswersCame access (came.Request front) before after = Answers access (request_of front.request) before after
AnswersCame access (came.Refused fault) before after = after ≡ before
AnswersCame access came.TooMuch before after = after ≡ before
