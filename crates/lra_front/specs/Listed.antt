-- The table of operations has the code of each reply.
use Rattle.std.specs.Prelude.{◌≡◌, ℕ, ◌==◌, Bool, true, List, Result, Ok}
use Rattle.std.specs.List.{list_any}
use Rattle.lra_wire.specs.Request.{Request}
use Rattle.lra_commands.specs.declared.command.Told.{Told}
use Rattle.lra_commands.specs.declared.counter.Order.{Order}
use Rattle.lra_commands.specs.declared.counter.CounterFault.{CounterFault}
use Rattle.lra_commands.specs.Counters.{Sight}
use Rattle.lra_front.specs.declared.operation.Operation.{Operation}
use Rattle.lra_front.specs.declared.answer.Answer.{Answer}
use Rattle.lra_front.specs.declared.answer.Answer.TheVariants as answer
use Rattle.lra_front.specs.Operations.{success, refusals}
use Rattle.lra_front.specs.Routes.{operation_of}
use Rattle.lra_front.specs.Replies.{refusal_code, api_error_code, code_of}
use Rattle.lra_front.specs.Serving.{Responds}

-- a code is among codes
abbrev pub has_code : ℕ → List ℕ → Bool
has_code code codes = list_any (λ x. x == code) codes

-- the table has an answer's code: among an operation's refusals where it isn't done, and else among the codes of its
-- success
abbrev pub is_listed : Operation → Answer → Bool
is_listed o (answer.Denied d) = has_code (api_error_code d) (refusals o)
is_listed o (answer.Retry r seconds) = has_code (refusal_code r) (refusals o)
is_listed o a = has_code (code_of a) (success o)

module _ (gives : Sight → ℕ → Order → Result Told CounterFault → Sight → Type 0) where
  -- The table has the code of each reply to a request whose path and method ask for an operation.
  abbrev pub RepliesAreListed : Type 0
  RepliesAreListed = (before after : Sight) (moment : ℕ) (request : Request) (o : Operation) (a : Answer)
      → operation_of request.method request.target ≡ Ok o → Responds gives before moment request after a
      → is_listed o a ≡ true
