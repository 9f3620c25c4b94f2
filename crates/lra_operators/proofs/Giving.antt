-- The effect of requests on the orders that were given.
use Rattle.std.proofs.Common.{◌≡◌, ◌⊎◌, ℕ, List, drop, Ok, inl, inr}
use Rattle.lra_commands.specs.declared.counter.Order.{Order}
use Rattle.lra_overview.specs.Orders.{Gives}
use Rattle.lra_wire.specs.Request.{Request}
use Rattle.lra_operators.specs.declared.access.Access.{Access}
use Rattle.lra_operators.specs.declared.access.Admission.TheVariants.{Admitted}
use Rattle.lra_operators.specs.declared.operation.Operation.{Operation}
use Rattle.lra_operators.specs.declared.visiting.Came.{Came}
use Rattle.lra_operators.specs.declared.visiting.Came.TheVariants as came
use Rattle.lra_operators.specs.Routes.{operation_of}
use Rattle.lra_operators.specs.Access.{seen, admission_of}
use Rattle.lra_operators.specs.Orders.{IsAsked, Answers, AnswersBytes}
use Rattle.lra_operators.specs.inner.Targets.{Orders}
use Rattle.lra_operators.specs.inner.Visits.{IsRead, AnswersCame}

-- if an order is asked for and given, the target did that
pub asked_is_given : (target : List ℕ) (p : Operation) (i : ℕ) (o : Order) (before after : List (ℕ × Order))
    → IsAsked target p i o → Gives i o before after → Orders target p before after
asked_is_given target p i o before after k (inl h) = inl h
asked_is_given target p i o before after k (inr h) = inr (i, o, k, h)

-- a request that has a route gives its order only if it may be made there
pub routed_answers : (access : Access) (request : Request) (p : Operation) (before after : List (ℕ × Order))
    → operation_of request.method request.target ≡ Ok p
    → (after ≡ before) ⊎ ((admission_of (seen access request p) ≡ Admitted) × Orders request.target p before after)
    → Answers access request before after
routed_answers access request p before after routed (inl h) = inl h
routed_answers access request p before after routed (inr (admitted, inl h)) = inl h
routed_answers access request p before after routed (inr (admitted, inr (i, o, asked, h))) =
    inr (i, o, record { at = p; routed = routed; admitted = admitted; asked = asked }, h)

-- bytes do what was read of them does
pub read_answers : (access : Access) (bytes : List ℕ) (it : Came) (before after : List (ℕ × Order)) → IsRead bytes it
    → AnswersCame access it before after → AnswersBytes access bytes before after
read_answers access bytes (came.Request front) before after is h = inr (_, drop front.len bytes, is, h)
read_answers access bytes (came.Refused fault) before after is h = inl h
read_answers access bytes came.TooMuch before after is h = inl h
