-- The order that a request gives.
use Rattle.std.specs.Prelude.{◌≡◌, ◌⊎◌, ℕ, List, [], ◌∷◌, ◌++◌, Ok}
use Rattle.lra_model.specs.declared.status.Ending.TheVariants as ending
use Rattle.lra_ids.specs.Identifiers.{id_text, IsSpelling}
use Rattle.lra_commands.specs.declared.counter.Order.{Order}
use Rattle.lra_commands.specs.declared.counter.Order.TheVariants as order
use Rattle.lra_wire.specs.Request.{Request, IsRequest}
use Rattle.lra_operators.specs.declared.access.Access.{Access}
use Rattle.lra_operators.specs.declared.access.Admission.TheVariants.{Admitted}
use Rattle.lra_operators.specs.declared.operation.Operation.{Operation}
use Rattle.lra_operators.specs.declared.operation.Operation.TheVariants as operation
use Rattle.lra_operators.specs.Routes.{path_in, id_in, operation_of}
use Rattle.lra_operators.specs.Access.{seen, admission_of}

-- the order of an operation for a number: a close or a cancel of an action, or the report that a member failed, as it
-- would report itself; other operations give none
abbrev pub IsOrderAt : Operation → ℕ → Order → Type 0
IsOrderAt operation.Close n o = o ≡ order.Close n
IsOrderAt operation.Cancel n o = o ≡ order.Cancel n
IsOrderAt operation.GiveUp n o = (o ≡ order.Report n ending.FailedToComplete)
    ⊎ (o ≡ order.Report n ending.FailedToCompensate)
IsOrderAt _ n o = ⊥

-- an order that a target asks for by an operation: its path has an identifier of the order's journal and number
pub record IsAsked (target : List ℕ) (p : Operation) (i : ℕ) (o : Order) : Type 0 where
  pub number : ℕ
  pub names : IsSpelling (id_text i) (id_in (path_in target)) number
  pub orders : IsOrderAt p number o

-- a request gives an order: its path and method ask for an operation that gives one, it may be made, and the order is
-- the one that it asks for
pub record GivesOrder (access : Access) (request : Request) (i : ℕ) (o : Order) : Type 0 where
  pub at : Operation
  pub routed : operation_of request.method request.target ≡ Ok at
  pub admitted : admission_of (seen access request at) ≡ Admitted
  pub asked : IsAsked request.target at i o

-- what a request does to the orders that were given: nothing, or the one that it gives is added
abbrev pub Answers : Access → Request → List (ℕ × Order) → List (ℕ × Order) → Type 0
Answers access request before after = (after ≡ before) ⊎ ((i : ℕ) × (o : Order) × GivesOrder access request i o
    × (after ≡ before ++ (i, o) ∷ []))

-- what bytes do to the orders that were given: nothing, or what the request does that they begin with
abbrev pub AnswersBytes : Access → List ℕ → List (ℕ × Order) → List (ℕ × Order) → Type 0
AnswersBytes access bytes before after = (after ≡ before) ⊎ ((request : Request) × (rest : List ℕ)
    × IsRequest bytes request rest × Answers access request before after)
