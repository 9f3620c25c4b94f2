-- Requests that begin something while a journal is near its end.
use Rattle.std.specs.Prelude.{◌≡◌, ◌⊎◌, ℕ, Bool, true, false, ◌&&◌, not, is_some, Option, Some, None, IfSome, Result}
use Rattle.std.specs.Prelude.{Ok, Err}
use Rattle.lra_wire.specs.Request.{Request}
use Rattle.lra_commands.specs.declared.refusal.Refusal.TheVariants as refusal
use Rattle.lra_commands.specs.declared.refusal.Resource.TheVariants as resource
use Rattle.lra_front.specs.declared.operation.Operation.{Operation}
use Rattle.lra_front.specs.declared.operation.Operation.TheVariants as operation
use Rattle.lra_front.specs.declared.api_error.ApiError.{ApiError}
use Rattle.lra_front.specs.declared.api_error.ApiError.TheVariants.{Refused}
use Rattle.lra_front.specs.declared.answer.Answer.TheVariants.{Denied}
use Rattle.lra_front.specs.Routes.{operation_of}
use Rattle.lra_front.specs.ApiRequests.{LacksMemory}
use Rattle.lra_steps.specs.declared.handler.Answered.{Answered}
use Rattle.lra_journal_router.specs.Naming.{instance_of}

-- an operation begins something: an action, or the participation of a member
abbrev pub begins_at : Operation → Bool
begins_at operation.Start = true
begins_at operation.Join = true
begins_at _ = false

-- the same, if there is an operation
abbrev pub begins_by : Result Operation ApiError → Bool
begins_by (Ok r) = begins_at r
begins_by (Err api_error) = false

-- a request's operation begins something
abbrev pub begins : Request → Bool
begins request = begins_by (operation_of request.method request.target)

-- an operation lets a member join
abbrev pub is_join : Result Operation ApiError → Bool
is_join (Ok operation.Join) = true
is_join _ = false

-- a join that names no action's identifier: it is for no journal, and begins nothing
abbrev pub is_stray : Request → Bool
is_stray request = is_join (operation_of request.method request.target) && not (is_some (instance_of request))

module _ (tells : Option ℕ → Option ℕ → Type 0) where
  -- a request is let through: it begins nothing, or the reserve reports that the journal which accepts it isn't near
  -- its end
  abbrev pub IsLet : Request → Type 0
  IsLet request = (begins request ≡ false) ⊎ (is_stray request ≡ true) ⊎ tells (instance_of request) None

  -- a request is refused as one for which there is no room: the reserve reports which journal near its end would accept
  -- it, and that is the journal that it names, if it names any
  pub record IsFull (request : Request) (answered : Answered) : Type 0 where
    pub placed : is_stray request ≡ false
    pub told : tells (instance_of request) (Some answered.instance)
    pub own : IfSome (instance_of request) (λ i. answered.instance ≡ i)
    pub answer : answered.answer ≡ Denied (Refused (refusal.Full resource.Entries))

  -- memory is refused in reading the instance that a request names
  abbrev pub IsUnread : Request → Answered → Type 0
  IsUnread request answered = LacksMemory request × (answered.answer ≡ Denied (Refused refusal.Memory))

  -- a request that begins something is turned away, and its answer waits for no sync
  abbrev pub IsTurnedAway : Request → Answered → Type 0
  IsTurnedAway request answered = (begins request ≡ true) × (answered.position ≡ None)
      × (IsFull request answered ⊎ IsUnread request answered)

module _ {S : Type 0} (responds : S → ℕ → Request → Answered → S → Type 0) (tells : Option ℕ → Option ℕ → Type 0) where
  -- what a request at a moment does: if it is let through, what the handler does with it; otherwise nothing
  abbrev pub Responds : S → ℕ → Request → Answered → S → Type 0
  Responds before moment request answered after =
      (IsLet tells request × responds before moment request answered after)
      ⊎ (IsTurnedAway tells request answered × (after ≡ before))
