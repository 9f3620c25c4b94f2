-- Requests that a journal set can't answer while it may lack a member.
use Rattle.std.specs.Prelude.{◌≡◌, ◌⊎◌, ℕ, Bool, true, false, List, MatchOption, None, Option, Result, Ok, unwrap_or}
use Rattle.lra_wire.specs.Request.{Request}
use Rattle.lra_commands.specs.declared.refusal.Refusal.TheVariants as refusal
use Rattle.lra_commands.specs.Counters.{Sight}
use Rattle.lra_front.specs.declared.operation.Operation.{Operation}
use Rattle.lra_front.specs.declared.operation.Operation.TheVariants as operation
use Rattle.lra_front.specs.declared.api_error.ApiError.{ApiError}
use Rattle.lra_front.specs.declared.api_error.ApiError.TheVariants.{Refused}
use Rattle.lra_front.specs.declared.answer.Answer.{Answer}
use Rattle.lra_front.specs.declared.answer.Answer.TheVariants.{Denied}
use Rattle.lra_front.specs.Routes.{operation_of}
use Rattle.lra_front.specs.ApiRequests.{LacksMemory}
use Rattle.lra_steps.specs.declared.handler.Answered.{Answered}
use Rattle.lra_journal_sets.specs.Counted.{name}
use Rattle.lra_journal_sets.specs.JournalSets.{member, newest}
use Rattle.lra_journal_router.specs.Naming.{instance_of}

-- an operation starts an action
abbrev pub start_by : Result Operation ApiError → Bool
start_by (Ok operation.Start) = true
start_by _ = false

-- a request starts an action
abbrev pub is_start : Request → Bool
is_start request = start_by (operation_of request.method request.target)

-- No member that is surely in the journal set answers this request: a start that names no instance is for the newest
-- member, and an identifier may be that of a member which isn't there yet.
abbrev pub IsAstray : List Sight → Bool → Option ℕ → Type 0
IsAstray ss start named = MatchOption named (start ≡ true) (λ i. member name i ss ≡ None)

-- an answer refuses what can't be done now, and the request reaches no member
abbrev pub IsRefused : Answer → Type 0
IsRefused answer = (answer ≡ Denied (Refused refusal.Stopped)) ⊎ (answer ≡ Denied (Refused refusal.Memory))

module _ (tells : Option ℕ → Bool → Type 0) where
  -- if a member that isn't there would answer a request, the membership reports that there is no such member
  abbrev pub IsSure : List Sight → Request → Type 0
  IsSure ss request = IsAstray ss (is_start request) (instance_of request) → tells (instance_of request) false

  -- the membership reports that the journal set may still lack the member that would answer
  pub record Lacked (ss : List Sight) (request : Request) (answered : Answered) : Type 0 where
    pub astray : IsAstray ss (is_start request) (instance_of request)
    pub told : tells (instance_of request) true
    pub whose : answered.instance ≡ unwrap_or (instance_of request) (newest name ss)
    pub answer : answered.answer ≡ Denied (Refused refusal.Stopped)
    pub position : answered.position ≡ None

  -- memory is refused in reading the instance that a request names
  abbrev pub IsUnread : Request → Answered → Type 0
  IsUnread request answered = LacksMemory request × (answered.answer ≡ Denied (Refused refusal.Memory)) ×
      (answered.position ≡ None)

  -- a request is refused, since the journal set may still lack the member that answers, or since the instance that it
  -- names can't be read: its answer waits for no sync
  abbrev pub IsPutOff : List Sight → Request → Answered → Type 0
  IsPutOff ss request answered = Lacked ss request answered ⊎ IsUnread request answered
