-- Handler that gets what each request means.
use Rattle.std.specs.Prelude.{◌≡◌, ◌⊎◌, ℕ, Bool, ◌&&◌, List, None, IsTrue, IsFalse, Result, Ok, Err}
use Rattle.lra_wire.specs.Request.{Request}
use Rattle.lra_commands.specs.declared.refusal.Refusal.TheVariants as refusal
use Rattle.lra_front.specs.declared.api_error.ApiError.TheVariants as api_error
use Rattle.lra_front.specs.declared.answer.Answer.TheVariants as answer
use Rattle.lra_front.specs.declared.dialect_answer.DialectRefusal.{DialectRefusal}
use Rattle.lra_steps.specs.declared.handler.Answered.{Answered}
use Rattle.lra_narayana.specs.declared.operation.DialectOperation.{DialectOperation}
use Rattle.lra_narayana.specs.Meant.{IsOwn}
use Rattle.lra_narayana.specs.Spelled.{spelled, refused}
use Rattle.lra_rewrite.specs.Dialect.{meant_under}
use Rattle.lra_rewrite.specs.Paths.{is_outside}
use Rattle.lra_rewrite.specs.Requests.{Means, LacksMemory, target_meant}
use Rattle.lra_rewrite.specs.Asked.{AnswersSome, LacksSome}

-- the handler's state, the older bases in their order, whether requests are accepted by the path of the base alone, and
-- whether they are of the dialect
pub record Served (S : Type 0) : Type 0 where
  pub inner : S
  pub olders : List (List ℕ)
  pub is_strict : Bool
  pub speaks : Bool

-- all of these
abbrev pub served : {S : Type 0} → S → List (List ℕ) → Bool → Bool → Served S
served inner olders is_strict speaks = record {
  inner = inner;
  olders = olders;
  is_strict = is_strict;
  speaks = speaks;
}

module _ {S : Type 0} (base_of : S → List ℕ) (responds : S → ℕ → Request → Answered → S → Type 0) where
  -- a request that this one means is answered
  abbrev pub Answers : Served S → ℕ → Request → Answered → S → Type 0
  Answers before moment request answered after =
      AnswersSome responds (Means (base_of before.inner) before.olders request) before.inner moment answered after

  -- memory was refused in making the meant request, and nothing was done
  abbrev pub Refuses : Served S → Request → Answered → S → Type 0
  Refuses before request answered after =
      LacksSome (LacksMemory (base_of before.inner) before.olders request) before.inner answered after

  -- a request is denied: its target isn't under the path of the base, and requests are accepted by that alone
  abbrev pub keeps_out : Served S → Request → Bool
  keeps_out before request = before.is_strict && is_outside (base_of before.inner) request.target

  -- it is answered as a request to a path that isn't there, and nothing was done
  pub record Denies (before : Served S) (answered : Answered) (after : S) : Type 0 where
    pub answer : answered.answer ≡ answer.Denied api_error.NoSuchPath
    pub position : answered.position ≡ None
    pub unchanged : after ≡ before.inner

  -- What a request of the own interface does: it is denied; or it does what the request does that it means, unless
  -- memory was refused in making that.
  abbrev pub RespondsOwn : Served S → ℕ → Request → Answered → S → Type 0
  RespondsOwn before moment request answered after =
      (IsTrue (keeps_out before request) × Denies before answered after)
      ⊎ (IsFalse (keeps_out before request) × (Answers before moment request answered after
      ⊎ Refuses before request answered after))

  -- a request of the dialect means an own request, which is answered, and the answer is told in the dialect
  pub record Translates (before : Served S) (moment : ℕ) (request : Request) (o : DialectOperation)
      (answered : Answered) (after : S) : Type 0 where
    pub own : Request
    pub means : IsOwn (base_of before.inner) (target_meant (base_of before.inner) request.target) o request own
    pub told : Answered
    pub does : Answers before moment own told after ⊎ Refuses before own told after
    pub instance : answered.instance ≡ told.instance
    pub answer : answered.answer ≡ spelled request told.answer
    pub position : answered.position ≡ told.position

  -- memory was refused in making the own request, and nothing was done
  pub record LacksOwn (before : Served S) (request : Request) (answered : Answered) (after : S) : Type 0 where
    pub lacks : IsFalse (keeps_out before request)
    pub answer : answered.answer ≡ spelled request (answer.Denied (api_error.Refused refusal.Memory))
    pub position : answered.position ≡ None
    pub unchanged : after ≡ before.inner

  -- the dialect refuses a request, and nothing was done
  pub record TurnsAway (before : Served S) (request : Request) (r : DialectRefusal) (answered : Answered)
      (after : S) : Type 0 where
    pub answer : answered.answer ≡ refused request r
    pub position : answered.position ≡ None
    pub unchanged : after ≡ before.inner

  -- what a request of the dialect does, where it means an own request for an operation, or is refused
  abbrev pub RespondsBy : Served S → ℕ → Request → Answered → S → Result DialectOperation DialectRefusal → Type 0
  RespondsBy before moment request answered after (Ok o) = Translates before moment request o answered after
  RespondsBy before moment request answered after (Err r) = TurnsAway before request r answered after

  -- What a request of the dialect does: at most one request of the own interface. Or memory was refused in making that.
  abbrev pub RespondsInDialect : Served S → ℕ → Request → Answered → S → Type 0
  RespondsInDialect before moment request answered after =
      RespondsBy before moment request answered after (meant_under (base_of before.inner) before.is_strict request)
      ⊎ LacksOwn before request answered after

  -- What a request at a moment does, in the dialect or in the own interface. The older bases stay.
  pub record Responds (before : Served S) (moment : ℕ) (request : Request) (answered : Answered)
      (after : Served S) : Type 0 where
    pub olders : after.olders ≡ before.olders
    pub is_strict : after.is_strict ≡ before.is_strict
    pub speaks : after.speaks ≡ before.speaks
    pub inner : (IsTrue before.speaks × RespondsInDialect before moment request answered after.inner)
        ⊎ (IsFalse before.speaks × RespondsOwn before moment request answered after.inner)

-- the handler rests, and all else stays
pub record Rests {S : Type 0} (rests : S → S → Type 0) (before after : Served S) : Type 0 where
  pub inner : rests before.inner after.inner
  pub olders : after.olders ≡ before.olders
  pub is_strict : after.is_strict ≡ before.is_strict
  pub speaks : after.speaks ≡ before.speaks
