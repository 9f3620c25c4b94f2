-- Requests that are answered one after another, of one connection or of many.
use Rattle.std.specs.Prelude.{◌≡◌, ℕ, List, ◌++◌, Option}
use Rattle.lra_wire.specs.Request.{Request}
use Rattle.lra_steps.specs.declared.handler.Answered.{Answered}
use Rattle.lra_steps.specs.History.{History, Turn}
use Rattle.lra_steps.specs.Pieces.{Chain, Course}

module _ {S K : Type 0} (base_of : S → List ℕ) (responds : S → ℕ → Request → Answered → S → Type 0)
    (tells : K → ℕ → K → Type 0) where
  -- Requests of one connection are answered so: they come after those that were answered before, no byte came or left,
  -- and their replies come after the bytes that may leave.
  pub record AnswersOf (old new : History) (v : S) (k : K) (w : S) (l : K) : Type 0 where
    pub turns : List Turn
    pub answered : new.turns ≡ old.turns ++ turns
    pub chain : Chain responds tells v k turns w l
    pub same : base_of w ≡ base_of v
    pub taken : new.taken ≡ old.taken
    pub sent : new.sent ≡ old.sent
    pub closed : new.closed ≡ old.closed
    pub instance : new.instance ≡ old.instance
    pub base : new.base ≡ old.base

-- Some requests are answered one after another, each once, at a moment that the clock gives, with rests between them.
-- They lead from one state of the handler and the clock to another, and nothing else is done.
pub record AnsweredWithRests {S K : Type 0} (base_of : S → List ℕ) (responds : S → ℕ → Request → Answered → S → Type 0)
    (rests : S → S → Type 0)
    (tells : K → ℕ → K → Type 0) (v : S) (k : K) (w : S) (l : K) : Type 0 where
  pub turns : List (Option Turn)
  pub course : Course responds rests tells v k turns w l
  pub base : base_of w ≡ base_of v
