-- Requests that are answered one after another with no rest between them, and what may follow.
use Rattle.std.specs.Prelude.{◌≡◌, ◌⊎◌, ℕ, List, length}
use Rattle.lra_wire.specs.Request.{Request}
use Rattle.lra_steps.specs.declared.handler.Answered.{Answered}
use Rattle.lra_steps.specs.History.{Turn}
use Rattle.lra_steps.specs.Pieces.{Chain}

module _ {S K : Type 0} (base_of : S → List ℕ) (responds : S → ℕ → Request → Answered → S → Type 0)
    (tells : K → ℕ → K → Type 0) where
  -- so many requests are answered one after another, each once, at a moment that the clock gives; they lead from one
  -- state of the handler and the clock to another
  pub record AnsweredIn (n : ℕ) (v : S) (k : K) (w : S) (l : K) : Type 0 where
    pub turns : List Turn
    pub number : length turns ≡ n
    pub chain : Chain responds tells v k turns w l
    pub base : base_of w ≡ base_of v

  -- some number of requests are answered so
  abbrev pub AnsweredSome : S → K → S → K → Type 0
  AnsweredSome v k w l = (n : ℕ) × AnsweredIn n v k w l

-- the handler rests, or nothing is done
abbrev pub MayRest : {S : Type 0} → (S → S → Type 0) → S → S → Type 0
MayRest rests v w = rests v w ⊎ (w ≡ v)
