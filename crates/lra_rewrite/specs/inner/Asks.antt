-- Call of a handler.
use Rattle.std.specs.Prelude.{◌⊎◌, ℕ, List, Option, Result, Ok, Err, ⊤}
use Rattle.lra_wire.specs.Request.{Request}
use Rattle.lra_steps.specs.declared.handler.Answered.{Answered}
use Rattle.lra_front.specs.Routes.{operation_of}
use Rattle.lra_rewrite.specs.Asked.{AnswersSome, LacksSome}
use Rattle.lra_rewrite.specs.Bodies.{IsRead}
use Rattle.lra_rewrite.specs.Requests.{Means, LacksMemory}
use Rattle.lra_rewrite.specs.declared.requests.Meant.{Meant}
use Rattle.lra_rewrite.specs.inner.Made.{meant_by, MeansOther}

module _ {S : Type 0} {E : Type 0} (responds : S → ℕ → Request → Answered → S → Type 0) where
  -- a handler is called with the request that was made of another; if memory was refused in making it, the handler
  -- isn't called
  abbrev pub Asks : S → ℕ → Request → Result (Option Meant) E → Answered → S → Type 0
  Asks before moment own (Ok other) answered after = responds before moment (meant_by own other) answered after
  Asks before moment own (Err e) answered after = LacksSome ⊤ before answered after

-- a handler is called with what a request means by the identifier in its body; if memory was refused for that, it isn't
abbrev pub AsksOther : {S : Type 0} → (S → List ℕ) → (S → ℕ → Request → Answered → S → Type 0) → S → List (List ℕ)
    → ℕ → Request → Answered → S → Type 0
AsksOther base_of responds before olders moment own answered after =
    AnswersSome responds (MeansOther (base_of before) olders own) before moment answered after
    ⊎ LacksSome (IsRead olders (operation_of own.method own.target) own.body) before answered after

-- a handler is called with what a request means; if memory was refused for that, it isn't
abbrev pub AsksMoved : {S : Type 0} → (S → List ℕ) → (S → ℕ → Request → Answered → S → Type 0) → S → List (List ℕ)
    → ℕ → Request → Answered → S → Type 0
AsksMoved base_of responds before olders moment own answered after =
    AnswersSome responds (Means (base_of before) olders own) before moment answered after
    ⊎ LacksSome (LacksMemory (base_of before) olders own) before answered after
