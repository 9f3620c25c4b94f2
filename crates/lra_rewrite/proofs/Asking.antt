-- The answer of a handler that is called with what a request means.
use Rattle.std.proofs.Common.{◌≡◌, ℕ, List, Option, Some, None, Result, Ok, Err, inl, inr}
use Rattle.std.specs.Prelude.{◌⊎◌, IfOk, OnErr}
use Rattle.lra_wire.specs.Request.{Request}
use Rattle.lra_steps.specs.declared.handler.Answered.{Answered}
use Rattle.lra_rewrite.specs.Asked.{AnswersSome, LacksSome}
use Rattle.lra_rewrite.specs.declared.requests.Meant.{Meant}
use Rattle.lra_rewrite.specs.inner.Asks.{Asks, AsksOther, AsksMoved}
use Rattle.lra_rewrite.specs.inner.Made.{meant_by, moved}
use Rattle.lra_rewrite.proofs.Others.{meant_moved, has_moved, meant_unmoved, lacks_unmoved}

-- a request of which this holds is answered, or memory was refused for that reason
pub asked : {S E : Type 0} (responds : S → ℕ → Request → Answered → S → Type 0) (is_meant : Request → Type 0)
    (reason : Type 0) (before : S) (moment : ℕ) (own : Request) (made : Result (Option Meant) E)
    (answered : Answered) (after : S) → IfOk made (λ other. is_meant (meant_by own other)) → OnErr made reason
    → Asks responds before moment own made answered after
    → AnswersSome responds is_meant before moment answered after ⊎ LacksSome reason before answered after
asked responds is_meant reason before moment own (Ok other) answered after is lacks does =
    inl (record { meant = meant_by own other; means = is; does = does })
asked responds is_meant reason before moment own (Err e) answered after is lacks none =
    inr (record { lacks = lacks; answer = none.answer; position = none.position; unchanged = none.unchanged })

module _ {S : Type 0} (base_of : S → List ℕ) (responds : S → ℕ → Request → Answered → S → Type 0) (before : S)
    (olders : List (List ℕ)) (moment : ℕ) (own : Request) (answered : Answered) (after : S) where
  -- a request with another target was asked
  pub asked_moved : (other : Request) → Some other ≡ moved (base_of before) own
      → AsksOther base_of responds before olders moment other answered after
      → AsksMoved base_of responds before olders moment own answered after
  asked_moved other e (inl h) = inl (record {
    meant = h.meant;
    means = meant_moved (base_of before) olders own other h.meant e h.means;
    does = h.does;
  })
  asked_moved other e (inr h) = inr (record {
    lacks = inl (has_moved (base_of before) own other e);
    answer = h.answer;
    position = h.position;
    unchanged = h.unchanged;
  })

  -- the request itself was asked
  pub asked_unmoved : None ≡ moved (base_of before) own
      → AsksOther base_of responds before olders moment own answered after
      → AsksMoved base_of responds before olders moment own answered after
  asked_unmoved e (inl h) = inl (record {
    meant = h.meant;
    means = meant_unmoved (base_of before) olders own h.meant e h.means;
    does = h.does;
  })
  asked_unmoved e (inr h) = inr (record {
    lacks = inr (lacks_unmoved (base_of before) olders own e h.lacks);
    answer = h.answer;
    position = h.position;
    unchanged = h.unchanged;
  })
