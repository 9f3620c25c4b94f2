-- The filters keep what the handler's URIs begin with, whatever requests mean.
use Rattle.std.specs.Prelude.{◌≡◌, ◌⊎◌, ℕ, List, IsTrue, IsFalse, Result, Ok, Err}
use Rattle.std.proofs.Common.{inl, inr, ap}
use Rattle.lra_wire.specs.Request.{Request}
use Rattle.lra_steps.specs.declared.handler.Answered.{Answered}
use Rattle.lra_rewrite.specs.Asked.{AnswersSome, LacksSome}
use Rattle.lra_front.specs.declared.dialect_answer.DialectRefusal.{DialectRefusal}
use Rattle.lra_narayana.specs.declared.operation.DialectOperation.{DialectOperation}
use Rattle.lra_rewrite.specs.Dialect.{meant_under}
use Rattle.lra_rewrite.specs.Serving.{Served, Responds, RespondsBy, RespondsInDialect, RespondsOwn}
use Rattle.lra_rewrite.specs.Requests.{Means, LacksMemory}
use Rattle.lra_rewrite.specs.Settling.{Settled, RespondsSettled}

module _ {S : Type 0} (base_of : S → List ℕ) (responds : S → ℕ → Request → Answered → S → Type 0)
    (stays : (before after : S) (moment : ℕ) (request : Request) (answered : Answered)
    → responds before moment request answered after → base_of after ≡ base_of before) where
  asked_stays : (is_meant : Request → Type 0) (reason : Type 0) (before after : S) (moment : ℕ) (answered : Answered)
      → AnswersSome responds is_meant before moment answered after ⊎ LacksSome reason before answered after
      → base_of after ≡ base_of before
  asked_stays is_meant reason before after moment answered (inl h) = stays before after moment h.meant answered h.does
  asked_stays is_meant reason before after moment answered (inr h) = ap base_of h.unchanged

  own_stays : (before : Served S) (after : S) (moment : ℕ) (request : Request) (answered : Answered)
      → RespondsOwn base_of responds before moment request answered after
      → base_of after ≡ base_of before.inner
  own_stays before after moment request answered (inl h) = ap base_of h.1.unchanged
  own_stays before after moment request answered (inr h) =
      asked_stays (Means (base_of before.inner) before.olders request)
      (LacksMemory (base_of before.inner) before.olders request) before.inner after moment answered h.1

  dialect_stays : (before : Served S) (after : S) (moment : ℕ) (request : Request) (answered : Answered)
      (found : Result DialectOperation DialectRefusal)
      → RespondsBy base_of responds before moment request answered after found
      → base_of after ≡ base_of before.inner
  dialect_stays before after moment request answered (Ok o) h =
      asked_stays (Means (base_of before.inner) before.olders h.own)
      (LacksMemory (base_of before.inner) before.olders h.own) before.inner after moment h.told h.does
  dialect_stays before after moment request answered (Err r) h = ap base_of h.unchanged

  inner_stays : (before : Served S) (after : S) (moment : ℕ) (request : Request) (answered : Answered)
      → (IsTrue before.speaks × RespondsInDialect base_of responds before moment request answered after)
      ⊎ (IsFalse before.speaks × RespondsOwn base_of responds before moment request answered after)
      → base_of after ≡ base_of before.inner
  inner_stays before after moment request answered (inl (speaks, inl h)) =
      dialect_stays before after moment request answered
      (meant_under (base_of before.inner) before.is_strict request) h
  inner_stays before after moment request answered (inl (speaks, inr h)) = ap base_of h.unchanged
  inner_stays before after moment request answered (inr h) =
      own_stays before after moment request answered h.1

  pub base_stays : (before after : Served S) (moment : ℕ) (request : Request) (answered : Answered)
      → Responds base_of responds before moment request answered after → base_of after.inner ≡ base_of before.inner
  base_stays before after moment request answered h = inner_stays before after.inner moment request answered h.inner

  pub settled_stays : (before after : Settled S) (moment : ℕ) (request : Request) (answered : Answered)
      → RespondsSettled responds before moment request answered after → base_of after.inner ≡ base_of before.inner
  settled_stays before after moment request answered h =
      asked_stays _ _ before.inner after.inner moment answered h.inner
