-- The filter keeps what the handler's URIs begin with, whatever the rules are.
use Rattle.std.specs.Prelude.{◌≡◌, ◌⊎◌, ℕ, List}
use Rattle.std.proofs.Common.{inl, inr, ap}
use Rattle.lra_wire.specs.Request.{Request}
use Rattle.lra_steps.specs.declared.handler.Answered.{Answered}
use Rattle.lra_member_rules.specs.Serving.{Served, Answers, Refuses, Responds}

module _ {S : Type 0} (base_of : S → List ℕ) (responds : S → ℕ → Request → Answered → S → Type 0)
    (stays : (before after : S) (moment : ℕ) (request : Request) (answered : Answered)
    → responds before moment request answered after → base_of after ≡ base_of before) where
  inner_stays : (before : Served S) (after : S) (moment : ℕ) (request : Request) (answered : Answered)
      → (Answers responds before moment request answered after ⊎ Refuses responds before request answered after)
      → base_of after ≡ base_of before.inner
  inner_stays before after moment request answered (inl h) = stays before.inner after moment request answered h.1
  inner_stays before after moment request answered (inr h) = ap base_of h.unchanged

  pub base_stays : (before after : Served S) (moment : ℕ) (request : Request) (answered : Answered)
      → Responds responds before moment request answered after → base_of after.inner ≡ base_of before.inner
  base_stays before after moment request answered h = inner_stays before after.inner moment request answered h.inner
