-- A request keeps what the URIs begin with, whether it is let through or turned away.
use Rattle.std.specs.Prelude.{◌≡◌, ℕ, List, Option}
use Rattle.std.proofs.Common.{ap, inl, inr}
use Rattle.lra_wire.specs.Request.{Request}
use Rattle.lra_steps.specs.declared.handler.Answered.{Answered}
use Rattle.lra_capacity.specs.Admitting.{Responds}

pub responds_stays : {S : Type 0} (responds : S → ℕ → Request → Answered → S → Type 0)
    (tells : Option ℕ → Option ℕ → Type 0) (base_of : S → List ℕ)
    (stays : (before after : S) (moment : ℕ) (request : Request) (answered : Answered)
    → responds before moment request answered after → base_of after ≡ base_of before)
    (before after : S) (moment : ℕ) (request : Request) (answered : Answered)
    → Responds responds tells before moment request answered after → base_of after ≡ base_of before
responds_stays responds tells base_of stays before after moment request answered (inl h) =
    stays before after moment request answered h.1
responds_stays responds tells base_of stays before after moment request answered (inr h) = ap base_of h.1
