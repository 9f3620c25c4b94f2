-- The filter keeps what the handler's URIs begin with, whatever is let in.
use Rattle.std.specs.Prelude.{◌≡◌, ℕ, List, Option, Some, None, MatchOption}
use Rattle.std.proofs.Common.{ap}
use Rattle.lra_wire.specs.Request.{Request}
use Rattle.lra_front.specs.declared.api_error.ApiError.{ApiError}
use Rattle.lra_steps.specs.declared.handler.Answered.{Answered}
use Rattle.lra_admission.specs.Admitting.{Rules, api_error_of}
use Rattle.lra_admission.specs.Serving.{Guard, Denies, Passes, Responds}

module _ {S : Type 0} (looks : Rules → Rules → Type 0) (responds : S → ℕ → Request → Answered → S → Type 0)
    (base_of : S → List ℕ)
    (stays : (before after : S) (moment : ℕ) (request : Request) (answered : Answered)
    → responds before moment request answered after → base_of after ≡ base_of before) where
  done_stays : (before after : S) (moment : ℕ) (request : Request) (answered : Answered) (retry : Option ℕ)
      (api_error : Option ApiError)
      → MatchOption api_error (Passes responds retry before moment request answered after)
      (Denies before answered after)
      → base_of after ≡ base_of before
  done_stays before after moment request answered retry None h = stays before after moment request h.own h.does
  done_stays before after moment request answered retry (Some d) h = ap base_of h.unchanged

  pub base_stays : (before after : Guard S) (moment : ℕ) (request : Request) (answered : Answered)
      → Responds looks responds before moment request answered after → base_of after.inner ≡ base_of before.inner
  base_stays before after moment request answered h =
      done_stays before.inner after.inner moment request answered before.retry
      (api_error_of after.rules request.fields) h.done
