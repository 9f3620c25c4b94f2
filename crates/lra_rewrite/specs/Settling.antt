-- Handler that gets what the body of each request means under the settings of a service.
use Rattle.std.specs.Prelude.{◌≡◌, ◌⊎◌, ℕ, Bool, ◌||◌, if◌then◌else◌, Option, IsTrue}
use Rattle.serde_json.specs.Data.{Members}
use Rattle.lra_wire.specs.Request.{Request}
use Rattle.lra_steps.specs.declared.handler.Answered.{Answered}
use Rattle.lra_rewrite.specs.Asked.{AnswersSome, LacksSome}
use Rattle.lra_rewrite.specs.Https.{may_spell, spelled_body}
use Rattle.lra_rewrite.specs.Limits.{may_mean, limited_at}
use Rattle.lra_rewrite.specs.Requests.{MeansParts}

-- the handler's state, the limit of starts that give none, and whether members are called by a proxy
pub record Settled (S : Type 0) : Type 0 where
  pub inner : S
  pub limit : ℕ
  pub is_proxied : Bool

-- the members that the body of a request means, if those are others: those of a start with the default limit, and those
-- of a join with its addresses spelled with `http`
abbrev pub settled_body : ℕ → Bool → Request → Option Members
settled_body limit is_proxied request =
    if may_mean limit request then limited_at limit request.body else spelled_body is_proxied request

-- the request that a request means under the settings: the same, but for its body
abbrev pub MeansSettled : ℕ → Bool → Request → Request → Type 0
MeansSettled limit is_proxied request meant =
    MeansParts request.target (settled_body limit is_proxied request) request meant

-- a request may mean another: it is a start, and there is a default limit; or it is a join, and there is a proxy
abbrev pub may_differ : ℕ → Bool → Request → Bool
may_differ limit is_proxied request = may_mean limit request || may_spell is_proxied request

-- What a request at a moment does: what the request does that it means; or it may mean another, and memory was refused.
-- The settings stay.
pub record RespondsSettled {S : Type 0} (responds : S → ℕ → Request → Answered → S → Type 0) (before : Settled S)
    (moment : ℕ) (request : Request) (answered : Answered) (after : Settled S) : Type 0 where
  pub limit : after.limit ≡ before.limit
  pub is_proxied : after.is_proxied ≡ before.is_proxied
  pub inner : AnswersSome responds (MeansSettled before.limit before.is_proxied request) before.inner moment answered
      after.inner
      ⊎ LacksSome (IsTrue (may_differ before.limit before.is_proxied request)) before.inner answered after.inner

-- the handler rests, and the settings stay
pub record RestsSettled {S : Type 0} (rests : S → S → Type 0) (before after : Settled S) : Type 0 where
  pub inner : rests before.inner after.inner
  pub limit : after.limit ≡ before.limit
  pub is_proxied : after.is_proxied ≡ before.is_proxied
