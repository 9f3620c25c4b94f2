-- What the body of a request means under the settings of a service.
use Rattle.std.proofs.Common.{◌≡◌, ℕ, Bool, true, false, None, refl}
use Rattle.lra_wire.specs.Request.{Request}
use Rattle.lra_rewrite.specs.Https.{may_spell, spelled_at}
use Rattle.lra_rewrite.specs.Limits.{may_mean, limited_at}
use Rattle.lra_rewrite.specs.Settling.{settled_body}

pub limited_is : (limit : ℕ) (is_proxied : Bool) (own : Request) → may_mean limit own ≡ true
    → settled_body limit is_proxied own ≡ limited_at limit own.body
limited_is limit is_proxied own may = rw may refl

pub spelled_is : (limit : ℕ) (is_proxied : Bool) (own : Request) → may_mean limit own ≡ false
    → may_spell is_proxied own ≡ true → settled_body limit is_proxied own ≡ spelled_at own.body
spelled_is limit is_proxied own never may = rw (never, may) refl

pub neither_is : (limit : ℕ) (is_proxied : Bool) (own : Request) → may_mean limit own ≡ false
    → may_spell is_proxied own ≡ false → settled_body limit is_proxied own ≡ None
neither_is limit is_proxied own never spells = rw (never, spells) refl
