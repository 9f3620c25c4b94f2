-- What is made of a request of the dialect.
use Rattle.std.specs.Prelude.{◌≡◌, ℕ, Bool, List, Ok, Err}
use Rattle.lra_wire.specs.Request.{Request, request_of}
use Rattle.lra_narayana.specs.Meant.{meant, IsOwn}
use Rattle.lra_rewrite.specs.Dialect.{meant_under}
use Rattle.lra_rewrite.specs.Requests.{target_meant}
use Rattle.lra_rewrite.specs.declared.dialect.Translated.{Translated}
use Rattle.lra_rewrite.specs.declared.dialect.Translated.TheVariants as translated

-- a request with that target was translated, or why it isn't taken
abbrev pub IsTranslatedAt : List ℕ → List ℕ → Request → Translated → Type 0
IsTranslatedAt base target request (translated.Own o own) =
    (meant target request ≡ Ok o) × IsOwn base target o request (request_of own)
IsTranslatedAt base target request (translated.Refused r) = meant target request ≡ Err r

-- the same, whatever path of the base a proxy passed on
abbrev pub IsTranslated : List ℕ → Bool → Request → Translated → Type 0
IsTranslated base is_strict request (translated.Own o own) =
    (meant_under base is_strict request ≡ Ok o)
    × IsOwn base (target_meant base request.target) o request (request_of own)
IsTranslated base is_strict request (translated.Refused r) = meant_under base is_strict request ≡ Err r
