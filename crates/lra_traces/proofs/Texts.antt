-- IDs and flags that are texts, and others.
use Rattle.std.specs.Prelude.{◌≡◌, ℕ, Bool, true, false, List, ◌++◌, Some, None, codes, IsUtf8, refl}
use Rattle.std.specs.Prelude.{if◌then◌else◌}
use Rattle.std.specs.Str.{is_utf8}
use Rattle.std.proofs.lemmas.Str.{is_utf8-from_IsUtf8, IsUtf8-from_is_utf8}
use Rattle.lra_traces.specs.Traceparents.{spelled}

-- a text is spelled
pub is_text : (body : List ℕ) → IsUtf8 body → Some (codes "00" ++ body) ≡ spelled body
is_text body u = rw (is_utf8-from_IsUtf8 body u) refl

none_if : (body : List ℕ) (b : Bool) → is_utf8 body ≡ b → (IsUtf8 body → ⊥)
    → None ≡ (if b then Some (codes "00" ++ body) else None)
none_if body true e h = absurd (h (IsUtf8-from_is_utf8 body e))
none_if body false e h = refl

-- what is no text isn't spelled
pub is_no_text : (body : List ℕ) → (IsUtf8 body → ⊥) → None ≡ spelled body
is_no_text body h = none_if body (is_utf8 body) refl h
