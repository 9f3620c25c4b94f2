-- The text of a line.
use Rattle.std.proofs.Common.{◌≡◌, ◌≢◌, ℕ, Bool, true, false, cond, List, Option, None, Some, refl, sym, ap, ◌∙◌}
use Rattle.std.specs.Borrow.{Bor}
use Rattle.std.specs.Prelude.{Result, Ok, Err, MatchResult}
use Rattle.std.specs.Str.{IsUtf8, is_utf8}
use Rattle.std.specs.Option.{option_copied}
use Rattle.std.specs.Result.{result_ok}
use Rattle.std.proofs.lemmas.Str.{IsUtf8-from_is_utf8, is_utf8-from_IsUtf8}
use Rattle.lra_lines.specs.inner.Combinators.{unended}
use Rattle.lra_entries.specs.inner.Digits.{◌>>=◌}
use Rattle.lra_runs.specs.inner.RequestReading.{text_of}

-- bytes without a line feed at their end
pub no_text : (bytes : List ℕ) → ((body : List ℕ) → unended bytes ≢ Some body) → text_of bytes ≡ None
unfolding text_of
no_text bytes h = one (unended bytes) h
  where
    one : (o : Option (List ℕ)) → ((body : List ℕ) → o ≢ Some body) → (o >>= λ body. cond (is_utf8 body) (Some body)
        None) ≡ None
    one None h = refl
    one (Some body) h = absurd (h body refl)

no_utf8 : (bytes : List ℕ) (b : Bool) → is_utf8 bytes ≡ b → (IsUtf8 bytes → ⊥) → b ≡ false
no_utf8 bytes false e h = refl
no_utf8 bytes true e h = absurd (h (IsUtf8-from_is_utf8 bytes e))

-- a UTF-8 check of a line's body returns the line's text
pub text_by : {E : Type 0} (V : E → Type 0) (bytes body : List ℕ) (r : Result (Bor (List ℕ)) E) → unended bytes
    ≡ Some body → ((x : E) → V x → IsUtf8 body → ⊥) → MatchResult r (λ s. (s.now ≡ body) × IsUtf8 body) V
    → option_copied (result_ok r) ≡ text_of bytes
unfolding text_of
text_by V bytes body (Ok s) e out h = ap (λ (x : List ℕ). some x) h.0 ∙ sym (rw (e, is_utf8-from_IsUtf8 body h.1) refl)
  where
    some : List ℕ → Option (List ℕ)
    some x = Some x
text_by V bytes body (Err x) e out h = sym (rw (e, no_utf8 body (is_utf8 body) refl (out x h)) refl)
