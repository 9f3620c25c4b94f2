-- Bytes that are a text, and those that aren't.
use Rattle.std.proofs.Common.{◌≡◌, ℕ, Bool, true, false, List, [], if◌then◌else◌, IsUtf8, refl}
use Rattle.std.specs.Str.{is_utf8}
use Rattle.std.proofs.lemmas.Str.{IsUtf8-from_is_utf8, is_utf8-from_IsUtf8}
use Rattle.lra_narayana.specs.Texts.{text_of}

pub is_text : (bs : List ℕ) → IsUtf8 bs → bs ≡ text_of bs
is_text bs u = rw (is_utf8-from_IsUtf8 bs u) refl

none_if : (bs : List ℕ) (b : Bool) → is_utf8 bs ≡ b → (IsUtf8 bs → ⊥) → [] ≡ (if b then bs else [])
none_if bs true e h = absurd (h (IsUtf8-from_is_utf8 bs e))
none_if bs false e h = refl

pub is_no_text : (bs : List ℕ) → (IsUtf8 bs → ⊥) → [] ≡ text_of bs
is_no_text bs h = none_if bs (is_utf8 bs) refl h
