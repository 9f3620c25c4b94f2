-- The object that a text is, once it was written.
use Rattle.std.proofs.Common.{◌≡◌, ℕ, ◌≤◌, List, [], ◌∷◌, Option, Some, MatchOption, String, Global}
use Rattle.std.proofs.Common.{string_bytes, refl, ◌∙◌, subst}
use Rattle.std.specs.Prelude.{⊤}
use Rattle.std.specs.Str.{IsUtf8}
use Rattle.std.proofs.lemmas.Str.{IsUtf8-string_bytes, is_utf8-from_IsUtf8}
use Rattle.serde_json.specs.Data.{Data, Members, object, depth}
use Rattle.serde_json.specs.Read.{read, max_depth}
use Rattle.serde_json.proofs.OnLiterals.{serde_json_on_literals}
use Rattle.serde_json.specs.Find.{as_object}
use Rattle.lra_front.specs.Bodies.{object_in}

object_none : (d : Data) → read [] ≡ Some d → object_in [] ≡ as_object d
unfolding serde_json_on_literals
object_none d e = absurd (subst (λ (o : Option Data). MatchOption o ⊤ (λ d. ⊥)) e tt)

-- the value that was written is read back
object_read : (body : List ℕ) (d : Data) → IsUtf8 body → read body ≡ Some d → object_in body ≡ as_object d
object_read [] d text e = object_none d e
object_read (b ∷ rest) d text e = rw (is_utf8-from_IsUtf8 (b ∷ rest) text, e) refl

pub written_is : (text : String Global) (d : Data) (ms : Members) → d ≡ object ms
    → (depth d ≤ max_depth → read (string_bytes text) ≡ Some d) → depth (object ms) ≤ max_depth
    → object_in (string_bytes text) ≡ Some ms
written_is text d ms is written fits =
    object_read (string_bytes text) (object ms) (IsUtf8-string_bytes text) (subst
    (λ (e : Data). depth e ≤ max_depth → read (string_bytes text) ≡ Some e) is written fits)
