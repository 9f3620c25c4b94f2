-- The object of a value, before and after.
use Rattle.std.proofs.Common.{◌≡◌, suc, ℕ, ◌≤◌, List, [], ◌∷◌, Option, Some, IfSome, MatchOption, String, Global}
use Rattle.std.proofs.Common.{BTreeMap, string_bytes, string_cmp, Ordering, Less, Equal, Greater, refl, sym, ap, ◌∙◌}
use Rattle.std.proofs.Common.{subst, arith}
use Rattle.std.specs.Prelude.{⊤}
use Rattle.std.specs.Str.{IsUtf8}
use Rattle.std.specs.BTreeMap.{insert_entry}
use Rattle.std.specs.Ordering.{match_ordering}
use Rattle.std.proofs.lemmas.Str.{IsUtf8-string_bytes, is_utf8-from_IsUtf8}
use Rattle.serde_json.specs.Data.{Data, Members, no_members, member, object, put, depth, members_depth}
use Rattle.serde_json.specs.Read.{read, max_depth}
use Rattle.serde_json.specs.View.{view, members_view}
use Rattle.serde_json.specs.declared.value.Value.{Value, Object}
use Rattle.serde_json.proofs.OnLiterals.{serde_json_on_literals}
use Rattle.serde_json.proofs.Views.{view-Object, members_view-insert_entry}
use Rattle.serde_json.specs.Find.{as_object}
use Rattle.lra_front.specs.Bodies.{object_in}
use Rattle.lra_rewrite.specs.inner.Made.{IsWritten}

-- ---- a text or a number is put into an object

depth-match_ordering : (o : Ordering) (a b c : Members) (n : ℕ) → members_depth a ≤ n → members_depth b ≤ n
    → members_depth c ≤ n → members_depth (match_ordering o a b c) ≤ n
depth-match_ordering Less a b c n p q r = p
depth-match_ordering Equal a b c n p q r = q
depth-match_ordering Greater a b c n p q r = r

-- the object nests no deeper for it
pub depth-put : (key : List ℕ) (d : Data) (ms : Members) (n : ℕ) → depth d ≡ 0 → members_depth ms ≤ n
    → members_depth (put key d ms) ≤ n
depth-put key d no_members n flat h = omega (arith, flat)
depth-put key d (member l e ms) n flat h =
    depth-match_ordering _ (member key d (member l e ms)) (member l d ms) (member l e (put key d ms)) n
    (omega (arith, flat, h)) (omega (arith, flat, h))
    (omega (arith, h, depth-put key d ms n flat (omega (arith, h))))

object_none : (d : Data) → read [] ≡ Some d → object_in [] ≡ as_object d
unfolding serde_json_on_literals
object_none d e = absurd (subst (λ (o : Option Data). MatchOption o ⊤ (λ d. ⊥)) e tt)

-- the value that was written is read back
object_read : (body : List ℕ) (d : Data) → IsUtf8 body → read body ≡ Some d → object_in body ≡ as_object d
object_read [] d text e = object_none d e
object_read (b ∷ rest) d text e = rw (is_utf8-from_IsUtf8 (b ∷ rest) text, e) refl

pub written_is : (text : String Global) (d : Data) → depth d ≤ max_depth
    → (depth d ≤ max_depth → read (string_bytes text) ≡ Some d) → IsWritten (string_bytes text) d
written_is text d fits written =
    (object_read (string_bytes text) d (IsUtf8-string_bytes text) (written fits), fits)

-- an object with one more text or number
module _ (d : Data) (v : Value) (old new : BTreeMap (String Global) Value) (k : String Global) (more : Value)
    (key : List ℕ) (seen : view v ≡ d) (is : v ≡ Object old) (named : string_bytes k ≡ key)
    (entries : new.entries ≡ insert_entry string_cmp old.entries k more) where
  before : d ≡ object (members_view old.entries)
  before = sym seen ∙ ap view is ∙ view-Object old

  after : view (Object new) ≡ object (put key (view more) (members_view old.entries))
  after =
      view-Object new ∙ ap (λ es. object (members_view es)) entries ∙ ap object
      (members_view-insert_entry old.entries k more)
      ∙ ap (λ l. object (put l (view more) (members_view old.entries))) named

  pub put_is : IfSome (as_object d) (λ ms. as_object (view (Object new)) ≡ Some (put key (view more) ms))
  put_is = rw before (ap as_object after)

  pub fits : depth d ≤ max_depth → depth (view more) ≡ 0 → depth (view (Object new)) ≤ max_depth
  fits deep flat =
      let small : suc (members_depth (members_view old.entries)) ≤ max_depth =
      subst (λ e. depth e ≤ max_depth) before deep in
      subst (λ e. depth e ≤ max_depth) (sym after)
      (omega (arith, small, depth-put key (view more) (members_view old.entries) 126 flat (omega (arith, small))))
