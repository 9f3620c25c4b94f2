-- What bodies and requests mean.
use Rattle.std.proofs.Common.{◌≡◌, ℕ, ◌≤◌, Bool, true, false, true≢false, List, [], ◌∷◌, length, Option, Some, None}
use Rattle.std.proofs.Common.{IfSome, is_some, option_map, option_and_then, if◌then◌else◌, unwrap_or, Result, Ok, Err}
use Rattle.std.proofs.Common.{refl, sym, ap, subst, ◌∙◌, arith}
use Rattle.std.specs.Prelude.{IsSome}
use Rattle.serde_json.specs.Data.{Data, null, boolean, number, string, array, object, depth, Members, put}
use Rattle.serde_json.specs.Find.{get, as_str, as_object}
use Rattle.serde_json.specs.Read.{max_depth}
use Rattle.serde_json.specs.View.{view}
use Rattle.lra_wire.specs.Request.{Request, request_of}
use Rattle.lra_front.specs.declared.operation.Operation.{Operation}
use Rattle.lra_front.specs.declared.operation.Operation.TheVariants as operation
use Rattle.lra_front.specs.declared.api_error.ApiError.{ApiError}
use Rattle.lra_front.specs.ApiRequests.{LacksMemory}
use Rattle.lra_front.specs.Routes.{operation_of}
use Rattle.lra_front.specs.Bodies.{identifier_key, reads_body, object_in, text_under, IsValueOf}
use Rattle.lra_rewrite.specs.Paths.{served_behind, other_target}
use Rattle.lra_rewrite.specs.Texts.{other_text}
use Rattle.lra_rewrite.specs.Bodies.{other_members, other_at, other_body, IsRead}
use Rattle.lra_rewrite.specs.Requests.{MeansParts, Means}
use Rattle.lra_rewrite.specs.declared.requests.Meant.{Meant}
use Rattle.lra_rewrite.specs.inner.Made.{IsMade, IsWritten, MeansOther, moved}

-- ---- the value of a body that is read

pub value_read : (own : Request) (d : Data) → LacksMemory own
    → IsValueOf (operation_of own.method own.target) own.body (Some d)
    → (object_in own.body ≡ as_object d) × (depth d ≤ max_depth)
value_read own d (r, e, reads) h =
    let held : IsValueOf (Ok r) own.body (Some d) = subst (λ f. IsValueOf f own.body (Some d)) e h in
    (rw reads at held.0, held.1)

pub none_read : (own : Request) → LacksMemory own → IsValueOf (operation_of own.method own.target) own.body None
    → object_in own.body ≡ None
none_read own (r, e, reads) h =
    let held : IsValueOf (Ok r) own.body None = subst (λ f. IsValueOf f own.body None) e h in
    rw reads at held

-- the value of a body that was written
pub value_written : (own : Request) (body : List ℕ) (d : Data) → LacksMemory own → IsWritten body d
    → IsValueOf (operation_of own.method own.target) body (Some d)
value_written own body d (r, e, reads) h =
    let held : IsValueOf (Ok r) body (Some d) = (rw reads h.0, h.1) in
    subst (λ f. IsValueOf f body (Some d)) (sym e) held

-- an operation with an identifier in its body reads it
pub key_reads : (r : Operation) → IsSome (identifier_key r) → reads_body r ≡ true
key_reads operation.Start some = refl
key_reads operation.Remove some = refl
key_reads operation.Status some = absurd (true≢false (sym some))
key_reads operation.Join some = refl
key_reads operation.Close some = refl
key_reads operation.Cancel some = refl
key_reads operation.Renew some = refl
key_reads operation.MemberStatus some = absurd (true≢false (sym some))
key_reads operation.Report some = refl

-- ---- bodies that mean themselves

-- a request without another target and body
pub itself : (own : Request) (members : Option Members) → members ≡ None → MeansParts own.target members own own
itself own members e = rw e (record {
  method = refl;
  target = refl;
  minor = refl;
  close = refl;
  fields = refl;
  body = refl;
})

pub empty_other : (base : List ℕ) (olders : List (List ℕ)) (key body : List ℕ) → length body ≡ 0
    → other_at base olders key body ≡ None
unfolding other_at
empty_other base olders key [] e = refl
empty_other base olders key (b ∷ rest) e = absurd (omega (arith, e))

pub unread_other : (base : List ℕ) (olders : List (List ℕ)) (key body : List ℕ) → object_in body ≡ None
    → other_at base olders key body ≡ None
unfolding other_at
unread_other base olders key body e = rw e refl

neither : (b : Bool) (o : Option (List ℕ)) → o ≡ None → (if b then None else o) ≡ None
neither true o e = refl
neither false o e = e

no_text : (base text : List ℕ) → other_text base [] text ≡ None
unfolding other_text
no_text base text = neither (is_some (served_behind base text)) None refl

no_members_of : (base key : List ℕ) (o : Option (List ℕ)) (ms : Members)
    → option_map (λ text. put key (string text) ms) (option_and_then (other_text base []) o) ≡ None
no_members_of base key None ms = refl
no_members_of base key (Some text) ms = rw (no_text base text) refl

no_object : (base key : List ℕ) (o : Option Members) → option_and_then (other_members base [] key) o ≡ None
no_object base key None = refl
no_object base key (Some ms) = no_members_of base key (text_under key ms) ms

no_key : (base body : List ℕ) (o : Option (List ℕ)) → option_and_then (λ key. other_at base [] key body) o ≡ None
unfolding other_at
no_key base body None = refl
no_key base body (Some key) = no_object base key (object_in body)

no_body : (base : List ℕ) (asked : Result Operation ApiError) (body : List ℕ) → other_body base [] asked body ≡ None
no_body base (Ok r) body = no_key base body (identifier_key r)
no_body base (Err d) body = refl

-- there is no older base
pub none_older : (base : List ℕ) (olders : List (List ℕ)) (asked : Result Operation ApiError) (body : List ℕ)
    → length olders ≡ 0 → other_body base olders asked body ≡ None
none_older base [] asked body e = no_body base asked body
none_older base (o ∷ olders) asked body e = absurd (omega (arith, e))

-- ---- bodies whose value is known

found_none : (base : List ℕ) (olders : List (List ℕ)) (key : List ℕ) (d : Data) → None
    ≡ option_and_then (other_text base olders) (option_and_then as_str (get key d))
    → option_and_then (other_members base olders key) (as_object d) ≡ None
found_none base olders key null e = refl
found_none base olders key (boolean b) e = refl
found_none base olders key (number n) e = refl
found_none base olders key (string s) e = refl
found_none base olders key (array ds) e = refl
found_none base olders key (object ms) e = ap (option_map (λ text. put key (string text) ms)) (sym e)

pub other_none : (base : List ℕ) (olders : List (List ℕ)) (key body : List ℕ) (d : Data) → object_in body ≡ as_object d
    → None ≡ option_and_then (other_text base olders) (option_and_then as_str (get key d))
    → other_at base olders key body ≡ None
unfolding other_at
other_none base olders key body d is e = rw is (found_none base olders key d e)

found_some : (base : List ℕ) (olders : List (List ℕ)) (key : List ℕ) (d more : Data) (text : List ℕ)
    (P : Option Members → Type 0) → more ≡ string text
    → Some text ≡ option_and_then (other_text base olders) (option_and_then as_str (get key d))
    → IfSome (as_object d) (λ ms. P (Some (put key more ms)))
    → P (option_and_then (other_members base olders key) (as_object d))
found_some base olders key null more text P is e h = absurd (true≢false (ap is_some e))
found_some base olders key (boolean b) more text P is e h = absurd (true≢false (ap is_some e))
found_some base olders key (number n) more text P is e h = absurd (true≢false (ap is_some e))
found_some base olders key (string s) more text P is e h = absurd (true≢false (ap is_some e))
found_some base olders key (array ds) more text P is e h = absurd (true≢false (ap is_some e))
found_some base olders key (object ms) more text P is e h = rw (← e, ← is) h

pub other_some : (base : List ℕ) (olders : List (List ℕ)) (key body : List ℕ) (d more : Data) (text : List ℕ)
    (P : Option Members → Type 0) → object_in body ≡ as_object d → more ≡ string text
    → Some text ≡ option_and_then (other_text base olders) (option_and_then as_str (get key d))
    → IfSome (as_object d) (λ ms. P (Some (put key more ms))) → P (other_at base olders key body)
unfolding other_at
other_some base olders key body d more text P is goes e h =
    rw is (found_some base olders key d more text P goes e h)

-- ---- requests

-- a copy of a request with the body that was written
pub parts : (own made : Request) (body : List ℕ) (d : Data) → made ≡ record own { body = body } → IsWritten body d
    → IfSome (as_object d) (λ ms. MeansParts own.target (Some ms) own made)
parts own made body d is written = at (as_object d) refl
  where
    at : (o : Option Members) → as_object d ≡ o → IfSome o (λ ms. MeansParts own.target (Some ms) own made)
    at None e = tt
    at (Some ms) e =
        subst (λ (r : Request). MeansParts own.target (Some ms) own r) (sym is) (record {
          method = refl;
          target = refl;
          minor = refl;
          close = refl;
          fields = refl;
          body = written.0 ∙ e;
        })

-- a request with the members that are made of others
pub made_of : (own made : Request) (o p : Option Members) (f : Members → Members) → IfSome o (λ ms. p ≡ Some (f ms))
    → IfSome p (λ ms. MeansParts own.target (Some ms) own made)
    → IfSome o (λ ms. MeansParts own.target (Some (f ms)) own made)
made_of own made None p f is h = tt
made_of own made (Some ms) p f is h = rw is at h

pub made_is : (own : Request) (other : Meant) (body : List ℕ) → LacksMemory own
    → request_of other.request ≡ record own { body = body } → IsWritten body (view other.value) → IsMade own other
made_is own other body reads is written = record {
  method = ap (λ (r : Request). r.method) is;
  target = ap (λ (r : Request). r.target) is;
  value =
      subst (λ (r : Request). IsValueOf (operation_of own.method own.target) r.body (Some (view other.value))) (sym is)
      (value_written own body (view other.value) reads written);
}

same_some : (x y : Request) → Some x ≡ Some y → x ≡ y
same_some x y e = ap (λ (o : Option Request). unwrap_or o x) e

meant_at : (base : List ℕ) (olders : List (List ℕ)) (own other meant : Request) (o : Option (List ℕ))
    → Some other ≡ option_map (λ target. record own { target = target }) o → MeansOther base olders other meant
    → MeansParts (unwrap_or o own.target)
    (other_body base olders (operation_of own.method (unwrap_or o own.target)) own.body) own meant
meant_at base olders own other meant None e h = absurd (true≢false (ap is_some e))
meant_at base olders own other meant (Some target) e h =
    let k : MeansOther base olders (record own { target = target }) meant =
    subst (λ (r : Request). MeansOther base olders r meant) (same_some _ _ e) h in
    record {
      method = k.method;
      target = k.target;
      minor = k.minor;
      close = k.close;
      fields = k.fields;
      body = k.body;
    }

-- what the request with another target means, a request with its own target means
pub meant_moved : (base : List ℕ) (olders : List (List ℕ)) (own other meant : Request) → Some other ≡ moved base own
    → MeansOther base olders other meant → Means base olders own meant
meant_moved base olders own other meant e h = meant_at base olders own other meant (other_target base own.target) e h

pub has_moved : (base : List ℕ) (own other : Request) → Some other ≡ moved base own
    → IsSome (other_target base own.target)
has_moved base own other e = by (other_target base own.target) e
  where
    by : (o : Option (List ℕ)) → Some other ≡ option_map (λ target. record own { target = target }) o → IsSome o
    by None e = absurd (true≢false (ap is_some e))
    by (Some target) e = refl

none_moved : (base : List ℕ) (own : Request) → None ≡ moved base own → other_target base own.target ≡ None
none_moved base own e = by (other_target base own.target) e
  where
    by : (o : Option (List ℕ)) → None ≡ option_map (λ target. record own { target = target }) o → o ≡ None
    by None e = refl
    by (Some target) e = absurd (true≢false (sym (ap is_some e)))

pub meant_unmoved : (base : List ℕ) (olders : List (List ℕ)) (own meant : Request) → None ≡ moved base own
    → MeansOther base olders own meant → Means base olders own meant
meant_unmoved base olders own meant e h = rw (none_moved base own e) h

pub lacks_unmoved : (base : List ℕ) (olders : List (List ℕ)) (own : Request) → None ≡ moved base own
    → IsRead olders (operation_of own.method own.target) own.body
    → IsRead olders (operation_of own.method (unwrap_or (other_target base own.target) own.target)) own.body
lacks_unmoved base olders own e h = rw (none_moved base own e) h
