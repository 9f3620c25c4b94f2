-- A stream of bytes is one list of requests, and ends in one way.
use Rattle.std.proofs.Common.{◌≡◌, ◌≢◌, ℕ, ◌<◌, List, [], ◌∷◌, ◌++◌, length, take, drop, refl, sym, ap, subst, ◌∙◌}
use Rattle.std.proofs.Common.{arith, Option, Some, None, Result, Ok, Err, inl, inr}
use Rattle.std.specs.Prelude.{◌⊎◌, IsTrue}
use Rattle.std.proofs.lemmas.List.{append-nil, length-append, take_at, drop_at}
use Rattle.std.proofs.lemmas.List.Elements.{All-cons, All-nil}
use Rattle.std.proofs.lemmas.Str.{IsUtf8-from_ascii}
use Rattle.std.proofs.lemmas.Str.Ascii.{IsAscii-cons, IsAscii-nil}
use Rattle.httparse.specs.Grammar.{RequestHead, IsRequestHead, crlf, print_request, is_token_byte, is_uri_byte, IsField}
use Rattle.httparse.proofs.GrammarLemmas.{request_unique}
use Rattle.httparse.proofs.OpenLemmas.{letter_is_token}
use Rattle.lra_wire.specs.declared.fault.WireFault.{WireFault}
use Rattle.lra_wire.specs.declared.fault.WireFault.TheVariants.{BadHead, Chunked, BadLength, TooLarge, Cut, Io, Memory}
use Rattle.lra_wire.specs.Fields.{body_length_of}
use Rattle.lra_wire.specs.Inbox.{IsOutside}
use Rattle.lra_wire.specs.Request.{Request, IsLawful, HasHead, IsRequest, RefusesRequest, AwaitsRequest, fields_of}
use Rattle.lra_wire.specs.Request.{told_by, closes}
use Rattle.lra_wire.specs.Requests.{Requests, IsHeadFault, EndsAlike}

-- what is refused after a valid head
pub record Behind (bytes : List ℕ) (fault : WireFault) : Type 0 where
  pub head : RequestHead
  pub rest : List ℕ
  pub found : HasHead bytes head rest
  pub refused : (body_length_of (fields_of head) ≡ Err fault) ⊎ ((fault ≡ Cut) × (size : ℕ)
      × (body_length_of (fields_of head) ≡ Ok size) × (length rest < size))

-- a fault is the head's, and there is no valid head, or it is one after a valid head
classes : (bytes : List ℕ) (fault : WireFault) → ¬ (IsOutside fault) → RefusesRequest bytes fault
    → (IsHeadFault fault × ((head : RequestHead) (rest : List ℕ) → ¬ (HasHead bytes head rest))) ⊎ Behind bytes fault
classes bytes BadHead inside never = inl (
  tt,
  λ head rest found. never [] head rest
      (subst (λ (bs : List ℕ). HasHead bs head rest) (sym (append-nil bytes)) found),
)
classes bytes Chunked inside r = inr (record { head = r.head; rest = r.rest; found = r.found; refused = inl r.refused })
classes bytes BadLength inside r =
    inr (record { head = r.head; rest = r.rest; found = r.found; refused = inl r.refused })
classes bytes TooLarge inside r =
    inr (record { head = r.head; rest = r.rest; found = r.found; refused = inl r.refused })
classes bytes Cut inside (inl ends) = inl (tt, λ head rest found. ends.open_head head rest found.reads)
classes bytes Cut inside (inr ends) =
    inr (record {
      head = ends.head;
      rest = ends.rest;
      found = ends.found;
      refused =
          inr (refl, ends.size, ends.stated, ends.short);
    })
classes bytes Io inside r = absurd (inside tt)
classes bytes Memory inside r = absurd (inside tt)

-- one head, and one rest
same_head : (bytes : List ℕ) (h k : RequestHead) (r q : List ℕ) → HasHead bytes h r → HasHead bytes k q → (h ≡ k)
    × (r ≡ q)
same_head bytes h k r q x y = request_unique bytes h k r q x.reads y.reads

-- a request is no refusal
pub exclusive : (bytes : List ℕ) (request : Request) (rest : List ℕ) (fault : WireFault) → ¬ (IsOutside fault)
    → IsRequest bytes request rest → RefusesRequest bytes fault → ⊥
exclusive bytes request rest fault inside is refused = go (classes bytes fault inside refused)
  where
    behind : (b : Behind bytes fault) → ((body_length_of (fields_of b.head) ≡ Err fault)
        ⊎ ((fault ≡ Cut) × (size : ℕ) × (body_length_of (fields_of b.head) ≡ Ok size) × (length b.rest < size))) → ⊥
    behind b (inl e) =
        let same = same_head bytes is.head b.head (request.body ++ rest) b.rest is.found b.found in
        let f : Ok (length request.body) ≡ Err fault = sym is.length ∙ ap (λ h. body_length_of (fields_of h)) same.0
        ∙ e in cc
    behind b (inr (cut, size, e, short)) =
        let same = same_head bytes is.head b.head (request.body ++ rest) b.rest is.found b.found in
        let f : ◌≡◌ {A = Result ℕ WireFault} (Ok (length request.body)) (Ok size) = sym is.length
        ∙ ap (λ h. body_length_of (fields_of h)) same.0 ∙ e in
        let n : length request.body ≡ size = cc in
        omega (arith, n, short, ap length same.1, length-append request.body rest)

    go : ((IsHeadFault fault × ((head : RequestHead) (rest : List ℕ) → ¬ (HasHead bytes head rest)))
        ⊎ Behind bytes fault) → ⊥
    go (inl (h, none)) = none is.head (request.body ++ rest) is.found
    go (inr b) = behind b b.refused

-- one request, and one rest
pub same_request : (bytes : List ℕ) (a b : Request) (r q : List ℕ) → IsRequest bytes a r → IsRequest bytes b q → (a ≡ b)
    × (r ≡ q)
same_request bytes a b r q x y =
    let same = same_head bytes x.head y.head (a.body ++ r) (b.body ++ q) x.found y.found in
    let f : ◌≡◌ {A = Result ℕ WireFault} (Ok (length a.body)) (Ok (length b.body)) = sym x.length
    ∙ ap (λ h. body_length_of (fields_of h)) same.0 ∙ y.length in
    let n : length a.body ≡ length b.body = cc in
    let body : a.body ≡ b.body = sym (take_at a.body r (length b.body) n) ∙ ap (take (length b.body)) same.1
    ∙ take_at b.body q (length b.body) refl in
    let rest : r ≡ q = sym (drop_at a.body r (length b.body) n) ∙ ap (drop (length b.body)) same.1
    ∙ drop_at b.body q (length b.body) refl in
    let method : a.method ≡ b.method = x.method ∙ ap (λ (h : RequestHead). h.method) same.0 ∙ sym y.method in
    let target : a.target ≡ b.target = x.target ∙ ap (λ (h : RequestHead). h.target) same.0 ∙ sym y.target in
    let minor : a.minor ≡ b.minor = x.minor ∙ ap (λ (h : RequestHead). h.minor) same.0 ∙ sym y.minor in
    let close : a.close ≡ b.close = x.close ∙ ap closes same.0 ∙ sym y.close in
    let fields : a.fields ≡ b.fields = x.fields ∙ ap (λ h. told_by (fields_of h)) same.0 ∙ sym y.fields in (
      λ i. record {
        method = method i;
        target = target i;
        minor = minor i;
        close = close i;
        body = body i;
        fields =
            fields i;
      },
      rest,
    )

-- a head has at least a method
pub some_bytes : (head : RequestHead) (rest : List ℕ) → IsRequestHead head → print_request head ++ rest ≢ []
unfolding print_request
some_bytes head rest is e = omega (arith, is.method.0, simp length-append at (ap length e))

-- where more of a request is asked for, no whole request has come
pub awaits_none : (bytes : List ℕ) (request : Request) (rest : List ℕ) → AwaitsRequest bytes
    → ¬ (IsRequest bytes request rest)
awaits_none bytes request rest (inl open_head) is = open_head.0 is.head (request.body ++ rest) is.found.reads
awaits_none bytes request rest (inr ends) is = exclusive bytes request rest Cut (λ h. h) is (inr ends)

-- a short head that is valid
pub example : RequestHead
example = record {
  blank = [];
  method = 65 ∷ [];
  target = 47 ∷ [];
  minor = 0;
  line_end = crlf;
  fields = [];
  last =
      crlf;
}

pub example_is : IsRequestHead example
unfolding example
example_is = record {
  method = (
    omega arith,
    All-cons (λ b. IsTrue (is_token_byte b)) 65 [] letter_is_token
        (All-nil (λ b. IsTrue (is_token_byte b))),
  );
  target = (omega arith, All-cons (λ b. IsTrue (is_uri_byte b)) 47 [] refl (All-nil (λ b. IsTrue (is_uri_byte b))));
  target_text = IsUtf8-from_ascii _ (IsAscii-cons 47 [] (omega arith) IsAscii-nil);
  minor = omega arith;
  fields = All-nil IsField;
}

example_lawful : IsLawful example
unfolding example print_request
example_lawful = record { size = omega arith; count = omega arith; host = λ e. absurd (omega arith) }

-- the empty stream is no refusal
not_at_end : (fault : WireFault) → ¬ (IsOutside fault) → RefusesRequest [] fault → ⊥
not_at_end BadHead inside never = never (print_request example) example []
    (record { reads = (example_is, sym (append-nil (print_request example))); lawful = example_lawful })
not_at_end Chunked inside r = some_bytes r.head r.rest r.found.reads.0 (sym r.found.reads.1)
not_at_end BadLength inside r = some_bytes r.head r.rest r.found.reads.0 (sym r.found.reads.1)
not_at_end TooLarge inside r = some_bytes r.head r.rest r.found.reads.0 (sym r.found.reads.1)
not_at_end Cut inside (inl ends) = ends.begun refl
not_at_end Cut inside (inr r) = some_bytes r.head r.rest r.found.reads.0 (sym r.found.reads.1)
not_at_end Io inside r = inside tt
not_at_end Memory inside r = inside tt

-- two ends of one stream
ends_alike : (bytes : List ℕ) (fault other : WireFault) → ¬ (IsOutside fault) → ¬ (IsOutside other)
    → RefusesRequest bytes fault → RefusesRequest bytes other
    → (fault ≡ other) ⊎ (IsHeadFault fault × IsHeadFault other)
ends_alike bytes fault other i j x y = go (classes bytes fault i x) (classes bytes other j y)
  where
    both : (b : Behind bytes fault) (d : Behind bytes other)
        → ((body_length_of (fields_of b.head) ≡ Err fault) ⊎ ((fault ≡ Cut) × (size : ℕ)
        × (body_length_of (fields_of b.head) ≡ Ok size) × (length b.rest < size)))
        → ((body_length_of (fields_of d.head) ≡ Err other) ⊎ ((other ≡ Cut) × (size : ℕ)
        × (body_length_of (fields_of d.head) ≡ Ok size) × (length d.rest < size)))
        → fault ≡ other
    both b d (inl e) (inl f) =
        let same = ap (λ h. body_length_of (fields_of h)) (same_head bytes b.head d.head b.rest d.rest b.found
        d.found).0 in
        let g : ◌≡◌ {A = Result ℕ WireFault} (Err fault) (Err other) = sym e ∙ same ∙ f in cc
    both b d (inl e) (inr (cut, size, f, short)) =
        let same = ap (λ h. body_length_of (fields_of h)) (same_head bytes b.head d.head b.rest d.rest b.found
        d.found).0 in
        let g : ◌≡◌ {A = Result ℕ WireFault} (Err fault) (Ok size) = sym e ∙ same ∙ f in cc
    both b d (inr (cut, size, e, short)) (inl f) =
        let same = ap (λ h. body_length_of (fields_of h)) (same_head bytes b.head d.head b.rest d.rest b.found
        d.found).0 in
        let g : ◌≡◌ {A = Result ℕ WireFault} (Ok size) (Err other) = sym e ∙ same ∙ f in cc
    both b d (inr (cut, size, e, short)) (inr (cut', size', f, short')) = cut ∙ sym cut'

    go : ((IsHeadFault fault × ((head : RequestHead) (rest : List ℕ) → ¬ (HasHead bytes head rest)))
        ⊎ Behind bytes fault)
        → ((IsHeadFault other × ((head : RequestHead) (rest : List ℕ) → ¬ (HasHead bytes head rest)))
        ⊎ Behind bytes other)
        → (fault ≡ other) ⊎ (IsHeadFault fault × IsHeadFault other)
    go (inl (h, none)) (inl (k, nor)) = inr (h, k)
    go (inl (h, none)) (inr d) = absurd (none d.head d.rest d.found)
    go (inr b) (inl (k, nor)) = absurd (nor b.head b.rest b.found)
    go (inr b) (inr d) = inl (both b d b.refused d.refused)

-- one list, and one end
pub one_reading : (bytes : List ℕ) (requests others : List Request) (end other : Option WireFault)
    → Requests bytes requests end → Requests bytes others other → (requests ≡ others) × EndsAlike end other
one_reading bytes [] [] None None x y = (refl, tt)
one_reading bytes [] [] None (Some fault) x y = absurd (not_at_end fault y.0
    (subst (λ (bs : List ℕ). RefusesRequest bs fault) x y.1))
one_reading bytes [] [] (Some fault) None x y = absurd (not_at_end fault x.0
    (subst (λ (bs : List ℕ). RefusesRequest bs fault) y x.1))
one_reading bytes [] [] (Some fault) (Some other) x y = (refl, ends_alike bytes fault other x.0 y.0 x.1 y.1)
one_reading bytes [] (b ∷ others) None other x y = absurd (some_bytes y.1.head (b.body ++ y.0) y.1.found.reads.0
    (sym y.1.found.reads.1 ∙ x))
one_reading bytes [] (b ∷ others) (Some fault) other x y = absurd (exclusive bytes b y.0 fault x.0 y.1 x.1)
one_reading bytes (a ∷ requests) [] end None x y = absurd (some_bytes x.1.head (a.body ++ x.0) x.1.found.reads.0
    (sym x.1.found.reads.1 ∙ y))
one_reading bytes (a ∷ requests) [] end (Some fault) x y = absurd (exclusive bytes a x.0 fault y.0 x.1 y.1)
one_reading bytes (a ∷ requests) (b ∷ others) end other x y =
    let same = same_request bytes a b x.0 y.0 x.1 y.1 in
    let more = one_reading x.0 requests others end other x.2 (subst (λ (bs : List ℕ). Requests bs others other)
    (sym same.1) y.2) in
    (λ i. same.0 i ∷ more.0 i, more.1)
