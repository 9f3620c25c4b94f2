-- From the spans of a head to the request that the bytes begin with.
use Rattle.std.proofs.Common.{◌≡◌, ℕ, ◌+◌, ◌-◌, ◌<◌, ◌≤◌, ◌||◌, ◌==◌, Bool, true, false, cond, List, [], ◌++◌, length}
use Rattle.std.proofs.Common.{map, take, drop, sym, ap, subst, ◌∙◌, arith, append_assoc, Result, Ok, Err, inl, inr}
use Rattle.std.specs.Prelude.{◌⊎◌, nat_le, slice_range}
use Rattle.std.proofs.lemmas.List.{take-append-drop, drop-append-le, length-append, length-take, length-drop, drop-drop}
use Rattle.httparse.specs.declared.spans.HeaderSpan.{HeaderSpan}
use Rattle.httparse.specs.declared.spans.RequestSpans.{RequestSpans}
use Rattle.httparse.specs.Grammar.{ReadsRequest}
use Rattle.httparse.specs.Spans.{header_bytes}
use Rattle.httparse.proofs.GrammarLemmas.{ReadsRequest-append}
use Rattle.lra_wire.specs.declared.fault.WireFault.{WireFault}
use Rattle.lra_wire.specs.declared.fault.WireFault.TheVariants.{Chunked, BadLength, TooLarge}
use Rattle.lra_wire.specs.declared.fields.ContentLength.{ContentLength}
use Rattle.lra_wire.specs.declared.fields.ContentLength.TheVariants.{Nothing, Length, Malformed}
use Rattle.lra_wire.specs.Fields.{is_coded, stated_of, stated_body, body_length_of, lists_close}
use Rattle.lra_wire.specs.inner.Heads.{IsHeadAt, request_at}
use Rattle.lra_wire.specs.Request.{IsRequest, Request, told_by, EndsInBody}

ok_is_no_err : {n : ℕ} {fault : WireFault} → ¬ (◌≡◌ {A = Result ℕ WireFault} (Ok n) (Err fault))
ok_is_no_err e = cc

same_err : {a b : WireFault} → ◌≡◌ {A = Result ℕ WireFault} (Err a) (Err b) → a ≡ b
same_err e = cc

-- a part of the list, and what follows it
part_of : (bytes : List ℕ) (a n : ℕ) → drop a bytes ≡ slice_range bytes a (a + n) ++ drop (a + n) bytes
part_of bytes a n =
    let same : a + n - a ≡ n = omega arith in
    sym (take-append-drop n (drop a bytes)) ∙ ap (λ k. take k (drop a bytes) ++ drop n (drop a bytes)) (sym same)
    ∙ ap (λ rest. slice_range bytes a (a + n) ++ rest) (drop-drop n a bytes)

length_part : (bytes : List ℕ) (a n : ℕ) → a + n ≤ length bytes → length (slice_range bytes a (a + n)) ≡ n
length_part bytes a n h = omega (arith, length-take (a + n - a) (drop a bytes), length-drop a bytes)

-- The head in the bytes that came first, and the body in those and more.
pub request_there : (bytes more rest : List ℕ) (headers : List HeaderSpan) (spans : RequestSpans) (size : ℕ)
    (request : Request) → IsHeadAt bytes headers spans
    → body_length_of (map (header_bytes bytes) (take spans.headers headers)) ≡ Ok size
    → spans.len + size ≤ length (bytes ++ more)
    → record request { body = [] } ≡ request_at bytes headers spans
    → request.body ≡ slice_range (bytes ++ more) spans.len (spans.len + size)
    → IsRequest ((bytes ++ more) ++ rest) request (drop (spans.len + size) (bytes ++ more) ++ rest)
request_there bytes more rest headers spans size request at stated whole parts body =
    let kept : List ℕ = bytes ++ more in
    let end : ℕ = spans.len + size in
    let reads : ReadsRequest kept at.head (drop spans.len bytes ++ more) =
    ReadsRequest-append bytes at.head (drop spans.len bytes) more at.places.reads in
    let behind : drop spans.len bytes ++ more ≡ request.body ++ drop end kept =
    sym (drop-append-le spans.len bytes more at.within.section.len_fits) ∙ part_of kept spans.len size
    ∙ ap (λ b. b ++ drop end kept) (sym body) in
    let reading : ReadsRequest (kept ++ rest) at.head ((drop spans.len bytes ++ more) ++ rest) =
    ReadsRequest-append kept at.head (drop spans.len bytes ++ more) rest reads in
    record {
      head = at.head;
      found = record {
        reads = subst (λ (bs : List ℕ). ReadsRequest (kept ++ rest) at.head bs)
            (ap (λ bs. bs ++ rest) behind ∙ append_assoc request.body (drop end kept) rest) reading;
        lawful = at.lawful;
      };
      length = ap body_length_of (sym at.places.fields) ∙ stated ∙ ap Ok
          (sym (length_part kept spans.len size whole) ∙ ap length (sym body));
      method = ap (λ (r : Request). r.method) parts ∙ at.places.method;
      target = ap (λ (r : Request). r.target) parts ∙ at.places.path;
      minor = ap (λ (r : Request). r.minor) parts ∙ at.places.version;
      close = ap (λ (r : Request). r.close) parts ∙ ap (λ minor. (minor == 0)
          || lists_close (map (header_bytes bytes) (take spans.headers headers))) at.places.version
          ∙ ap (λ fields. (at.head.minor == 0) || lists_close fields) at.places.fields;
      fields = ap (λ (r : Request). r.fields) parts ∙ ap told_by at.places.fields;
    }

-- the bytes begin with a valid head, and not all of the body after it
pub lacks_body : (bytes more : List ℕ) (headers : List HeaderSpan) (spans : RequestSpans) (size : ℕ)
    → IsHeadAt bytes headers spans
    → body_length_of (map (header_bytes bytes) (take spans.headers headers)) ≡ Ok size → length (bytes ++ more)
    < spans.len + size → EndsInBody (bytes ++ more)
lacks_body bytes more headers spans size at stated few =
    let front : drop spans.len (bytes ++ more) ≡ drop spans.len bytes ++ more =
    drop-append-le spans.len bytes more at.within.section.len_fits in
    record {
      head = at.head;
      rest = drop spans.len bytes ++ more;
      found = record {
        reads = ReadsRequest-append bytes at.head (drop spans.len bytes) more at.places.reads;
        lawful =
            at.lawful;
      };
      size = size;
      stated = ap body_length_of (sym at.places.fields) ∙ stated;
      short = omega (
        arith,
        ap length front,
        length-drop spans.len (bytes ++ more),
        few,
        at.within.section.len_fits,
        length-append bytes more,
      );
    }

-- the bytes begin with a valid head, and the length of its body is refused
pub length_fault : (fields : List (List ℕ × List ℕ)) (fault : WireFault) → body_length_of fields ≡ Err fault
    → (fault ≡ Chunked) ⊎ ((fault ≡ BadLength) ⊎ (fault ≡ TooLarge))
length_fault fields fault e = go (is_coded fields) (stated_of fields) e
  where
    within : (b : Bool) (n : ℕ) → ◌≡◌ {A = Result ℕ WireFault} (cond b (Ok n) (Err TooLarge)) (Err fault)
        → (fault ≡ Chunked) ⊎ ((fault ≡ BadLength) ⊎ (fault ≡ TooLarge))
    within true n f = absurd (ok_is_no_err f)
    within false n f = inr (inr (sym (same_err f)))

    go : (b : Bool) (s : ContentLength) → ◌≡◌ {A = Result ℕ WireFault} (cond b (Err Chunked) (stated_body s))
        (Err fault)
        → (fault ≡ Chunked) ⊎ ((fault ≡ BadLength) ⊎ (fault ≡ TooLarge))
    go true s f = inl (sym (same_err f))
    go false Nothing f = absurd (ok_is_no_err f)
    go false (Length n) f = within (nat_le n 65536) n f
    go false Malformed f = inr (inl (sym (same_err f)))
