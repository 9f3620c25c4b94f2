-- The request that the bytes which came begin with.
use Rattle.std.proofs.Common.{◌≡◌, ◌≢◌, ℕ, ◌+◌, ◌<◌, ◌≤◌, Bool, true, false, cond, ◌==◌, List, [], ◌∷◌, ◌++◌, length}
use Rattle.std.proofs.Common.{map, take, drop, refl, sym, ap, subst, ◌∙◌, arith, append_assoc, Result, Ok, Err, inl}
use Rattle.std.proofs.Common.{inr, ◌⊎◌}
use Rattle.std.specs.Prelude.{nat_le, slice_range}
use Rattle.std.specs.List.{list_any}
use Rattle.std.proofs.lemmas.Bool.{leb-true}
use Rattle.std.proofs.lemmas.List.{append-nil, length-append, take-append-le, take_all}
use Rattle.httparse.specs.declared.spans.HeaderSpan.{HeaderSpan}
use Rattle.httparse.specs.declared.spans.RequestSpans.{RequestSpans}
use Rattle.httparse.specs.Grammar.{print_request, ReadsRequest, HasNoRequest, MayBecomeRequest}
use Rattle.httparse.specs.Spans.{header_bytes}
use Rattle.httparse.proofs.GrammarLemmas.{ReadsRequest-append}
use Rattle.lra_wire.specs.declared.fault.WireFault.{WireFault}
use Rattle.lra_wire.specs.declared.fault.WireFault.TheVariants.{BadHead, Chunked, BadLength, TooLarge, Cut, Io, Memory}
use Rattle.lra_wire.specs.declared.fields.ContentLength.{ContentLength}
use Rattle.lra_wire.specs.declared.fields.ContentLength.TheVariants.{Nothing, Length, Malformed}
use Rattle.lra_wire.specs.Fields.{is_coded, stated_of, stated_body, body_length_of}
use Rattle.lra_wire.specs.declared.front.RequestCursor.{RequestCursor}
use Rattle.lra_wire.specs.Fronts.{RefusesFront, IsUnfinished, Sees}
use Rattle.lra_wire.specs.inner.RequestParse.{LacksBody, StaysOpen}
use Rattle.lra_wire.specs.inner.Heads.{IsHeadAt, request_at}
use Rattle.lra_wire.specs.Request.{IsRequest, HasHead, Request, NeverLawful, RefusesBody, EndsInBody, IsOpenRequest}
use Rattle.lra_wire.specs.Request.{AwaitsRequest, fields_of}
use Rattle.lra_wire.proofs.HeadLemmas.{up_to_all, no_request, no_request_yet}
use Rattle.lra_wire.proofs.ReadingLemmas.{request_there, lacks_body, length_fault}
use Rattle.lra_wire.proofs.RequestsLemmas.{exclusive, some_bytes}

-- ---- what is found

-- the head and the body in the bytes that came
pub request_front : (bytes : List ℕ) (headers : List HeaderSpan) (spans : RequestSpans) (size : ℕ) (request : Request)
    → IsHeadAt bytes headers spans
    → body_length_of (map (header_bytes bytes) (take spans.headers headers)) ≡ Ok size
    → spans.len + size ≤ length bytes
    → record request { body = [] } ≡ request_at bytes headers spans
    → request.body ≡ slice_range bytes spans.len (spans.len + size)
    → IsRequest bytes request (drop (spans.len + size) bytes)
request_front bytes headers spans size request at stated whole parts body =
    let n = spans.len + size in
    let same : bytes ++ [] ≡ bytes = append-nil bytes in
    let there = request_there bytes [] [] headers spans size request at stated
    (subst (λ (xs : List ℕ). spans.len + size ≤ length xs) (sym same) whole) parts
    (body ∙ ap (λ xs. slice_range xs spans.len (spans.len + size)) (sym same)) in
    subst (λ (xs : List ℕ). IsRequest xs request (drop n bytes)) (append-nil (bytes ++ []) ∙ same)
    (subst (λ (ys : List ℕ). IsRequest ((bytes ++ []) ++ []) request ys)
    (append-nil (drop n (bytes ++ [])) ∙ ap (drop n) same) there)

-- no head, whatever follows
pub head_refuses : (bytes : List ℕ) (fault : WireFault) → fault ≡ BadHead → NeverLawful bytes → RefusesFront bytes fault
head_refuses bytes fault bad never = subst (RefusesFront bytes) (sym bad) never

-- a valid head, and the length of its body is refused
pub size_refuses : (bytes : List ℕ) (headers : List HeaderSpan) (spans : RequestSpans) (fault : WireFault)
    → IsHeadAt bytes headers spans
    → body_length_of (map (header_bytes bytes) (take spans.headers headers)) ≡ Err fault → RefusesFront bytes fault
size_refuses bytes headers spans fault at stated = says (length_fault (fields_of at.head) fault is)
  where
    is : body_length_of (fields_of at.head) ≡ Err fault
    is = ap body_length_of (sym at.places.fields) ∙ stated

    refuses : RefusesBody bytes fault
    refuses = record {
      head = at.head;
      rest = drop spans.len bytes;
      found =
          record { reads = at.places.reads; lawful = at.lawful };
      refused = is;
    }

    says : (fault ≡ Chunked) ⊎ ((fault ≡ BadLength) ⊎ (fault ≡ TooLarge)) → RefusesFront bytes fault
    says (inl e) = subst (RefusesFront bytes) (sym e) (subst (RefusesBody bytes) e refuses)
    says (inr (inl e)) = subst (RefusesFront bytes) (sym e) (subst (RefusesBody bytes) e refuses)
    says (inr (inr e)) = subst (RefusesFront bytes) (sym e) (subst (RefusesBody bytes) e refuses)

-- a head isn't whole
pub head_unfinished : (bytes : List ℕ) → HasNoRequest bytes → MayBecomeRequest bytes → IsUnfinished bytes
head_unfinished [] none may = inl refl
head_unfinished (b ∷ bytes) none may = inr (inl (record { begun = λ e. cc; open_head = none; lawful = may }))

-- a body within its limit
length_limit : (fields : List (List ℕ × List ℕ)) (size : ℕ) → body_length_of fields ≡ Ok size → size ≤ 65536
length_limit fields size e = go (is_coded fields) (stated_of fields) e
  where
    within : (b : Bool) (n : ℕ) → b ≡ nat_le n 65536 → ◌≡◌ {A = Result ℕ WireFault} (cond b (Ok n) (Err TooLarge))
        (Ok size) → size ≤ 65536
    within true n is f = let same : n ≡ size = cc in omega (arith, same, leb-true n 65536 (sym is))
    within false n is f = absurd cc

    go : (b : Bool) (s : ContentLength) → ◌≡◌ {A = Result ℕ WireFault} (cond b (Err Chunked) (stated_body s)) (Ok size)
        → size
        ≤ 65536
    go true s f = absurd cc
    go false Nothing f = let same : 0 ≡ size = cc in omega (arith, same)
    go false (Length n) f = within (nat_le n 65536) n refl f
    go false Malformed f = absurd cc

-- a body isn't whole
pub body_lacks : (bytes : List ℕ) (headers : List HeaderSpan) (spans : RequestSpans) (size : ℕ)
    → IsHeadAt bytes headers spans
    → body_length_of (map (header_bytes bytes) (take spans.headers headers)) ≡ Ok size → length bytes < spans.len + size
    → LacksBody (spans.len + size) bytes
body_lacks bytes headers spans size at stated few = record {
  few = few;
  bound = omega (
    arith,
    at.places.len,
    at.lawful.size,
    length_limit (map (header_bytes bytes)
        (take spans.headers headers)) size stated,
  );
  body = λ more f. lacks_body bytes more headers spans size at stated f;
}

ends_in_body : (bytes : List ℕ) (wanted : ℕ) → length bytes < wanted →
    ((more : List ℕ) → length (bytes ++ more) < wanted → EndsInBody (bytes ++ more)) → EndsInBody bytes
ends_in_body bytes wanted few h =
    let same : bytes ++ [] ≡ bytes = append-nil bytes in
    subst EndsInBody same (h [] (subst (λ (xs : List ℕ). length xs < wanted) (sym same) few))

pub body_unfinished : (bytes : List ℕ) (wanted : ℕ) → LacksBody wanted bytes → IsUnfinished bytes
    × (length bytes < 73728)
body_unfinished bytes wanted l = (inr (inr (ends_in_body bytes wanted l.few l.body)), omega (arith, l.few, l.bound))

-- ---- what was seen

pub sees_nothing : (bytes : List ℕ) → Sees (record { looked = 0; wanted = 0 }) bytes
sees_nothing bytes = record { within = omega arith; head = λ z. no_request_yet; body = λ p. absurd (omega (arith, p)) }

-- the findings hold of more bytes
pub sees_more : (seen : RequestCursor) (bytes more : List ℕ) → Sees seen bytes → Sees seen (bytes ++ more)
sees_more seen bytes more s = record {
  within = omega (arith, s.within, length-append bytes more);
  head = λ z. subst IsOpenRequest (sym (take-append-le seen.looked bytes more s.within)) (s.head z);
  body = λ p.
      let known = s.body p in (
        known.0,
        λ tail few. subst EndsInBody (sym (append_assoc bytes more tail))
            (known.1 (more ++ tail) (subst (λ (xs : List ℕ). length xs < seen.wanted) (append_assoc bytes more tail)
            few)),
      );
}

-- a body that isn't whole yet
pub seen_body : (seen : RequestCursor) (bytes : List ℕ) → Sees seen bytes → 0 < seen.wanted → length bytes < seen.wanted
    → StaysOpen seen.wanted bytes
seen_body seen bytes s some few =
    let known = s.body some in
    record {
      awaits = inr (ends_in_body bytes seen.wanted few known.1);
      bound = omega (arith, few, known.0);
      head =
          λ z. absurd (omega (arith, z, some));
    }

-- a head after which no line feed came
pub seen_head : (seen : RequestCursor) (bytes : List ℕ) → Sees seen bytes → seen.wanted ≡ 0 → length bytes < 8192
    → list_any (λ b. b == 10) (slice_range bytes seen.looked (length bytes)) ≡ false
    → StaysOpen seen.wanted bytes
seen_head seen bytes s none few feed =
    let open_head = no_request bytes seen.looked s.within (s.head none) feed in
    record { awaits = inl open_head; bound = omega (arith, few); head = λ z. open_head }

-- all bytes were read
pub sees_all : (seen : RequestCursor) (bytes : List ℕ) → Sees seen bytes → StaysOpen seen.wanted bytes
    → Sees (record seen { looked = length bytes }) bytes
sees_all seen bytes s o = record {
  within = omega arith;
  head = λ z. subst IsOpenRequest (sym (take_all (length bytes) bytes (omega arith))) (o.head z);
  body = s.body;
}

pub head_open : (bytes : List ℕ) → HasNoRequest bytes → MayBecomeRequest bytes → IsOpenRequest bytes
head_open bytes none may = (none, up_to_all MayBecomeRequest bytes may)

pub sees_head : (bytes : List ℕ) → IsOpenRequest bytes → Sees (record { looked = length bytes; wanted = 0 }) bytes
sees_head bytes o = record {
  within = omega arith;
  head = λ z. subst IsOpenRequest (sym (take_all (length bytes) bytes (omega arith))) o;
  body = λ p. absurd (omega (arith, p));
}

pub sees_body : (seen : RequestCursor) (bytes : List ℕ) (wanted : ℕ) → Sees seen bytes → LacksBody wanted bytes
    → Sees (record seen { wanted = wanted }) bytes
sees_body seen bytes wanted s l = record {
  within = s.within;
  head = λ z. absurd (omega (arith, z, l.few));
  body =
      λ p. (l.bound, l.body);
}

-- more is asked for where more is wanted
pub unfinished_awaits : (bytes : List ℕ) → IsUnfinished bytes → AwaitsRequest bytes
unfinished_awaits bytes (inl none) = inl (subst IsOpenRequest (sym none) no_request_yet)
unfinished_awaits bytes (inr (inl ends)) = inl (head_open bytes ends.open_head ends.lawful)
unfinished_awaits bytes (inr (inr ends)) = inr ends

-- ---- whatever follows

-- the request stays
pub request_more : (bytes more : List ℕ) (request : Request) (rest : List ℕ) → IsRequest bytes request rest
    → IsRequest (bytes ++ more) request (rest ++ more)
request_more bytes more request rest r = record {
  head = r.head;
  found = record {
    reads = subst (λ (xs : List ℕ). ReadsRequest (bytes ++ more) r.head xs) (append_assoc request.body rest more)
        (ReadsRequest-append bytes r.head (request.body ++ rest) more r.found.reads);
    lawful = r.found.lawful;
  };
  length = r.length;
  method = r.method;
  target = r.target;
  minor = r.minor;
  close = r.close;
  fields = r.fields;
}

body_more : (bytes more : List ℕ) (fault : WireFault) → RefusesBody bytes fault → RefusesBody (bytes ++ more) fault
body_more bytes more fault r = record {
  head = r.head;
  rest = r.rest ++ more;
  found = record { reads = ReadsRequest-append bytes r.head r.rest more r.found.reads; lawful = r.found.lawful };
  refused = r.refused;
}

-- the fault stays
pub refused_more : (bytes more : List ℕ) (fault : WireFault) → RefusesFront bytes fault
    → RefusesFront (bytes ++ more) fault
refused_more bytes more BadHead h = λ tail head rest found. h (more ++ tail) head rest
    (subst (λ (xs : List ℕ). HasHead xs head rest) (append_assoc bytes more tail) found)
refused_more bytes more Chunked h = body_more bytes more Chunked h
refused_more bytes more BadLength h = body_more bytes more BadLength h
refused_more bytes more TooLarge h = body_more bytes more TooLarge h
refused_more bytes more Memory h = tt
refused_more bytes more Cut h = absurd h
refused_more bytes more Io h = absurd h

-- a request has at least one byte
pub request_takes : (bytes : List ℕ) (request : Request) (rest : List ℕ) → IsRequest bytes request rest → length rest
    < length bytes
unfolding print_request
request_takes bytes request rest r = omega (
  arith,
  r.found.reads.0.method.0,
  simp length-append at (ap length r.found.reads.1),
)

-- the bytes begin with no request where more is wanted
pub unfinished_none : (bytes : List ℕ) (request : Request) (rest : List ℕ) → IsUnfinished bytes
    → ¬ (IsRequest bytes request rest)
unfinished_none bytes request rest (inl none) r = some_bytes r.head (request.body ++ rest) r.found.reads.0
    (sym r.found.reads.1 ∙ none)
unfinished_none bytes request rest (inr cut) r = exclusive bytes request rest Cut (λ h. h) r cut

-- the bytes begin with no request where they have a fault
pub faulty_none : (bytes : List ℕ) (fault : WireFault) (request : Request) (rest : List ℕ) → fault ≢ Memory
    → RefusesFront bytes fault → ¬ (IsRequest bytes request rest)
faulty_none bytes BadHead request rest n h r = exclusive bytes request rest BadHead (λ h. h) r h
faulty_none bytes Chunked request rest n h r = exclusive bytes request rest Chunked (λ h. h) r h
faulty_none bytes BadLength request rest n h r = exclusive bytes request rest BadLength (λ h. h) r h
faulty_none bytes TooLarge request rest n h r = exclusive bytes request rest TooLarge (λ h. h) r h
faulty_none bytes Memory request rest n h r = n refl
faulty_none bytes Cut request rest n h r = h
faulty_none bytes Io request rest n h r = h
