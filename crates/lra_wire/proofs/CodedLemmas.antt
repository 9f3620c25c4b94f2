-- Requests that have a coding or an expectation, in the bytes that came so far.
use Rattle.std.proofs.Common.{◌≡◌, ◌≢◌, ℕ, ◌+◌, ◌-◌, ◌<◌, ◌≤◌, ◌||◌, ◌==◌, Bool, true, false, cond, List, [], ◌∷◌, ◌++◌}
use Rattle.std.proofs.Common.{length, map, take, drop, refl, sym, ap, subst, ◌∙◌, arith, append_assoc, Option, Some}
use Rattle.std.proofs.Common.{None, Result, Ok, Err, inl, inr, ◌⊎◌}
use Rattle.std.specs.Prelude.{not, codes, nat_le, slice_range}
use Rattle.std.specs.List.{list_any, flat_map}
use Rattle.std.proofs.Math.Seq.{drop-append_seam}
use Rattle.std.proofs.lemmas.Bool.{leb-true}
use Rattle.std.proofs.lemmas.List.{append-nil, length-append, length-drop, drop_all, drop-drop, take-append-drop}
use Rattle.httparse.specs.declared.spans.HeaderSpan.{HeaderSpan}
use Rattle.httparse.specs.declared.spans.RequestSpans.{RequestSpans}
use Rattle.httparse.specs.Grammar.{RequestHead, ReadsRequest, print_request}
use Rattle.httparse.specs.Spans.{header_bytes}
use Rattle.httparse.proofs.GrammarLemmas.{ReadsRequest-append, ReadsSection-append, request_unique}
use Rattle.httparse.proofs.ChunkLemmas.{ReadsChunkLine-append}
use Rattle.lra_wire.specs.declared.chunks.ChunksRead.{ChunksRead}
use Rattle.lra_wire.specs.declared.coded.CodedCursor.{CodedCursor}
use Rattle.lra_wire.specs.declared.coded.CodedHead.{CodedHead}
use Rattle.lra_wire.specs.declared.front.Front.{Front}
use Rattle.lra_wire.specs.declared.wanted.Wanted.{Wanted}
use Rattle.lra_wire.specs.declared.wanted.Wanted.TheVariants.{Feed, Bytes}
use Rattle.lra_wire.specs.declared.fault.WireFault.{WireFault}
use Rattle.lra_wire.specs.declared.fault.WireFault.TheVariants.{BadHead, Chunked, BadLength, TooLarge, Cut, Io, Memory}
use Rattle.lra_wire.specs.declared.fields.ContentLength.{ContentLength}
use Rattle.lra_wire.specs.declared.fields.ContentLength.TheVariants.{Nothing, Length, Malformed}
use Rattle.lra_wire.specs.declared.framing.Framing.{Framing}
use Rattle.lra_wire.specs.declared.framing.Framing.TheVariants.{Sized, Chunks, ToTheEnd}
use Rattle.lra_wire.specs.Fields.{is_alike, values_of, has_field, is_coded, stated_of, stated_body, body_length_of}
use Rattle.lra_wire.specs.Fields.{lists_close}
use Rattle.lra_wire.specs.Request.{Request, HasHead, RefusesRequest, fields_of, told_by}
use Rattle.lra_wire.specs.Fronts.{RefusesFront, IsFront, IsFrontSeen}
use Rattle.lra_wire.specs.Response.{RefusesFramed, AwaitsBody}
use Rattle.lra_wire.specs.ResponseParse.{Lasts}
use Rattle.lra_wire.specs.Coded.{chunked_framing, sized_framing, body_framing, is_met, request_framing, IsCodedRequest}
use Rattle.lra_wire.specs.Coded.{RefusesCoded, AwaitsCoded, AwaitsContinue, IsRequestBy, RefusesFrontBy, IsFrontBy}
use Rattle.lra_wire.specs.Coded.{IsFrontSeenBy, IsUnfinishedBy, RefusesRequestBy}
use Rattle.lra_wire.specs.Coded.{IsCodedBody, RefusesCodedBody, HasTrailing, has_bare_feed, is_expected}
use Rattle.lra_wire.specs.Chunks.{print_chunk, HasLast}
use Rattle.lra_wire.specs.declared.wanted.BodyFront.{BodyFront}
use Rattle.lra_wire.specs.declared.wanted.BodyFront.TheVariants as front
use Rattle.lra_wire.specs.CodedCursor.{SeesCoded}
use Rattle.lra_wire.specs.inner.CodedParts.{IsBounded, IsCodedBodyTo, FindsCodedBody, IsCodedHeadOf, SeesCodedBody}
use Rattle.lra_wire.specs.inner.CodedParts.{SeeksCoded, IsCodedFront}
use Rattle.lra_wire.specs.inner.Heads.{FindsHead, IsHeadAt, request_at}
use Rattle.lra_wire.specs.inner.Parts.{IsSmall, FindsBodyFront, LastFrom}
use Rattle.lra_wire.specs.inner.Chunked.{HasRead, ChunksTo}
use Rattle.lra_wire.specs.inner.Wanted.{IsMissing, HasLooked, IsNext, IsOpenAt, LastsAt}
use Rattle.lra_wire.proofs.FrontLemmas as plain
use Rattle.lra_wire.proofs.OpenLemmas.{lasts_map}
use Rattle.lra_wire.proofs.SearchLemmas.{no_feed}
use Rattle.lra_wire.proofs.StreamLemmas.{drop_more_bytes}
use Rattle.lra_wire.proofs.ChunksLemmas.{chunks_on, chunks_none, chunks_ahead}

-- ---- the framing

same_err : {A : Type 0} {a b : WireFault} → ◌≡◌ {A = Result A WireFault} (Err a) (Err b) → a ≡ b
same_err e = cc

-- a head that is refused for its coding has one, or an expectation
pub coded_by : (fields : List (List ℕ × List ℕ)) → body_length_of fields ≡ Err Chunked → is_coded fields ≡ true
coded_by fields e = go (is_coded fields) (stated_of fields) refl e
  where
    within : (b : Bool) (n : ℕ) → ◌≡◌ {A = Result ℕ WireFault} (cond b (Ok n) (Err TooLarge)) (Err Chunked) → ⊥
    within true n f = cc
    within false n f = cc

    go : (b : Bool) (s : ContentLength) → is_coded fields ≡ b → ◌≡◌ {A = Result ℕ WireFault}
        (cond b (Err Chunked) (stated_body s)) (Err Chunked)
        → is_coded fields ≡ true
    go true s is f = is
    go false Nothing is f = absurd cc
    go false (Length n) is f = absurd (within (nat_le n 65536) n f)
    go false Malformed is f = absurd cc

-- a length that is stated is within the limit
pub request_bounded : (minor : ℕ) (fields : List (List ℕ × List ℕ)) (framing : Framing) → request_framing minor fields
    ≡ Ok framing → IsBounded framing
request_bounded minor fields framing e =
    go (has_field (codes "content-encoding") fields || not (is_met (values_of (codes "expect") fields)))
    (values_of (codes "transfer-encoding") fields) (stated_of fields) e
  where
    is : (f : Framing) → IsBounded f → ◌≡◌ {A = Result Framing WireFault} (Ok f) (Ok framing) → IsBounded framing
    is f small same = let e : f ≡ framing = cc in subst IsBounded e small

    within : (b : Bool) (n : ℕ) → b ≡ nat_le n 65536 → ◌≡◌ {A = Result Framing WireFault}
        (cond b (Ok (Sized n)) (Err TooLarge)) (Ok framing) → IsBounded framing
    within true n fits same = is (Sized n) (leb-true n 65536 (sym fits)) same
    within false n fits same = absurd cc

    stated : (s : ContentLength) → ◌≡◌ {A = Result Framing WireFault} (sized_framing s) (Ok framing) → IsBounded framing
    stated Nothing same = is (Sized 0) (omega arith) same
    stated (Length n) same = within (nat_le n 65536) n refl same
    stated Malformed same = absurd cc

    old : (b : Bool) → ◌≡◌ {A = Result Framing WireFault} (cond b (Err BadLength) (Ok Chunks)) (Ok framing)
        → IsBounded framing
    old true same = absurd cc
    old false same = is Chunks tt same

    chunked : (s : ContentLength) → ◌≡◌ {A = Result Framing WireFault} (chunked_framing minor s) (Ok framing)
        → IsBounded framing
    chunked Nothing same = old (minor == 0) same
    chunked (Length n) same = absurd cc
    chunked Malformed same = absurd cc

    coded : (b : Bool) (s : ContentLength) → ◌≡◌ {A = Result Framing WireFault}
        (cond b (chunked_framing minor s) (Err Chunked)) (Ok framing)
        → IsBounded framing
    coded true s same = chunked s same
    coded false s same = absurd cc

    go : (b : Bool) (codings : List (List ℕ)) (s : ContentLength) → ◌≡◌ {A = Result Framing WireFault}
        (cond b (Err Chunked) (body_framing minor codings s)) (Ok framing) → IsBounded framing
    go true codings s same = absurd cc
    go false [] s same = stated s same
    go false (coding ∷ []) s same = coded (is_alike coding (codes "chunked")) s same
    go false (coding ∷ other ∷ codings) s same = absurd cc

-- the faults of a framing are those of the bytes
framing_fault : (minor : ℕ) (fields : List (List ℕ × List ℕ)) (fault : WireFault) → request_framing minor fields
    ≡ Err fault → (fault ≡ Chunked) ⊎ ((fault ≡ BadLength) ⊎ (fault ≡ TooLarge))
framing_fault minor fields fault e =
    go (has_field (codes "content-encoding") fields || not (is_met (values_of (codes "expect") fields)))
    (values_of (codes "transfer-encoding") fields) (stated_of fields) e
  where
    within : (b : Bool) (n : ℕ) → ◌≡◌ {A = Result Framing WireFault} (cond b (Ok (Sized n)) (Err TooLarge)) (Err fault)
        → (fault ≡ Chunked) ⊎ ((fault ≡ BadLength) ⊎ (fault ≡ TooLarge))
    within true n same = absurd cc
    within false n same = inr (inr (sym (same_err same)))

    stated : (s : ContentLength) → ◌≡◌ {A = Result Framing WireFault} (sized_framing s) (Err fault)
        → (fault ≡ Chunked) ⊎ ((fault ≡ BadLength) ⊎ (fault ≡ TooLarge))
    stated Nothing same = absurd cc
    stated (Length n) same = within (nat_le n 65536) n same
    stated Malformed same = inr (inl (sym (same_err same)))

    old : (b : Bool) → ◌≡◌ {A = Result Framing WireFault} (cond b (Err BadLength) (Ok Chunks)) (Err fault)
        → (fault ≡ Chunked) ⊎ ((fault ≡ BadLength) ⊎ (fault ≡ TooLarge))
    old true same = inr (inl (sym (same_err same)))
    old false same = absurd cc

    chunked : (s : ContentLength) → ◌≡◌ {A = Result Framing WireFault} (chunked_framing minor s) (Err fault)
        → (fault ≡ Chunked) ⊎ ((fault ≡ BadLength) ⊎ (fault ≡ TooLarge))
    chunked Nothing same = old (minor == 0) same
    chunked (Length n) same = inr (inl (sym (same_err same)))
    chunked Malformed same = inr (inl (sym (same_err same)))

    coded : (b : Bool) (s : ContentLength) → ◌≡◌ {A = Result Framing WireFault}
        (cond b (chunked_framing minor s) (Err Chunked)) (Err fault)
        → (fault ≡ Chunked) ⊎ ((fault ≡ BadLength) ⊎ (fault ≡ TooLarge))
    coded true s same = chunked s same
    coded false s same = inl (sym (same_err same))

    go : (b : Bool) (codings : List (List ℕ)) (s : ContentLength) → ◌≡◌ {A = Result Framing WireFault}
        (cond b (Err Chunked) (body_framing minor codings s)) (Err fault)
        → (fault ≡ Chunked) ⊎ ((fault ≡ BadLength) ⊎ (fault ≡ TooLarge))
    go true codings s same = inl (sym (same_err same))
    go false [] s same = stated s same
    go false (coding ∷ []) s same = coded (is_alike coding (codes "chunked")) s same
    go false (coding ∷ other ∷ codings) s same = inl (sym (same_err same))

-- such a fault lasts, where it holds of any more bytes
lasts_of : (P : List ℕ → WireFault → Type 0) (bytes : List ℕ) (fault : WireFault)
    → (fault ≡ Chunked) ⊎ ((fault ≡ BadLength) ⊎ (fault ≡ TooLarge))
    → ((more : List ℕ) → P (bytes ++ more) fault) → Lasts P bytes fault
lasts_of P bytes fault (inl e) h = subst (λ (f : WireFault). Lasts P bytes f) (sym e)
    (λ more. subst (λ (f : WireFault). P (bytes ++ more) f) e (h more))
lasts_of P bytes fault (inr (inl e)) h = subst (λ (f : WireFault). Lasts P bytes f) (sym e)
    (λ more. subst (λ (f : WireFault). P (bytes ++ more) f) e (h more))
lasts_of P bytes fault (inr (inr e)) h = subst (λ (f : WireFault). Lasts P bytes f) (sym e)
    (λ more. subst (λ (f : WireFault). P (bytes ++ more) f) e (h more))

-- ---- heads

-- where a head is refused for its coding, one is found
pub head_there : (bytes : List ℕ) (headers : List HeaderSpan) → RefusesFront bytes Chunked
    → FindsHead bytes headers (Ok None) → ⊥
head_there bytes headers r none = none.0 r.head r.rest r.found.reads

pub head_there_at : (bytes : List ℕ) (found : CodedHead) (headers : List HeaderSpan) → IsCodedHeadOf bytes found
    → FindsHead bytes headers (Ok None) → ⊥
head_there_at bytes found headers at none = none.0 at.head (drop found.len bytes) at.has.reads

same_bytes : (bytes : List ℕ) (head : RequestHead) (rest : List ℕ) → HasHead bytes head rest
    → HasHead (bytes ++ []) head rest
same_bytes bytes head rest has = subst (λ (bs : List ℕ). HasHead bs head rest) (sym (append-nil bytes)) has

-- and a valid one
pub head_valid : (bytes : List ℕ) (headers : List HeaderSpan) (fault : WireFault) → RefusesFront bytes Chunked
    → FindsHead bytes headers (Err fault) → ⊥
head_valid bytes headers fault r none = none.1 [] r.head r.rest (same_bytes bytes r.head r.rest r.found)

pub head_valid_at : (bytes : List ℕ) (found : CodedHead) (headers : List HeaderSpan) (fault : WireFault)
    → IsCodedHeadOf bytes found
    → FindsHead bytes headers (Err fault) → ⊥
head_valid_at bytes found headers fault at none =
    none.1 [] at.head (drop found.len bytes) (same_bytes bytes at.head (drop found.len bytes) at.has)

-- the head at the spans is the one that is refused for its coding
spans_coded : (bytes : List ℕ) (headers : List HeaderSpan) (spans : RequestSpans) → RefusesFront bytes Chunked
    → (at : IsHeadAt bytes headers spans) → is_coded (fields_of at.head) ≡ true
spans_coded bytes headers spans r at =
    let same = request_unique bytes r.head at.head r.rest (drop spans.len bytes) r.found.reads at.places.reads in
    ap (λ (h : RequestHead). is_coded (fields_of h)) (sym same.0) ∙ coded_by (fields_of r.head) r.refused

-- what the fields at the spans say of the framing
spans_framing : (bytes : List ℕ) (headers : List HeaderSpan) (spans : RequestSpans) (at : IsHeadAt bytes headers spans)
    → request_framing spans.version (map (header_bytes bytes) (take spans.headers headers))
    ≡ request_framing at.head.minor (fields_of at.head)
spans_framing bytes headers spans at =
    ap (λ fields. request_framing spans.version fields) at.places.fields
    ∙ ap (λ minor. request_framing minor (fields_of at.head)) at.places.version

-- the values of the head at the spans
pub coded_head : (bytes : List ℕ) (headers : List HeaderSpan) (spans : RequestSpans) (framing : Framing)
    (expects : Bool) → RefusesFront bytes Chunked → IsHeadAt bytes headers spans
    → request_framing spans.version (map (header_bytes bytes) (take spans.headers headers)) ≡ Ok framing
    → expects ≡ is_expected spans.version (map (header_bytes bytes) (take spans.headers headers))
    → IsCodedHeadOf bytes (record { len = spans.len; framing = framing; expects = expects })
coded_head bytes headers spans framing expects r at framed is = record {
  head = at.head;
  has = record { reads = at.places.reads; lawful = at.lawful };
  within = at.within.section.len_fits;
  bound = omega (arith, at.places.len, at.lawful.size);
  coded = spans_coded bytes headers spans r at;
  framed = sym (spans_framing bytes headers spans at) ∙ framed;
  expects = is ∙ ap (is_expected spans.version) at.places.fields
      ∙ ap (λ minor. is_expected minor (fields_of at.head)) at.places.version;
}

-- its framing is refused
pub framing_refused : (bytes : List ℕ) (headers : List HeaderSpan) (spans : RequestSpans) (fault : WireFault)
    → RefusesFront bytes Chunked → IsHeadAt bytes headers spans
    → request_framing spans.version (map (header_bytes bytes) (take spans.headers headers)) ≡ Err fault
    → Lasts RefusesCoded bytes fault
framing_refused bytes headers spans fault r at framed =
    let is : request_framing at.head.minor (fields_of at.head) ≡ Err fault =
    sym (spans_framing bytes headers spans at) ∙ framed in
    lasts_of RefusesCoded bytes fault (framing_fault at.head.minor (fields_of at.head) fault is) (λ more. record {
      head = at.head;
      behind = drop spans.len bytes ++ more;
      found = record {
        reads = ReadsRequest-append bytes at.head (drop spans.len bytes) more at.places.reads;
        lawful = at.lawful;
      };
      coded = spans_coded bytes headers spans r at;
      refused = inl is;
    })

-- the head stays in more bytes
head_more : (bytes more : List ℕ) (found : CodedHead) → (at : IsCodedHeadOf bytes found)
    → HasHead (bytes ++ more) at.head (drop found.len (bytes ++ more))
head_more bytes more found at = record {
  reads = subst (λ (bs : List ℕ). ReadsRequest (bytes ++ more) at.head bs)
      (drop_more_bytes found.len bytes more at.within)
      (ReadsRequest-append bytes at.head (drop found.len bytes) more at.has.reads);
  lawful = at.has.lawful;
}

head_on : (bytes more : List ℕ) (found : CodedHead) → IsCodedHeadOf bytes found → IsCodedHeadOf (bytes ++ more) found
head_on bytes more found at = record {
  head = at.head;
  has = head_more bytes more found at;
  within = omega (arith, at.within, length-append bytes more);
  bound = at.bound;
  coded = at.coded;
  framed = at.framed;
  expects = at.expects;
}

-- ---- bodies

pub coded_bounded : (bytes : List ℕ) (found : CodedHead) → IsCodedHeadOf bytes found → IsBounded found.framing
coded_bounded bytes found at = request_bounded at.head.minor (fields_of at.head) found.framing at.framed

bounded_small : (framing : Framing) → IsBounded framing → IsSmall framing
bounded_small (Sized n) b = b
bounded_small Chunks b = tt
bounded_small ToTheEnd b = absurd b

-- the same for a stated length
pub sized_small : (framing : Framing) (n : ℕ) → framing ≡ Sized n → IsBounded framing → IsSmall framing
sized_small framing n is b = bounded_small framing b

pub never_to_end : (framing : Framing) → framing ≡ ToTheEnd → IsBounded framing → ⊥
never_to_end framing is b = subst IsBounded is b

-- a body of a stated length
sized_found : (n start : ℕ) (bytes : List ℕ) (result : Result BodyFront WireFault)
    → FindsBodyFront (Sized n) start bytes result → FindsCodedBody (Sized n) start bytes result
sized_found n start bytes (Ok (front.Whole content end)) h = record { within = h.within; there = h.there }
sized_found n start bytes (Ok (front.Open wanted)) h = h.0
sized_found n start bytes (Err fault) h =
    lasts_map (λ text f. RefusesFramed (Sized n) start (drop start text) f)
    (λ text f. RefusesCodedBody (Sized n) start (drop start text) f) bytes fault (λ more f q. inl q) h

pub sized_coded : (framing : Framing) (n start : ℕ) (bytes : List ℕ) (result : Result BodyFront WireFault) → framing
    ≡ Sized n → FindsBodyFront framing start bytes result → FindsCodedBody framing start bytes result
sized_coded framing n start bytes result is h = subst (λ (f : Framing). FindsCodedBody f start bytes result) (sym is)
    (sized_found n start bytes result (subst (λ (f : Framing). FindsBodyFront f start bytes result) is h))

-- chunks, and the text of the last line and the trailer
trailing : (start last end : ℕ) (bytes body more : List ℕ) → LastFrom start last bytes body end
    → HasTrailing (drop start (bytes ++ more)) body (drop end (bytes ++ more)) (slice_range bytes last end)
trailing start last end bytes body more l =
    let joined = chunks_ahead bytes more start last body l.so_far in
    let n : ℕ = end - last in
    let same : last + n ≡ end = omega (arith, l.ordered) in
    let text : List ℕ = slice_range bytes last end in
    let parts : drop last bytes ≡ text ++ drop end bytes = sym (take-append-drop n (drop last bytes))
    ∙ ap (λ bs. text ++ bs) (drop-drop n last bytes ∙ ap (λ k. drop k bytes) same) in
    record {
      chunked = record {
        chunks = joined.chunks;
        last = drop last (bytes ++ more);
        has = joined.has;
        ends = l.there more;
        joined = joined.body_is;
      };
      whole = sym (drop_more_bytes last bytes more (omega (arith, l.ordered, l.within)))
          ∙ ap (λ bs. bs ++ more) parts ∙ append_assoc text (drop end bytes) more
          ∙ ap (λ bs. text ++ bs) (drop_more_bytes end bytes more l.within);
    }

pub strict_whole : (start last end : ℕ) (bytes body : List ℕ) → LastFrom start last bytes body end
    → has_bare_feed false (slice_range bytes last end) ≡ false → IsCodedBodyTo Chunks start bytes body end
strict_whole start last end bytes body l none = record {
  within = l.within;
  there = λ more. (slice_range bytes last end, trailing start last end bytes body more l, none);
}

pub bare_refused : (start last end : ℕ) (bytes body : List ℕ) → LastFrom start last bytes body end
    → has_bare_feed false (slice_range bytes last end) ≡ true
    → LastsAt (RefusesCodedBody Chunks start) start bytes BadLength
bare_refused start last end bytes body l bare = λ more. inr (inr (
  refl,
  (body, drop end (bytes ++ more), slice_range bytes last end, trailing start last end bytes body more l, bare),
))

pub chunks_fault : (start : ℕ) (bytes : List ℕ) (fault : WireFault)
    → LastsAt (RefusesFramed Chunks start) start bytes fault
    → LastsAt (RefusesCodedBody Chunks start) start bytes fault
chunks_fault start bytes fault h =
    lasts_map (λ text f. RefusesFramed Chunks start (drop start text) f)
    (λ text f. RefusesCodedBody Chunks start (drop start text) f) bytes fault (λ more f q. inl q) h

place_of : (bytes more : List ℕ) (place : ℕ) → place ≤ length bytes → place
    ≡ length (bytes ++ more) - length (drop place (bytes ++ more))
place_of bytes more place within = omega
    (arith, within, length-append bytes more, length-drop place (bytes ++ more))

-- the body is refused
pub coded_refused : (bytes : List ℕ) (found : CodedHead) (fault : WireFault) → IsCodedHeadOf bytes found
    → LastsAt (RefusesCodedBody found.framing found.len) found.len bytes fault → Lasts RefusesCoded bytes fault
coded_refused bytes found fault at refused =
    let place : ℕ = found.len in
    lasts_map (λ text f. RefusesCodedBody found.framing place (drop place text) f) RefusesCoded bytes fault
    (λ more f lacks. record {
      head = at.head;
      behind = drop place (bytes ++ more);
      found = head_more bytes more found at;
      coded = at.coded;
      refused = inr (
        found.framing,
        at.framed,
        subst (λ (n : ℕ). RefusesCodedBody found.framing n (drop place (bytes ++ more)) f)
            (place_of bytes more place at.within) lacks,
      );
    }) refused

-- what is wanted hasn't come
missing_now : (wanted : Wanted) (bytes : List ℕ) → IsNext wanted bytes → IsMissing wanted (bytes ++ [])
missing_now (Feed looked) bytes same =
    ap (λ n. list_any (λ b. b == 10) (drop n (bytes ++ []))) same
    ∙ ap (list_any (λ b. b == 10)) (drop-append_seam bytes [])
missing_now (Bytes count) bytes few = omega (arith, few, length-append {A = ℕ} bytes [])

-- the body isn't whole, with any more bytes
awaits_more : (bytes more : List ℕ) (found : CodedHead) → (at : IsCodedHeadOf bytes found)
    → AwaitsBody found.framing (drop found.len (bytes ++ more)) → AwaitsCoded (bytes ++ more)
awaits_more bytes more found at lacks = record {
  head = at.head;
  behind = drop found.len (bytes ++ more);
  found = head_more bytes more found at;
  coded = at.coded;
  framing = found.framing;
  framed = at.framed;
  open_body = lacks;
}

pub awaits_now : (bytes : List ℕ) (found : CodedHead) (wanted : Wanted) → IsCodedHeadOf bytes found
    → IsOpenAt (AwaitsBody found.framing) found.len bytes wanted → AwaitsCoded bytes
awaits_now bytes found wanted at o = subst AwaitsCoded (append-nil bytes)
    (awaits_more bytes [] found at (o.awaits [] (missing_now wanted bytes o.next)))

-- it is sought from there on
looked_now : (wanted : Wanted) (bytes : List ℕ) → IsNext wanted bytes → HasLooked wanted bytes
looked_now (Feed looked) bytes same = omega (arith, same)
looked_now (Bytes count) bytes few = tt

pub seeks_now : (bytes : List ℕ) (found : CodedHead) (wanted : Wanted) → IsCodedHeadOf bytes found
    → IsOpenAt (AwaitsBody found.framing) found.len bytes wanted → SeeksCoded wanted bytes
seeks_now bytes found wanted at o = record {
  looked = looked_now wanted bytes o.next;
  awaits = λ more missing. awaits_more bytes more found at (o.awaits more missing);
}

-- it isn't whole in the largest request
pub open_long : (bytes : List ℕ) (found : CodedHead) (wanted : Wanted) → IsCodedHeadOf bytes found
    → IsOpenAt (AwaitsBody found.framing) found.len bytes wanted → 139264 ≤ length bytes
    → Lasts RefusesCoded bytes TooLarge
open_long bytes found wanted at o long = λ more.
    let place : ℕ = found.len in
    let lacks : AwaitsBody found.framing (drop place bytes) = subst
    (λ (bs : List ℕ). AwaitsBody found.framing (drop place bs)) (append-nil bytes)
    (o.awaits [] (missing_now wanted bytes o.next)) in
    record {
      head = at.head;
      behind = drop place (bytes ++ more);
      found = head_more bytes more found at;
      coded = at.coded;
      refused = inr (
        found.framing,
        at.framed,
        inr (inl (
          refl,
          inl (
            drop place bytes,
            more,
            sym (drop_more_bytes place bytes more at.within),
            lacks,
            omega (arith, long, at.within, length-drop place bytes, place_of bytes more place at.within),
          ),
        )),
      );
    }

-- it ends behind the largest request
pub whole_long : (bytes : List ℕ) (found : CodedHead) (body : List ℕ) (len : ℕ) → IsCodedHeadOf bytes found
    → IsCodedBodyTo found.framing found.len bytes body len → 139264 < len → Lasts RefusesCoded bytes TooLarge
whole_long bytes found body len at content long = λ more.
    let place : ℕ = found.len in
    record {
      head = at.head;
      behind = drop place (bytes ++ more);
      found = head_more bytes more found at;
      coded = at.coded;
      refused = inr (
        found.framing,
        at.framed,
        inr (inl (
          refl,
          inr (
            body,
            drop len (bytes ++ more),
            content.there more,
            omega (
              arith,
              long,
              content.within,
              at.within,
              length-append bytes more,
              length-drop len (bytes ++ more),
              length-drop place (bytes ++ more),
              place_of bytes more place at.within,
            ),
          ),
        )),
      );
    }

-- the request is whole
pub coded_whole : (bytes : List ℕ) (found : CodedHead) (headers : List HeaderSpan) (spans : RequestSpans)
    (request : Request) (body : List ℕ) (len : ℕ) → IsCodedHeadOf bytes found → IsHeadAt bytes headers spans
    → IsCodedBodyTo found.framing found.len bytes body len → len ≤ 139264
    → record request { body = [] } ≡ request_at bytes headers spans → request.body ≡ body
    → (len ≤ length bytes) × IsCodedRequest bytes request (drop len bytes)
coded_whole bytes found headers spans request body len at spanned content few parts same_body =
    let same = request_unique bytes spanned.head at.head (drop spans.len bytes) (drop found.len bytes)
    spanned.places.reads at.has.reads in
    let here : IsCodedBody found.framing (drop found.len bytes) body (drop len bytes) = subst
    (λ (bs : List ℕ). IsCodedBody found.framing (drop found.len bs) body (drop len bs)) (append-nil bytes)
    (content.there []) in (
      content.within,
      record {
        head = at.head;
        behind = drop found.len bytes;
        found = at.has;
        coded = at.coded;
        framing = found.framing;
        framed = at.framed;
        content = subst (λ (bs : List ℕ). IsCodedBody found.framing (drop found.len bytes) bs (drop len bytes))
            (sym same_body) here;
        method = ap (λ (r : Request). r.method) parts ∙ spanned.places.method
            ∙ ap (λ (h : RequestHead). h.method) same.0;
        target = ap (λ (r : Request). r.target) parts ∙ spanned.places.path
            ∙ ap (λ (h : RequestHead). h.target) same.0;
        minor = ap (λ (r : Request). r.minor) parts ∙ spanned.places.version
            ∙ ap (λ (h : RequestHead). h.minor) same.0;
        close = ap (λ (r : Request). r.close) parts ∙ ap (λ minor. (minor == 0)
            || lists_close (map (header_bytes bytes) (take spans.headers headers))) spanned.places.version
            ∙ ap (λ fields. (spanned.head.minor == 0) || lists_close fields) spanned.places.fields
            ∙ ap (λ (h : RequestHead). (h.minor == 0) || lists_close (fields_of h)) same.0;
        fields = ap (λ (r : Request). r.fields) parts ∙ ap told_by spanned.places.fields
            ∙ ap (λ (h : RequestHead). told_by (fields_of h)) same.0;
        size = omega (arith, content.within, length-drop len bytes, few);
      },
    )

-- ---- what was seen

pub coded_nothing : (bytes : List ℕ) → SeeksCoded (Bytes 0) bytes
coded_nothing bytes = record { looked = tt; awaits = λ more few. absurd (omega (arith, few)) }

body_on : (head : Option CodedHead) (read : ChunksRead) (bytes more : List ℕ) → SeesCodedBody head read bytes
    → SeesCodedBody head read (bytes ++ more)
body_on None read bytes more none = none
body_on (Some head) read bytes more b = (
  head_on bytes more head b.0,
  b.1,
  chunks_on bytes more read.start read.end read.body.items b.2,
)

looked_on : (wanted : Wanted) (bytes more : List ℕ) → HasLooked wanted bytes → HasLooked wanted (bytes ++ more)
looked_on (Feed looked) bytes more within = omega (arith, within, length-append bytes more)
looked_on (Bytes count) bytes more within = tt

-- the findings hold of more bytes
pub coded_more : (seen : CodedCursor) (bytes more : List ℕ) → SeesCoded seen bytes → SeesCoded seen (bytes ++ more)
coded_more seen bytes more s = record {
  plain = plain.sees_more seen.plain bytes more s.plain;
  body = body_on seen.head seen.chunks bytes more s.body;
  wanted = record {
    looked = looked_on seen.wanted bytes more s.wanted.looked;
    awaits = λ tail missing. subst AwaitsCoded (sym (append_assoc bytes more tail))
        (s.wanted.awaits (more ++ tail) (subst (IsMissing seen.wanted) (append_assoc bytes more tail) missing));
  };
}

-- the head was read, and nothing behind it
pub sees_coded_head : (seen : CodedCursor) (bytes : List ℕ) (found : CodedHead) (read : ChunksRead)
    → SeesCoded seen bytes → seen.head ≡ None → IsCodedHeadOf bytes found → read.body ≡ seen.chunks.body
    → read.start ≡ found.len → read.end ≡ found.len
    → SeesCoded (record seen { head = Some found; chunks = read }) bytes
sees_coded_head seen bytes found read s none at body start end =
    let empty : seen.chunks.body.items ≡ [] = subst (λ (o : Option CodedHead). SeesCodedBody o seen.chunks bytes) none
    s.body in
    record {
      plain = s.plain;
      body = (
        at,
        start,
        fresh (ap (λ b. b.items) body ∙ empty),
      );
      wanted = s.wanted;
    }
  where
    fresh : read.body.items ≡ [] → HasRead bytes read
    fresh e = subst (λ (bs : List ℕ). ChunksTo bytes read.start read.end bs) (sym e)
        (subst (λ (n : ℕ). ChunksTo bytes n read.end []) (sym start)
        (subst (λ (n : ℕ). ChunksTo bytes found.len n []) (sym end)
        (chunks_none bytes found.len at.within (omega (arith, at.bound)))))

-- more is wanted
pub sees_coded_open : (seen : CodedCursor) (bytes : List ℕ) (found : CodedHead) (wanted : Wanted) → SeesCoded seen bytes
    → IsCodedHeadOf bytes found → IsOpenAt (AwaitsBody found.framing) found.len bytes wanted
    → SeesCoded (record seen { wanted = wanted }) bytes
sees_coded_open seen bytes found wanted s at o =
    record { plain = s.plain; body = s.body; wanted = seeks_now bytes found wanted at o }

-- the head that was seen
pub seen_coded : (seen : CodedCursor) (bytes : List ℕ) (found : CodedHead) → SeesCoded seen bytes → seen.head
    ≡ Some found → IsCodedHeadOf bytes found × (seen.chunks.start ≡ found.len) × HasRead bytes seen.chunks
seen_coded seen bytes found s is = subst (λ (o : Option CodedHead). SeesCodedBody o seen.chunks bytes) is s.body

-- the chunks were read on
pub sees_coded_chunks : (seen : CodedCursor) (bytes : List ℕ) (found : CodedHead) (read : ChunksRead)
    → SeesCoded seen bytes → seen.head ≡ Some found → read.start ≡ seen.chunks.start → HasRead bytes read
    → SeesCoded (record seen { chunks = read }) bytes
sees_coded_chunks seen bytes found read s is start has =
    let b = seen_coded seen bytes found s is in
    record {
      plain = s.plain;
      body = subst (λ (o : Option CodedHead). SeesCodedBody o read bytes) (sym is) (b.0, start ∙ b.1, has);
      wanted = s.wanted;
    }

-- what was wanted hasn't come
pub feed_awaits : (bytes : List ℕ) (looked : ℕ) → SeeksCoded (Feed looked) bytes
    → list_any (λ b. b == 10) (slice_range bytes looked (length bytes)) ≡ false → AwaitsCoded bytes
feed_awaits bytes looked s none = subst AwaitsCoded (append-nil bytes) (s.awaits []
    (ap (λ bs. list_any (λ b. b == 10) (drop looked bs)) (append-nil bytes) ∙ no_feed bytes looked none))

pub bytes_await : (bytes : List ℕ) (count : ℕ) → SeeksCoded (Bytes count) bytes → length bytes < count
    → AwaitsCoded bytes
bytes_await bytes count s few = subst AwaitsCoded (append-nil bytes)
    (s.awaits [] (omega (arith, few, length-append {A = ℕ} bytes [])))

-- the client waits for 100 Continue
pub continue_awaited : (seen : CodedCursor) (bytes : List ℕ) (found : CodedHead) → SeesCoded seen bytes → seen.head
    ≡ Some found → found.expects ≡ true → found.len ≡ length bytes → AwaitsContinue bytes
continue_awaited seen bytes found s is expects len =
    let at = (seen_coded seen bytes found s is).0 in
    let none : drop found.len bytes ≡ [] = drop_all found.len bytes (omega (arith, len)) in
    record {
      head = at.head;
      found = subst (λ (rest : List ℕ). HasHead bytes at.head rest) none at.has;
      framing = found.framing;
      framed = at.framed;
      expects = sym at.expects ∙ expects;
    }

-- ---- where chunked bodies are accepted or refused

pub plain_seen : (bytes : List ℕ) (front : Option Front) → IsFrontSeen bytes (Ok front)
    → IsFrontSeenBy true bytes (Ok front)
plain_seen bytes (Some front) h = (h.0, inl h.1)
plain_seen bytes None h = (inl h.0, omega (arith, h.1))

pub coded_seen : (bytes : List ℕ) (result : Result (Option Front) WireFault) → IsCodedFront bytes result
    → IsFrontSeenBy true bytes result
coded_seen bytes (Ok (Some front)) h = (h.0, inr h.1)
coded_seen bytes (Ok None) h = (inr h.0, h.1)
coded_seen bytes (Err fault) h = inr h

pub refused_seen : (chunked : Bool) (bytes : List ℕ) (result : Result (Option Front) WireFault) → chunked ≡ false
    → IsFrontSeen bytes result → IsFrontSeenBy chunked bytes result
refused_seen true bytes result e h = absurd cc
refused_seen false bytes (Ok (Some front)) e h = h
refused_seen false bytes (Ok None) e h = h
refused_seen false bytes (Err fault) e h = h

pub accepted_seen : (chunked : Bool) (bytes : List ℕ) (result : Result (Option Front) WireFault) → chunked ≡ true
    → IsFrontSeenBy true bytes result → IsFrontSeenBy chunked bytes result
accepted_seen true bytes result e h = h
accepted_seen false bytes result e h = absurd cc

pub plain_front : (chunked : Bool) (bytes : List ℕ) (front : Option Front) → IsFront bytes (Ok front)
    → IsFrontBy chunked bytes (Ok front)
plain_front false bytes (Some front) h = h
plain_front false bytes None h = h
plain_front true bytes (Some front) h = (h.0, inl h.1)
plain_front true bytes None h = (inl h.0, omega (arith, h.1))

pub plain_fault : (chunked : Bool) (bytes : List ℕ) (fault : WireFault) → (chunked ≡ true → fault ≢ Chunked)
    → RefusesFront bytes fault → RefusesFrontBy chunked bytes fault
plain_fault false bytes fault n h = h
plain_fault true bytes fault n h = inl (n refl, h)

pub coded_front : (chunked : Bool) (bytes : List ℕ) (result : Result (Option Front) WireFault) → chunked ≡ true
    → IsCodedFront bytes result → IsFrontBy chunked bytes result
coded_front false bytes result e h = absurd cc
coded_front true bytes (Ok (Some front)) e h = (h.0, inr h.1)
coded_front true bytes (Ok None) e h = (inr h.0, h.1)
coded_front true bytes (Err fault) e h = inr h

-- ---- whatever follows

last_more : (last rest more : List ℕ) → HasLast last rest → HasLast (last ++ more) (rest ++ more)
last_more last rest more l = record {
  line = l.line;
  behind = l.behind ++ more;
  reads = ReadsChunkLine-append last l.line l.behind more l.reads;
  size = l.size;
  trailer = record {
    fields = l.trailer.fields;
    end = l.trailer.end;
    reads = ReadsSection-append l.behind l.trailer.fields l.trailer.end rest more l.trailer.reads;
    count = l.trailer.count;
  };
}

body_more : (framing : Framing) (bytes body rest more : List ℕ) → IsCodedBody framing bytes body rest
    → IsCodedBody framing (bytes ++ more) body (rest ++ more)
body_more (Sized n) bytes body rest more h = (ap (λ bs. bs ++ more) h.0 ∙ append_assoc body rest more, h.1)
body_more Chunks bytes body rest more h =
    let text : List ℕ = h.0 in
    let c = h.1.chunked in (
      text,
      record {
        chunked = record {
          chunks = c.chunks;
          last = c.last ++ more;
          has = record {
            each = c.has.each;
            front = ap (λ bs. bs ++ more) c.has.front ∙ append_assoc (flat_map print_chunk c.chunks) c.last more;
            limit = c.has.limit;
          };
          ends = last_more c.last rest more c.ends;
          joined = c.joined;
        };
        whole = ap (λ bs. bs ++ more) h.1.whole ∙ append_assoc text rest more;
      },
      h.2,
    )
body_more ToTheEnd bytes body rest more h = absurd h

coded_request_more : (bytes more : List ℕ) (request : Request) (rest : List ℕ) → IsCodedRequest bytes request rest
    → IsCodedRequest (bytes ++ more) request (rest ++ more)
coded_request_more bytes more request rest r = record {
  head = r.head;
  behind = r.behind ++ more;
  found = record {
    reads = ReadsRequest-append bytes r.head r.behind more r.found.reads;
    lawful = r.found.lawful;
  };
  coded = r.coded;
  framing = r.framing;
  framed = r.framed;
  content = body_more r.framing r.behind request.body rest more r.content;
  method = r.method;
  target = r.target;
  minor = r.minor;
  close = r.close;
  fields = r.fields;
  size = omega (arith, r.size, length-append bytes more, length-append rest more);
}

-- the request stays
pub request_more_by : (chunked : Bool) (bytes more : List ℕ) (request : Request) (rest : List ℕ)
    → IsRequestBy chunked bytes request rest → IsRequestBy chunked (bytes ++ more) request (rest ++ more)
request_more_by false bytes more request rest r = plain.request_more bytes more request rest r
request_more_by true bytes more request rest (inl r) = inl (plain.request_more bytes more request rest r)
request_more_by true bytes more request rest (inr r) = inr (coded_request_more bytes more request rest r)

lasts_more : (P : List ℕ → WireFault → Type 0) (bytes more : List ℕ) (fault : WireFault) → Lasts P bytes fault
    → Lasts P (bytes ++ more) fault
lasts_more P bytes more BadHead h = λ tail. subst (λ (bs : List ℕ). P bs BadHead) (sym (append_assoc bytes more tail))
    (h (more ++ tail))
lasts_more P bytes more Chunked h = λ tail. subst (λ (bs : List ℕ). P bs Chunked) (sym (append_assoc bytes more tail))
    (h (more ++ tail))
lasts_more P bytes more BadLength h = λ tail. subst (λ (bs : List ℕ). P bs BadLength)
    (sym (append_assoc bytes more tail)) (h (more ++ tail))
lasts_more P bytes more TooLarge h = λ tail. subst (λ (bs : List ℕ). P bs TooLarge)
    (sym (append_assoc bytes more tail)) (h (more ++ tail))
lasts_more P bytes more Memory h = tt
lasts_more P bytes more Cut h = absurd h
lasts_more P bytes more Io h = absurd h

-- the fault stays
pub refused_more_by : (chunked : Bool) (bytes more : List ℕ) (fault : WireFault) → RefusesFrontBy chunked bytes fault
    → RefusesFrontBy chunked (bytes ++ more) fault
refused_more_by false bytes more fault h = plain.refused_more bytes more fault h
refused_more_by true bytes more fault (inl h) = inl (h.0, plain.refused_more bytes more fault h.1)
refused_more_by true bytes more fault (inr h) = inr (lasts_more RefusesCoded bytes more fault h)

-- ---- streams

pub refuses : (bytes : List ℕ) (fault : WireFault) → RefusesFront bytes fault → RefusesRequest bytes fault
refuses bytes BadHead h = h
refuses bytes Chunked h = h
refuses bytes BadLength h = h
refuses bytes TooLarge h = h
refuses bytes Memory h = h
refuses bytes Cut h = absurd h
refuses bytes Io h = absurd h

now : (bytes : List ℕ) (fault : WireFault) → RefusesCoded (bytes ++ []) fault → RefusesCoded bytes fault
now bytes fault h = subst (λ (bs : List ℕ). RefusesCoded bs fault) (append-nil bytes) h

-- a fault of the bytes is one of a stream that ends with them
pub refuses_by : (chunked : Bool) (bytes : List ℕ) (fault : WireFault) → RefusesFrontBy chunked bytes fault
    → RefusesRequestBy chunked bytes fault
refuses_by false bytes fault h = refuses bytes fault h
refuses_by true bytes fault (inl h) = inl (h.0, refuses bytes fault h.1)
refuses_by true bytes BadHead (inr h) = inr (inl (now bytes BadHead (h [])))
refuses_by true bytes Chunked (inr h) = inr (inl (now bytes Chunked (h [])))
refuses_by true bytes BadLength (inr h) = inr (inl (now bytes BadLength (h [])))
refuses_by true bytes TooLarge (inr h) = inr (inl (now bytes TooLarge (h [])))
refuses_by true bytes Memory (inr h) = inl ((λ e. cc), tt)
refuses_by true bytes Cut (inr h) = absurd h
refuses_by true bytes Io (inr h) = absurd h

-- a stream is cut where more is wanted
pub cut_by : (chunked : Bool) (bytes : List ℕ) → IsUnfinishedBy chunked bytes → bytes ≢ []
    → RefusesRequestBy chunked bytes Cut
cut_by false bytes (inl none) some = absurd (some none)
cut_by false bytes (inr cut) some = cut
cut_by true bytes (inl (inl none)) some = absurd (some none)
cut_by true bytes (inl (inr cut)) some = inl ((λ e. cc), cut)
cut_by true bytes (inr awaits) some = inr (inr (refl, awaits))

-- a request has at least one byte
head_takes : (bytes : List ℕ) (head : RequestHead) (rest : List ℕ) → HasHead bytes head rest → length rest
    < length bytes
unfolding print_request
head_takes bytes head rest has = omega
    (arith, has.reads.0.method.0, simp length-append at (ap length has.reads.1))

section_takes : (bytes front rest : List ℕ) → bytes ≡ front ++ rest → length rest ≤ length bytes
section_takes bytes front rest e = omega (arith, ap length e, length-append front rest)

body_takes : (framing : Framing) (bytes body rest : List ℕ) → IsCodedBody framing bytes body rest → length rest
    ≤ length bytes
body_takes (Sized n) bytes body rest h = section_takes bytes body rest h.0
body_takes Chunks bytes body rest h = omega (
  arith,
  section_takes bytes (flat_map print_chunk h.1.chunked.chunks) h.1.chunked.last h.1.chunked.has.front,
  section_takes h.1.chunked.last h.0 rest h.1.whole,
)
body_takes ToTheEnd bytes body rest h = absurd h

pub request_takes_by : (chunked : Bool) (bytes : List ℕ) (request : Request) (rest : List ℕ)
    → IsRequestBy chunked bytes request rest → length rest < length bytes
request_takes_by false bytes request rest r = plain.request_takes bytes request rest r
request_takes_by true bytes request rest (inl r) = plain.request_takes bytes request rest r
request_takes_by true bytes request rest (inr r) = omega (
  arith,
  head_takes bytes r.head r.behind r.found,
  body_takes r.framing r.behind request.body rest r.content,
)
