-- Why no continuation makes a head of a response within the limits, and which faults a response has.
use Rattle.std.proofs.Common.{◌≡◌, ◌≢◌, ℕ, ◌+◌, ◌-◌, ◌<◌, ◌≤◌, Bool, true, false, cond, List, [], ◌∷◌, ◌++◌, length}
use Rattle.std.proofs.Common.{take, drop, refl, sym, ap, subst, ◌∙◌, arith, append_assoc, Result, Ok, Err, inl, inr}
use Rattle.std.specs.Prelude.{◌⊎◌, ◌||◌, ◌==◌, nat_le, codes}
use Rattle.std.proofs.lemmas.Bool.{leb-true}
use Rattle.std.proofs.lemmas.List.{take-append-drop, take-append-le, take_at, drop-drop, length-drop}
use Rattle.httparse.specs.Grammar.{ResponseHead, print_response, ReadsResponse, HasNoResponse, print_chunk_line}
use Rattle.httparse.specs.Grammar.{chunk_size}
use Rattle.httparse.proofs.GrammarLemmas.{response_prefix_free, ReadsResponse-append}
use Rattle.lra_wire.specs.declared.fault.WireFault.{WireFault}
use Rattle.lra_wire.specs.declared.fault.WireFault.TheVariants.{BadHead, Chunked, BadLength, TooLarge, Cut, Io, Memory}
use Rattle.lra_wire.specs.declared.fields.ContentLength.{ContentLength}
use Rattle.lra_wire.specs.declared.fields.ContentLength.TheVariants.{Nothing, Length, Malformed}
use Rattle.lra_wire.specs.declared.framing.Framing.{Framing}
use Rattle.lra_wire.specs.declared.framing.Framing.TheVariants.{Sized, Chunks, ToTheEnd}
use Rattle.lra_wire.specs.declared.response.Head.{Head}
use Rattle.lra_wire.specs.Chunks.{content_of, RefusesLine, RefusesTrailer, RefusesContent, RefusesBehind, RefusesChunk}
use Rattle.lra_wire.specs.Fields.{is_alike, values_of, stated_of}
use Rattle.lra_wire.specs.Response.{IsShort, HasResponse, NeverShort, stated_framing, coded_framing, framing_of}
use Rattle.lra_wire.specs.Response.{RefusesFramed, RefusesRest, RefusesResponse}
use Rattle.lra_wire.specs.inner.Parts.{IsHeadOf, IsSmall}
use Rattle.lra_wire.proofs.StreamLemmas.{drop_more_bytes}

-- ---- heads

-- the bytes begin with a head that exceeds the limits
pub never_after_response : (bytes : List ℕ) (head : ResponseHead) (rest : List ℕ) → ReadsResponse bytes head rest
    → ¬ (IsShort head) → NeverShort bytes
never_after_response bytes head rest reads bad more other tail found =
    let same = response_prefix_free bytes more head other rest tail reads found.reads in
    bad (subst IsShort (sym same.0) found.short)

-- a prefix that is long enough for a head within the limits has none
pub never_after_open : (bytes : List ℕ) → HasNoResponse bytes → 8192 ≤ length bytes → NeverShort bytes
never_after_open bytes none long more head rest found =
    let n = length (print_response head) in
    let short : n ≤ length bytes = omega (arith, found.short.size) in
    let front : take n bytes ≡ print_response head = sym (take-append-le n bytes more short) ∙ ap (take n) found.reads.1
    ∙ take_at (print_response head) rest n refl in
    none head (drop n bytes) (found.reads.0, sym (take-append-drop n bytes) ∙ ap (λ bs. bs ++ drop n bytes) front)

pub NeverShort-append : (text rest : List ℕ) → NeverShort text → NeverShort (text ++ rest)
NeverShort-append text rest never more head behind found =
    never (rest ++ more) head behind (subst (λ (bs : List ℕ). HasResponse bs head behind) (append_assoc text rest more)
    found)

-- the head that was read, in more bytes
pub response_there : (start : ℕ) (kept rest : List ℕ) (found : Head) → start ≤ length kept
    → (at : IsHeadOf (drop start kept) found)
    → HasResponse (drop start (kept ++ rest)) at.head (drop (start + found.len) (kept ++ rest))
response_there start kept rest found within at =
    let inside : start + found.len ≤ length kept = omega (arith, at.within, length-drop start kept) in
    record {
      reads = subst (λ (bs : List ℕ). ReadsResponse bs at.head (drop (start + found.len) (kept ++ rest)))
          (drop_more_bytes start kept rest within)
          (subst (λ (bs : List ℕ). ReadsResponse (drop start kept ++ rest) at.head bs)
          (ap (λ bs. bs ++ rest) (drop-drop found.len start kept) ∙ drop_more_bytes (start + found.len) kept rest
          inside)
          (ReadsResponse-append (drop start kept) at.head (drop found.len (drop start kept)) rest at.has.reads));
      short = at.has.short;
    }

-- a length that is stated is within the limit
pub framing_small : (code : ℕ) (fields : List (List ℕ × List ℕ)) (framing : Framing) → framing_of code fields
    ≡ Ok framing → IsSmall framing
framing_small code fields framing e = go ((code == 204) || (code == 304)) (values_of (codes "transfer-encoding") fields)
    (stated_of fields) e
  where
    is : (f : Framing) → IsSmall f → ◌≡◌ {A = Result Framing WireFault} (Ok f) (Ok framing) → IsSmall framing
    is f small same = let e : f ≡ framing = cc in subst IsSmall e small

    within : (b : Bool) (n : ℕ) → b ≡ nat_le n 65536 → ◌≡◌ {A = Result Framing WireFault}
        (cond b (Ok (Sized n)) (Err TooLarge)) (Ok framing) → IsSmall framing
    within true n fits same = is (Sized n) (leb-true n 65536 (sym fits)) same
    within false n fits same = absurd cc

    stated : (s : ContentLength) → ◌≡◌ {A = Result Framing WireFault} (stated_framing s) (Ok framing) → IsSmall framing
    stated Nothing same = is ToTheEnd tt same
    stated (Length n) same = within (nat_le n 65536) n refl same
    stated Malformed same = absurd cc

    coded : (b : Bool) → ◌≡◌ {A = Result Framing WireFault} (cond b (Ok Chunks) (Err Chunked)) (Ok framing)
        → IsSmall framing
    coded true same = is Chunks tt same
    coded false same = absurd cc

    go : (b : Bool) (codings : List (List ℕ)) (s : ContentLength) → ◌≡◌ {A = Result Framing WireFault}
        (cond b (Ok (Sized 0)) (coded_framing codings s)) (Ok framing) → IsSmall framing
    go true codings s same = is (Sized 0) (omega arith) same
    go false [] s same = stated s same
    go false (coding ∷ []) s same = coded (is_alike coding (codes "chunked")) same
    go false (coding ∷ other ∷ codings) s same = absurd cc

-- ---- after the final head

-- the faults of a framing are among those of a body
pub rest_says : (stream : List ℕ) (fault : WireFault) → fault ≢ BadHead → RefusesRest stream fault
    → RefusesResponse stream fault
rest_says stream BadHead other refused = absurd (other refl)
rest_says stream Chunked other refused = refused
rest_says stream BadLength other refused = refused
rest_says stream TooLarge other refused = refused
rest_says stream Cut other refused = inr refused
rest_says stream Io other refused = tt
rest_says stream Memory other refused = tt

-- no framing and no body is refused as a head is
stated_other : (stated : ContentLength) → stated_framing stated ≢ Err BadHead
stated_other Nothing e = cc
stated_other (Length n) e = go (nat_le n 65536) e
  where
    go : (b : Bool) → cond b (Ok (Sized n)) (Err TooLarge) ≡ Err BadHead → ⊥
    go true f = cc
    go false f = cc
stated_other Malformed e = cc

coded_other : (codings : List (List ℕ)) (stated : ContentLength) → coded_framing codings stated ≢ Err BadHead
coded_other [] stated e = stated_other stated e
coded_other (coding ∷ []) stated e = go (is_alike coding (codes "chunked")) e
  where
    go : (b : Bool) → cond b (Ok Chunks) (Err Chunked) ≡ Err BadHead → ⊥
    go true f = cc
    go false f = cc
coded_other (coding ∷ other ∷ codings) stated e = cc

pub framing_other : (code : ℕ) (fields : List (List ℕ × List ℕ)) → framing_of code fields ≢ Err BadHead
framing_other code fields e = go ((code == 204) || (code == 304)) e
  where
    go : (b : Bool) → cond b (Ok (Sized 0)) (coded_framing (values_of (codes "transfer-encoding") fields)
        (stated_of fields)) ≡ Err BadHead → ⊥
    go true f = cc
    go false f = coded_other (values_of (codes "transfer-encoding") fields) (stated_of fields) f

line_other : (place : ℕ) (text : List ℕ) → ¬ (RefusesLine place text BadHead)
line_other place text (inl (e, h)) = cc
line_other place text (inr (inl (e, h))) = cc
line_other place text (inr (inr (e, h, k))) = cc

trailer_other : (place : ℕ) (text : List ℕ) → ¬ (RefusesTrailer place text BadHead)
trailer_other place text (inl (e, h)) = cc
trailer_other place text (inr (inl (e, h))) = cc
trailer_other place text (inr (inr (inl (e, rest, has, long)))) = cc
trailer_other place text (inr (inr (inr (e, h, k)))) = cc

content_other : (place room size : ℕ) (text : List ℕ) → ¬ (RefusesContent place room size text BadHead)
content_other place room size text (inl (e, h)) = cc
content_other place room size text (inr (inl (e, h))) = cc
content_other place room size text (inr (inr (e, h))) = cc

behind_other : {place room : ℕ} {text : List ℕ} → ¬ (RefusesBehind place room text BadHead)
behind_other {place} {room} {text} refused = go refused.refused
  where
    go : (((chunk_size refused.line ≡ 0) × RefusesTrailer (place + length (print_chunk_line refused.line))
        refused.behind BadHead)
        ⊎ ((0 < chunk_size refused.line) × RefusesContent (place + length (print_chunk_line refused.line)) room
        (chunk_size refused.line) refused.behind BadHead)) → ⊥
    go (inl (e, h)) = trailer_other (place + length (print_chunk_line refused.line)) refused.behind h
    go (inr (e, h)) = content_other (place + length (print_chunk_line refused.line)) room (chunk_size refused.line)
        refused.behind h

chunk_other : (place room : ℕ) (text : List ℕ) → ¬ (RefusesChunk place room text BadHead)
chunk_other place room text (inl refused) = line_other place text refused
chunk_other place room text (inr refused) = behind_other refused

pub framed_other : (framing : Framing) (place : ℕ) (bytes : List ℕ) → ¬ (RefusesFramed framing place bytes BadHead)
framed_other (Sized n) place bytes (e, h) = cc
framed_other Chunks place bytes refused = chunk_other (place + (length bytes - length refused.text))
    (65536 - length (content_of refused.chunks)) refused.text refused.refused
framed_other ToTheEnd place bytes (e, h) = cc
