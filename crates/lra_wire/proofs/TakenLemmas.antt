-- What an inbox stands for once a message was taken off the bytes that came.
use Rattle.std.proofs.Common.{◌≡◌, ℕ, ◌<◌, ◌≤◌, List, [], ◌++◌, length, drop, refl, sym, ap, subst, ◌∙◌, Option, Some}
use Rattle.std.proofs.Common.{None, Ok, Err}
use Rattle.std.specs.Prelude.{IfSome}
use Rattle.std.specs.Io.KnownBytes.{Keeps, prepend_known, IsAtEnd}
use Rattle.std.proofs.lemmas.List.{append-nil}
use Rattle.lra_wire.specs.declared.fault.WireFault.{WireFault}
use Rattle.lra_wire.specs.declared.fault.WireFault.TheVariants.{BadHead, Chunked, BadLength, TooLarge, Cut, Io, Memory}
use Rattle.lra_wire.specs.declared.front.Front.{Front}
use Rattle.lra_wire.specs.declared.inbox.Inbox.{Inbox}
use Rattle.lra_wire.specs.declared.response.ResponseRead.{ResponseRead}
use Rattle.lra_wire.specs.ResponseParse.{Lasts, IsWhole, IsOpen}
use Rattle.lra_wire.specs.Fronts.{RefusesFront, IsFront, IsFrontSeen}
use Rattle.lra_wire.specs.Inbox.{kept_bytes, stream_of, IsOutside}
use Rattle.lra_wire.specs.inner.Growth.{Grows}
use Rattle.lra_wire.specs.inner.Reading.{IsLast, EndsAt}
use Rattle.lra_wire.specs.Request.{request_of, RefusesRequest, GivesRequest, AwaitsRequest}
use Rattle.lra_wire.specs.Response.{IsResponse, RefusesResponse, AwaitsResponse}
use Rattle.lra_wire.specs.Streams.{IfBothKnown}
use Rattle.lra_wire.proofs.FrontLemmas.{request_more, refused_more}
use Rattle.lra_wire.proofs.StreamLemmas.{on_stream, on_stream_end, known}

-- ---- streams

-- a relation of the stream before, and the stream that is left after the first bytes
both_known : (old : Option (List ℕ)) (kept : List ℕ) (left : Option (List ℕ)) (n : ℕ) (P : List ℕ → List ℕ → Type 0)
    → Keeps old (prepend_known kept left) → ((rest : List ℕ) → P (kept ++ rest) (drop n kept ++ rest))
    → IfBothKnown old (prepend_known (drop n kept) left) P
both_known None kept left n P keeps h = tt
both_known (Some xs) kept None n P keeps h = absurd keeps
both_known (Some xs) kept (Some ys) n P keeps h = let Q : List ℕ → Type 0 = λ zs. P zs (drop n kept ++ ys) in
    subst Q keeps (h ys)

-- the same at the end of the stream
both_known_end : (old : Option (List ℕ)) (kept : List ℕ) (left : Option (List ℕ)) (n : ℕ) (P : List ℕ → List ℕ → Type 0)
    → Keeps old (prepend_known kept left) → IsAtEnd left → P kept (drop n kept)
    → IfBothKnown old (prepend_known (drop n kept) left) P
both_known_end None kept left n P keeps end h = tt
both_known_end (Some xs) kept None n P keeps end h = absurd keeps
both_known_end (Some xs) kept (Some ys) n P keeps end h =
    let Q : List ℕ → Type 0 = λ zs. P zs (drop n kept ++ ys) in
    let S : List ℕ → Type 0 = λ zs. P (kept ++ zs) (drop n kept ++ zs) in
    let T : List ℕ → Type 0 = λ zs. P zs (drop n kept ++ []) in
    let U : List ℕ → Type 0 = λ zs. P kept zs in
    subst Q keeps (subst S (sym end) (subst T (sym (append-nil kept)) (subst U (sym (append-nil (drop n kept))) h)))

-- the first bytes that came were a message's, whatever follows
pub taken : {R : Type 0} (remaining : R → Option (List ℕ)) (old mid new : Inbox R) (n : ℕ)
    (P : List ℕ → List ℕ → Type 0) → Grows remaining old mid
    → ((rest : List ℕ) → P (kept_bytes mid ++ rest) (drop n (kept_bytes mid) ++ rest)) → kept_bytes new
    ≡ drop n (kept_bytes mid) → new.reader ≡ mid.reader
    → IfBothKnown (stream_of remaining old) (stream_of remaining new) P
taken {R} remaining old mid new n P grows h kept reader =
    subst (λ (s : Option (List ℕ)). IfBothKnown (stream_of remaining old) s P)
    (ap (λ bs. prepend_known bs (remaining mid.reader)) (sym kept) ∙ ap
    (λ r. prepend_known (kept_bytes new) (remaining r)) (sym reader))
    (both_known (stream_of remaining old) (kept_bytes mid) (remaining mid.reader) n P grows.stream h)

-- the first of all the bytes of the stream were a message's
pub taken_at_end : {R : Type 0} (remaining : R → Option (List ℕ)) (old mid new : Inbox R) (n : ℕ)
    (P : List ℕ → List ℕ → Type 0) → Grows remaining old mid
    → IsAtEnd (remaining mid.reader) → P (kept_bytes mid) (drop n (kept_bytes mid)) → kept_bytes new
    ≡ drop n (kept_bytes mid) → new.reader ≡ mid.reader
    → IfBothKnown (stream_of remaining old) (stream_of remaining new) P
taken_at_end {R} remaining old mid new n P grows end h kept reader =
    subst (λ (s : Option (List ℕ)). IfBothKnown (stream_of remaining old) s P)
    (ap (λ bs. prepend_known bs (remaining mid.reader)) (sym kept) ∙ ap
    (λ r. prepend_known (kept_bytes new) (remaining r)) (sym reader))
    (both_known_end (stream_of remaining old) (kept_bytes mid) (remaining mid.reader) n P grows.stream end h)

-- ---- requests

-- a fault of the reader or of memory
pub request_outside : (stream : Option (List ℕ)) (fault : WireFault) → IsOutside fault
    → IfSome stream (λ bytes. RefusesRequest bytes fault)
request_outside stream Io h = known stream (λ bytes. RefusesRequest bytes Io) (λ bytes. tt)
request_outside stream Memory h = known stream (λ bytes. RefusesRequest bytes Memory) (λ bytes. tt)
request_outside stream BadHead h = absurd h
request_outside stream Chunked h = absurd h
request_outside stream BadLength h = absurd h
request_outside stream TooLarge h = absurd h
request_outside stream Cut h = absurd h

-- a fault of a prefix is one of the stream
pub front_says : (bytes : List ℕ) (fault : WireFault) → RefusesFront bytes fault → RefusesRequest bytes fault
front_says bytes BadHead h = h
front_says bytes Chunked h = h
front_says bytes BadLength h = h
front_says bytes TooLarge h = h
front_says bytes Memory h = h
front_says bytes Cut h = absurd h
front_says bytes Io h = absurd h

pub request_refused : {R : Type 0} (remaining : R → Option (List ℕ)) (old mid : Inbox R) (fault : WireFault)
    → Grows remaining old mid → RefusesFront (kept_bytes mid) fault
    → IfSome (stream_of remaining old) (λ bytes. RefusesRequest bytes fault)
request_refused remaining old mid fault grows refused =
    on_stream grows (λ bytes. RefusesRequest bytes fault) (λ rest. front_says (kept_bytes mid ++ rest) fault
    (refused_more (kept_bytes mid) rest fault refused))

pub request_taken : {R : Type 0} (remaining : R → Option (List ℕ)) (old mid new : Inbox R) (front : Front)
    → Grows remaining old mid → IsFront (kept_bytes mid) (Ok (Some front))
    → kept_bytes new ≡ drop front.len (kept_bytes mid) → new.reader ≡ mid.reader
    → IfBothKnown (stream_of remaining old) (stream_of remaining new) (GivesRequest (Some front.request))
request_taken remaining old mid new front grows is kept reader =
    taken remaining old mid new front.len (GivesRequest (Some front.request)) grows
    (λ rest. request_more (kept_bytes mid) rest (request_of front.request) (drop front.len (kept_bytes mid)) is.1) kept
    reader

-- more is wanted
pub request_open : (bytes kept : List ℕ) (found : Option Front) → bytes ≡ kept → found ≡ None
    → IsFrontSeen bytes (Ok found) → AwaitsRequest kept × (length kept < 73728)
request_open bytes kept found same is front =
    subst (λ (bs : List ℕ). AwaitsRequest bs × (length bs < 73728)) same
    (subst (λ (o : Option Front). IsFrontSeen bytes (Ok o)) is front)

-- the stream ends with no further byte
pub requests_end : {R : Type 0} (remaining : R → Option (List ℕ)) (old new : Inbox R) → Grows remaining old new
    → IsAtEnd (remaining new.reader) → kept_bytes new ≡ []
    → IfBothKnown (stream_of remaining old) (stream_of remaining new) (GivesRequest None)
requests_end remaining old new grows end none = taken_at_end remaining old new new 0 (GivesRequest None) grows end
    (none, none) refl refl

-- the stream ends in a request
pub request_cut : {R : Type 0} (remaining : R → Option (List ℕ)) (old new : Inbox R) (fault : WireFault)
    → Grows remaining old new → IsAtEnd (remaining new.reader) → EndsAt (kept_bytes new) (Err fault)
    → IfSome (stream_of remaining old) (λ bytes. RefusesRequest bytes fault)
request_cut remaining old new fault grows end refused = on_stream_end grows (λ bytes. RefusesRequest bytes fault) end
    refused

-- ---- responses

-- a fault of the reader or of memory
pub response_outside : (stream : Option (List ℕ)) (fault : WireFault) → IsOutside fault
    → IfSome stream (λ bytes. RefusesResponse bytes fault)
response_outside stream Io h = known stream (λ bytes. RefusesResponse bytes Io) (λ bytes. tt)
response_outside stream Memory h = known stream (λ bytes. RefusesResponse bytes Memory) (λ bytes. tt)
response_outside stream BadHead h = absurd h
response_outside stream Chunked h = absurd h
response_outside stream BadLength h = absurd h
response_outside stream TooLarge h = absurd h
response_outside stream Cut h = absurd h

-- a fault that lasts is one of the stream
lasts_says : (bytes more : List ℕ) (fault : WireFault) → Lasts RefusesResponse bytes fault
    → RefusesResponse (bytes ++ more) fault
lasts_says bytes more BadHead h = h more
lasts_says bytes more Chunked h = h more
lasts_says bytes more BadLength h = h more
lasts_says bytes more TooLarge h = h more
lasts_says bytes more Memory h = tt
lasts_says bytes more Cut h = absurd h
lasts_says bytes more Io h = absurd h

pub response_refused : {R : Type 0} (remaining : R → Option (List ℕ)) (old mid : Inbox R) (fault : WireFault)
    → Grows remaining old mid → Lasts RefusesResponse (kept_bytes mid) fault
    → IfSome (stream_of remaining old) (λ bytes. RefusesResponse bytes fault)
response_refused remaining old mid fault grows refused = on_stream grows (λ bytes. RefusesResponse bytes fault)
    (λ rest. lasts_says (kept_bytes mid) rest fault refused)

-- the same for bytes that may be all of the stream
pub lasts_now : (bytes : List ℕ) (fault : WireFault) → Lasts RefusesResponse bytes fault → RefusesResponse bytes fault
lasts_now bytes fault h = subst (λ (bs : List ℕ). RefusesResponse bs fault) (append-nil bytes)
    (lasts_says bytes [] fault h)

pub response_taken : {R : Type 0} (remaining : R → Option (List ℕ)) (old mid new : Inbox R) (code : ℕ) (body : List ℕ)
    (len : ℕ) → Grows remaining old mid → IsWhole (kept_bytes mid) code body len
    → kept_bytes new ≡ drop len (kept_bytes mid) → new.reader ≡ mid.reader
    → IfBothKnown (stream_of remaining old) (stream_of remaining new) (λ bytes rest. IsResponse bytes code body rest)
response_taken remaining old mid new code body len grows whole kept reader =
    taken remaining old mid new len (λ bytes rest. IsResponse bytes code body rest) grows whole.stays kept reader

-- a whole response, where nothing follows
pub whole_last : (bytes : List ℕ) (code : ℕ) (body : List ℕ) (len : ℕ) → IsWhole bytes code body len
    → (len ≤ length bytes) × IsResponse bytes code body (drop len bytes)
whole_last bytes code body len whole = (
  whole.within,
  subst (λ (bs : List ℕ). IsResponse bs code body (drop len bytes)) (append-nil bytes)
      (subst (λ (bs : List ℕ). IsResponse (bytes ++ []) code body bs) (append-nil (drop len bytes)) (whole.stays [])),
)

pub last_taken : {R : Type 0} (remaining : R → Option (List ℕ)) (old mid new : Inbox R) (found : ResponseRead × ℕ)
    → Grows remaining old mid → IsAtEnd (remaining mid.reader)
    → IsLast (kept_bytes mid) (Ok found) → kept_bytes new ≡ drop found.1 (kept_bytes mid) → new.reader ≡ mid.reader
    → IfBothKnown (stream_of remaining old) (stream_of remaining new) (λ bytes rest. IsResponse bytes found.0.code
    found.0.body.items rest)
last_taken remaining old mid new found grows end last kept reader =
    taken_at_end remaining old mid new found.1 (λ bytes rest. IsResponse bytes found.0.code found.0.body.items rest)
    grows end last.1 kept reader

pub response_cut : {R : Type 0} (remaining : R → Option (List ℕ)) (old new : Inbox R) (fault : WireFault)
    → Grows remaining old new → IsAtEnd (remaining new.reader)
    → IsLast (kept_bytes new) (Err fault) → IfSome (stream_of remaining old) (λ bytes. RefusesResponse bytes fault)
response_cut remaining old new fault grows end refused = on_stream_end grows (λ bytes. RefusesResponse bytes fault) end
    refused

-- more is wanted
pub response_open : (bytes : List ℕ) (wanted : ℕ) → IsOpen bytes wanted → AwaitsResponse bytes
response_open bytes wanted o =
    let same : bytes ++ [] ≡ bytes = append-nil bytes in
    subst AwaitsResponse same (o.awaits [] (subst (λ (bs : List ℕ). length bs < wanted) (sym same) o.few))
