-- The parts of a chunked body in the bytes that came so far, whatever follows them.
use Rattle.std.proofs.Common.{◌≡◌, ◌≢◌, get_or, ℕ, ◌+◌, ◌-◌, ◌<◌, ◌≤◌, List, [], ◌∷◌, ◌++◌, length, take, drop, refl}
use Rattle.std.proofs.Common.{sym, ap, subst, ◌∙◌, arith, append_assoc, Result, Ok, Err, inl, inr}
use Rattle.std.specs.Prelude.{◌⊎◌, slice_range}
use Rattle.std.specs.List.{flat_map}
use Rattle.std.proofs.lemmas.List.{take-append-drop, drop-drop, length-drop, length-append, length-take}
use Rattle.std.proofs.lemmas.List.Elements.{All-nil}
use Rattle.httparse.specs.Ascii.{crlf_bytes}
use Rattle.httparse.specs.Grammar.{print_chunk_line, chunk_size, ReadsChunkLine, HasNoChunkLine, NeverHasChunkLine}
use Rattle.httparse.specs.Grammar.{MayBecomeChunkLine, HasNoSection, MayBecomeSection}
use Rattle.httparse.specs.Spans.{SectionOverflows}
use Rattle.lra_wire.specs.declared.chunks.ChunksRead.{ChunksRead}
use Rattle.lra_wire.specs.declared.chunks.Part.{Part}
use Rattle.lra_wire.specs.declared.chunks.Part.TheVariants.{Content, Last, Open}
use Rattle.lra_wire.specs.declared.wanted.Wanted.{Wanted}
use Rattle.lra_wire.specs.declared.wanted.Wanted.TheVariants.{Feed, Bytes}
use Rattle.lra_wire.specs.declared.fault.WireFault.{WireFault}
use Rattle.lra_wire.specs.declared.fault.WireFault.TheVariants.{BadLength, TooLarge, Cut}
use Rattle.lra_wire.specs.declared.framing.Framing.TheVariants.{Chunks}
use Rattle.lra_wire.specs.Chunks.{IsChunk, print_chunk, content_of, HasLast, RefusesTrailer, RefusesContent}
use Rattle.lra_wire.specs.Chunks.{RefusesChunk, RefusesChunks, AwaitsChunk}
use Rattle.lra_wire.specs.Response.{RefusesFramed, AwaitsBody}
use Rattle.lra_wire.specs.inner.Wanted.{IsOpenAt, LastsAt}
use Rattle.lra_wire.specs.inner.Parts.{IsBodyTo}
use Rattle.lra_wire.specs.inner.Chunked.{IsTrailerTo, FindsEnd, FindsContent, FindsPart, Joined, ChunksTo, HasRead}
use Rattle.lra_wire.specs.inner.Chunked.{IsLineOf, IsTrailerOf, IsPieceAt}
use Rattle.lra_wire.proofs.StreamLemmas.{drop_more_bytes}
use Rattle.lra_wire.proofs.ChunkLemmas.{NeverHasChunkLine-append, SectionOverflows-append, passes, line_there}
use Rattle.lra_wire.proofs.ChunkLemmas.{trailer_there, two_at, IsOpenBehind, content_there, line_some, joined_more}
use Rattle.lra_wire.proofs.OpenLemmas.{line_stays, section_stays, open_now, lasts_map}

-- ---- the end of a chunked body

pub end_found : (bytes : List ℕ) (start len : ℕ) → start ≤ length bytes → IsTrailerOf (drop start bytes) len → start
    + len ≤ 1048576 → IsTrailerTo start (start + len) bytes
end_found bytes start len within at bound = record {
  behind = omega arith;
  within = omega (arith, at.within, length-drop start bytes, within);
  bound = bound;
  there = λ more. trailer_there start bytes more len within at;
}

-- the trailer ends after the limit
pub end_long : (bytes : List ℕ) (start len : ℕ) → start ≤ length bytes → IsTrailerOf (drop start bytes) len → 1048576
    < start + len → LastsAt (RefusesTrailer start) start bytes TooLarge
end_long bytes start len within at long = λ more.
    let stream : List ℕ = bytes ++ more in
    let inside : len ≤ length (drop start bytes) = at.within in
    inr (inr (inl (
      refl,
      drop (start + len) stream,
      trailer_there start bytes more len within at,
      omega (
        arith,
        inside,
        within,
        long,
        length-drop start bytes,
        length-drop start stream,
        length-drop (start + len) stream,
        length-append bytes more,
      ),
    )))

-- it isn't whole
pub end_open : (bytes : List ℕ) (start : ℕ) (wanted : Wanted) → start ≤ length bytes → HasNoSection (drop start bytes)
    → MayBecomeSection (drop start bytes)
    → (wanted ≡ Feed (length bytes)) × (length bytes < 1048576) → IsOpenAt HasNoSection start bytes wanted
    × RefusesTrailer start (drop start bytes) Cut
end_open bytes start wanted within none may more = (
  subst (IsOpenAt HasNoSection start bytes) (sym more.0) (open_now HasNoSection section_stays start bytes within none
      more.1),
  inr (inr (inr (refl, none, may))),
)

-- it isn't whole, and the limit is reached
pub end_open_long : (bytes : List ℕ) (start : ℕ) → start ≤ length bytes → HasNoSection (drop start bytes) → 1048576
    ≤ length bytes → LastsAt (RefusesTrailer start) start bytes TooLarge
end_open_long bytes start within none long =
    λ more. inr (inl (refl, passes HasNoSection start bytes more within long none))

-- it has too many fields
pub end_refused : (bytes : List ℕ) (start : ℕ) → start ≤ length bytes → SectionOverflows 64 (drop start bytes)
    → LastsAt (RefusesTrailer start) start bytes BadLength
end_refused bytes start within over = λ more.
    inl (
      refl,
      subst (SectionOverflows 64) (drop_more_bytes start bytes more within)
          (SectionOverflows-append (drop start bytes) more over),
    )

-- ---- the content of a chunk

-- no CRLF follows the content
pub content_refused : (bytes : List ℕ) (start room size : ℕ) → start ≤ length bytes → start + size + 2 ≤ length bytes
    → (get_or bytes (start + size) 0 ≢ 13) ⊎ (get_or bytes (start + size + 1) 0 ≢ 10)
    → LastsAt (RefusesContent start room size) start bytes BadLength
content_refused bytes start room size within there other = λ more.
    let text : List ℕ = drop start bytes in
    inl (
      refl,
      record {
        content = take size text;
        behind = drop (start + size) bytes ++ more;
        whole = sym (drop_more_bytes start bytes more within) ∙ ap (λ bs. bs ++ more) (sym (take-append-drop size text))
            ∙ append_assoc (take size text) (drop size text) more ∙ ap (λ bs. take size text ++ (bs ++ more))
            (drop-drop size start bytes);
        count = omega (arith, there, within, length-take size text, length-drop start bytes);
        none = λ tail rest e. differ (drop (start + size) bytes) more tail rest (two_at bytes (start + size) there)
            other e;
      },
    )
  where
    differ : {a b : ℕ} (behind more tail rest : List ℕ) {left : List ℕ} → behind ≡ a ∷ b ∷ left → (a ≢ 13) ⊎ (b ≢ 10)
        → ¬ ((behind ++ more) ++ tail ≡ 13 ∷ 10 ∷ rest)
    differ behind more tail rest is (inl other) e = other (let f = sym (ap (λ bs. (bs ++ more) ++ tail) is) ∙ e in cc)
    differ behind more tail rest is (inr other) e = other (let f = sym (ap (λ bs. (bs ++ more) ++ tail) is) ∙ e in cc)

-- ---- parts of a chunked body

-- a line isn't whole
pub line_open : (bytes : List ℕ) (start room : ℕ) (wanted : Wanted) → start ≤ length bytes
    → HasNoChunkLine (drop start bytes) → MayBecomeChunkLine (drop start bytes)
    → (wanted ≡ Feed (length bytes)) × (length bytes < 1048576) → IsOpenAt AwaitsChunk start bytes wanted
    × RefusesChunk start room (drop start bytes) Cut
line_open bytes start room wanted within none may more =
    let o = open_now HasNoChunkLine line_stays start bytes within none more.1 in (
      subst (IsOpenAt AwaitsChunk start bytes) (sym more.0)
          (record { next = refl; bound = o.bound; awaits = λ tail missing. inl (o.awaits tail missing) }),
      inl (inr (inr (refl, none, may))),
    )

-- a line isn't whole, and the limit is reached
pub line_open_long : (bytes : List ℕ) (start room : ℕ) → start ≤ length bytes → HasNoChunkLine (drop start bytes)
    → 1048576 ≤ length bytes → LastsAt (RefusesChunk start room) start bytes TooLarge
line_open_long bytes start room within none long =
    λ more. inl (inr (inl (refl, passes HasNoChunkLine start bytes more within long none)))

-- none comes
pub line_refused_now : (bytes : List ℕ) (start room : ℕ) → start ≤ length bytes → NeverHasChunkLine (drop start bytes)
    → LastsAt (RefusesChunk start room) start bytes BadLength
line_refused_now bytes start room within never = λ more.
    inl (inl (
      refl,
      subst NeverHasChunkLine (drop_more_bytes start bytes more within)
          (NeverHasChunkLine-append (drop start bytes) more never),
    ))

-- after a line of size 0
pub last_found : (bytes : List ℕ) (start end : ℕ) (found : ℕ × ℕ) → start ≤ length bytes
    → IsLineOf (drop start bytes) found → found.1 ≡ 0 → IsTrailerTo (start + found.0) end bytes
    → (start ≤ end) × (end ≤ length bytes) × (end ≤ 1048576) × ((more : List ℕ)
    → HasLast (drop start (bytes ++ more)) (drop end (bytes ++ more)))
last_found bytes start end found within at zero trailer = (
  omega (arith, trailer.behind),
  trailer.within,
  trailer.bound,
  λ more. record {
    line = at.line;
    behind = drop (start + found.0) (bytes ++ more);
    reads = line_there start bytes more found within at;
    size = sym at.size ∙ zero;
    trailer = trailer.there more;
  },
)

-- a line stands there, and the stream ends after it
cut_behind : (bytes : List ℕ) (start room : ℕ) (found : ℕ × ℕ) → (at : IsLineOf (drop start bytes) found)
    → (((found.1 ≡ 0) × RefusesTrailer (start + found.0) (drop (start + found.0) bytes) Cut)
    ⊎ ((0 < found.1) × RefusesContent (start + found.0) room found.1 (drop (start + found.0) bytes) Cut))
    → RefusesChunk start room (drop start bytes) Cut
cut_behind bytes start room found at why =
    let behind : List ℕ = drop (start + found.0) bytes in
    let Why : ℕ → ℕ → Type 0 = λ place size. ((size ≡ 0) × RefusesTrailer (start + place) behind Cut)
    ⊎ ((0 < size) × RefusesContent (start + place) room size behind Cut) in
    inr (record {
      line = at.line;
      behind = behind;
      reads = subst (λ (bs : List ℕ). ReadsChunkLine (drop start bytes) at.line bs) (drop-drop found.0 start bytes)
          at.reads;
      refused = subst (λ (n : ℕ). Why n (chunk_size at.line)) at.len (subst (Why found.0) at.size why);
    })

open_behind : (bytes : List ℕ) (start : ℕ) (wanted : Wanted) (found : ℕ × ℕ) → start ≤ length bytes
    → IsLineOf (drop start bytes) found → found.1 ≡ 0
    → IsOpenAt HasNoSection (start + found.0) bytes wanted → IsOpenAt AwaitsChunk start bytes wanted
open_behind bytes start wanted found within at zero o = record {
  next = o.next;
  bound = o.bound;
  awaits = λ more missing. inr (
    at.line,
    drop (start + found.0) (bytes ++ more),
    line_there start bytes more found within at,
    subst (λ (n : ℕ). IsOpenBehind n (drop (start + found.0) (bytes ++ more))) at.size
        (inl (zero, o.awaits more missing)),
  );
}

pub last_open : (bytes : List ℕ) (start room : ℕ) (wanted : Wanted) (found : ℕ × ℕ) → start ≤ length bytes
    → IsLineOf (drop start bytes) found → found.1 ≡ 0
    → IsOpenAt HasNoSection (start + found.0) bytes wanted × RefusesTrailer (start + found.0)
    (drop (start + found.0) bytes) Cut
    → IsOpenAt AwaitsChunk start bytes wanted × RefusesChunk start room (drop start bytes) Cut
last_open bytes start room wanted found within at zero o = (
  open_behind bytes start wanted found within at zero o.0,
  cut_behind bytes start room found at (inl (zero, o.1)),
)

pub last_refused : (bytes : List ℕ) (start room : ℕ) (found : ℕ × ℕ) (fault : WireFault) → start ≤ length bytes
    → IsLineOf (drop start bytes) found → found.1 ≡ 0
    → LastsAt (RefusesTrailer (start + found.0)) (start + found.0) bytes fault
    → LastsAt (RefusesChunk start room) start bytes fault
last_refused bytes start room found fault within at zero refused =
    lasts_map (λ text f. RefusesTrailer (start + found.0) (drop (start + found.0) text) f)
    (λ text f. RefusesChunk start room (drop start text) f) bytes fault
    (λ more f q. inr (record {
      line = at.line;
      behind = drop (start + found.0) (bytes ++ more);
      reads = line_there start bytes more found within at;
      refused = inl (
        sym at.size ∙ zero,
        subst (λ (n : ℕ). RefusesTrailer (start + n)
            (drop (start + found.0) (bytes ++ more)) f) at.len q,
      );
    })) refused

-- after the line of a chunk
pub chunk_found : (bytes : List ℕ) (start room from to : ℕ) (found : ℕ × ℕ) → start ≤ length bytes
    → IsLineOf (drop start bytes) found → 0 < found.0 → 0 < found.1
    → (from ≡ start + found.0) × (to ≡ start + found.0 + found.1) × (found.1 ≤ room) × (to + 2 ≤ length bytes)
    × (to + 2 ≤ 1048576) × (drop to bytes ≡ crlf_bytes ++ drop (to + 2) bytes)
    → (start < from) × (from < to) × (to + 2 ≤ length bytes) × (to + 2 ≤ 1048576) × (to ≤ from + room)
    × IsPieceAt start bytes from to
chunk_found bytes start room from to found within at line some h =
    let behind : drop (start + found.0) bytes ≡ drop from bytes = ap (λ n. drop n bytes) (sym h.0) in
    let there = content_there from to found.1 bytes (omega (arith, h.0, h.1)) h.3 h.5 in (
      omega (arith, h.0, line),
      omega (arith, h.0, h.1, some),
      h.3,
      h.4,
      omega (arith, h.0, h.1, h.2),
      record {
        chunk = record { line = at.line; content = slice_range bytes from to };
        valid = record { line = at.reads.0; size = sym at.size ∙ sym there.1; some = omega (arith, there.1, some) };
        content = refl;
        front = at.reads.1 ∙ ap (λ bs. print_chunk_line at.line ++ bs)
            (drop-drop found.0 start bytes ∙ behind ∙ there.0)
            ∙ sym (append_assoc (print_chunk_line at.line) (slice_range bytes from to ++ crlf_bytes)
            (drop (to + 2) bytes));
      },
    )

pub chunk_open : (bytes : List ℕ) (start room : ℕ) (wanted : Wanted) (found : ℕ × ℕ) → start ≤ length bytes
    → IsLineOf (drop start bytes) found → 0 < found.1
    → (wanted ≡ Bytes (start + found.0 + found.1 + 2)) × (length bytes < start + found.0 + found.1 + 2)
    × (start + found.0 + found.1 + 2 ≤ 1048576)
    → IsOpenAt AwaitsChunk start bytes wanted × RefusesChunk start room (drop start bytes) Cut
chunk_open bytes start room wanted found within at some h = (
  subst (IsOpenAt AwaitsChunk start bytes) (sym h.0) (record {
    next = h.1;
    bound = h.2;
    awaits = λ more few. inr (
      at.line,
      drop (start + found.0) (bytes ++ more),
      line_there start bytes more found within at,
      subst (λ (n : ℕ). IsOpenBehind n (drop (start + found.0) (bytes ++ more))) at.size
          (inr (some, omega (arith, few, length-drop (start + found.0) (bytes ++ more)))),
    );
  }),
  cut_behind bytes start room found at
      (inr (some, inr (inr (refl, omega (arith, h.1, length-drop (start + found.0) bytes))))),
)

pub chunk_refused : (bytes : List ℕ) (start room : ℕ) (found : ℕ × ℕ) (fault : WireFault) → start ≤ length bytes
    → IsLineOf (drop start bytes) found → 0 < found.1
    → LastsAt (RefusesContent (start + found.0) room found.1) (start + found.0) bytes fault
    → LastsAt (RefusesChunk start room) start bytes fault
chunk_refused bytes start room found fault within at some refused =
    lasts_map (λ text f. RefusesContent (start + found.0) room found.1 (drop (start + found.0) text) f)
    (λ text f. RefusesChunk start room (drop start text) f) bytes fault
    (λ more f q. inr (record {
      line = at.line;
      behind = drop (start + found.0) (bytes ++ more);
      reads = line_there start bytes more found within at;
      refused = inr (
        subst (λ (n : ℕ). 0 < n) at.size some,
        subst (λ (n : ℕ). RefusesContent (start + n) room (chunk_size at.line) (drop (start + found.0) (bytes ++ more))
            f) at.len
            (subst (λ (n : ℕ). RefusesContent (start + found.0) room n (drop (start + found.0) (bytes ++ more)) f)
            at.size q),
      );
    })) refused

-- what follows the line
pub part_last : (bytes : List ℕ) (start room : ℕ) (found : ℕ × ℕ) (result : Result Part WireFault) → start
    ≤ length bytes → IsLineOf (drop start bytes) found → found.1 ≡ 0
    → FindsEnd (start + found.0) bytes result → FindsPart start room bytes result
part_last bytes start room found (Ok (Last end)) within at zero h = last_found bytes start end found within at zero h
part_last bytes start room found (Ok (Open wanted)) within at zero h =
    last_open bytes start room wanted found within at zero h
part_last bytes start room found (Ok (Content from to)) within at zero h = absurd h
part_last bytes start room found (Err fault) within at zero h = last_refused bytes start room found fault within at zero
    h

pub part_content : (bytes : List ℕ) (start room : ℕ) (found : ℕ × ℕ) (result : Result Part WireFault) → start
    ≤ length bytes → IsLineOf (drop start bytes) found → 0 < found.1
    → FindsContent (start + found.0) room found.1 bytes result → FindsPart start room bytes result
part_content bytes start room found (Ok (Content from to)) within at some h =
    chunk_found bytes start room from to found within at (line_some (drop start bytes) found at) some h
part_content bytes start room found (Ok (Open wanted)) within at some h =
    chunk_open bytes start room wanted found within at some h
part_content bytes start room found (Ok (Last end)) within at some h = absurd h
part_content bytes start room found (Err fault) within at some h = chunk_refused bytes start room found fault within at
    some h

-- ---- chunked bodies

pub chunks_none : (bytes : List ℕ) (start : ℕ) → start ≤ length bytes → start ≤ 1048576 → ChunksTo bytes start start []
chunks_none bytes start within limit = record {
  behind = omega arith;
  within = within;
  limit = omega (arith, limit);
  room = omega arith;
  so_far = record {
    chunks = [];
    has = record { each = All-nil IsChunk; front = refl; limit = omega arith };
    body_is =
        refl;
  };
}

-- one more
pub chunks_more : (bytes : List ℕ) (start at from to : ℕ) (body : List ℕ) → ChunksTo bytes start at body
    → (at < from) × (from < to) × (to + 2 ≤ length bytes) × (to + 2 ≤ 1048576) × (to ≤ from + (65536 - length body))
    × IsPieceAt at bytes from to
    → ChunksTo bytes start (to + 2) (body ++ slice_range bytes from to)
chunks_more bytes start at from to body chunks piece =
    let count : length (slice_range bytes from to) ≤ to - from = omega
    (arith, length-take (to - from) (drop from bytes)) in
    let all : length body + length (slice_range bytes from to) ≤ 65536 =
    omega (arith, count, piece.4, chunks.room, piece.1) in
    record {
      behind = omega (arith, chunks.behind, piece.0, piece.1);
      within = piece.2;
      limit = piece.3;
      room = omega (arith, all, length-append body (slice_range bytes from to));
      so_far = joined_more bytes start at from to body all chunks.so_far piece.5;
    }

-- the same chunks in more bytes
pub chunks_ahead : (bytes more : List ℕ) (start at : ℕ) (body : List ℕ) → ChunksTo bytes start at body
    → Joined (bytes ++ more) start at body
chunks_ahead bytes more start at body chunks =
    let joined = chunks.so_far in
    record {
      chunks = joined.chunks;
      has = record {
        each = joined.has.each;
        front = sym (drop_more_bytes start bytes more (omega (arith, chunks.behind, chunks.within)))
            ∙ ap (λ bs. bs ++ more) joined.has.front
            ∙ append_assoc (flat_map print_chunk joined.chunks) (drop at bytes) more
            ∙ ap (λ bs. flat_map print_chunk joined.chunks ++ bs) (drop_more_bytes at bytes more chunks.within);
        limit = joined.has.limit;
      };
      body_is = joined.body_is;
    }

-- they are read still
pub chunks_on : (bytes more : List ℕ) (start at : ℕ) (body : List ℕ) → ChunksTo bytes start at body
    → ChunksTo (bytes ++ more) start at body
chunks_on bytes more start at body chunks = record {
  behind = chunks.behind;
  within = omega (arith, chunks.within, length-append bytes more);
  limit = chunks.limit;
  room = chunks.room;
  so_far = chunks_ahead bytes more start at body chunks;
}

-- none is read any more
pub read_again : (bytes : List ℕ) (old new : ChunksRead) → HasRead bytes old → new.start ≡ old.start → new.end
    ≡ old.start → new.body.items ≡ [] → HasRead bytes new
read_again bytes old new read start end none =
    subst (λ (bs : List ℕ). ChunksTo bytes new.start new.end bs) (sym none)
    (subst (λ (n : ℕ). ChunksTo bytes new.start n []) (sym end)
    (subst (λ (n : ℕ). ChunksTo bytes n old.start []) (sym start)
    (chunks_none bytes old.start (omega (arith, read.behind, read.within)) (omega (arith, read.behind, read.limit)))))

pub chunks_whole : (bytes : List ℕ) (start at end : ℕ) (body : List ℕ) → ChunksTo bytes start at body
    → (at ≤ end) × (end ≤ length bytes) × (end ≤ 1048576) × ((more : List ℕ)
    → HasLast (drop at (bytes ++ more)) (drop end (bytes ++ more)))
    → IsBodyTo Chunks start bytes body end
chunks_whole bytes start at end body chunks last = record {
  behind = omega (arith, chunks.behind, last.0);
  within = last.1;
  bound = last.2;
  there = λ more.
      let joined = chunks_ahead bytes more start at body chunks in
      record {
        chunks = joined.chunks;
        last = drop at (bytes ++ more);
        has = joined.has;
        ends = last.3 more;
        joined =
            joined.body_is;
      };
}

pub chunks_open : (bytes : List ℕ) (start at : ℕ) (wanted : Wanted) (body : List ℕ) → ChunksTo bytes start at body
    → IsOpenAt AwaitsChunk at bytes wanted → IsOpenAt (AwaitsBody Chunks) start bytes wanted
chunks_open bytes start at wanted body chunks o = record {
  next = o.next;
  bound = o.bound;
  awaits = λ more missing.
      let joined = chunks_ahead bytes more start at body chunks in
      record {
        chunks = joined.chunks;
        text = drop at (bytes ++ more);
        has = joined.has;
        open_text =
            o.awaits more missing;
      };
}

-- the stream ends in them
pub chunks_cut : (bytes : List ℕ) (start at : ℕ) (body : List ℕ) → ChunksTo bytes start at body
    → RefusesChunk at (65536 - length body) (drop at bytes) Cut → RefusesFramed Chunks start (drop start bytes) Cut
chunks_cut bytes start at body chunks cut =
    let joined = chunks.so_far in
    let place : start + (length (drop start bytes) - length (drop at bytes))
    ≡ at = omega (arith, chunks.behind, chunks.within, length-drop start bytes, length-drop at bytes) in
    record {
      chunks = joined.chunks;
      text = drop at bytes;
      has = joined.has;
      refused = subst (λ (n : ℕ). RefusesChunk n (65536 - length (content_of joined.chunks)) (drop at bytes) Cut)
          (sym place)
          (subst (λ (bs : List ℕ). RefusesChunk at (65536 - length bs) (drop at bytes) Cut) joined.body_is cut);
    }

pub chunks_refused : (bytes : List ℕ) (start at : ℕ) (body : List ℕ) (fault : WireFault) → ChunksTo bytes start at body
    → LastsAt (RefusesChunk at (65536 - length body)) at bytes fault → LastsAt (RefusesFramed Chunks start) start bytes
    fault
chunks_refused bytes start at body fault chunks refused =
    lasts_map (λ text f. RefusesChunk at (65536 - length body) (drop at text) f)
    (λ text f. RefusesChunks start (drop start text) f) bytes fault
    (λ more f q.
    let stream : List ℕ = bytes ++ more in
    let joined = chunks_ahead bytes more start at body chunks in
    let place : start + (length (drop start stream) - length (drop at stream)) ≡ at =
    omega (
      arith,
      chunks.behind,
      chunks.within,
      length-append bytes more,
      length-drop start stream,
      length-drop at stream,
    ) in
    record {
      chunks = joined.chunks;
      text = drop at stream;
      has = joined.has;
      refused = subst (λ (n : ℕ). RefusesChunk n (65536 - length (content_of joined.chunks)) (drop at stream) f)
          (sym place)
          (subst (λ (bs : List ℕ). RefusesChunk at (65536 - length bs) (drop at stream) f) joined.body_is q);
    }) refused
