-- Chunk lines, contents and trailers in the bytes that came, whatever follows them.
use Rattle.std.proofs.Common.{◌≡◌, ◌≢◌, get_or, ℕ, ◌+◌, ◌-◌, ◌<◌, ◌≤◌, ◌&&◌, ◌==◌, true, false, Bool, List, [], ◌∷◌}
use Rattle.std.proofs.Common.{◌++◌, length, drop, refl, sym, ap, subst, ◌∙◌, arith, append_assoc, inl, inr}
use Rattle.std.specs.Prelude.{◌⊎◌, slice_range}
use Rattle.std.specs.List.{flat_map}
use Rattle.std.proofs.lemmas.Bool.Decides.{nat_tests}
use Rattle.std.proofs.lemmas.Grind.{flat_map-append}
use Rattle.std.proofs.lemmas.List.{append-nil, length-append, length-drop, length-take, drop-drop, drop_more}
use Rattle.std.proofs.lemmas.List.{take-append-drop}
use Rattle.std.proofs.lemmas.List.Elements.{All-push}
use Rattle.httparse.specs.Ascii.{crlf_bytes}
use Rattle.httparse.specs.Grammar.{print_chunk_line, print_extension, ReadsChunkLine, NeverHasChunkLine, ReadsSection}
use Rattle.httparse.specs.Grammar.{HasNoSection}
use Rattle.httparse.specs.Spans.{SectionOverflows}
use Rattle.httparse.proofs.GrammarLemmas.{ReadsSection-append}
use Rattle.httparse.proofs.ChunkLemmas.{ReadsChunkLine-append}
use Rattle.lra_wire.specs.Chunks.{Chunk, IsChunk, print_chunk, content_of, HasTrailer, PassesLimit}
use Rattle.lra_wire.specs.inner.Chunked.{Joined, has_line_end, IsTrailerOf, IsLineOf, IsPieceAt}
use Rattle.lra_wire.proofs.StreamLemmas.{drop_more_bytes}

-- ---- whatever follows

pub NeverHasChunkLine-append : (text rest : List ℕ) → NeverHasChunkLine text → NeverHasChunkLine (text ++ rest)
NeverHasChunkLine-append text rest never more line behind reads =
    never (rest ++ more) line behind (subst (λ (bs : List ℕ). ReadsChunkLine bs line behind)
    (append_assoc text rest more) reads)

pub SectionOverflows-append : (text rest : List ℕ) → SectionOverflows 64 text → SectionOverflows 64 (text ++ rest)
SectionOverflows-append text rest over more fields last behind reads =
    over (rest ++ more) fields last behind (subst (λ (bs : List ℕ). ReadsSection bs fields last behind)
    (append_assoc text rest more) reads)

-- the bytes from an offset on lack something, and reach the limit
pub passes : (Lacks : List ℕ → Type 0) (place : ℕ) (kept rest : List ℕ) → place ≤ length kept → 1048576 ≤ length kept
    → Lacks (drop place kept)
    → PassesLimit Lacks place (drop place (kept ++ rest))
passes Lacks place kept rest within long none = record {
  front = drop place kept;
  back = rest;
  whole = sym (drop_more_bytes place kept rest within);
  none = none;
  long = omega (arith, length-drop place kept);
}

-- ---- chunk lines

-- a chunk line of the stream
pub line_there : (start : ℕ) (kept rest : List ℕ) (found : ℕ × ℕ) → start ≤ length kept
    → (at : IsLineOf (drop start kept) found)
    → ReadsChunkLine (drop start (kept ++ rest)) at.line (drop (start + found.0) (kept ++ rest))
line_there start kept rest found within at =
    let inside : start + found.0 ≤ length kept = omega (arith, at.within, length-drop start kept) in
    subst (λ (bs : List ℕ). ReadsChunkLine bs at.line (drop (start + found.0) (kept ++ rest)))
    (drop_more_bytes start kept rest within)
    (subst (λ (bs : List ℕ). ReadsChunkLine (drop start kept ++ rest) at.line bs)
    (ap (λ bs. bs ++ rest) (drop-drop found.0 start kept) ∙ drop_more_bytes (start + found.0) kept rest inside)
    (ReadsChunkLine-append (drop start kept) at.line (drop found.0 (drop start kept)) rest at.reads))

-- ---- trailers

-- a trailer of the stream
pub trailer_there : (start : ℕ) (kept rest : List ℕ) (len : ℕ) → start ≤ length kept → IsTrailerOf (drop start kept) len
    → HasTrailer (drop start (kept ++ rest)) (drop (start + len) (kept ++ rest))
trailer_there start kept rest len within at =
    let inside : start + len ≤ length kept = omega (arith, at.within, length-drop start kept) in
    record {
      fields = at.has.fields;
      end = at.has.end;
      reads = subst (λ (bs : List ℕ). ReadsSection bs at.has.fields at.has.end (drop (start + len) (kept ++ rest)))
          (drop_more_bytes start kept rest within)
          (subst (λ (bs : List ℕ). ReadsSection (drop start kept ++ rest) at.has.fields at.has.end bs)
          (ap (λ bs. bs ++ rest) (drop-drop len start kept) ∙ drop_more_bytes (start + len) kept rest inside)
          (ReadsSection-append (drop start kept) at.has.fields at.has.end (drop len (drop start kept)) rest
          at.has.reads));
      count = at.has.count;
    }

-- ---- contents

-- two bytes of the list, and the rest
pub two_at : (bytes : List ℕ) (n : ℕ) → n + 2 ≤ length bytes → drop n bytes ≡ get_or bytes n 0 ∷ get_or bytes (n + 1) 0
    ∷ drop (n + 2) bytes
two_at bytes n h =
    let first : drop n bytes ≡ get_or bytes n 0 ∷ drop (n + 1) bytes = drop_more bytes n 0 (omega arith) in
    let second : drop (n + 1) bytes ≡ get_or bytes (n + 1) 0 ∷ drop (n + 1 + 1) bytes =
    drop_more bytes (n + 1) 0 (omega arith) in
    let same : n + 1 + 1 ≡ n + 2 = omega arith in
    first ∙ ap (λ bs. get_or bytes n 0 ∷ bs) (second ∙ ap (λ k. get_or bytes (n + 1) 0 ∷ drop k bytes) same)

-- a CRLF stands there
pub line_end_there : (bytes : List ℕ) (n : ℕ) → n + 2 ≤ length bytes → get_or bytes n 0 ≡ 13 → get_or bytes (n + 1) 0
    ≡ 10 → drop n bytes ≡ crlf_bytes ++ drop (n + 2) bytes
line_end_there bytes n h cr lf = two_at bytes n h ∙ ap (λ b. b ∷ get_or bytes (n + 1) 0 ∷ drop (n + 2) bytes) cr
    ∙ ap (λ b. 13 ∷ b ∷ drop (n + 2) bytes) lf

both_are : (a b : ℕ) → ((a == 13) && (b == 10)) ≡ true → (a ≡ 13) × (b ≡ 10)
both_are a b e = (grind (arith, nat_tests), grind (arith, nat_tests))

one_differs : (a b : ℕ) → ((a == 13) && (b == 10)) ≡ false → (a ≢ 13) ⊎ (b ≢ 10)
one_differs a b e = by (a == 13) refl
  where
    by : (t : Bool) → (a == 13) ≡ t → (a ≢ 13) ⊎ (b ≢ 10)
    by true f = inr (λ g. grind (arith, nat_tests))
    by false f = inl (λ g. grind (arith, nat_tests))

-- what the test of a line's end means
pub found_line_end : (bytes kept : List ℕ) (n : ℕ) (found : Bool) → bytes ≡ kept → found ≡ has_line_end bytes n → found
    ≡ true → n + 2 ≤ length kept → drop n kept ≡ crlf_bytes ++ drop (n + 2) kept
found_line_end bytes kept n found same is yes_it_is h =
    let both = both_are (get_or kept n 0) (get_or kept (n + 1) 0) (sym (is ∙ ap (λ bs. has_line_end bs n) same)
    ∙ yes_it_is) in
    line_end_there kept n h both.0 both.1

pub missed_line_end : (bytes kept : List ℕ) (n : ℕ) (found : Bool) → bytes ≡ kept → found ≡ has_line_end bytes n → found
    ≡ false → (get_or kept n 0 ≢ 13) ⊎ (get_or kept (n + 1) 0 ≢ 10)
missed_line_end bytes kept n found same is none = one_differs (get_or kept n 0) (get_or kept (n + 1) 0)
    (sym (is ∙ ap (λ bs. has_line_end bs n) same) ∙ none)

-- the content of a chunk and its line end
pub content_there : (from to size : ℕ) (kept : List ℕ) → to ≡ from + size → to + 2 ≤ length kept → drop to kept
    ≡ crlf_bytes ++ drop (to + 2) kept
    → (drop from kept ≡ (slice_range kept from to ++ crlf_bytes) ++ drop (to + 2) kept)
    × (length (slice_range kept from to) ≡ size)
content_there from to size kept is within ends = (
  let n : ℕ = to - from in
      let same : from + n ≡ to = omega arith in
      sym (take-append-drop n (drop from kept)) ∙ ap (λ bs. slice_range kept from to ++ bs)
      (drop-drop n from kept ∙ ap (λ k. drop k kept) same ∙ ends)
      ∙ sym (append_assoc (slice_range kept from to) crlf_bytes (drop (to + 2) kept)),
  omega (arith, length-take (to - from) (drop from kept), length-drop from kept),
)

-- what may be unfinished after a line of that size
abbrev pub IsOpenBehind : ℕ → List ℕ → Type 0
IsOpenBehind size behind = ((size ≡ 0) × HasNoSection behind) ⊎ ((0 < size) × (length behind < size + 2))

-- a chunk line has a digit at least
pub line_some : (bytes : List ℕ) (found : ℕ × ℕ) → IsLineOf bytes found → 0 < found.0
unfolding print_chunk_line
line_some bytes found at =
    omega (
      arith,
      at.len,
      at.reads.0.digits.0,
      length-append (at.line.digits ++ at.line.pad
          ++ print_extension at.line.extension) crlf_bytes,
    )

-- ---- chunks

-- one more
pub joined_more : (kept : List ℕ) (start at from to : ℕ) (body : List ℕ) → length body
    + length (slice_range kept from to) ≤ 65536
    → Joined kept start at body → IsPieceAt at kept from to → Joined kept start (to + 2)
    (body ++ slice_range kept from to)
joined_more kept start at from to body room joined piece =
    let content : content_of (joined.chunks ++ piece.chunk ∷ []) ≡ body ++ slice_range kept from to =
    flat_map-append (λ (chunk : Chunk). chunk.content) joined.chunks (piece.chunk ∷ [])
    ∙ ap (λ bs. content_of joined.chunks ++ bs) (append-nil piece.chunk.content ∙ piece.content)
    ∙ ap (λ bs. bs ++ slice_range kept from to) (sym joined.body_is) in
    record {
      chunks = joined.chunks ++ piece.chunk ∷ [];
      has = record {
        each = All-push IsChunk joined.chunks piece.chunk joined.has.each piece.valid;
        front = joined.has.front ∙ ap (λ bs. flat_map print_chunk joined.chunks ++ bs) piece.front
            ∙ sym (append_assoc (flat_map print_chunk joined.chunks) (print_chunk piece.chunk) (drop (to + 2) kept))
            ∙ ap (λ bs. (flat_map print_chunk joined.chunks ++ bs) ++ drop (to + 2) kept)
            (sym (append-nil (print_chunk piece.chunk)))
            ∙ ap (λ bs. bs ++ drop (to + 2) kept) (sym (flat_map-append print_chunk joined.chunks (piece.chunk ∷ [])));
        limit = omega (arith, ap length content, length-append body (slice_range kept from to));
      };
      body_is = sym content;
    }
