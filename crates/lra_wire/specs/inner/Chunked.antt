-- What is found of a chunked body in the bytes that came so far.
use Rattle.std.specs.Prelude.{◌≡◌, ℕ, ◌+◌, ◌<◌, ◌≤◌, Bool, ◌&&◌, ◌==◌, List, ◌++◌, length, drop, slice_index}
use Rattle.std.specs.Prelude.{slice_range, Option, Some, None, Result, Ok, Err}
use Rattle.httparse.specs.Grammar.{ChunkLine, print_chunk_line, chunk_size, ReadsChunkLine, HasNoChunkLine}
use Rattle.httparse.specs.Grammar.{NeverHasChunkLine, MayBecomeChunkLine, HasNoSection, MayBecomeSection}
use Rattle.httparse.specs.Spans.{SectionOverflows}
use Rattle.lra_wire.specs.declared.fault.WireFault.{WireFault}
use Rattle.lra_wire.specs.declared.fault.WireFault.TheVariants.{BadLength, TooLarge, Cut}
use Rattle.lra_wire.specs.Chunks.{Chunk, IsChunk, print_chunk, HasTrailer, content_of, HasChunks, HasLast}
use Rattle.lra_wire.specs.Chunks.{RefusesTrailer, RefusesContent, RefusesChunk, AwaitsChunk}
use Rattle.httparse.specs.Ascii.{crlf_bytes}
use Rattle.lra_wire.specs.declared.chunks.ChunksRead.{ChunksRead}
use Rattle.lra_wire.specs.declared.wanted.Wanted.{Wanted}
use Rattle.lra_wire.specs.declared.wanted.Wanted.TheVariants.{Feed, Bytes}
use Rattle.lra_wire.specs.declared.chunks.Part.{Part}
use Rattle.lra_wire.specs.declared.chunks.Part.TheVariants.{Content, Last, Open}
use Rattle.lra_wire.specs.inner.Wanted.{IsOpenAt, LastsAt}

-- the bytes begin with a chunk line of that length, which states a chunk of that size
pub record IsLineOf (bytes : List ℕ) (found : ℕ × ℕ) : Type 0 where
  pub line : ChunkLine
  pub reads : ReadsChunkLine bytes line (drop found.0 bytes)
  pub within : found.0 ≤ length bytes
  pub len : found.0 ≡ length (print_chunk_line line)
  pub size : found.1 ≡ chunk_size line

-- a whole chunk line, or one that more bytes may complete, or none whatever follows
abbrev pub FindsLine : List ℕ → Result (Option (ℕ × ℕ)) WireFault → Type 0
FindsLine bytes (Ok (Some found)) = IsLineOf bytes found
FindsLine bytes (Ok None) = HasNoChunkLine bytes × MayBecomeChunkLine bytes
FindsLine bytes (Err fault) = (fault ≡ BadLength) × NeverHasChunkLine bytes

-- the bytes begin with a trailer of that length
pub record IsTrailerOf (bytes : List ℕ) (len : ℕ) : Type 0 where
  pub has : HasTrailer bytes (drop len bytes)
  pub within : len ≤ length bytes

-- a whole trailer, or one that more bytes may complete, or none of so few fields whatever follows
abbrev pub FindsTrailer : List ℕ → Result (Option ℕ) WireFault → Type 0
FindsTrailer bytes (Ok (Some len)) = IsTrailerOf bytes len
FindsTrailer bytes (Ok None) = HasNoSection bytes × MayBecomeSection bytes
FindsTrailer bytes (Err fault) = (fault ≡ BadLength) × SectionOverflows 64 bytes

-- CRLF stands at the offset
abbrev pub has_line_end : List ℕ → ℕ → Bool
has_line_end bytes at = slice_index bytes at == 13 && slice_index bytes (at + 1) == 10

-- the chunk at an offset of the bytes, whose content lies between these offsets
pub record IsPieceAt (place : ℕ) (bytes : List ℕ) (from to : ℕ) : Type 0 where
  pub chunk : Chunk
  pub valid : IsChunk chunk
  pub content : chunk.content ≡ slice_range bytes from to
  pub front : drop place bytes ≡ print_chunk chunk ++ drop (to + 2) bytes

-- a line feed is wanted, unless there are as many bytes as the largest response has
abbrev pub OneMore : List ℕ → Result Wanted WireFault → Type 0
OneMore bytes (Ok wanted) = (wanted ≡ Feed (length bytes)) × (length bytes < 1048576)
OneMore bytes (Err fault) = (fault ≡ TooLarge) × (1048576 ≤ length bytes)

-- the trailer from an offset on, and the offset at which it ends
pub record IsTrailerTo (start end : ℕ) (bytes : List ℕ) : Type 0 where
  pub behind : start ≤ end
  pub within : end ≤ length bytes
  pub bound : end ≤ 1048576
  pub there : (more : List ℕ) → HasTrailer (drop start (bytes ++ more)) (drop end (bytes ++ more))

-- that trailer, or that more bytes are wanted, or why there is none
abbrev pub FindsEnd : ℕ → List ℕ → Result Part WireFault → Type 0
FindsEnd start bytes (Ok (Last end)) = IsTrailerTo start end bytes
FindsEnd start bytes (Ok (Open wanted)) = IsOpenAt HasNoSection start bytes wanted
    × RefusesTrailer start (drop start bytes) Cut
FindsEnd start bytes (Ok (Content from to)) = ⊥
FindsEnd start bytes (Err fault) = LastsAt (RefusesTrailer start) start bytes fault

-- so many bytes from an offset on and CRLF, or that more bytes are wanted, or why there are none
abbrev pub FindsContent : ℕ → ℕ → ℕ → List ℕ → Result Part WireFault → Type 0
FindsContent start room size bytes (Ok (Content from to)) = (from ≡ start) × (to ≡ start + size) × (size ≤ room)
    × (to + 2 ≤ length bytes) × (to + 2 ≤ 1048576)
    × (drop to bytes ≡ crlf_bytes ++ drop (to + 2) bytes)
FindsContent start room size bytes (Ok (Open wanted)) = (wanted ≡ Bytes (start + size + 2))
    × (length bytes < start + size + 2) × (start + size + 2 ≤ 1048576)
FindsContent start room size bytes (Ok (Last end)) = ⊥
FindsContent start room size bytes (Err fault) = LastsAt (RefusesContent start room size) start bytes fault

-- the chunk at an offset, or the end of the body, or that more bytes are wanted for either, where the body has so much
-- room left
abbrev pub FindsPart : ℕ → ℕ → List ℕ → Result Part WireFault → Type 0
FindsPart start room bytes (Ok (Content from to)) = (start < from) × (from < to) × (to + 2 ≤ length bytes)
    × (to + 2 ≤ 1048576) × (to ≤ from + room) × IsPieceAt start bytes from to
FindsPart start room bytes (Ok (Last end)) = (start ≤ end) × (end ≤ length bytes) × (end ≤ 1048576)
    × ((more : List ℕ) → HasLast (drop start (bytes ++ more)) (drop end (bytes ++ more)))
FindsPart start room bytes (Ok (Open wanted)) = IsOpenAt AwaitsChunk start bytes wanted
    × RefusesChunk start room (drop start bytes) Cut
FindsPart start room bytes (Err fault) = LastsAt (RefusesChunk start room) start bytes fault

-- the chunks between two offsets of the bytes, and the body that they make up
pub record Joined (bytes : List ℕ) (start at : ℕ) (body : List ℕ) : Type 0 where
  pub chunks : List Chunk
  pub has : HasChunks (drop start bytes) chunks (drop at bytes)
  pub body_is : body ≡ content_of chunks

-- the same within the limits
pub record ChunksTo (bytes : List ℕ) (start at : ℕ) (body : List ℕ) : Type 0 where
  pub behind : start ≤ at
  pub within : at ≤ length bytes
  pub limit : at ≤ 1048576
  pub room : length body ≤ 65536
  pub so_far : Joined bytes start at body

-- the bytes have the chunks that were read
abbrev pub HasRead : List ℕ → ChunksRead → Type 0
HasRead bytes read = ChunksTo bytes read.start read.end read.body.items
