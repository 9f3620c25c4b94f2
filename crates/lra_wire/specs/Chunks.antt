-- The chunked coding of a response's body (RFC 9112, section 7.1), within this project's limits.
use Rattle.std.specs.Prelude.{◌≡◌, ◌⊎◌, ℕ, ◌+◌, ◌-◌, ◌<◌, ◌≤◌, List, ◌++◌, length, All}
use Rattle.std.specs.List.{flat_map}
use Rattle.httparse.specs.Ascii.{crlf_bytes}
use Rattle.httparse.specs.Grammar.{ChunkLine, print_chunk_line, IsChunkLine, chunk_size, ReadsChunkLine, HasNoChunkLine}
use Rattle.httparse.specs.Grammar.{NeverHasChunkLine, MayBecomeChunkLine, Field, LineEnd, ReadsSection, HasNoSection}
use Rattle.httparse.specs.Grammar.{MayBecomeSection}
use Rattle.httparse.specs.Spans.{SectionOverflows}
use Rattle.lra_wire.specs.declared.fault.WireFault.{WireFault}
use Rattle.lra_wire.specs.declared.fault.WireFault.TheVariants.{BadLength, TooLarge, Cut}

-- chunk = line content CRLF
pub record Chunk : Type 0 where
  pub line : ChunkLine
  pub content : List ℕ

-- the bytes of a chunk (RFC 9112, section 7.1)
abbrev pub print_chunk : Chunk → List ℕ
print_chunk chunk = print_chunk_line chunk.line ++ (chunk.content ++ crlf_bytes)

-- the line states the length of the content, which isn't empty
pub record IsChunk (chunk : Chunk) : Type 0 where
  pub line : IsChunkLine chunk.line
  pub size : chunk_size chunk.line ≡ length chunk.content
  pub some : 0 < length chunk.content

-- the bytes of the body that the chunks make up
abbrev pub content_of : List Chunk → List ℕ
content_of chunks = flat_map (λ chunk. chunk.content) chunks

-- the bytes begin with these chunks, whose body is within its limit
pub record HasChunks (bytes : List ℕ) (chunks : List Chunk) (rest : List ℕ) : Type 0 where
  pub each : All IsChunk chunks
  pub front : bytes ≡ flat_map print_chunk chunks ++ rest
  pub limit : length (content_of chunks) ≤ 65536

-- the bytes begin with a trailer of at most 64 fields
pub record HasTrailer (bytes rest : List ℕ) : Type 0 where
  pub fields : List Field
  pub end : LineEnd
  pub reads : ReadsSection bytes fields end rest
  pub count : length fields ≤ 64

-- the bytes begin with a line of size 0 and a trailer
pub record HasLast (bytes rest : List ℕ) : Type 0 where
  pub line : ChunkLine
  pub behind : List ℕ
  pub reads : ReadsChunkLine bytes line behind
  pub size : chunk_size line ≡ 0
  pub trailer : HasTrailer behind rest

-- the bytes are chunks that make up the body, the last line and the trailer, and then the rest
pub record IsChunked (bytes body rest : List ℕ) : Type 0 where
  pub chunks : List Chunk
  pub last : List ℕ
  pub has : HasChunks bytes chunks last
  pub ends : HasLast last rest
  pub joined : body ≡ content_of chunks

-- A prefix of the text lacks something, and reaches the 2^20th byte of the response. The text begins at that offset of
-- the response.
pub record PassesLimit (Lacks : List ℕ → Type 0) (place : ℕ) (text : List ℕ) : Type 0 where
  pub front : List ℕ
  pub back : List ℕ
  pub whole : text ≡ front ++ back
  pub none : Lacks front
  pub long : 1048576 ≤ place + length front

-- why no chunk line is read at an offset of the response
abbrev pub RefusesLine : ℕ → List ℕ → WireFault → Type 0
RefusesLine place text fault =
    ((fault ≡ BadLength) × NeverHasChunkLine text)
    ⊎ (((fault ≡ TooLarge) × PassesLimit HasNoChunkLine place text)
    ⊎ ((fault ≡ Cut) × HasNoChunkLine text × MayBecomeChunkLine text))

-- why no trailer is read there
abbrev pub RefusesTrailer : ℕ → List ℕ → WireFault → Type 0
RefusesTrailer place text fault =
    ((fault ≡ BadLength) × SectionOverflows 64 text)
    ⊎ (((fault ≡ TooLarge) × PassesLimit HasNoSection place text)
    ⊎ (((fault ≡ TooLarge) × (rest : List ℕ) × HasTrailer text rest × (1048576 + length rest < place + length text))
    ⊎ ((fault ≡ Cut) × HasNoSection text × MayBecomeSection text)))

-- so many bytes stand there, and no CRLF after them, whatever follows
pub record LacksLineEnd (size : ℕ) (text : List ℕ) : Type 0 where
  pub content : List ℕ
  pub behind : List ℕ
  pub whole : text ≡ content ++ behind
  pub count : length content ≡ size
  pub none : (more rest : List ℕ) → ¬ (behind ++ more ≡ crlf_bytes ++ rest)

-- why no content of that size and CRLF is read there, with so much room left in the body
abbrev pub RefusesContent : ℕ → ℕ → ℕ → List ℕ → WireFault → Type 0
RefusesContent place room size text fault =
    ((fault ≡ BadLength) × LacksLineEnd size text)
    ⊎ (((fault ≡ TooLarge) × ((room < size) ⊎ (1048576 < place + size + 2)))
    ⊎ ((fault ≡ Cut) × (length text < size + 2)))

-- a chunk line stands there, and what follows it is refused
pub record RefusesBehind (place room : ℕ) (text : List ℕ) (fault : WireFault) : Type 0 where
  pub line : ChunkLine
  pub behind : List ℕ
  pub reads : ReadsChunkLine text line behind
  pub refused : ((chunk_size line ≡ 0) × RefusesTrailer (place + length (print_chunk_line line)) behind fault)
      ⊎ ((0 < chunk_size line) × RefusesContent (place + length (print_chunk_line line)) room (chunk_size line) behind
      fault)

-- Why no chunk and no end of the body is read there. Where several faults hold, each is right.
abbrev pub RefusesChunk : ℕ → ℕ → List ℕ → WireFault → Type 0
RefusesChunk place room text fault = RefusesLine place text fault ⊎ RefusesBehind place room text fault

-- Why the bytes after a head are no chunked body, where the head ends at that offset of the response.
pub record RefusesChunks (place : ℕ) (bytes : List ℕ) (fault : WireFault) : Type 0 where
  pub chunks : List Chunk
  pub text : List ℕ
  pub has : HasChunks bytes chunks text
  pub refused : RefusesChunk (place + (length bytes - length text)) (65536 - length (content_of chunks)) text fault

-- neither a chunk nor the end of the body is whole there: a line isn't, or the content after one, or the trailer
abbrev pub AwaitsChunk : List ℕ → Type 0
AwaitsChunk text = HasNoChunkLine text
    ⊎ ((line : ChunkLine) × (behind : List ℕ) × ReadsChunkLine text line behind
    × (((chunk_size line ≡ 0) × HasNoSection behind) ⊎ ((0 < chunk_size line) × (length behind < chunk_size line + 2))))

-- the bytes begin with chunks, and what follows them isn't whole
pub record AwaitsChunks (bytes : List ℕ) : Type 0 where
  pub chunks : List Chunk
  pub text : List ℕ
  pub has : HasChunks bytes chunks text
  pub open_text : AwaitsChunk text
