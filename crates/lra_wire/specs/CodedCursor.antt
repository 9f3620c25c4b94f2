-- Findings on bytes of a request that isn't whole, where chunked bodies are accepted.
use Rattle.std.specs.Prelude.{List, ℕ}
use Rattle.lra_wire.specs.declared.coded.CodedCursor.{CodedCursor}
use Rattle.lra_wire.specs.Fronts.{Sees}
use Rattle.lra_wire.specs.inner.CodedParts.{SeesCodedBody, SeeksCoded}

-- The findings hold of the bytes: those of a plain request, the head that was found with a coding or an expectation,
-- the chunks that were read after it, and that no such request is whole before what is wanted has come.
pub record SeesCoded (seen : CodedCursor) (bytes : List ℕ) : Type 0 where
  pub plain : Sees seen.plain bytes
  pub body : SeesCodedBody seen.head seen.chunks bytes
  pub wanted : SeeksCoded seen.wanted bytes
