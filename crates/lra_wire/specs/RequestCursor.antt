-- Findings on bytes of a response that isn't whole.
use Rattle.std.specs.Prelude.{ℕ, List}
use Rattle.lra_wire.specs.declared.response_parse.ResponseCursor.{ResponseCursor}
use Rattle.lra_wire.specs.inner.Parts.{Passes, SeesBody}
use Rattle.lra_wire.specs.inner.Wanted.{Seeks}

-- The findings hold of the bytes. The bytes begin with the interim heads that were read, and then have the final head
-- and the chunks that were read. No response is whole before the line feed, or the number of bytes, that is wanted has
-- come.
pub record SeesResponse (seen : ResponseCursor) (bytes : List ℕ) : Type 0 where
  pub passed : Passes bytes seen.passed
  pub body : SeesBody seen.head seen.chunks bytes
  pub wanted : Seeks seen.wanted bytes
