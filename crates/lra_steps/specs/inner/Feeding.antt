-- What feeding a piece of bytes does, where requests are answered.
use Rattle.std.specs.Prelude.{◌≡◌, ℕ, List, [], ◌++◌, take, Option, Some, None, IsFalse, false}
use Rattle.lra_wire.specs.Request.{Request}
use Rattle.lra_front.specs.declared.stream.StreamEnd.{StreamEnd}
use Rattle.lra_steps.specs.declared.handler.Answered.{Answered}
use Rattle.lra_steps.specs.History.{History}
use Rattle.lra_steps.specs.Pieces.{Chain}

-- the piece was accepted, or a prefix of it up to where the connection ended
abbrev pub TakesPiece : Option StreamEnd → List ℕ → List ℕ → List ℕ → Type 0
TakesPiece None old new piece = new ≡ old ++ piece
TakesPiece (Some end) old new piece = (count : ℕ) × (new ≡ old ++ take count piece)

-- the connection goes on, and more bytes may come; or it has that end
abbrev pub Comes : Option StreamEnd → History → Type 0
Comes None h = IsFalse h.closed
Comes (Some end) h = h.ended ≡ Some end

-- nothing has come to the connection yet, which refuses chunked bodies
pub record IsFresh (own : List ℕ) (h : History) : Type 0 where
  pub turns : h.turns ≡ []
  pub none : h.stands ≡ None
  pub closed : IsFalse h.closed
  pub taken : h.taken ≡ []
  pub sent : h.sent ≡ []
  pub base : h.base ≡ own
  pub plain : h.chunked ≡ false

module _ {S K : Type 0} (base_of : S → List ℕ) (responds : S → ℕ → Request → Answered → S → Type 0)
    (tells : K → ℕ → K → Type 0) where
  -- All requests that the connection answered were answered one after another as in a chain, and none
  -- stands. Chunked bodies are refused.
  pub record Follows (v : S) (k : K) (h : History) (w : S) (l : K) : Type 0 where
    pub chain : Chain responds tells v k h.turns w l
    pub base : h.base ≡ base_of w
    pub none : h.stands ≡ None
    pub plain : h.chunked ≡ false

  -- a piece was accepted, and the requests that stood were answered
  pub record Fed (end : Option StreamEnd) (piece : List ℕ) (v : S) (k : K) (old new : History) (w : S) (l : K) : Type 0
    where
      pub follows : Follows v k new w l
      pub instance : new.instance ≡ old.instance
      pub base : new.base ≡ old.base
      pub sent : new.sent ≡ old.sent
      pub closed : new.closed ≡ old.closed
      pub taken : TakesPiece end old.taken new.taken piece
      pub comes : Comes end new
