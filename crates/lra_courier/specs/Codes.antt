-- The code of a response.
use Rattle.std.specs.Prelude.{ℕ, Bool, List}
use Rattle.lra_wire.specs.Response.{IsResponse}
use Rattle.lra_courier.specs.Carried.{Carried, OfStream, IsSent}

-- the bytes begin with a response of that code
pub record BeginsWith (bytes : List ℕ) (code : ℕ) : Type 0 where
  pub body : List ℕ
  pub rest : List ℕ
  pub response : IsResponse bytes code body rest

-- each stream that begins with these bytes begins with a response of that code; where no more come, the one that ends
-- with them does
abbrev pub HasCode : Bool → List ℕ → ℕ → Type 0
HasCode closed bytes code = OfStream closed bytes (λ stream. BeginsWith stream code)

-- the whole request was sent, and the accepted bytes begin with a response of that code
pub record IsCoded (h : Carried) (code : ℕ) : Type 0 where
  pub sent : IsSent h
  pub coded : HasCode h.closed h.taken code
