-- The parts that a reply is written from.
use Rattle.std.specs.Prelude.{◌≡◌, ℕ, List, [], length, decimal, string_bytes}
use Rattle.lra_front.specs.declared.answer.Answer.{Answer}
use Rattle.lra_front.specs.declared.answer.Answer.TheVariants as answer
use Rattle.lra_front.specs.declared.answer.Parts.{Parts}
use Rattle.lra_front.specs.Replies.{Field, uri_of, text_of}
use denote.Ref.{Bor}

-- a field's name and value, wherever they lie
abbrev pub seen : Bor (List ℕ) × Bor (List ℕ) → Field
seen field = (field.0.now, field.1.now)

-- the seconds after which a request may be sent again, in digits, or nothing
abbrev pub wait_of : Answer → List ℕ
wait_of (answer.Retry r seconds) = decimal seconds
wait_of _ = []

-- the parts are those of the answer
pub record IsPartsOf (i : ℕ) (base : List ℕ) (a : Answer) (parts : Parts) : Type 0 where
  pub uri : string_bytes parts.uri ≡ uri_of i base a
  pub text : string_bytes parts.text ≡ text_of (uri_of i base a) a
  pub digits : string_bytes parts.digits ≡ decimal (length (text_of (uri_of i base a) a))
  pub wait : string_bytes parts.wait ≡ wait_of a
