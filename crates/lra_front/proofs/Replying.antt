-- The text of a reply, from its parts.
use Rattle.std.proofs.Common.{◌≡◌, ℕ, ◌<◌, Bool, if◌then◌else◌, List, [], ◌∷◌, ◌++◌, length, map, refl, ap, arith}
use Rattle.std.proofs.Common.{Option, Err, decimal, codes}
use Rattle.std.specs.List.{flat_map}
use Rattle.std.proofs.KnownBytes.{Appends-nil}
use Rattle.lra_wire.specs.declared.fault.WireFault.TheVariants.{Memory}
use Rattle.lra_wire.specs.Writing as wire
use Rattle.lra_front.specs.declared.answer.Answer.{Answer}
use Rattle.lra_front.specs.Replies.{code_of, phrase_of, text_of, uri_of, fields_of, line_of, reply_bytes}
use Rattle.lra_front.specs.inner.Seen.{seen}
use denote.Ref.{Bor}

-- ---- the text

lines_seen : (fields : List (Bor (List ℕ) × Bor (List ℕ))) → flat_map wire.field_line fields
    ≡ flat_map line_of (map seen fields)
lines_seen [] = refl
lines_seen (f ∷ rest) = ap (λ zs. line_of (seen f) ++ zs) (lines_seen rest)

-- what is written of the parts is the reply
pub same_text : (i : ℕ) (base : List ℕ) (a : Answer) (head close : Bool) (code : ℕ) (phrase : List ℕ)
    (fields : List (Bor (List ℕ) × Bor (List ℕ))) (body : List ℕ)
    → code ≡ code_of a → phrase ≡ phrase_of (code_of a)
    → map seen fields ≡ fields_of (uri_of i base a) a (text_of (uri_of i base a) a) close
    → body ≡ (if head then [] else text_of (uri_of i base a) a)
    → wire.message_text (codes "HTTP/1.1 " ++ (decimal code ++ (codes " " ++ phrase))) fields body
    ≡ reply_bytes i base a head close
unfolding reply_bytes
same_text i base a head close code phrase fields body is_code is_phrase is_fields is_body =
    rw (lines_seen fields, is_code, is_phrase, is_fields, is_body) refl

-- ---- nothing was written

reply_long : (i : ℕ) (base : List ℕ) (a : Answer) (head close : Bool) → 0 < length (reply_bytes i base a head close)
unfolding reply_bytes
reply_long i base a head close = omega arith

pub none_sent : (known : Option (List ℕ)) (i : ℕ) (base : List ℕ) (a : Answer) (head close : Bool)
    → wire.Sends known known (reply_bytes i base a head close) (Err Memory)
none_sent known i base a head close =
    (tt, ([], reply_bytes i base a head close, refl, reply_long i base a head close, Appends-nil known))
