-- The bytes of a reply, from its parts.
use Rattle.std.proofs.Common.{◌≡◌, ℕ, ◌<◌, List, [], ◌∷◌, ◌++◌, length, map, refl, ap, arith}
use Rattle.std.proofs.Common.{Option, Err, decimal, codes, append_assoc}
use Rattle.std.proofs.lemmas.List.{map-append}
use Rattle.std.specs.List.{flat_map}
use Rattle.std.proofs.KnownBytes.{Appends-nil}
use Rattle.lra_wire.specs.declared.fault.WireFault.TheVariants.{Memory}
use Rattle.lra_wire.specs.Writing as wire
use Rattle.lra_front.specs.Replies.{phrase_of, line_of}
use Rattle.lra_front.specs.inner.Seen.{seen}
use Rattle.lra_operators.specs.declared.reply.Reply.{Reply}
use Rattle.lra_operators.specs.Replies.{fields_of, reply_bytes}
use denote.Ref.{Bor}

-- ---- the fields

-- two fields more
pub two_more : (old one two : List (Bor (List ℕ) × Bor (List ℕ))) (x y : Bor (List ℕ) × Bor (List ℕ))
    → one ≡ old ++ x ∷ [] → two ≡ one ++ y ∷ [] → map seen two ≡ map seen old ++ (seen x ∷ seen y ∷ [])
two_more old one two x y h1 h2 = rw (h2, h1) (simp (map-append, append_assoc))

-- ---- the text

lines_seen : (fields : List (Bor (List ℕ) × Bor (List ℕ))) → flat_map wire.field_line fields
    ≡ flat_map line_of (map seen fields)
lines_seen [] = refl
lines_seen (f ∷ rest) = ap (λ zs. line_of (seen f) ++ zs) (lines_seen rest)

-- what is written of the parts is the reply
pub same_text : (r : Reply) (code : ℕ) (phrase : List ℕ) (fields : List (Bor (List ℕ) × Bor (List ℕ))) (body : List ℕ)
    → code ≡ r.status → phrase ≡ phrase_of r.status → map seen fields ≡ fields_of r.kind r.field r.text.items
    → body ≡ r.text.items
    → wire.message_text (codes "HTTP/1.1 " ++ (decimal code ++ (codes " " ++ phrase))) fields body ≡ reply_bytes r
unfolding reply_bytes
same_text r code phrase fields body is_code is_phrase is_fields is_body =
    rw (lines_seen fields, is_code, is_phrase, is_fields, is_body) refl

reply_long : (r : Reply) → 0 < length (reply_bytes r)
unfolding reply_bytes
reply_long r = omega arith

-- nothing was written
pub none_sent : (known : Option (List ℕ)) (r : Reply) → wire.Sends known known (reply_bytes r) (Err Memory)
none_sent known r = (tt, ([], reply_bytes r, refl, reply_long r, Appends-nil known))
