-- What several writes write.
use Rattle.std.proofs.Common.{◌≡◌, ℕ, ◌<◌, List, [], ◌++◌, length, take, drop, refl, sym, ap, ◌∙◌, arith, append_assoc}
use Rattle.std.proofs.Common.{Option, Some, None}
use Rattle.std.specs.Io.KnownBytes.{Appends, Keeps}
use Rattle.std.specs.List.{flat_map}
use Rattle.std.proofs.lemmas.List.{append-nil, length-append, take-append-drop}
use Rattle.httparse.specs.Ascii.{crlf_bytes}
use Rattle.lra_wire.specs.Writing.{field_line, message_text, AppendsFront}
use denote.Ref.{Bor}

pub Appends_nil : (known : Option (List ℕ)) → Appends known known []
Appends_nil None = tt
Appends_nil (Some xs) = sym (append-nil xs)

pub Appends_more : (a b c : Option (List ℕ)) (xs ys : List ℕ) → Appends a b xs → Appends b c ys → Appends a c (xs ++ ys)
Appends_more None b c xs ys x y = tt
Appends_more (Some ws) None c xs ys x y = absurd x
Appends_more (Some ws) (Some bs) None xs ys x y = absurd y
Appends_more (Some ws) (Some bs) (Some cs) xs ys x y = y ∙ ap (λ zs. zs ++ ys) x ∙ append_assoc ws xs ys

-- a message has at least its line ends
pub message_long : (line : List ℕ) (fields : List (Bor (List ℕ) × Bor (List ℕ))) (body : List ℕ) → 0
    < length (message_text line fields body)
message_long line fields body =
    let after : List ℕ = flat_map field_line fields in
    omega (
      arith,
      length-append (line ++ crlf_bytes ++ after ++ crlf_bytes) body,
      length-append (line ++ crlf_bytes ++ after) crlf_bytes,
    )

-- nothing of a text that isn't empty was written
pub nothing_sent : (known : Option (List ℕ)) (text : List ℕ) → 0 < length text → AppendsFront known known text
nothing_sent known text long = ([], text, refl, long, Appends_nil known)

pub Keeps_same : (known : Option (List ℕ)) → Keeps known known
Keeps_same None = tt
Keeps_same (Some xs) = refl

-- one more write
pub whole_more : (text front rest : List ℕ) (n : ℕ) → text ≡ front ++ rest → text ≡ (front ++ take n rest)
    ++ drop n rest
whole_more text front rest n e = e ∙ ap (λ zs. front ++ zs) (sym (take-append-drop n rest))
    ∙ sym (append_assoc front (take n rest) (drop n rest))
