-- The text of an identifier reads back to its bytes, and the bytes to its number.
use Rattle.std.proofs.Common.{◌≡◌, ℕ, ◌<◌, ◌^◌, ◌%◌, List, [], ◌∷◌, ◌/◌, ◌++◌, append_assoc, length, Some, None, Ok}
use Rattle.std.proofs.Common.{IsOk, IfOk, Result, ◌↔◌, All, inl, refl, sym, ap, ◌∙◌, arith}
use Rattle.std.proofs.lemmas.List.{append_cancel_left}
use Rattle.std.specs.Int.{w128, from_be_bytes}
use Rattle.std.specs.Result.{result_ok}
use Rattle.uuid.specs.Text.{parsed, lower}
use Rattle.uuid.proofs.OrderLemmas.{from_be_bytes-to_be_bytes_16}
use Rattle.uuid.proofs.TextLemmas.{by_index_length, all_fit}
use Rattle.uuid.proofs.RoundTrips.{parses_hyphenated, parse_gives}
use Rattle.lra_addresses.proofs.Remainders.{remainders_fit}
use Rattle.lra_ids.specs.Identifiers.{id_number, id_bytes, id_text}

-- a UUID is sixteen bytes
id_bytes-length : (instance n : ℕ) → length (id_bytes instance n) ≡ 16
unfolding id_bytes
id_bytes-length instance n = refl

id_bytes-fit : (instance n : ℕ) → All (λ b. b < 256) (id_bytes instance n)
unfolding id_bytes
id_bytes-fit instance n =
    let x = id_number instance n in
    let quotients = x / 256 ^ 15 ∷ x / 256 ^ 14 ∷ x / 256 ^ 13 ∷ x / 256 ^ 12 ∷ x / 256 ^ 11 ∷ x / 256 ^ 10
    ∷ x / 256 ^ 9 ∷ x / 256 ^ 8 ∷ x / 256 ^ 7 ∷ x / 256 ^ 6 ∷ x / 256 ^ 5 ∷ x / 256 ^ 4 ∷ x / 256 ^ 3
    ∷ x / 256 ^ 2 ∷ x / 256 ^ 1 ∷ x ∷ [] in
    all_fit (id_bytes instance n) (λ k _. remainders_fit quotients k)

-- the reader of UUIDs gives the bytes back
pub parsed-id_text : (instance n : ℕ) → Some (id_bytes instance n) ≡ parsed (id_text instance n)
unfolding id_text
parsed-id_text instance n =
    parses_hyphenated lower (id_bytes instance n) (inl refl) (id_bytes-length instance n) (id_bytes-fit instance n)

pub length-id_text : (instance n : ℕ) → length (id_text instance n) ≡ 36
unfolding id_text
length-id_text instance n = by_index_length 36 _

id_number-small : (instance n : ℕ) → instance < 2 ^ 60 → n < 2 ^ 62 → id_number instance n < 2 ^ 128
unfolding id_number
id_number-small instance n is_instance is_number = omega arith

id_number-low : (instance n : ℕ) → n < 2 ^ 62 → id_number instance n % 2 ^ 64 % 2 ^ 62 ≡ n
unfolding id_number
id_number-low instance n is_number = omega arith

-- the number stands in the low 62 bits
pub low-id_bytes : (instance n : ℕ) → instance < 2 ^ 60 → n < 2 ^ 62 → from_be_bytes w128 (id_bytes instance n) % 2 ^ 64
    % 2 ^ 62 ≡ n
unfolding id_bytes
low-id_bytes instance n is_instance is_number =
    ap (λ (m : ℕ). m % 2 ^ 64 % 2 ^ 62) (from_be_bytes-to_be_bytes_16 (id_number instance n)
    (id_number-small instance n is_instance is_number))
    ∙ id_number-low instance n is_number

-- what a reader of UUIDs gives for the text of an identifier
pub id_read : {E : Type 0} (r : Result (List ℕ) E) (text : List ℕ) (instance n : ℕ) → text ≡ id_text instance n
    → (IsOk r ↔ ((u : List ℕ) × (parsed text ≡ Some u))) → IfOk r (λ u. Some u ≡ parsed text) → r
    ≡ Ok (id_bytes instance n)
id_read r text instance n is ok bytes =
    parse_gives r text (id_bytes instance n) ok bytes (parsed-id_text instance n ∙ ap parsed (sym is))

-- so the low bits of the UUID that was read are the number
pub id_low : {E : Type 0} (r : Result (List ℕ) E) (id : List ℕ) (low instance n : ℕ) → r ≡ Ok (id_bytes instance n)
    → Some id ≡ result_ok r
    → low ≡ from_be_bytes w128 id % 2 ^ 64 → instance < 2 ^ 60 → n < 2 ^ 62 → low % 2 ^ 62 ≡ n
id_low r id low instance n read found is_low is_instance is_number =
    let same : id ≡ id_bytes instance n = let some : Some id ≡ Some (id_bytes instance n) = found ∙ ap result_ok read in
    cc in
    ap (λ (m : ℕ). m % 2 ^ 62) (is_low ∙ ap (λ (bytes : List ℕ). from_be_bytes w128 bytes % 2 ^ 64) same)
    ∙ low-id_bytes instance n is_instance is_number

pub id_is_read : {E : Type 0} (r : Result (List ℕ) E) (instance n : ℕ) → r ≡ Ok (id_bytes instance n) → None
    ≡ result_ok r → ⊥
id_is_read r instance n read missing = let never : None ≡ Some (id_bytes instance n) = missing ∙ ap result_ok read in cc

-- what stands below the base, where the text is a base and two more parts
pub after_base : (text base below part id : List ℕ) → text ≡ base ++ below → text ≡ base ++ part ++ id → below ≡ part
    ++ id
after_base text base below part id split whole = append_cancel_left base below (part ++ id)
    (sym split ∙ whole ∙ append_assoc base part id)
