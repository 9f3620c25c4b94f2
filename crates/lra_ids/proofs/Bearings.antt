-- The instance of an identifier is read from its text, and from the end of a URI.
use Rattle.std.proofs.Common.{◌≡◌, ℕ, ◌<◌, ◌+◌, ◌-◌, ◌^◌, ◌%◌, ◌*◌, ◌/◌, List, ◌++◌, length, drop, Option, Some, None}
use Rattle.std.proofs.Common.{IsSome, IfSome, Result, Ok, Err, IsOk, IfOk, ◌↔◌, true≢false, refl, sym, ap, ◌∙◌, arith}
use Rattle.std.specs.Prelude.{codes, option_map}
use Rattle.std.specs.Result.{result_ok}
use Rattle.std.specs.Int.{w128, from_be_bytes}
use Rattle.std.proofs.Math.Seq.{drop-append_seam}
use Rattle.std.proofs.lemmas.List.{length-append}
use Rattle.uuid.specs.Text.{parsed}
use Rattle.uuid.proofs.OrderLemmas.{from_be_bytes-to_be_bytes_16}
use Rattle.lra_ids.specs.Identifiers.{id_number, id_bytes, id_text}
use Rattle.lra_ids.proofs.IdentifierFacts.{parsed-id_text, length-id_text, low-id_bytes}
use Rattle.lra_ids.specs.Bearing.{instance_bits, instance_in, end_of, instance_at_end}
use Rattle.lra_ids.specs.InstanceLaws.{IsBorne, AreOfOneInstance, AreReadWhole, AreReadAtEnds}

-- ---- numbers and bytes

number_small : (i n : ℕ) → i < 2 ^ 60 → n < 2 ^ 62 → id_number i n < 2 ^ 128
unfolding id_number
number_small i n is_instance is_number = omega arith

bits_borne : (i n : ℕ) → i < 2 ^ 60 → n < 2 ^ 62 → instance_bits (id_number i n) ≡ i
unfolding id_number instance_bits
bits_borne i n is_instance is_number = omega arith

bytes_borne : (i n : ℕ) → i < 2 ^ 60 → n < 2 ^ 62 → instance_bits (from_be_bytes w128 (id_bytes i n)) ≡ i
unfolding id_bytes
bytes_borne i n is_instance is_number =
    ap instance_bits (from_be_bytes-to_be_bytes_16 (id_number i n) (number_small i n is_instance is_number))
    ∙ bits_borne i n is_instance is_number

-- ---- texts

pub read_whole : AreReadWhole
unfolding instance_in
read_whole i n (is_instance, is_number) =
    ap (option_map (λ bytes. instance_bits (from_be_bytes w128 bytes))) (sym (parsed-id_text i n))
    ∙ ap Some (bytes_borne i n is_instance is_number)

pub of_one : AreOfOneInstance
of_one i j n m one other same =
    let borne : Some i ≡ Some j = sym (read_whole i n one) ∙ ap instance_in same ∙ read_whole j m other in
    let read : Some (id_bytes i n) ≡ Some (id_bytes j m) = parsed-id_text i n ∙ ap parsed same
    ∙ sym (parsed-id_text j m) in
    let bytes : id_bytes i n ≡ id_bytes j m = cc in
    let numbers : n ≡ m = sym (low-id_bytes i n one.0 one.1) ∙ ap (λ (b : List ℕ). from_be_bytes w128 b % 2 ^ 64 % 2 ^
    62) bytes ∙ low-id_bytes j m other.0 other.1 in
    ((cc), numbers)

end-append : (before id : List ℕ) → length id ≡ 36 → end_of (before ++ id) ≡ id
end-append before id long =
    let all = length-append before id in
    let place : length (before ++ id) - 36 ≡ length before = omega (arith, all, long) in
    ap (λ (p : ℕ). drop p (before ++ id)) place ∙ drop-append_seam before id

pub read_end : (before : List ℕ) (i n : ℕ) → IsBorne i n → instance_at_end (before ++ id_text i n) ≡ Some i
read_end before i n borne = ap instance_in (end-append before (id_text i n) (length-id_text i n)) ∙ read_whole i n borne

pub read_ends : AreReadAtEnds
read_ends i n base borne = (
  read_end (base ++ codes "lra-coordinator/") i n borne,
  read_end (base ++ codes "lra-recovery/") i n borne,
)

-- ---- what the reader of UUIDs gives

pub read_is : {E : Type 0} (r : Result (List ℕ) E) (text : List ℕ) → (IsOk r ↔ ((u : List ℕ) × (parsed text ≡ Some u)))
    → IfOk r (λ u. Some u ≡ parsed text)
    → result_ok r ≡ parsed text
read_is (Ok u) text ok bytes = bytes
read_is (Err e) text ok bytes = none (parsed text) (λ u is. absurd (true≢false (sym (ok.1 (u, is))))) where
  none : (o : Option (List ℕ)) → ((u : List ℕ) → o ≡ Some u → ⊥) → None ≡ o
  none None h = refl
  none (Some u) h = absurd (h u refl)

pub none_borne : {E : Type 0} (r : Result (List ℕ) E) (text : List ℕ) →
    (IsOk r ↔ ((u : List ℕ) × (parsed text ≡ Some u))) → IfOk r (λ u. Some u ≡ parsed text)
    → None ≡ result_ok r → None ≡ instance_in text
unfolding instance_in
none_borne r text ok bytes none = ap (option_map (λ b. instance_bits (from_be_bytes w128 b)))
    (none ∙ read_is r text ok bytes)

-- the same number by the two halves of the UUID
by_halves : (x high : ℕ) → high ≡ x / 2 ^ 64 → high / 65536 * 4096 + high % 4096 ≡ instance_bits x
unfolding instance_bits
by_halves x high is = omega (arith, is)

instance_made : (n : ℕ) (o : Option ℕ) → IsSome o → IfSome o (λ i. i ≡ n) → o ≡ Some n
instance_made n None some is = absurd (true≢false (sym some))
instance_made n (Some i) some is = ap Some is

pub some_borne : {E : Type 0} (r : Result (List ℕ) E) (id text : List ℕ) (high : ℕ) (o : Option ℕ)
    → (IsOk r ↔ ((u : List ℕ) × (parsed text ≡ Some u)))
    → IfOk r (λ u. Some u ≡ parsed text) → Some id ≡ result_ok r → high ≡ from_be_bytes w128 id / 2 ^ 64 → high < 2 ^ 64
    → (IsSome o ↔ (high / 65536 * 4096 + high % 4096 < 2 ^ 60)) → IfSome o (λ i. i ≡ high / 65536 * 4096 + high % 4096)
    → o ≡ instance_in text
unfolding instance_in
some_borne r id text high o ok bytes some is small valid value =
    instance_made (high / 65536 * 4096 + high % 4096) o (valid.1 (omega (arith, small))) value
    ∙ ap Some (by_halves (from_be_bytes w128 id) high is)
    ∙ ap (option_map (λ b. instance_bits (from_be_bytes w128 b))) (some ∙ read_is r text ok bytes)
