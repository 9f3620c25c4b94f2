-- The first four characters of an identifier are the digits of its site.
use Rattle.std.proofs.Common.{◌≡◌, ℕ, ◌<◌, ◌^◌, ◌%◌, ◌/◌, List, [], ◌∷◌, ◌++◌, append_assoc, take, drop, get_or, Some}
use Rattle.std.proofs.Common.{inl, inr, refl, sym, ap, ◌∙◌, arith}
use Rattle.std.specs.Prelude.{codes}
use mathlib.Core.List.{IsPrefix}
use Rattle.std.proofs.lemmas.List.{take-append-drop}
use Rattle.std.specs.Int.{w128, to_be_bytes}
use Rattle.std.proofs.lemmas.Bool.Decides.{nat_tests}
use Rattle.uuid.specs.Text.{by_index, hex_digit, hyphenated_text, lower}
use Rattle.lra_ids.specs.Identifiers.{id_number, id_bytes, id_text}
use Rattle.lra_ids.specs.Bearing.{instance_at_end}
use Rattle.lra_ids.proofs.Bearings.{read_ends}
use Rattle.lra_ids.specs.Sites.{site_of, site_text, IsUriOf}
use Rattle.lra_ids.specs.SiteLaws.{BeginWithTheirSite, ActionsBeginWithTheirSite, RecoveriesBeginWithTheirSite}
use Rattle.lra_ids.specs.SiteLaws.{TellSitesApart, NeverMeet, AreRanges, FitSixteenBits}

-- ---- digits

abbrev digit_of : ℕ → ℕ → ℕ
digit_of site place = site / place % 16

-- the digits at the first four places of a UUID that is that number
first_digits : (x : ℕ) → take 4 (hyphenated_text lower (to_be_bytes w128 x))
    ≡ hex_digit lower (x / 256 ^ 15 % 256 / 16 % 16) ∷ hex_digit lower (x / 256 ^ 15 % 256 % 16)
    ∷ hex_digit lower (x / 256 ^ 14 % 256 / 16 % 16) ∷ hex_digit lower (x / 256 ^ 14 % 256 % 16) ∷ []
unfolding by_index
first_digits x = refl

first : (i n : ℕ) → i < 2 ^ 60 → n < 2 ^ 62 → id_number i n / 2 ^ 112 ≡ site_of i
unfolding id_number
first i n is_instance is_number = omega arith

by_digits : (x site : ℕ) → x / 2 ^ 112 ≡ site → x < 2 ^ 128 → take 4 (hyphenated_text lower (to_be_bytes w128 x))
    ≡ site_text site
unfolding site_text
by_digits x site top fits =
    let a : x / 256 ^ 15 % 256 / 16 % 16 ≡ digit_of site (16 ^ 3) = omega (arith, top) in
    let b : x / 256 ^ 15 % 256 % 16 ≡ digit_of site (16 ^ 2) = omega (arith, top) in
    let c : x / 256 ^ 14 % 256 / 16 % 16 ≡ digit_of site 16 = omega (arith, top) in
    let d : x / 256 ^ 14 % 256 % 16 ≡ digit_of site 1 = omega (arith, top) in
    first_digits x ∙ rw (a, b, c, d) refl

small : (i n : ℕ) → i < 2 ^ 60 → n < 2 ^ 62 → id_number i n < 2 ^ 128
unfolding id_number
small i n is_instance is_number = omega arith

pub begins : BeginWithTheirSite
unfolding id_text id_bytes
begins i n (is_instance, is_number) =
    by_digits (id_number i n) (site_of i) (first i n is_instance is_number) (small i n is_instance is_number)

-- ---- URIs

-- a text that a part is put before begins with that part and its own beginning
begun : (before id start : List ℕ) → take 4 id ≡ start → IsPrefix (before ++ start) (before ++ id)
begun before id start is = (
  drop 4 id,
  append_assoc before start (drop 4 id) ∙ ap (λ (t : List ℕ). before ++ t)
      (ap (λ (s : List ℕ). s ++ drop 4 id) (sym is) ∙ take-append-drop 4 id),
)

pub action_begins : ActionsBeginWithTheirSite
action_begins i n base borne = begun (base ++ codes "lra-coordinator/") (id_text i n) (site_text (site_of i))
    (begins i n borne)

pub recovery_begins : RecoveriesBeginWithTheirSite
recovery_begins i n base borne = begun (base ++ codes "lra-recovery/") (id_text i n) (site_text (site_of i))
    (begins i n borne)

-- what a URI is read as
read_uri : (i : ℕ) (uri : List ℕ) → IsUriOf i uri → instance_at_end uri ≡ Some i
read_uri i uri (base, n, borne, inl is) = ap instance_at_end is ∙ (read_ends i n base borne).0
read_uri i uri (base, n, borne, inr is) = ap instance_at_end is ∙ (read_ends i n base borne).1

pub never_meet : NeverMeet
never_meet i j uri one other =
    let same : Some i ≡ Some j = sym (read_uri i uri one) ∙ read_uri j uri other in
    let instances : i ≡ j = cc in
    ap site_of instances

-- ---- sites

hex_injective : (a b : ℕ) → a < 16 → b < 16 → hex_digit lower a ≡ hex_digit lower b → a ≡ b
hex_injective a b a_small b_small same = grind (arith, nat_tests)

same_digit : (s t place : ℕ) → hex_digit lower (digit_of s place) ≡ hex_digit lower (digit_of t place)
    → digit_of s place ≡ digit_of t place
same_digit s t place same = hex_injective (digit_of s place) (digit_of t place) (remainder (s / place))
    (remainder (t / place)) same where
      remainder : (n : ℕ) → n % 16 < 16
      remainder n = omega arith

same_site : (s t : ℕ) → s < 2 ^ 16 → t < 2 ^ 16 → site_text s ≡ site_text t → s ≡ t
unfolding site_text
same_site s t s_small t_small same =
    let a = same_digit s t 4096 (ap (λ (l : List ℕ). get_or l 0 0) same) in
    let b = same_digit s t 256 (ap (λ (l : List ℕ). get_or l 1 0) same) in
    let c = same_digit s t 16 (ap (λ (l : List ℕ). get_or l 2 0) same) in
    let d = same_digit s t 1 (ap (λ (l : List ℕ). get_or l 3 0) same) in
    omega (arith, a, b, c, d)

pub fit : FitSixteenBits
fit i is_instance = omega arith

pub apart : TellSitesApart
apart i j n m one other same =
    same_site (site_of i) (site_of j) (fit i one.0) (fit j other.0) (sym (begins i n one) ∙ same ∙ begins j m other)

pub ranges : AreRanges
ranges site i = ((λ is. (omega (arith, is), omega (arith, is))), λ within. omega (arith, within.0, within.1))
