-- Addresses and their octets.
use Rattle.std.proofs.Common.{◌≡◌, ◌≢◌, ℕ, ◌+◌, ◌-◌, ◌<◌, ◌==◌, Bool, true, false, ◌&&◌, List, [], ◌∷◌, length, drop}
use Rattle.std.proofs.Common.{get_or, take, refl, sym, ap, arith}
use Rattle.std.specs.Net.Addr.{ipv6_segments, ipv6_octets, IsIpv4Mapped, IsCanonicalOf, MatchIp}
use Rattle.std.specs.declared.net.ip_addr.IpAddr.{IpAddr}
use Rattle.std.specs.declared.net.ip_addr.IpAddr.TheVariants.{V4, V6}
use Rattle.std.proofs.lemmas.Bool.{false_from_ne_true}
use Rattle.std.proofs.lemmas.Slice.Eq.{bytes_eq-Decides}
use Rattle.std.proofs.lemmas.List.{drop_more}
use Rattle.lra_rules.specs.Networks.{is_mapped, octets_of, width_of, first_bits, agree}
use Rattle.lra_rules.specs.inner.Octets.{own_octets, own_width}

-- ---- IPv4-mapped addresses

mapped : (segments : List ℕ) → IsIpv4Mapped segments → is_mapped segments ≡ true
mapped segments h = (bytes_eq-Decides (take 6 segments) (0 ∷ 0 ∷ 0 ∷ 0 ∷ 0 ∷ 65535 ∷ [])).1 h

unmapped : (segments : List ℕ) → ¬ (IsIpv4Mapped segments) → is_mapped segments ≡ false
unmapped segments h =
    false_from_ne_true _ (λ e. h ((bytes_eq-Decides (take 6 segments) (0 ∷ 0 ∷ 0 ∷ 0 ∷ 0 ∷ 65535 ∷ [])).0 e))

-- an address, or the IPv4 address in it if it is an IPv4-mapped one
abbrev pub Canonical : IpAddr → IpAddr → Type 0
Canonical ip other = MatchIp ip (λ _. other ≡ ip) (λ a. IsCanonicalOf a other)

pub canonical_octets : (ip other : IpAddr) → Canonical ip other → octets_of ip ≡ own_octets other
unfolding octets_of
canonical_octets (V4 a) other h = sym (ap own_octets h)
canonical_octets (V6 a) (V4 b) h = rw (mapped (ipv6_segments a) h.0) (sym h.1)
canonical_octets (V6 a) (V6 b) h = rw (unmapped (ipv6_segments a) h.0) (ap ipv6_octets (sym h.1))

pub canonical_width : (ip other : IpAddr) → Canonical ip other → width_of ip ≡ own_width other
unfolding width_of
canonical_width (V4 a) other h = sym (ap own_width h)
canonical_width (V6 a) (V4 b) h = rw (mapped (ipv6_segments a) h.0) refl
canonical_width (V6 a) (V6 b) h = rw (unmapped (ipv6_segments a) h.0) refl

-- ---- the first bits

and_false : (b : Bool) → (b && false) ≡ false
and_false true = refl
and_false false = refl

-- addresses of other lengths don't agree
pub agree_lengths : (bits : ℕ) (xs ys : List ℕ) → length xs ≢ length ys → agree bits xs ys ≡ false
agree_lengths bits [] [] h = absurd (h refl)
agree_lengths bits [] (y ∷ ys) h = refl
agree_lengths bits (x ∷ xs) [] h = refl
agree_lengths bits (x ∷ xs) (y ∷ ys) h =
    let rest : agree (bits - 8) xs ys ≡ false = agree_lengths (bits - 8) xs ys (λ e. h (omega (arith, e))) in
    rw rest (and_false (first_bits bits x == first_bits bits y))

-- the comparison of one more octet
pub agree_step : (bits : ℕ) (xs ys : List ℕ) (i : ℕ) → i < length xs → i < length ys
    → agree bits (drop i xs) (drop i ys) ≡ ((first_bits bits (get_or xs i 0) == first_bits bits (get_or ys i 0))
    && agree (bits - 8) (drop (i + 1) xs) (drop (i + 1) ys))
agree_step bits xs ys i a b = rw (drop_more xs i 0 a, drop_more ys i 0 b) refl
