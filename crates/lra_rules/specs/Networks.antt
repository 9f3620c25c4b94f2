-- IP addresses as texts, networks of IP addresses, and the special addresses.
use Rattle.std.specs.Prelude.{ℕ, ◌-◌, ◌/◌, ◌%◌, ◌^◌, Bool, true, false, ◌&&◌, ◌==◌, if◌then◌else◌, List, [], ◌∷◌}
use Rattle.std.specs.Prelude.{length, take, drop, slice_index, bytes_eq, nat_le, Option, Some, option_map}
use Rattle.std.specs.Prelude.{option_and_then}
use Rattle.std.specs.Option.{option_map_or, option_or}
use Rattle.std.specs.List.{list_any}
use Rattle.std.specs.Net.Addr.{ipv4_octets, ipv6_segments, ipv6_octets, low_octets}
use Rattle.std.specs.Net.Reader.{whole_value, read_ipv4, read_ipv6}
use Rattle.std.specs.declared.net.ip_addr.IpAddr.{IpAddr}
use Rattle.std.specs.declared.net.ip_addr.IpAddr.TheVariants.{V4, V6}
use Rattle.lra_rules.specs.declared.network.Network.{Network}
use Rattle.lra_rules.specs.Texts.{at_last, number}

infixl 10 ◌>>=◌
-- what a function returns for a value, if there is a value
abbrev pub ◌>>=◌ : {A B : Type 0} → Option A → (A → Option B) → Option B
o >>= f = option_and_then f o

-- ---- texts

-- the IPv4 address of four octets
abbrev pub ipv4 : List ℕ → IpAddr
ipv4 octets = V4 (record { octets = octets })

-- the IPv6 address of eight segments
abbrev pub ipv6 : List ℕ → IpAddr
ipv6 segments = V6 (record { segments = segments })

-- the address that a text writes: four numbers with points between them, or an IPv6 address (RFC 4291, section 2.2)
unfoldable pub bare_ip_of : List ℕ → Option IpAddr
bare_ip_of text = option_or (option_map ipv4 (whole_value (read_ipv4 text)))
    (option_map ipv6 (whole_value (read_ipv6 text)))

-- a text begins with `[` and ends with `]`
abbrev pub is_bracketed : List ℕ → Bool
is_bracketed text = nat_le 2 (length text) && slice_index text 0 == 91 && slice_index text (length text - 1) == 93

-- the address that a text writes: an IPv6 address may stand between brackets, as in URLs (RFC 3986, section 3.2.2)
unfoldable pub ip_of : List ℕ → Option IpAddr
ip_of text = if is_bracketed text then option_map ipv6
    (whole_value (read_ipv6 (drop 1 (take (length text - 1) text)))) else bare_ip_of text

-- ---- addresses

-- an IPv6 address is an IPv4-mapped one (RFC 4291, section 2.5.5.2); rules treat it as the IPv4 address in it
abbrev pub is_mapped : List ℕ → Bool
is_mapped segments = bytes_eq (take 6 segments) (0 ∷ 0 ∷ 0 ∷ 0 ∷ 0 ∷ 65535 ∷ [])

-- an IPv6 address is one of NAT64 (RFC 6052, section 2.1: 64:ff9b::/96), whose traffic goes to the IPv4 address in its
-- last 32 bits
abbrev pub is_nat64 : List ℕ → Bool
is_nat64 segments = bytes_eq (take 6 segments) (0x64 ∷ 0xff9b ∷ 0 ∷ 0 ∷ 0 ∷ 0 ∷ [])

-- an IPv6 address is one of 6to4 (RFC 3056, section 2: 2002::/16), whose traffic goes to the IPv4 address in the 32
-- bits after the first 16
abbrev pub is_6to4 : List ℕ → Bool
is_6to4 segments = slice_index segments 0 == 0x2002

-- the four octets of two segments
abbrev pub octets_in : ℕ → ℕ → List ℕ
octets_in high low = high / 256 ∷ high % 256 ∷ low / 256 ∷ low % 256 ∷ []

-- the address at which traffic to the IPv6 address of these segments arrives: the IPv4 address inside it, if it has one
abbrev pub inside_of : List ℕ → IpAddr
inside_of segments =
    if is_nat64 segments then ipv4 (octets_in (slice_index segments 6) (slice_index segments 7))
    else if is_6to4 segments then ipv4 (octets_in (slice_index segments 1) (slice_index segments 2))
    else ipv6 segments

-- the address at which traffic to an address arrives
unfoldable pub inside : IpAddr → IpAddr
inside (V4 ip) = V4 ip
inside (V6 ip) = inside_of (ipv6_segments ip)

-- the octets of an address; an IPv4-mapped one has those of its IPv4 address
unfoldable pub octets_of : IpAddr → List ℕ
octets_of (V4 ip) = ipv4_octets ip
octets_of (V6 ip) = if is_mapped (ipv6_segments ip) then low_octets ip else ipv6_octets ip

-- the number of bits of an address
unfoldable pub width_of : IpAddr → ℕ
width_of (V4 ip) = 32
width_of (V6 ip) = if is_mapped (ipv6_segments ip) then 32 else 128

-- the first `bits` bits of an octet, or all of it if `bits` is above 8
abbrev pub first_bits : ℕ → ℕ → ℕ
first_bits bits octet = octet / 2 ^ (8 - bits)

-- two addresses have the same number of octets and the same first `bits` bits
abbrev pub agree : ℕ → List ℕ → List ℕ → Bool
agree bits [] [] = true
agree bits [] (y ∷ ys) = false
agree bits (x ∷ xs) [] = false
agree bits (x ∷ xs) (y ∷ ys) = first_bits bits x == first_bits bits y && agree (bits - 8) xs ys

-- ---- networks

-- a network has an address: the address's first bits are those of the network's address (RFC 4632, section 3.1; RFC
-- 4291, section 2.3)
unfoldable pub holds : Network → IpAddr → Bool
holds network ip = agree network.bits (octets_of network.first) (octets_of ip)

-- the network of a prefix that a text writes as an address and a number of bits
abbrev pub prefix_of : List ℕ → List ℕ → Option Network
prefix_of address bits = do
  first ← ip_of address
  count ← number (width_of first) bits
  Some (record { first = first; bits = count })

-- the network of one address
abbrev pub address_of : IpAddr → Network
address_of ip = record { first = ip; bits = width_of ip }

-- the network that a text writes: an address, or an address, `/` and the number of bits of the prefix
unfoldable pub network_of : List ℕ → Option Network
network_of text = option_map_or (λ parts. prefix_of parts.0 parts.1) (at_last 47 text)
    (option_map address_of (ip_of text))

-- ---- special addresses

-- the network of the first `bits` bits of an IPv4 address
abbrev pub of_v4 : List ℕ → ℕ → Network
of_v4 octets bits = record { first = ipv4 octets; bits = bits }

-- the network of the first `bits` bits of an IPv6 address
abbrev pub of_v6 : List ℕ → ℕ → Network
of_v6 segments bits = record { first = ipv6 segments; bits = bits }

-- The networks of special addresses (this project's choice): loopback, this host (RFC 1122, section 3.2.1.3),
-- link-local addresses, and those of the metadata services of clouds (169.254.169.254 is a link-local one).
abbrev pub special : List Network
special =
    of_v4 (127 ∷ 0 ∷ 0 ∷ 0 ∷ []) 8
    ∷ of_v4 (0 ∷ 0 ∷ 0 ∷ 0 ∷ []) 8
    ∷ of_v4 (169 ∷ 254 ∷ 0 ∷ 0 ∷ []) 16
    ∷ of_v4 (100 ∷ 100 ∷ 100 ∷ 200 ∷ []) 32
    ∷ of_v4 (168 ∷ 63 ∷ 129 ∷ 16 ∷ []) 32
    ∷ of_v6 (0 ∷ 0 ∷ 0 ∷ 0 ∷ 0 ∷ 0 ∷ 0 ∷ 1 ∷ []) 128
    ∷ of_v6 (0 ∷ 0 ∷ 0 ∷ 0 ∷ 0 ∷ 0 ∷ 0 ∷ 0 ∷ []) 128
    ∷ of_v6 (0xfe80 ∷ 0 ∷ 0 ∷ 0 ∷ 0 ∷ 0 ∷ 0 ∷ 0 ∷ []) 10
    ∷ of_v6 (0xfd00 ∷ 0xec2 ∷ 0 ∷ 0 ∷ 0 ∷ 0 ∷ 0 ∷ 0x254 ∷ []) 128
    ∷ of_v6 (0xfd20 ∷ 0xce ∷ 0 ∷ 0 ∷ 0 ∷ 0 ∷ 0 ∷ 0x254 ∷ []) 128
    ∷ []

-- an address is special
unfoldable pub is_special : IpAddr → Bool
is_special ip = list_any (λ network. holds network ip) special
