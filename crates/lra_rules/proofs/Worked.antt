-- Worked examples: texts that are rules, and what rules allow.
use Rattle.std.proofs.Common.{◌≡◌, ℕ, Bool, true, false, List, [], ◌∷◌, map, Err, refl}
use Rattle.std.specs.Prelude.{⊤, Result, codes}
use Rattle.std.specs.Result.{result_map_both}
use Rattle.std.specs.Net.Reader.{read_number, read_octet, read_ipv4, read_segment, read_segments, read_ipv6}
use Rattle.lra_rules.specs.declared.fault.RuleFault.{RuleFault}
use Rattle.lra_rules.specs.declared.fault.RuleFault.TheVariants.{NotHosts, NotPort}
use Rattle.lra_rules.specs.Texts.{at_last, number, is_name}
use Rattle.lra_rules.specs.Networks.{ipv4, ipv6, bare_ip_of, ip_of, octets_of, width_of, inside, holds, network_of}
use Rattle.lra_rules.specs.Networks.{is_special}
use Rattle.lra_rules.specs.Rules.{hosts_of, reading_of, lets, names, let_address, let_host}

-- the definitions that have to unfold for the examples to compute
unfoldable pub rules_on_literals : ⊤
unfolding read_number read_octet read_ipv4 read_segment read_segments read_ipv6 at_last number is_name bare_ip_of ip_of
    octets_of width_of inside holds network_of is_special hosts_of reading_of lets names let_address let_host
rules_on_literals = tt

-- ---- texts that are no rules

fault_of : List ℕ → Result ⊤ RuleFault
fault_of text = result_map_both (λ _. tt) (λ fault. fault) (reading_of text)

others : map fault_of (
    codes "" ∷ codes "." ∷ codes "*.example.com" ∷ codes "example.com." ∷ codes "10/8" ∷ codes "10.0.0.0/33"
    ∷ codes "10.0.0.0/" ∷ codes "256.0.0.1"
    ∷ codes "[::1" ∷ codes "[10.0.0.1]" ∷ codes "a b" ∷ codes ":80" ∷ codes "http://a" ∷ codes "a:" ∷ codes "a:65536"
    ∷ codes "a:+80" ∷ codes "[::1]:x" ∷ [])
    ≡ Err NotHosts ∷ Err NotHosts ∷ Err NotHosts ∷ Err NotHosts ∷ Err NotHosts ∷ Err NotHosts ∷ Err NotHosts
    ∷ Err NotHosts
    ∷ Err NotHosts ∷ Err NotHosts ∷ Err NotHosts ∷ Err NotHosts ∷ Err NotPort ∷ Err NotPort ∷ Err NotPort ∷ Err NotPort
    ∷ Err NotPort ∷ []
unfolding fault_of rules_on_literals
others = refl

-- ---- hosts

-- those of these hosts that rules allow at a port
each : List (List ℕ) → ℕ → List (List ℕ) → List Bool
each rules port hosts = map (λ host. let_host rules host port) hosts

-- without a rule, every host is allowed
none : each [] 80 (codes "127.0.0.1" ∷ codes "a" ∷ []) ≡ true ∷ true ∷ []
unfolding each rules_on_literals
none = refl

name : each (codes "Pay.Example.com" ∷ []) 80 (codes "pay.example.com" ∷ codes "a.pay.example.com" ∷ codes "example.com"
    ∷ codes "10.0.0.1" ∷ []) ≡ true ∷ false ∷ false ∷ false ∷ []
unfolding each rules_on_literals
name = refl

names_below : each (codes ".example.com" ∷ []) 80 (codes "pay.example.com" ∷ codes "a.b.example.com"
    ∷ codes "example.com" ∷ codes "evil-example.com" ∷ []) ≡ true ∷ true ∷ false ∷ false ∷ []
unfolding each rules_on_literals
names_below = refl

at_a_port : map (λ port. let_host (codes "a:8443" ∷ codes "b" ∷ []) (codes "a") port) (8443 ∷ 80 ∷ []) ≡ true ∷ false
    ∷ []
unfolding rules_on_literals
at_a_port = refl

any : each (codes "*" ∷ []) 80 (codes "a" ∷ codes "10.0.0.1" ∷ codes "[2001:db8::1]" ∷ codes "127.0.0.1"
    ∷ codes "169.254.169.254" ∷ codes "[::1]" ∷ codes "[fe80::1]" ∷ codes "[fd00:ec2::254]" ∷ codes "[::ffff:7f00:1]"
    ∷ codes "0.0.0.0" ∷ [])
    ≡ true ∷ true ∷ true ∷ false ∷ false ∷ false ∷ false ∷ false ∷ false ∷ false ∷ []
unfolding each rules_on_literals
any = refl

-- ---- networks

twelve_bits : each (codes "172.16.0.0/12" ∷ []) 80 (codes "172.16.0.0" ∷ codes "172.31.255.255" ∷ codes "172.32.0.0"
    ∷ codes "[::ffff:ac10:1]" ∷ codes "[::ac10:1]" ∷ codes "a" ∷ []) ≡ true ∷ true ∷ false ∷ true ∷ false ∷ false ∷ []
unfolding each rules_on_literals
twelve_bits = refl

seven_bits : each (codes "fc00::/7" ∷ codes "[::1]" ∷ []) 80 (codes "[fd00::1]" ∷ codes "[fe00::1]" ∷ codes "[::1]"
    ∷ codes "[::2]" ∷ codes "127.0.0.1" ∷ []) ≡ true ∷ false ∷ true ∷ false ∷ false ∷ []
unfolding each rules_on_literals
seven_bits = refl

network_at_a_port : map (let_host (codes "[fd00::]/8:8080" ∷ codes "10.0.0.0/8:8081" ∷ []) (codes "[fd00::1]"))
    (8080 ∷ 8081 ∷ []) ≡ true ∷ false ∷ []
unfolding rules_on_literals
network_at_a_port = refl

-- ---- addresses that names resolve to

-- what rules allow of a name that resolves to these addresses
each_of : List (List ℕ) → List (List ℕ) → List Bool
each_of rules octets = map (λ o. let_address rules (codes "localhost") (ipv4 o) 80) octets

by_name : each_of (codes "localhost" ∷ []) ((10 ∷ 1 ∷ 2 ∷ 3 ∷ []) ∷ (127 ∷ 0 ∷ 0 ∷ 1 ∷ [])
    ∷ (169 ∷ 254 ∷ 169 ∷ 254 ∷ []) ∷ []) ≡ true ∷ false ∷ false ∷ []
unfolding each_of rules_on_literals
by_name = refl

by_network : each_of (codes "localhost" ∷ codes "127.0.0.0/8" ∷ []) ((10 ∷ 1 ∷ 2 ∷ 3 ∷ []) ∷ (127 ∷ 0 ∷ 0 ∷ 1 ∷ [])
    ∷ (169 ∷ 254 ∷ 169 ∷ 254 ∷ []) ∷ []) ≡ true ∷ true ∷ false ∷ []
unfolding each_of rules_on_literals
by_network = refl

-- an address of NAT64 or 6to4 is called where the IPv4 address inside may be
by_inside : map (λ rule. map (λ segments. let_address (rule ∷ []) (codes "a") (ipv6 segments) 80)
    ((0x64 ∷ 0xff9b ∷ 0 ∷ 0 ∷ 0 ∷ 0 ∷ 0x7f00 ∷ 1 ∷ []) ∷ (0x2002 ∷ 0xa00 ∷ 1 ∷ 0 ∷ 0 ∷ 0 ∷ 0 ∷ 0 ∷ []) ∷ []))
    (codes "a" ∷ codes "10.0.0.0/8" ∷ codes "64:ff9b::/96" ∷ codes "127.0.0.1" ∷ [])
    ≡ (false ∷ true ∷ []) ∷ (false ∷ true ∷ []) ∷ (false ∷ false ∷ []) ∷ (true ∷ false ∷ []) ∷ []
unfolding rules_on_literals
by_inside = refl

-- an IPv4-mapped address is the IPv4 address
by_mapped : map (λ rule. let_address (rule ∷ []) (codes "a") (ipv6 (0 ∷ 0 ∷ 0 ∷ 0 ∷ 0 ∷ 0xffff ∷ 0x7f00 ∷ 1 ∷ [])) 80)
    (codes "a" ∷ codes "127.0.0.1" ∷ codes "::ffff:127.0.0.1" ∷ codes "::/0" ∷ codes "0.0.0.0/0" ∷ [])
    ≡ false ∷ true ∷ true ∷ false ∷ true ∷ []
unfolding rules_on_literals
by_mapped = refl
