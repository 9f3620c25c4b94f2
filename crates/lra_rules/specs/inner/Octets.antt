-- The octets and the width of an address that isn't an IPv4-mapped one.
use Rattle.std.specs.Prelude.{ℕ, List}
use Rattle.std.specs.Net.Addr.{ipv4_octets, ipv6_octets}
use Rattle.std.specs.declared.net.ip_addr.IpAddr.{IpAddr}
use Rattle.std.specs.declared.net.ip_addr.IpAddr.TheVariants.{V4, V6}

abbrev pub own_octets : IpAddr → List ℕ
own_octets (V4 ip) = ipv4_octets ip
own_octets (V6 ip) = ipv6_octets ip

abbrev pub own_width : IpAddr → ℕ
own_width (V4 ip) = 32
own_width (V6 ip) = 128
