-- What rules allow. A rule is a text, and rules are a list of texts.
use Rattle.std.specs.Prelude.{ℕ, Bool, true, false, not, ◌&&◌, ◌||◌, ◌==◌, nat_eq, if◌then◌else◌, List, map, length}
use Rattle.std.specs.Prelude.{slice_index, codes, bytes_eq, is_ok, Option, Some, None, Result, Ok, Err}
use Rattle.std.specs.Option.{option_map_or}
use Rattle.std.specs.Result.{result_ok, result_map_both}
use Rattle.std.specs.List.{list_any, ends_with}
use Rattle.std.specs.Char.{to_ascii_lowercase}
use Rattle.std.specs.declared.net.ip_addr.IpAddr.{IpAddr}
use Rattle.lra_rules.specs.declared.fault.RuleFault.{RuleFault}
use Rattle.lra_rules.specs.declared.fault.RuleFault.TheVariants.{NotHosts, NotPort}
use Rattle.lra_rules.specs.declared.reading.Hosts.{Hosts}
use Rattle.lra_rules.specs.declared.reading.Hosts.TheVariants.{Any, Named, Within}
use Rattle.lra_rules.specs.declared.reading.Reading.{Reading}
use Rattle.lra_rules.specs.Texts.{at_last, number, is_name}
use Rattle.lra_rules.specs.Networks.{ip_of, inside, holds, network_of, is_special}

-- ---- the texts that are rules (this project's choice)

-- the hosts that a text names: any, an address or a network, or a name, in lower case
unfoldable pub hosts_of : List ℕ → Result (Hosts (List ℕ)) RuleFault
hosts_of text =
    if bytes_eq text (codes "*") then Ok Any
    else option_map_or (λ network. Ok (Within network)) (network_of text)
    (if is_name text then Ok (Named (map to_ascii_lowercase text)) else Err NotHosts)

-- the rule for these hosts at this port, or at any port if there is none
abbrev pub at_port : Option ℕ → Result (Hosts (List ℕ)) RuleFault → Result (Reading (List ℕ)) RuleFault
at_port port hosts = result_map_both (λ hs. record { hosts = hs; port = port }) (λ fault. fault) hosts

-- the rule that two texts write: that of its hosts and that of its port; a fault of the port comes first
abbrev pub with_port : List ℕ → List ℕ → Result (Reading (List ℕ)) RuleFault
with_port hosts port = option_map_or (λ n. at_port (Some n) (hosts_of hosts)) (number 65535 port) (Err NotPort)

-- the rule that a text without a port writes
abbrev pub without_port : List ℕ → Result (Reading (List ℕ)) RuleFault
without_port text = at_port None (hosts_of text)

-- The rule that a text writes: an address or a network, whatever colons it has; or hosts, `:` and a port; or hosts.
unfoldable pub reading_of : List ℕ → Result (Reading (List ℕ)) RuleFault
reading_of text =
    option_map_or (λ network. Ok (record { hosts = Within network; port = None })) (network_of text)
    (option_map_or (λ parts. with_port parts.0 parts.1) (at_last 58 text) (without_port text))

-- a text is a rule
abbrev pub is_rule : List ℕ → Bool
is_rule text = is_ok (reading_of text)

-- ---- what one rule says

-- a rule is for a port
abbrev pub is_for : Option ℕ → ℕ → Bool
is_for own port = option_map_or (λ n. n == port) own true

-- a host has this name; if the name begins with a point, the host ends with it
abbrev pub is_named : List ℕ → List ℕ → Bool
is_named name host = if slice_index name 0 == 46 then ends_with nat_eq host name else bytes_eq host name

-- these are any hosts, or have a host by its name
abbrev pub has_host : Hosts (List ℕ) → List ℕ → Bool
has_host Any host = true
has_host (Named name) host = is_named name host
has_host (Within network) host = false

-- these are a network that has an address
abbrev pub has_address : Hosts (List ℕ) → IpAddr → Bool
has_address (Within network) ip = holds network ip
has_address _ ip = false

-- a text is a rule, and a predicate holds of what the rule says
abbrev pub of_rule : (Reading (List ℕ) → Bool) → List ℕ → Bool
of_rule has text = option_map_or has (result_ok (reading_of text)) false

-- a rule allows a host at a port, at each address that the host resolves to and that isn't special
unfoldable pub lets : List ℕ → ℕ → List ℕ → Bool
lets host port text = of_rule (λ r. is_for r.port port && has_host r.hosts host) text

-- a rule names an address at a port, alone or within a network
unfoldable pub names : IpAddr → ℕ → List ℕ → Bool
names ip port text = of_rule (λ r. is_for r.port port && has_address r.hosts ip) text

-- ---- what rules allow

-- a rule allows a host at a port
abbrev pub some_lets : List (List ℕ) → List ℕ → ℕ → Bool
some_lets rules host port = list_any (lets host port) rules

-- a rule names an address at a port
abbrev pub some_names : List (List ℕ) → IpAddr → ℕ → Bool
some_names rules ip port = list_any (names ip port) rules

-- a rule allows a host at a port or names an address at that port
abbrev pub some_has : List (List ℕ) → List ℕ → IpAddr → ℕ → Bool
some_has rules host ip port = some_names rules ip port || some_lets rules host port

-- A host may be called at a port and an address that it resolves to. Either there is no rule; or a rule names the
-- address at which the traffic arrives; or a rule names the address or allows the host, and the address at which the
-- traffic arrives isn't special.
unfoldable pub let_address : List (List ℕ) → List ℕ → IpAddr → ℕ → Bool
let_address rules host ip port = length rules == 0 || some_names rules (inside ip) port
    || (some_has rules host ip port && not (is_special (inside ip)))

-- A host at a port may be a member's, as far as its text shows. If it is an IP address, that may be called; if it is a
-- name, there is no rule, or a rule allows it.
unfoldable pub let_host : List (List ℕ) → List ℕ → ℕ → Bool
let_host rules host port = option_map_or (λ ip. let_address rules host ip port) (ip_of host)
    (length rules == 0 || some_lets rules host port)

-- the same of a host and port as they are written, if the port is a number
unfoldable pub let_written : List (List ℕ) → List ℕ → Bool
let_written rules socket =
    option_map_or (λ parts. option_map_or (let_host rules parts.0) (number 65535 parts.1) false) (at_last 58 socket)
    false
