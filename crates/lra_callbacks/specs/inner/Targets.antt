-- Where callbacks connect to.
use Rattle.std.specs.Prelude.{ℕ, Bool, if◌then◌else◌, List}
use Rattle.std.specs.Net.Socket.{socket_ip, socket_port}
use Rattle.std.specs.declared.net.socket_addr.SocketAddr.{SocketAddr}
use Rattle.lra_rules.specs.Texts.{host_in}
use Rattle.lra_rules.specs.Rules.{let_address, let_written}

-- The rules allow a callback to a host and port: at the address that the host resolves to; or by the proxy, if there is
-- one, as far as host and port are written, since the proxy resolves them (this project's choice).
abbrev pub is_let : List (List ℕ) → Bool → List ℕ → SocketAddr → Bool
is_let rules is_proxied socket address =
    if is_proxied then let_written rules socket
    else let_address rules (host_in socket) (socket_ip address) (socket_port address)
