-- The text of an address's socket.
use Rattle.std.specs.Prelude.{ℕ, List, ◌++◌, codes}
use Rattle.std.specs.Option.{option_map_or}
use Rattle.lra_ids.specs.Addresses.{authority_of, port_of}

-- host, `:` and port of an address: port 80 where it names none (RFC 9110, section 4.2.1)
abbrev pub socket_text : List ℕ → List ℕ
socket_text address = option_map_or (λ _. authority_of address) (port_of address) (authority_of address ++ codes ":80")
