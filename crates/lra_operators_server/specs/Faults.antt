-- What the program reports if there is no port for operators.
use Rattle.std.specs.Prelude.{ℕ, List, ◌++◌, codes}
use Rattle.lra_operators_server.specs.declared.fault.PortFault.{PortFault}
use Rattle.lra_operators_server.specs.declared.fault.PortFault.TheVariants.{Address, NoKey, KeyFile, SharedKey, BadKey}
use Rattle.lra_operators_server.specs.declared.fault.PortFault.TheVariants.{NoToken, Memory}

-- the reason why there is none, in words (this project's choice)
abbrev pub why : PortFault → List ℕ
why Address = codes "the address cannot be served"
why NoKey = codes "other machines reach it, and no key is given"
why KeyFile = codes "the file of the key cannot be read"
why SharedKey = codes "others may read the file of the key"
why BadKey = codes "the file of the key has no key"
why NoToken = codes "no random bytes can be had"
why Memory = codes "out of memory"

-- the line on standard error, with the address as it was given
abbrev pub port_line : PortFault → List ℕ → List ℕ
port_line fault address = codes "lra: no operators at " ++ (address ++ (codes ": " ++ (why fault ++ codes "\n")))
