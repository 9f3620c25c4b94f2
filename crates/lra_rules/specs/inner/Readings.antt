-- The results of the parser, as the definitions of rules see them.
use Rattle.std.specs.Prelude.{◌≡◌, ◌⊎◌, ℕ, List, Result, Ok, Err, Vec}
use Rattle.std.specs.declared.alloc.Global.{Global}
use Rattle.lra_rules.specs.declared.fault.RuleFault.{RuleFault}
use Rattle.lra_rules.specs.declared.fault.RuleFault.TheVariants.{Memory}
use Rattle.lra_rules.specs.declared.reading.Hosts.{Hosts}
use Rattle.lra_rules.specs.declared.reading.Hosts.TheVariants.{Any, Named, Within}
use Rattle.lra_rules.specs.declared.reading.Reading.{Reading}

-- hosts, with a name as the list of its bytes
abbrev pub seen_hosts : Hosts (Vec ℕ Global) → Hosts (List ℕ)
seen_hosts Any = Any
seen_hosts (Named name) = Named name.items
seen_hosts (Within network) = Within network

abbrev pub seen : Reading (Vec ℕ Global) → Reading (List ℕ)
seen reading = record { hosts = seen_hosts reading.hosts; port = reading.port }

-- the result is what is expected, unless memory was refused
abbrev pub Gives : {A B : Type 0} → (A → B) → Result A RuleFault → Result B RuleFault → Type 0
Gives view (Ok x) expected = expected ≡ Ok (view x)
Gives view (Err fault) expected = (fault ≡ Memory) ⊎ (expected ≡ Err fault)
