use Rattle.std.proofs.Common.{◌≡◌, drop}
use Rattle.lra_admission.specs.Names.{is_own_host}
use Rattle.lra_admission.proofs.names.is_own_host.Given as goal

-- none of those so far is the name of it
abbrev pub invariant-loop-name : goal.invariant-loop-name
invariant-loop-name l = is_own_host (drop l.name-index l.names) l.host ≡ is_own_host l.names l.host
