use Rattle.std.proofs.Common.{◌≡◌, drop, true}
use Rattle.lra_rulings.specs.inner.Plain.{is_host}
use Rattle.lra_rulings.proofs.plain.is_host.Given as goal

abbrev pub invariant-loop-b : goal.invariant-loop-b
invariant-loop-b l = is_host l.fresh (drop l.b-index l.bytes) ≡ is_host true l.bytes
