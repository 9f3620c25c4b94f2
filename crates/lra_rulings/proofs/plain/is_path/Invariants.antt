use Rattle.std.proofs.Common.{◌≡◌, drop, true}
use Rattle.lra_rulings.specs.inner.Plain.{is_path}
use Rattle.lra_rulings.proofs.plain.is_path.Given as goal

abbrev pub invariant-loop-b : goal.invariant-loop-b
invariant-loop-b l = is_path l.fresh (drop l.b-index l.bytes) ≡ is_path true l.bytes
