use Rattle.std.proofs.Common.{◌≡◌, drop}
use Rattle.lra_model.specs.Rules as rules
use Rattle.lra_rulings.proofs.broken.first_broken.Given as goal

abbrev pub invariant-loop-rule : goal.invariant-loop-rule
invariant-loop-rule l = rules.first_broken l.verdicts ≡ rules.first_broken (drop l.rule-index l.verdicts)
