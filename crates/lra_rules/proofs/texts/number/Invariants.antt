use Rattle.std.proofs.Common.{◌≡◌, drop}
use Rattle.lra_rules.specs.Texts.{number_after}
use Rattle.lra_rules.proofs.texts.number.Given as goal

abbrev pub invariant-loop-byte : goal.invariant-loop-byte
invariant-loop-byte l = number_after l.most l.value (drop l.byte-index l.text) ≡ number_after l.most 0 l.text
