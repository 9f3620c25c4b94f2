use Rattle.std.proofs.Common.{sym}
use Rattle.lra_rules.proofs.Addresses.{agree_lengths}
use Rattle.lra_rules.proofs.network.agree.Goals as goal

pub returns-then-first-other : goal.returns-then-first-other
returns-then-first-other c = sym (agree_lengths c.args.bits c.args.first.now c.args.other.now c.if-first-other.true)
