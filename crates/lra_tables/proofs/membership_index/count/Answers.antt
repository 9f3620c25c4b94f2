use Rattle.std.proofs.Common.{arith}
use Rattle.lra_tables.proofs.Ranking.{one_length}
use Rattle.lra_tables.proofs.membership_index.count.Goals as goal

pub returns : goal.returns
returns c = λ ns listed.
    let least = c.loop-rank.invariant ns listed in
    let most = one_length c.args.numbers.now c.args.digest ns c.requires.0 listed c.requires.1 in
    let low = c.requires.2 in
    omega arith
