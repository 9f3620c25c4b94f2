use Rattle.std.proofs.Common.{arith}
use Rattle.lra_wire.proofs.CodedLemmas.{open_long, awaits_now}
use Rattle.lra_wire.proofs.coded.CodedCursor.open.Goals as goal

pub returns-then-bytes-ge-MAX_CODED-clause-front : goal.returns-then-bytes-ge-MAX_CODED-clause-front
returns-then-bytes-ge-MAX_CODED-clause-front c =
    open_long c.args.bytes.now c.args.head c.args.wanted c.requires.head c.requires.wanted (omega arith)

pub returns-clause-front : goal.returns-clause-front
returns-clause-front c =
    (awaits_now c.args.bytes.now c.args.head c.args.wanted c.requires.head c.requires.wanted, omega arith)
