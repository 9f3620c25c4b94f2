use Rattle.std.proofs.Common.{◌≡◌, vec_len}
use Rattle.lra_audits.proofs.Pieces.{IsGiven}
use Rattle.lra_audits.proofs.input.give_pieces.Given as goal

abbrev pub invariant-loop : goal.invariant-loop
invariant-loop g l =
    IsGiven g.T.Taker.took g.T.Taker.count (g.R.Read.remaining l.fn.reader) (g.R.Read.remaining l.reader) l.fn.taker
    l.taker l.left ×
    (g.T.Taker.lent l.taker ≡ g.T.Taker.lent l.fn.taker) × (vec_len l.piece ≡ 65536)
