use Rattle.std.proofs.Common.{◌+◌, refl, arith}
use Rattle.lra_wire.proofs.ChunkLemmas.{missed_line_end}
use Rattle.lra_wire.proofs.ChunksLemmas.{content_refused}
use Rattle.lra_wire.proofs.chunks.content_at.Goals as goal

pub returns-then-not-has_line_end : goal.returns-then-not-has_line_end
returns-then-not-has_line_end c =
    content_refused c.args.bytes.now c.args.start c.args.room c.args.size c.requires.start (omega arith)
    (missed_line_end c.args.bytes.now c.args.bytes.now (c.args.start + c.args.size) c.has_line_end.result refl
    c.has_line_end.ensures c.if-not-has_line_end.true)
