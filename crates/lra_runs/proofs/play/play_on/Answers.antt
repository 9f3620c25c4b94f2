use Rattle.lra_runs.proofs.Playing.{played_none}
use Rattle.lra_runs.proofs.play.play_on.Goals as goal

pub returns-clause-ok : goal.returns-clause-ok
returns-clause-ok g c =
    let before = g.W.Write.contents c.args.writer.now in
    c.play_lines.ensures.ok before (played_none c.args.script.now before (g.W.Write.contents c.put_header.new.writer)
    c.args.playing.now c.requires.first c.in_ok-put_header.ensures.written)

pub returns-clause-line : goal.returns-clause-line
returns-clause-line g c =
    let before = g.W.Write.contents c.args.writer.now in
    c.play_lines.ensures.line before (played_none c.args.script.now before (g.W.Write.contents c.put_header.new.writer)
    c.args.playing.now c.requires.first c.in_ok-put_header.ensures.written)
