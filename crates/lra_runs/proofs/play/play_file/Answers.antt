use Rattle.lra_reports.proofs.Sourced.{sourced, sourced_status}
use Rattle.lra_runs.specs.Play.{Plays, PlaysUpToLine}
use Rattle.lra_runs.proofs.play.play_file.Goals as goal

pub returns-clause-ok : goal.returns-clause-ok
returns-clause-ok g c =
    sourced_status (g.S.Sources.named c.args.sources.now c.args.script.now)
    (g.S.File.Read.remaining c.in_ok-open.field-0)
    (λ status input. Plays input status (g.W.Write.contents c.args.writer.now)
    (g.W.Write.contents c.play_run.new.writer)) c.play_run.result c.in_ok-open.ensures.bytes c.play_run.ensures.ok

pub returns-clause-line : goal.returns-clause-line
returns-clause-line g c = λ n is.
    sourced (g.S.Sources.named c.args.sources.now c.args.script.now) (g.S.File.Read.remaining c.in_ok-open.field-0)
    (λ input. PlaysUpToLine input n (g.W.Write.contents c.args.writer.now) (g.W.Write.contents c.play_run.new.writer))
    c.in_ok-open.ensures.bytes (c.play_run.ensures.line n is)
