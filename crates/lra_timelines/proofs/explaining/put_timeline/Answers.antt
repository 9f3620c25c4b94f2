use Rattle.std.proofs.Common.{subst, ◌∙◌}
use Rattle.std.specs.Io.KnownBytes.{Appends}
use Rattle.lra_timelines.proofs.Writing.{explained_some, explained_none}
use Rattle.lra_timelines.proofs.explaining.put_timeline.Goals as goal

pub returns-in_ok-put-in-Some-clause-written : goal.returns-in_ok-put-in-Some-clause-written
returns-in_ok-put-in-Some-clause-written g c = λ i J t.
    subst (Appends (g.W.Write.contents c.args.writer.now) (g.W.Write.contents c.put.new.writer))
    (explained_some c.args.form c.args.wanted c.args.name.now i J c.find.result c.in-Some.row c.args.timeline.now.action
    c.as_bytes.result.now (c.find.ensures i J t) c.in-Some.is c.requires
    (c.as_bytes.ensures.value ∙ c.in_ok-text-in-Some.ensures i J t))
    c.in_ok-put-in-Some.ensures.written

pub returns-in_ok-put-in-None-clause-written : goal.returns-in_ok-put-in-None-clause-written
returns-in_ok-put-in-None-clause-written g c = λ i J t.
    subst (Appends (g.W.Write.contents c.args.writer.now) (g.W.Write.contents c.put-in-None.new.writer))
    (explained_none c.args.form c.args.wanted c.args.name.now i J c.find.result c.as_bytes-in-None.result.now
    (c.find.ensures i J t) c.in-None.is (c.as_bytes-in-None.ensures.value ∙ c.in_ok-line-in-None.ensures))
    c.in_ok-put-in-None.ensures.written
