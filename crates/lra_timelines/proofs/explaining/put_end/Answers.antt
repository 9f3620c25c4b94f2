use Rattle.lra_timelines.proofs.Writing.{heard_tells, fault_explains, timeline_explains}
use Rattle.lra_timelines.proofs.explaining.put_end.Goals as goal

pub returns-in-Some-clause-ok : goal.returns-in-Some-clause-ok
returns-in-Some-clause-ok g c = λ b f.
    fault_explains c.args.form c.args.wanted c.args.name.now b c.in-Some.fault.line c.in-Some.fault.rule
    c.report_fault.result (g.W.Write.contents c.args.writer.now) (g.W.Write.contents c.report_fault.new.writer)
    c.report_fault.ensures.ok c.report_fault.ensures.unsound (c.in-Some.ensures.some b f)

pub returns-in-None-clause-ok : goal.returns-in-None-clause-ok
returns-in-None-clause-ok g c = λ b f.
    let (v, i, J, t, heard) = c.in-None.ensures.none b f in
    let tells = heard_tells c.args.timeline.now v i J b t heard in
    timeline_explains c.args.form c.args.wanted c.args.name.now b v i J c.put_own.result
    (g.W.Write.contents c.args.writer.now) (g.W.Write.contents c.put_own.new.writer) t
    (c.put_own.ensures.written i J tells) (c.put_own.ensures.status i J tells)
