use Rattle.lra_reports.specs.declared.words.Invocation.TheVariants.{AuditInput, Audit, Show}
use Rattle.lra_reports.proofs.Sourced.{sourced_ok}
use Rattle.lra_reports.proofs.dispatch.run.Goals as goal

pub returns-in-AuditInput-clause-ok : goal.returns-in-AuditInput-clause-ok
returns-in-AuditInput-clause-ok g c =
    sourced_ok c.args.invocation AuditInput (g.S.Sources.standard c.args.sources.now)
    (g.S.Sources.named c.args.sources.now) (g.S.Input.Read.remaining c.input.result)
    (g.W.Write.contents c.args.writer.now) (g.W.Write.contents c.audit_run.new.writer)
    c.audit_run.result c.in-AuditInput.is c.input.ensures.bytes c.audit_run.ensures.ok

pub returns-in_ok-open-in-Audit-clause-ok : goal.returns-in_ok-open-in-Audit-clause-ok
returns-in_ok-open-in-Audit-clause-ok g c =
    sourced_ok c.args.invocation (Audit c.in-Audit.file) (g.S.Sources.standard c.args.sources.now)
    (g.S.Sources.named c.args.sources.now) (g.S.File.Read.remaining c.in_ok-open-in-Audit.field-0)
    (g.W.Write.contents c.args.writer.now) (g.W.Write.contents c.audit_run-in-Audit.new.writer)
    c.audit_run-in-Audit.result c.in-Audit.is c.in_ok-open-in-Audit.ensures.bytes c.audit_run-in-Audit.ensures.ok

pub returns-in_ok-open-in-Show-clause-ok : goal.returns-in_ok-open-in-Show-clause-ok
returns-in_ok-open-in-Show-clause-ok g c =
    sourced_ok c.args.invocation (Show c.in-Show.file) (g.S.Sources.standard c.args.sources.now)
    (g.S.Sources.named c.args.sources.now) (g.S.File.Read.remaining c.in_ok-open-in-Show.field-0)
    (g.W.Write.contents c.args.writer.now) (g.W.Write.contents c.show_run.new.writer)
    c.show_run.result c.in-Show.is c.in_ok-open-in-Show.ensures.bytes c.show_run.ensures.ok
