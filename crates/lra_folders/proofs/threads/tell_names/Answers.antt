use Rattle.lra_folders.proofs.Each.{all_told}
use Rattle.lra_folders.proofs.threads.tell_names.Goals as goal

pub returns-clause-each : goal.returns-clause-each
returns-clause-each g c = λ bytes known.
    all_told c.args.deed (g.S.Sources.named c.args.sources.now) g.F.Read.remaining bytes c.args.folder.now
    c.args.names.now c.in_ok-jobs.jobs.items _ c.tell_jobs.result
    known c.in_ok-jobs.ensures.each c.tell_jobs.ensures.len c.tell_jobs.ensures.each
