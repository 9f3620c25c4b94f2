use Rattle.std.proofs.Common.{arith, rules}
use Rattle.lra_folders.proofs.Each.{opened_more}
use Rattle.lra_folders.proofs.threads.open_each.Goals as goal

pub loop-name-preserved : goal.loop-name-preserved
loop-name-preserved g c = (
  search rules,
  opened_more (g.S.Sources.named c.args.sources.now) g.F.Read.remaining c.args.folder.now c.args.names.now
      c.loop-name.jobs.items _ c.loop-name.name-index c.name-item.result c.as_str.result.now _
      (omega (arith, c.loop-name-test.true, c.loop-name.auto.name-index-end)) c.name-item.is c.as_str.ensures.value
      (let own = c.loop-name.jobs.ok.0 in let at = c.loop-name.invariant.0 in
      omega (arith, own, at)) c.in_ok-push.ensures.items c.loop-name.invariant.1 c.in_ok-job.ensures,
)

pub returns-then-not-is_empty-clause-each : goal.returns-then-not-is_empty-clause-each
returns-then-not-is_empty-clause-each g c = λ i w d lt. c.loop-name.invariant.1 i w d
    (let at = c.loop-name.invariant.0 in omega (arith, lt, at))

pub returns-clause-each : goal.returns-clause-each
returns-clause-each g c = λ i w d lt. c.loop-name.invariant.1 i w d
    (let at = c.loop-name.invariant.0 in omega (arith, lt, at))
