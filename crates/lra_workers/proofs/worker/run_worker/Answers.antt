use Rattle.std.proofs.Common.{refl}
use Rattle.lra_office.specs.Clerks.{clerk_view}
use Rattle.lra_workers.specs.Work.{post}
use Rattle.lra_workers.proofs.Working.{works_none}
use Rattle.lra_workers.proofs.worker.run_worker.Goals as goal

pub loop-init : goal.loop-init
loop-init g c = record {
  clerk = c.requires;
  number = refl;
  work = works_none g.V.LockedService.setting g.C.Courier.gives
      g.K.Clock.tells (post (clerk_view c.args.clerk) c.args.clock.now);
}
