use Rattle.std.proofs.Common.{refl}
use Rattle.lra_core.proofs.Replying.{bench_gives}
use Rattle.lra_core.proofs.bench.BenchCounter.give.Goals as goal

pub returns : goal.returns
returns c =
    let n = c.self.inside.number in
    rw (← c.self.view_is, c.reply_of.ensures)
    (bench_gives (record { coordinator = c.self.inside.coordinator; number = n })
    (record { coordinator = c.tell-answer.new.self; number = n }) c.args.moment c.args.order.now
    c.tell-answer.result
    refl c.lawful.ensures c.lawful-2.ensures (rw c.command.ensures at c.tell-answer.ensures))
