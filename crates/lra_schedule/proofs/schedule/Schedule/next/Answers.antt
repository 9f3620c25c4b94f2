use Rattle.std.specs.Prelude.{is_some}
use Rattle.lra_commands.specs.Due.{due, late}
use Rattle.lra_schedule.proofs.schedule.Schedule.next.Goals as goal

pub returns : goal.returns
returns c = λ J is stands.
    c.earlier.ensures (λ n. is_some (due c.args.limits.now J n)) (λ n. is_some (late J n))
    (c.first_want.ensures J is stands) (c.first_limit.ensures c.args.limits.now J is stands)
