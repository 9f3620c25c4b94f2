use Rattle.std.proofs.Common.{ℕ, subst}
use Rattle.lra_commands.specs.Calls.{Command}
use Rattle.lra_validator.specs.CommandValues.{command_value}
use Rattle.lra_validator.specs.inner.Judged.{IsJudged}
use Rattle.lra_validator.proofs.EachCommand.{decides}
use Rattle.lra_validator.proofs.deciding.decide.Goals as goal

pub returns : goal.returns
returns g c = λ J h k b.
    let o : Command = command_value g.E.HasAsk.asking c.args.command.now in
    decides c.args.terms.now J c.args.by c.args.moment c.args.due_facts.now o c.validator.result c.requires.keepable k
    (record { moment = c.ranges.moment.fits; fits = c.requires.fits }) b
    (subst (λ (m : ℕ). IsJudged c.args.terms.now J c.args.by m c.args.due_facts.now o c.validator.result)
    (c.moment_of.ensures J h) (c.validator.ensures J h))
