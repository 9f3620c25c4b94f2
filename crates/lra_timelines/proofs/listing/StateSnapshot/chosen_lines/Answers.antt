use Rattle.std.proofs.Common.{rules}
use Rattle.lra_timelines.proofs.Listed.{chosen_told}
use Rattle.lra_timelines.proofs.listing.StateSnapshot.chosen_lines.Goals as goal

pub returns-then-is_older : goal.returns-then-is_older
returns-then-is_older c = λ ms J tallied called.
    chosen_told c.args.self.now.choice.now c.args.self.now.prefix.now c.args.self.now.instance ms c.args.action.now
    _ _ _ c.lines.result (search rules) (search rules) (c.lines.ensures ms J tallied called)
