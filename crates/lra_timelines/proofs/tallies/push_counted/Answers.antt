use Rattle.std.proofs.Common.{rules}
use Rattle.lra_timelines.proofs.Listed.{word_pushed}
use Rattle.lra_timelines.proofs.tallies.push_counted.Goals as goal

pub returns : goal.returns
returns c = word_pushed c.args.status c.args.count c.args.words.now.items c.push.new.self.items c.in_ok-word.word
    c.if-count-eq0.false (search rules) c.in_ok-push.ensures.items
