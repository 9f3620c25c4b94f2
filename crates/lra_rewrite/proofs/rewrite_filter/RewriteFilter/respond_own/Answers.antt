use Rattle.std.proofs.Common.{rules, inr}
use Rattle.lra_rewrite.proofs.rewrite_filter.RewriteFilter.respond_own.Goals as goal

pub returns-clause-does : goal.returns-clause-does
returns-clause-does g c = inr (search rules, c.ask_meant.ensures.asks)
