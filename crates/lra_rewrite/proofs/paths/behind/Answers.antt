use Rattle.lra_rewrite.proofs.Prefixes.{stripped}
use Rattle.lra_rewrite.proofs.paths.behind.Goals as goal

pub returns-then-begins_alike : goal.returns-then-begins_alike
returns-then-begins_alike c = stripped c.args.front.now c.args.text.now c.strip_prefix.result
    c.strip_prefix.ensures.cases
