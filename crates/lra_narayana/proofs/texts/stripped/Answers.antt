use Rattle.lra_narayana.proofs.Prefixes.{stripped_is}
use Rattle.lra_narayana.proofs.texts.stripped.Goals as goal

pub returns : goal.returns
returns c = stripped_is c.args.front.now c.args.text.now c.strip_prefix.result c.strip_prefix.ensures.cases
