use Rattle.std.proofs.Common.{refl, sym, rules}
use Rattle.std.proofs.lemmas.List.{take_rest}
use Rattle.lra_rules.proofs.Parts.{at_last_some, at_last_none}
use Rattle.lra_rules.proofs.texts.at_last.Goals as goal

pub returns-in-Some : goal.returns-in-Some
returns-in-Some c =
    let found = at_last_some c.args.byte c.args.text.now c.in-Some.place (search rules) (search rules) (search rules) in
    rw (found, take_rest) refl

pub returns-in-None : goal.returns-in-None
returns-in-None c = sym (at_last_none c.args.byte c.args.text.now (search rules))
