use Rattle.std.proofs.lemmas.Bool.Decides.{Decides-eqb}
use Rattle.std.proofs.lemmas.Slice.Eq.{strip_prefix_is}
use Rattle.lra_ids.proofs.identifier.after_prefix.Goals as goal

pub returns : goal.returns
returns c =
    rw (← c.as_bytes.ensures.value) (strip_prefix_is Decides-eqb c.args.text.now c.as_bytes.result.now
    c.strip_prefix.result c.strip_prefix.ensures.cases)
