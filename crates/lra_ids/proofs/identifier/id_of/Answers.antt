use Rattle.std.proofs.Common.{◌∙◌, ap, arith}
use Rattle.std.specs.Int.{w128, to_be_bytes}
use Rattle.lra_ids.specs.Identifiers.{id_number, id_bytes}
use Rattle.lra_ids.proofs.identifier.id_of.Goals as goal

pub returns-clause-value : goal.returns-clause-value
unfolding id_number id_bytes
returns-clause-value c = c.from_u64_pair.ensures ∙ ap (to_be_bytes w128) (omega arith)
