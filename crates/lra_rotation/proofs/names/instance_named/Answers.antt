use Rattle.std.proofs.Common.{rules, string_bytes}
use Rattle.lra_rotation.proofs.Hex.{same_name}
use Rattle.lra_rotation.proofs.names.instance_named.Goals as goal

pub returns-clause-all : goal.returns-clause-all
returns-clause-all c i small e = search (
  rules,
  same_name c.args.name.now c.in-Some.stem.now
      (string_bytes c.in_ok-own.own) i c.in-Some-instance_spelled.instance c.in-Some.ensures.cases e
      (λ s. c.in-Some-instance_spelled.ensures i small s) c.in_ok-own.ensures,
  c.if-eq.ensures,
  c.if-eq.false,
)
