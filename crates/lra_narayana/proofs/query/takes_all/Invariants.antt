use Rattle.std.proofs.Common.{◌≡◌}
use Rattle.std.specs.List.{list_all}
use Rattle.form_urlencoded.specs.Form.{raw_pairs}
use Rattle.form_urlencoded.specs.Parse.{raw_pairs_left}
use Rattle.lra_narayana.specs.Operations.{takes}
use Rattle.lra_narayana.proofs.query.takes_all.Given as goal

-- the words that are left are taken just if all are
abbrev pub invariant-loop-word : goal.invariant-loop-word
invariant-loop-word l = list_all (λ p. takes l.operation p.0) (raw_pairs_left l.word-iterator)
    ≡ list_all (λ p. takes l.operation p.0) (raw_pairs l.query)
