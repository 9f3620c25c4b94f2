use Rattle.std.proofs.Common.{◌≡◌}
use Rattle.std.specs.Prelude.{bytes_eq}
use Rattle.std.specs.List.{find}
use Rattle.form_urlencoded.specs.Form.{raw_pairs}
use Rattle.form_urlencoded.specs.Parse.{raw_pairs_left}
use Rattle.lra_narayana.proofs.query.raw_value.Given as goal

-- the fields that are left give what all fields give
abbrev pub invariant-loop-key : goal.invariant-loop-key
invariant-loop-key l = find (λ p. bytes_eq p.0 l.name) (raw_pairs_left l.key-iterator)
    ≡ find (λ p. bytes_eq p.0 l.name) (raw_pairs l.query)
