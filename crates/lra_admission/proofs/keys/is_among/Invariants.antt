use Rattle.std.proofs.Common.{◌≡◌, drop, ◌||◌}
use Rattle.std.specs.Prelude.{bytes_eq}
use Rattle.std.specs.List.{list_any}
use Rattle.lra_admission.proofs.keys.is_among.Given as goal

-- the result so far, with that of the digests left, comes to the same
abbrev pub invariant-loop-own : goal.invariant-loop-own
invariant-loop-own l = (l.is_among || list_any (λ own. bytes_eq own l.digest) (drop l.own-index l.digests))
    ≡ list_any (λ own. bytes_eq own l.digest) l.digests
