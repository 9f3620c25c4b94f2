use Rattle.std.proofs.Common.{◌≡◌, drop}
use Rattle.httparse.specs.Grammar.{skip_ows}
use Rattle.lra_wire.proofs.fields.trim_start.Given as goal

-- the bytes so far are white space
abbrev pub invariant-loop-i : goal.invariant-loop-i
invariant-loop-i l = skip_ows (drop l.i l.bytes) ≡ skip_ows l.bytes
