use Rattle.std.proofs.Common.{◌≡◌, ◌++◌, IsUtf8, string_bytes}
use Rattle.std.specs.Str.Iter.{chars_rest}
use Rattle.lra_logs.specs.Escapes.{escaped}
use Rattle.lra_logs.proofs.escaping.push_escaped.Given as goal

abbrev pub invariant-loop-sign : goal.invariant-loop-sign
invariant-loop-sign l = IsUtf8 (chars_rest l.sign-iterator) × (string_bytes l.line
    ++ escaped (chars_rest l.sign-iterator) ≡ string_bytes l.fn.line ++ escaped l.fn.text)
