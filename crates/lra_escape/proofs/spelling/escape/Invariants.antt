use Rattle.std.proofs.Common.{◌≡◌, ◌++◌, take}
use Rattle.lra_escape.specs.Escapes.{escaped}
use Rattle.lra_escape.proofs.spelling.escape.Given as goal

-- the page has the escapes of the bytes so far
abbrev pub invariant-loop-byte : goal.invariant-loop-byte
invariant-loop-byte l = l.page.items ≡ l.initial.page.items ++ escaped (take l.byte-index l.text)
