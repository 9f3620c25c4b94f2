use Rattle.std.proofs.Common.{◌≡◌, ◌++◌, take}
use Rattle.std.specs.List.{flat_map}
use Rattle.lra_wire.specs.Writing.{field_line}
use Rattle.lra_wire.proofs.write.push_fields.Given as goal

-- the fields so far
abbrev pub invariant-loop-name : goal.invariant-loop-name
invariant-loop-name l = l.text.items ≡ l.initial.text.items ++ flat_map field_line (take l.name-index l.fields)
