use Rattle.std.proofs.Common.{map, take}
use Rattle.httparse.specs.Spans.{header_bytes}
use Rattle.lra_wire.specs.Fields.{values_of}
use Rattle.lra_wire.specs.inner.Fields.{Shows}
use Rattle.lra_wire.proofs.fields.lookup.Given as goal

-- what was found is what the fields so far have
abbrev pub invariant-loop-field : goal.invariant-loop-field
invariant-loop-field l = Shows l.found (values_of l.name (map (header_bytes l.bytes) (take l.field-index l.fields)))
