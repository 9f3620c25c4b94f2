use Rattle.std.proofs.Common.{◌≡◌, map, drop}
use Rattle.httparse.specs.Spans.{header_bytes}
use Rattle.lra_wire.specs.Fields.{lists_close}
use Rattle.lra_wire.proofs.fields.lists_close.Given as goal

-- the fields so far don't list it
abbrev pub invariant-loop-field : goal.invariant-loop-field
invariant-loop-field l = lists_close (map (header_bytes l.bytes) (drop l.field-index l.fields))
    ≡ lists_close (map (header_bytes l.bytes) l.fields)
