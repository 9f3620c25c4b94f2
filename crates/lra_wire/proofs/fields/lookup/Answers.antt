use Rattle.lra_wire.proofs.FieldLemmas.{values_hit, values_miss, shown}
use Rattle.lra_wire.proofs.fields.lookup.Goals as goal
use Rattle.lra_wire.proofs.fields.lookup.Goals.{then-is_alike, else-is_alike}

pub loop-field-preserved : goal.loop-field-preserved
loop-field-preserved c =
    elim c.if-is_alike.branch [
      | then-is_alike w ↦
          let more = values_hit c.args.bytes.now c.args.fields.now c.loop-field.field-index c.args.name.now _
          w.of-then-is_alike.result.now c.loop-field-test.true c.of.ensures w.of-then-is_alike.ensures
          (cc) in shown w.found-is more (w.and-found.ensures _ c.loop-field.invariant)
      | else-is_alike w ↦
          let more = values_miss c.args.bytes.now c.args.fields.now c.loop-field.field-index c.args.name.now _
          c.loop-field-test.true c.of.ensures (cc) in shown w.found-is more c.loop-field.invariant
    ]
