use Rattle.std.proofs.Common.{◌-◌, map, length, sym, ap}
use Rattle.lra_steps.specs.inner.Fields.{turn_of}
use Rattle.lra_steps.proofs.HistoryLemmas.{served_first}
use Rattle.lra_steps.proofs.connection.Connection.with_chunked.Goals as goal

pub invariant_of-result : goal.invariant_of-result
invariant_of-result c = record {
  served = served_first c.args.chunked c.args.instance c.of.result.value c.new.result c.new-2.result
      c.new-3.result.items c.new-5.result.items c.new-4.result.items c.new.ensures c.new-2.ensures c.new-3.ensures
      c.new-4.ensures c.new-5.ensures;
  seen = c.nothing.ensures c.new.result;
  left = ap (λ ts. 999 - length (map turn_of ts)) (sym c.new-4.ensures);
}
