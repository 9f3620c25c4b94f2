use Rattle.std.proofs.Common.{take, ◌++◌, sym, ap, ◌∙◌}
use Rattle.std.proofs.lemmas.List.{take_rest}
use Rattle.lra_wire.proofs.WritingLemmas.{Appends_more, whole_more}
use Rattle.lra_wire.proofs.write.send.Goals as goal

pub loop-rest-preserved : goal.loop-rest-preserved
loop-rest-preserved g c = record {
  front = c.loop-rest.invariant.front ++ take c.in-Ok.count c.loop-rest.rest.now;
  whole = whole_more c.args.bytes.now c.loop-rest.invariant.front c.loop-rest.rest.now c.in-Ok.count
      c.loop-rest.invariant.whole ∙ ap (λ zs. (c.loop-rest.invariant.front ++ take c.in-Ok.count c.loop-rest.rest.now)
      ++ zs) (sym (take_rest c.loop-rest.rest.now c.in-Ok.count));
  went = Appends_more (g.W.Write.contents c.args.writer.now) (g.W.Write.contents c.loop-rest.writer)
      (g.W.Write.contents c.write.new.self) c.loop-rest.invariant.front (take c.in-Ok.count c.loop-rest.rest.now)
      c.loop-rest.invariant.went c.in-Ok.ensures.bytes;
}
