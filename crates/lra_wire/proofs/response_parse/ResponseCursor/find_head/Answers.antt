use Rattle.std.proofs.Common.{Option, Ok, subst}
use Rattle.lra_wire.specs.declared.response.Head.{Head}
use Rattle.lra_wire.specs.inner.Parts.{FindsFinal}
use Rattle.lra_wire.proofs.ComingLemmas.{heads_open, heads_end}
use Rattle.lra_wire.proofs.response_parse.ResponseCursor.find_head.Goals as goal

pub returns-in_default-2-clause-finds : goal.returns-in_default-2-clause-finds
returns-in_default-2-clause-finds c =
    let passed = c.final_head.new.passed in
    let here = subst (λ (o : Option Head). FindsFinal passed.end c.args.bytes.now (Ok o)) c.in_default-2.is
    c.in_ok-head.ensures.finds in
    let passes = c.final_head.ensures.passes in (
      c.in_default.is,
      heads_open c.args.bytes.now passed.end passed.count passes here.0 here.1 here.2,
      heads_end c.args.bytes.now passed.end passed.count passes here.0 here.1,
    )
