use Rattle.std.proofs.Common.{◌≡◌, get_or, ◌∙◌, arith}
use Rattle.std.proofs.lemmas.Grind.{common_steps}
use Rattle.lra_operators.proofs.Comparing.{begun, begun_long, compared, compared_long, ended}
use Rattle.lra_operators.proofs.access.is_same.Goals as goal

pub loop-place-init : goal.loop-place-init
loop-place-init c = record {
  long = begun_long c.args.given.now c.args.wanted.now;
  rest =
      begun c.args.given.now c.args.wanted.now;
}

pub loop-place-preserved : goal.loop-place-preserved
loop-place-preserved c =
    let o : c.unwrap_or-other.result ≡ get_or c.args.wanted.now c.loop-place.place 0 = grind (arith, common_steps) in
    record {
      long = compared_long c.args.given.now c.args.wanted.now c.loop-place.same _ c.loop-place.invariant.long;
      rest = rw o
          (compared c.args.given.now c.args.wanted.now c.loop-place.place c.loop-place.same c.loop-place-test.true
          c.loop-place.invariant.long
          ∙ c.loop-place.invariant.rest);
    }

pub returns : goal.returns
returns c =
    ended c.args.given.now c.args.wanted.now c.loop-place.place c.loop-place.same c.loop-place-test.false
    c.loop-place.auto.place-end
    c.loop-place.invariant.long c.loop-place.invariant.rest
