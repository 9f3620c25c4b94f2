use Rattle.std.proofs.Common.{◌∙◌, ◌&&◌, ◌<◌, Bool, None, length, cond, ap, nat_eq, arith}
use Rattle.lra_tables.specs.inner.Ranks.{at}
use Rattle.lra_tables.proofs.Ranking.{inside, taken}
use Rattle.lra_tables.proofs.membership_index.close.Goals as goal

pub returns-in-None-clause-closed : goal.returns-in-None-clause-closed
returns-in-None-clause-closed c = λ ns listed i.
    taken c.loop-place.numbers c.remove.new.self c.args.digest c.args.rank c.loop-place.place
    (at c.args.numbers.now c.args.digest) c.loop-place.invariant.later c.remove.ensures.updates
    c.loop-place.invariant.moved c.in-None.ensures ns listed i

pub returns-in-None-clause-others : goal.returns-in-None-clause-others
returns-in-None-clause-others c = λ other i apart.
    c.remove.ensures.updates.0 (other, i) ∙ ap (λ (b : Bool). cond (b && nat_eq c.loop-place.place i) None
    (at c.loop-place.numbers other i)) apart ∙ c.loop-place.invariant.others other i apart

pub returns-clause-closed : goal.returns-clause-closed
returns-clause-closed c = λ ns listed i.
    let within : c.loop-place.place < length c.requires.countable.0 = inside
    (at c.args.numbers.now c.args.digest c.loop-place.place) c.requires.countable.0 c.loop-place.place
    (c.requires.countable.1 c.loop-place.place) c.loop-place.invariant.there in
    let few = c.requires.countable.2 in
    absurd (omega arith)
