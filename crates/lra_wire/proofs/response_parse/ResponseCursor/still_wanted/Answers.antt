use Rattle.std.proofs.Common.{sym, subst, ◌∙◌, arith}
use Rattle.lra_wire.specs.declared.wanted.Wanted.{Wanted}
use Rattle.lra_wire.specs.inner.Wanted.{IsMissing, Seeks}
use Rattle.lra_wire.proofs.ComingLemmas.{still_feed, came_feed}
use Rattle.lra_wire.proofs.response_parse.ResponseCursor.still_wanted.Goals as goal

pub returns-else-contains-clause-some : goal.returns-else-contains-clause-some
returns-else-contains-clause-some c =
    still_feed c.args.bytes.now c.in-Feed.looked (subst (λ (w : Wanted). Seeks w c.args.bytes.now) c.in-Feed.is
    c.requires.wanted)
    (omega (arith, c.if-bytes-most.false, c.most.ensures.limit)) (sym c.contains.ensures.value ∙ c.if-contains.false)

pub returns-then-contains-clause-none : goal.returns-then-contains-clause-none
returns-then-contains-clause-none c = λ missing.
    absurd (came_feed c.args.bytes.now c.in-Feed.looked (sym c.contains.ensures.value ∙ c.if-contains.true)
    (subst (λ (w : Wanted). IsMissing w c.args.bytes.now) c.in-Feed.is missing))
