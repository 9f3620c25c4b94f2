use Rattle.std.proofs.Common.{◌+◌, subst, sym, arith}
use Rattle.lra_wire.specs.declared.framing.Framing.{Framing}
use Rattle.lra_wire.specs.inner.Parts.{IsBodyTo, IsSmall}
use Rattle.lra_wire.proofs.ComingLemmas.{sized_whole}
use Rattle.lra_wire.proofs.response_parse.body_at.Goals as goal

pub returns-in_ok-body-in-Sized-clause-finds : goal.returns-in_ok-body-in-Sized-clause-finds
returns-in_ok-body-in-Sized-clause-finds c =
    let start = c.args.chunks.now.start in
    let body = c.in_ok-body-in-Sized.body.items in
    subst (λ (f : Framing). IsBodyTo f start c.args.bytes.now body (start + c.in-Sized.size)) (sym c.in-Sized.is)
    (sized_whole c.args.bytes.now body start c.in-Sized.size (omega (arith, c.if-bytes-end.false)) c.requires.limit
    (subst IsSmall c.in-Sized.is c.requires.small)
    c.in_ok-body-in-Sized.ensures.items)
