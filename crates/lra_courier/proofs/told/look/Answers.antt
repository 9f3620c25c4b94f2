use Rattle.std.proofs.Common.{Bool, sym, subst}
use Rattle.lra_courier.specs.Carried.{Replies}
use Rattle.lra_courier.proofs.CarriedLemmas.{replies_at_end}
use Rattle.lra_courier.proofs.told.look.Goals as goal

pub returns-then-closed-clause-looks : goal.returns-then-closed-clause-looks
returns-then-closed-clause-looks c =
    let told = c.in_ok-told_at_end.field-0 in
    subst (λ (closed : Bool). Replies closed c.args.failed c.args.asked.kind c.args.asked.direction c.args.bytes.now
    told) (sym c.if-closed.true)
    (replies_at_end c.args.failed c.args.asked.kind c.args.asked.direction c.args.bytes.now told
    c.in_ok-told_at_end.ensures)
