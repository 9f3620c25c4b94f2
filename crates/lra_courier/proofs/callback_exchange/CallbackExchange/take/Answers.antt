use Rattle.std.proofs.Common.{ℕ, List, length, ◌≤◌, sym, ap, subst, arith}
use Rattle.lra_wire.specs.RequestCursor.{SeesResponse}
use Rattle.lra_wire.proofs.ComingLemmas.{sees_more}
use Rattle.lra_courier.specs.Carried.{IsCarried, room_of}
use Rattle.lra_courier.specs.inner.Holding.{carried_of}
use Rattle.lra_courier.proofs.CarriedLemmas.{carried_took}
use Rattle.lra_courier.proofs.callback_exchange.CallbackExchange.take.Goals as goal

pub invariant_of-self-2 : goal.invariant_of-self-2
invariant_of-self-2 c =
    let h = carried_of c.self.inside in
    let fits : length c.args.bytes.now ≤ room_of h = omega (
      arith,
      c.if-bytes-room.false,
      c.room.ensures,
      ap room_of c.self.view_is,
    ) in
    record {
      carried = subst (λ (bytes : List ℕ). IsCarried (record h { taken = bytes }))
          (sym c.in_ok-extend_from_slice.ensures.items)
          (carried_took h c.args.bytes.now c.self.invariant.carried fits);
      sees = subst (λ (bytes : List ℕ). SeesResponse c.self.inside.seen bytes)
          (sym c.in_ok-extend_from_slice.ensures.items)
          (sees_more c.self.inside.seen c.self.inside.kept.items c.args.bytes.now c.self.invariant.sees);
    }
