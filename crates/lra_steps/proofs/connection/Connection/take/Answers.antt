use Rattle.std.proofs.Common.{ℕ, List, refl, sym, ap, length, subst, ◌≤◌, arith}
use Rattle.lra_wire.specs.CodedCursor.{SeesCoded}
use Rattle.lra_wire.proofs.CodedLemmas.{coded_more}
use Rattle.lra_steps.specs.History.{IsServed, room_of}
use Rattle.lra_steps.specs.inner.Fields.{history_of, backs}
use Rattle.lra_steps.proofs.HistoryLemmas.{served_took, took_is}
use Rattle.lra_steps.proofs.connection.Connection.take.Goals as goal

pub invariant_of-self-2 : goal.invariant_of-self-2
invariant_of-self-2 c =
    let h = history_of c.self.inside in
    let fits : length c.args.bytes.now ≤ room_of h = omega (
      arith,
      c.if-bytes-room.false,
      c.room.ensures,
      ap room_of c.self.view_is,
    ) in
    record {
      served = subst IsServed
          (sym (took_is h c.args.bytes.now c.push.new.self (backs c.self.inside.reads.items)
          (backs c.note_back.new.log.items) _ refl
          (ap length c.as_slice-place.ensures) c.in_ok-push.ensures.ok c.note_back.ensures))
          (served_took h c.args.bytes.now c.self.invariant.served fits);
      seen = subst (λ (xs : List ℕ). SeesCoded c.self.inside.seen xs) (sym c.in_ok-push.ensures.ok)
          (coded_more c.self.inside.seen c.self.inside.kept c.args.bytes.now c.self.invariant.seen);
      left = c.self.invariant.left;
    }
