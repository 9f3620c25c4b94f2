use Rattle.std.proofs.Common.{◌≡◌, ◌-◌, ◌+◌, ◌++◌, ◌∷◌, [], List, suc, sym, subst, arith}
use Rattle.lra_model.specs.declared.entry.Entry.{Entry}
use Rattle.lra_tables.specs.inner.UndoLog.{SettlesTo}
use Rattle.lra_tables.proofs.Settles.{settles_more, settles_no_more, settles_all}
use Rattle.lra_tables.proofs.settling_state.SettlingState.settle_all.Goals as goal

pub returns-in_default-clause-whole : goal.returns-in_default-clause-whole
returns-in_default-clause-whole c = λ J whole h.
    let left = c.loop-done.invariant.1 J whole h in
    settles_no_more J c.args.by c.args.moment (c.args.most - c.loop-done.done) c.loop-done.self
    c.loop-done.undo_log.entries.items whole left (c.in_default.ensures (J ++ c.loop-done.undo_log.entries.items)
    left.may.stands)

pub returns-clause-whole : goal.returns-clause-whole
returns-clause-whole c = λ J whole h. settles_all J c.args.by c.args.moment (c.args.most - c.loop-done.done)
    c.loop-done.self c.loop-done.undo_log.entries.items whole (c.loop-done.invariant.1 J whole h) (omega arith)

pub settle_next-requires : goal.settle_next-requires
settle_next-requires c =
    let going = c.loop-done.invariant.0 in
    record { history = going.history; may = going.may; next = c.in-Some.ensures going.history going.may.stands }

pub loop-done-preserved : goal.loop-done-preserved
loop-done-preserved c =
    let by = c.args.by in
    let m = c.args.moment in
    let es = c.loop-done.undo_log.entries.items in
    let e : Entry = record { by = by; moment = m; deed = c.in-Some.deed } in
    let going = c.loop-done.invariant.0 in
    let left = c.args.most - (c.loop-done.done + 1) in
    let number : c.args.most - c.loop-done.done ≡ suc left = omega arith in (
      record {
        history = going.history ++ e ∷ [];
        may = c.in_ok-settle_next.ensures.goes going.history going.may
            (c.in-Some.ensures going.history going.may.stands);
      },
      λ J whole h.
          let before : SettlesTo J by m (suc left) c.loop-done.self es whole =
          subst (λ n. SettlesTo J by m n c.loop-done.self es whole) number (c.loop-done.invariant.1 J whole h) in
          subst (λ (xs : List Entry). SettlesTo J by m left c.settle_next.new.self xs whole)
          (sym c.in_ok-settle_next.ensures.entries)
          (settles_more J by m left c.loop-done.self c.settle_next.new.self es whole c.in-Some.deed before
          (c.in-Some.ensures (J ++ es) before.may.stands) c.in_ok-settle_next.ensures.goes),
      λ b h. c.settle_next.ensures.undo_log b (c.loop-done.invariant.2 b h),
    )
