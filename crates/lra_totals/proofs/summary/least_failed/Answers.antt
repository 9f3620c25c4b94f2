use Rattle.std.proofs.Common.{◌≡◌, ℕ, ◌+◌, None, option_map, subst, refl, sym, ◌∙◌, ap, length, arith, replicate, rules}
use Rattle.lra_laws.specs.Rows.{MemberRow, row_at}
use Rattle.lra_totals.specs.Totals.{has_failed_here, is_within_by, of_rows}
use Rattle.lra_totals.proofs.Marks.{IsToFill-start, IsToFill-marked, IsToFill-passed, IsToFill-end, IsClosed-start}
use Rattle.lra_totals.proofs.Marks.{marked}
use Rattle.lra_totals.proofs.summary.least_failed.Goals as goal
use Rattle.lra_totals.proofs.summary.least_failed.Goals.{then-has_failed_here, else-has_failed_here}

pub loop-place-init : goal.loop-place-init
loop-place-init c =
    let places : c.in_ok-least.least.items ≡ replicate (length c.args.actions.now) None =
    c.in_ok-least.ensures.items_if_clones_equal (λ y k. search rules) in
    record {
      to_fill = IsToFill-start (of_rows c.args.actions.now c.args.members.now) (length c.args.actions.now)
          c.in_ok-least.least.items refl places;
      closed = λ h. IsClosed-start c.args.actions.now c.in_ok-least.least.items places;
    }

pub mark_up-requires-clause-less : goal.mark_up-requires-clause-less
mark_up-requires-clause-less c h = c.parents_are_less-are_less.ensures.all h

pub mark_up-requires-clause-closed : goal.mark_up-requires-clause-closed
mark_up-requires-clause-closed c h = c.loop-place.invariant.closed h

pub loop-place-preserved : goal.loop-place-preserved
loop-place-preserved c =
    let found = ap (λ (r : MemberRow). has_failed_here r) (sym c.index-members-place.is) in
    elim c.if-has_failed_here.branch [
      | then-has_failed_here w ↦ rw w.least-is (record {
        to_fill = IsToFill-marked (of_rows c.args.actions.now c.args.members.now) c.args.actions.now c.args.members.now
            refl refl c.loop-place.place c.index-members-place.result c.loop-place.least.items w.mark_up.new.least.items
            c.loop-place-test.true (found ∙ sym w.if-has_failed_here.ensures)
            (subst (λ (r : MemberRow). (t : ℕ) → row_at w.mark_up.new.least.items t
            ≡ option_map (marked (c.loop-place.place + 1) (is_within_by r.action c.args.actions.now t r.action))
            (row_at c.loop-place.least.items t)) (c.row.view_is ∙ c.index-members-place.is)
            w.mark_up.ensures.marks) c.loop-place.invariant.to_fill;
        closed = w.mark_up.ensures.closed;
      })
      | else-has_failed_here w ↦ rw w.least-is (record {
        to_fill = IsToFill-passed (of_rows c.args.actions.now c.args.members.now) c.args.members.now refl
            c.loop-place.place c.index-members-place.result c.loop-place.least.items
            c.loop-place-test.true (found ∙ sym w.if-has_failed_here.ensures) c.loop-place.invariant.to_fill;
        closed = c.loop-place.invariant.closed;
      })
    ]

pub returns : goal.returns
returns c =
    IsToFill-end (of_rows c.args.actions.now c.args.members.now) c.loop-place.place c.loop-place.least.items
    (omega (arith, c.loop-place-test.false)) c.loop-place.invariant.to_fill
