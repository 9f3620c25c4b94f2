use Rattle.std.proofs.Common.{ℕ, ◌+◌, true, nat_lt, sym, ap, ◌∙◌}
use Rattle.std.specs.Option.{option_map_or}
use Rattle.lra_laws.specs.Rows.{ActionRow}
use Rattle.lra_totals.proofs.Marks.{AreLessTo-start, AreLessTo-more, AreLessTo-end, parent_not_less}
use Rattle.lra_totals.proofs.summary.parents_are_less.Goals as goal

pub loop-place-init : goal.loop-place-init
loop-place-init c = AreLessTo-start c.args.actions.now

pub loop-place-preserved : goal.loop-place-preserved
loop-place-preserved c =
    AreLessTo-more c.args.actions.now c.loop-place.place c.index-actions-place.result c.loop-place-test.true
    (ap (λ (r : ActionRow). option_map_or (λ (b : ℕ). nat_lt b (c.loop-place.place + 1)) r.parent true)
    (sym c.index-actions-place.is) ∙ sym c.if-not-parent_is_less.ensures) c.loop-place.invariant

pub returns-then-not-parent_is_less-clause-not_all : goal.returns-then-not-parent_is_less-clause-not_all
returns-then-not-parent_is_less-clause-not_all c h =
    parent_not_less c.args.actions.now c.loop-place.place c.index-actions-place.result c.loop-place-test.true
    (ap (λ (r : ActionRow). option_map_or (λ (b : ℕ). nat_lt b (c.loop-place.place + 1)) r.parent true)
    (sym c.index-actions-place.is) ∙ sym c.if-not-parent_is_less.ensures)

pub returns-clause-all : goal.returns-clause-all
returns-clause-all c h = AreLessTo-end c.args.actions.now c.loop-place.place c.loop-place-test.false
    c.loop-place.invariant
