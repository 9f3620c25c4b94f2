use Rattle.std.proofs.Common.{◌≡◌, ℕ, ◌+◌, ◌-◌, ◌<◌, ◌≤◌, min, ap, arith, ◌∙◌, sym}
use Rattle.lra_commands.specs.Queries.{most_rows}
use Rattle.lra_validator.specs.inner.Walks.{first_some, count_rows, look}
use Rattle.lra_validator.proofs.Walks.{told_next, passed_over, none_left}
use Rattle.lra_validator.proofs.walk.first_told.Goals as goal

pub loop-n-init : goal.loop-n-init
loop-n-init c = λ J none k.
    let e : c.args.place ≡ c.args.place + 0 = omega arith in
    ap (λ m. first_some (look c.args.limits.now J c.args.walk) none m most_rows) e

pub returns-then-is_some : goal.returns-then-is_some
returns-then-is_some c = λ J none k.
    let lt : c.loop-n.n < most_rows = omega (arith, c.loop-n-test.true, c.count_looked-n-end.ensures.most) in
    sym (c.loop-n.invariant J none k ∙ told_next c.args.limits.now J c.args.walk none c.args.place c.loop-n.n
    c.look-told.result lt (c.look-told.ensures J k) (sym c.is_some.ensures ∙ c.if-is_some.true))

pub loop-n-preserved : goal.loop-n-preserved
loop-n-preserved c = λ J none k.
    let lt : c.loop-n.n < most_rows = omega (arith, c.loop-n-test.true, c.count_looked-n-end.ensures.most) in
    c.loop-n.invariant J none k ∙ passed_over c.args.limits.now J c.args.walk none c.args.place c.loop-n.n
    c.look-told.result lt (c.look-told.ensures J k) (sym c.is_some.ensures ∙ c.if-is_some.false)

pub returns : goal.returns
returns c = λ J none k.
    let rows = c.count_rows-rows.ensures J k in
    let e : min (c.args.place + most_rows) (count_rows J c.args.walk) ≤ c.args.place
    + c.loop-n.n = omega (arith, c.loop-n-test.false, c.count_looked-n-end.ensures.all, rows) in
    sym (c.loop-n.invariant J none k ∙ none_left c.args.limits.now c.args.tables.now.snapshot J k c.args.walk none
    c.args.place c.loop-n.n e)
