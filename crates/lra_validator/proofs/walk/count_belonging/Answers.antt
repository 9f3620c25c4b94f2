use Rattle.std.proofs.Common.{◌≡◌, ℕ, ◌+◌, ◌-◌, ◌<◌, ◌≤◌, min, cond, ap, arith, ◌∙◌, length}
use Rattle.std.specs.Prelude.{is_some}
use Rattle.lra_commands.specs.Queries.{most_rows, belongs, rows_along}
use Rattle.lra_validator.specs.inner.Listed.{count_listed}
use Rattle.lra_validator.proofs.Walks.{left_to_count, left_of, counted_next, counted_all}
use Rattle.lra_validator.proofs.walk.count_belonging.Goals as goal

pub loop-n-preserved : goal.loop-n-preserved
loop-n-preserved c = (
  omega (arith, c.loop-n.invariant.0, c.one_if-count.ensures.most),
  λ J k.
      let l = c.args.limits.now in
      let lt : c.loop-n.n < most_rows = omega (arith, c.loop-n-test.true, c.count_looked-n-end.ensures.most) in
      let one : c.one_if-count.result ≡ cond (is_some c.look_listed-told.result) 1 0 = c.one_if-count.ensures.count
      ∙ ap (λ b. cond b 1 0) c.is_some.ensures in
      let next = counted_next l c.args.tables.now.snapshot J k c.args.listing c.args.place c.loop-n.n
      c.look_listed-told.result lt (c.look_listed-told.ensures J k) in
      let before = c.loop-n.invariant.1 J k in
      omega (arith, one, next, before),
)

pub returns : goal.returns
returns c = λ J k.
    let l = c.args.limits.now in
    let rows = c.count_listed-rows.ensures J k in
    let e : min (c.args.place + most_rows) (count_listed J c.args.listing) ≤ c.args.place
    + c.loop-n.n = omega (arith, c.loop-n-test.false, c.count_looked-n-end.ensures.all, rows) in
    let none = counted_all l J c.args.listing c.args.place c.loop-n.n e in
    let before = c.loop-n.invariant.1 J k in
    let all : c.loop-n.count ≡ left_of l J c.args.listing c.args.place 0 = omega (arith, before, none) in
    let at : c.args.place + 0 ≡ c.args.place = omega arith in
    all ∙ ap (λ m. left_to_count (belongs c.args.listing) (rows_along l J c.args.listing) m most_rows) at
