use Rattle.std.proofs.Common.{◌≡◌, ◌≤◌, ◌∙◌, arith}
use Rattle.lra_tables.proofs.Listed.{none_awaited, one_awaited, all_awaited, void_below}
use Rattle.lra_tables.proofs.changes.add_all_awaited.Goals as goal

pub loop-place-init : goal.loop-place-init
loop-place-init c = λ history stands.
    none_awaited c.args.rows.now.snapshot history c.count_void-place.result c.args.members.now.items stands
    (c.count_void-place.ensures history stands)

pub loop-place-preserved : goal.loop-place-preserved
loop-place-preserved c = λ history stands.
    one_awaited history c.loop-place.place c.add_awaited.new.members.items c.loop-place.members.items
    c.args.members.now.items (c.loop-place.invariant history stands) (c.in_ok-add_awaited.ensures history stands)

pub returns : goal.returns
returns c = λ history stands.
    let void = c.count_void-place.ensures history stands in
    let asks = c.count_asks-place-end.ensures history stands in
    let below = void_below c.args.rows.now.snapshot history stands in
    let first : c.count_void-place.result ≤ c.count_asks-place-end.result = omega arith in
    let whole : c.loop-place.place ≡ c.count_asks-place-end.result = omega arith in
    all_awaited c.args.rows.now.snapshot history c.loop-place.place c.loop-place.members.items c.args.members.now.items
    stands (whole ∙ c.count_asks-place-end.ensures history stands) (c.loop-place.invariant history stands)
