use Rattle.std.proofs.Common.{◌≡◌, ◌^◌, ℕ, List, ◌++◌, length, take, sym, ap, subst, ◌∙◌, arith}
use Rattle.std.proofs.KnownBytes.{Consumes-trans, Consumes-whole}
use Rattle.std.proofs.lemmas.List.{append-nil, length-append, take_at}
use Rattle.lra_audits.proofs.Pieces.{consumed_long, counted_by_taker}
use Rattle.lra_audits.proofs.input.give_pieces.Goals as goal

pub returns-then-count-eq0-clause-took : goal.returns-then-count-eq0-clause-took
returns-then-count-eq0-clause-took g c =
    let given = c.loop.invariant.0 in
    let read = c.in_ok-count.ensures in
    let none : given.bytes ++ take c.in_ok-count.count c.next_piece.new.piece
    ≡ given.bytes = ap (λ (n : ℕ). given.bytes ++ take n c.next_piece.new.piece) c.if-count-eq0.true
    ∙ append-nil given.bytes in
    Consumes-whole (g.R.Read.remaining c.args.reader.now) (g.R.Read.remaining c.next_piece.new.reader)
    (given.bytes ++ take c.in_ok-count.count c.next_piece.new.piece) (g.T.Taker.took c.args.taker.now c.loop.taker)
    (Consumes-trans (g.R.Read.remaining c.args.reader.now) (g.R.Read.remaining c.loop.reader)
    (g.R.Read.remaining c.next_piece.new.reader) given.bytes (take c.in_ok-count.count c.next_piece.new.piece)
    given.consumed read.bytes)
    (read.end c.if-count-eq0.true (omega arith))
    (subst (g.T.Taker.took c.args.taker.now c.loop.taker) (sym none) given.taken)

pub returns-then-count-left-clause-counted : goal.returns-then-count-left-clause-counted
returns-then-count-left-clause-counted g c =
    let given = c.loop.invariant.0 in
    let read = c.in_ok-count.ensures in
    consumed_long (g.R.Read.remaining c.args.reader.now) (g.R.Read.remaining c.next_piece.new.reader)
    (given.bytes ++ take c.in_ok-count.count c.next_piece.new.piece) (2 ^ 30)
    (Consumes-trans (g.R.Read.remaining c.args.reader.now) (g.R.Read.remaining c.loop.reader)
    (g.R.Read.remaining c.next_piece.new.reader) given.bytes (take c.in_ok-count.count c.next_piece.new.piece)
    given.consumed read.bytes)
    (let both = length-append given.bytes (take c.in_ok-count.count c.next_piece.new.piece) in
    let count = read.bound.1 in let all = given.counted in omega (arith, both, count, all))

pub loop-preserved : goal.loop-preserved
loop-preserved g c =
    let given = c.loop.invariant.0 in
    let read = c.in_ok-count.ensures in
    let more = take c.in_ok-count.count c.next_piece.new.piece in
    let same : take c.in_ok-count.count c.deref.result.now ≡ more = ap (take c.in_ok-count.count)
    (c.deref.ensures.value ∙ take_at c.next_piece.new.piece _ _ (omega arith)) in
    let both = length-append given.bytes more in
    let count = read.bound.1 in
    let all = given.counted in
    let had = given.grown in
    let step = c.in_ok-accept.ensures.counted in
    let size : length (take c.in_ok-count.count c.deref.result.now) ≡ length more = ap length same in (
      record {
        bytes = given.bytes ++ more;
        consumed = Consumes-trans (g.R.Read.remaining c.args.reader.now) (g.R.Read.remaining c.loop.reader)
            (g.R.Read.remaining c.next_piece.new.reader) given.bytes more given.consumed read.bytes;
        taken = subst (λ (x : List ℕ). g.T.Taker.took c.args.taker.now c.accept.new.self (given.bytes ++ x)) same
            (c.in_ok-accept.ensures.took c.args.taker.now given.bytes given.taken);
        counted = omega (arith, both, count, all);
        grown = omega (arith, had, step, size, both);
      },
      c.in_ok-accept.ensures.lent ∙ c.loop.invariant.1,
      c.loop.invariant.2,
    )

pub returns-in_err-accept-clause-counted : goal.returns-in_err-accept-clause-counted
returns-in_err-accept-clause-counted g c =
    counted_by_taker c.from_residual-in_err-accept.result (g.R.Read.remaining c.args.reader.now)
    c.in_err-accept.field-0.0 c.from_residual-in_err-accept.ensures.1 c.in_err-accept.ensures.output
