use Rattle.std.proofs.Common.{◌≡◌, ℕ, zero, suc, refl, ◌+◌, [], ◌++◌, take, drop, length, flat_map, Vec, Global, Option}
use Rattle.std.proofs.Common.{ap, sym, ◌∙◌, subst, arith, inl, inr, append-nil}
use Rattle.std.proofs.lemmas.List.{take_all}
use Rattle.lra_front.specs.declared.stream.StreamEnd.{StreamEnd}
use Rattle.lra_steps.specs.History.{History}
use Rattle.lra_steps.specs.inner.Feeding.{Fed}
use Rattle.lra_steps.proofs.PieceLemmas.{follows_fresh, follows_went, follows_finished, handed_all, none_left}
use Rattle.lra_steps.proofs.PieceLemmas.{taken_rest, up_to, serves}
use Rattle.lra_steps.proofs.serve.serve_through.Goals as goal

none_taken : (n : ℕ) → take {A = ℕ} n [] ≡ []
none_taken zero = refl
none_taken (suc n) = refl

pub loop-piece-init : goal.loop-piece-init
loop-piece-init g c = record {
  follows = follows_fresh g.A.Handler.State g.row.K.Denot g.A.Handler.base_of g.A.Handler.responds g.K.Clock.tells
      (g.A.Handler.sight c.args.handler.now) c.args.clock.now c.args.connection.now c.requires;
  instance = refl;
  base = refl;
  closed = c.requires.closed;
  taken = c.requires.taken;
  sent = sym (ap (λ xs. c.args.sent.now.items ++ xs) c.requires.sent ∙ append-nil c.args.sent.now.items);
}

pub returns-in-Some : goal.returns-in-Some
returns-in-Some g c =
    let K = g.row.K.Denot in
    let S = g.A.Handler.State in
    let base_of = g.A.Handler.base_of in
    let responds = g.A.Handler.responds in
    let tells = g.K.Clock.tells in
    let v = g.A.Handler.sight c.args.handler.now in
    let k = c.args.clock.now in
    let w = g.A.Handler.sight c.feed.new.handler in
    let l = c.feed.new.clock in
    let bytes = λ (piece : Vec ℕ Global). piece.items in
    let pieces = c.args.pieces.now in
    let before = c.args.sent.now.items in
    let old = c.loop-piece.connection in
    let fed = c.feed.new.connection in
    let h = c.flush.new.connection in
    let inv = c.loop-piece.invariant in
    let f = subst (λ (o : Option StreamEnd). Fed base_of responds tells o c.as_slice.result.now v k old fed w l)
    c.in-Some.is (c.in_ok-end.ensures v k inv.follows) in
    let e = c.in_ok-flush.ensures.connection in
    let rest = drop f.taken.0 c.as_slice.result.now in
    let came = taken_rest old.taken fed.taken c.as_slice.result.now f.taken.0 f.taken.1
    ∙ ap (λ xs. old.taken ++ xs) c.as_slice.ensures.value in
    let back = rest ++ flat_map bytes (drop (c.loop-piece.piece-index + 1) pieces) in
    let whole = up_to bytes pieces c.loop-piece.piece-index c.piece-item.result old.taken fed.taken rest
    c.loop-piece-test.true c.piece-item.is inv.taken came in
    let out = handed_all fed before c.loop-piece.sent.items c.flush.new.sent.items
    (inv.sent ∙ ap (λ xs. before ++ xs) (sym f.sent)) c.in_ok-flush.ensures.sent in
    serves S K base_of responds tells c.args.connection.now.instance (base_of v) v w k l h c.in-Some.end
    (flat_map bytes pieces) back before c.flush.new.sent.items c.served.ensures
    (follows_went S K base_of responds tells v w k l fed (length fed.out) h e f.follows)
    (ap (λ (g : History). g.instance) e ∙ f.instance ∙ inv.instance)
    (ap (λ (g : History). g.base) e ∙ f.base ∙ inv.base ∙ c.requires.base) (ap (λ (g : History). g.ended) e ∙ f.comes)
    (ap (λ (g : History). g.out) e ∙ none_left fed.out)
    (inl (ap (λ (g : History). g.closed) e ∙ f.closed ∙ inv.closed)) (ap (λ (g : History). g.taken ++ back) e ∙ whole)
    (out ∙ ap (λ (g : History). before ++ g.sent) (sym e))

pub returns : goal.returns
returns g c =
    let K = g.row.K.Denot in
    let S = g.A.Handler.State in
    let base_of = g.A.Handler.base_of in
    let responds = g.A.Handler.responds in
    let tells = g.K.Clock.tells in
    let v = g.A.Handler.sight c.args.handler.now in
    let k = c.args.clock.now in
    let w = g.A.Handler.sight c.feed-2.new.handler in
    let l = c.feed-2.new.clock in
    let bytes = λ (piece : Vec ℕ Global). piece.items in
    let pieces = c.args.pieces.now in
    let before = c.args.sent.now.items in
    let old = c.finish.new.self in
    let fed = c.feed-2.new.connection in
    let h = c.flush-2.new.connection in
    let inv = c.loop-piece.invariant in
    let shut = c.finish.ensures in
    let follows = follows_finished S K base_of responds tells v (g.A.Handler.sight c.loop-piece.handler) k
    c.loop-piece.clock c.loop-piece.connection old shut inv.follows in
    let f = subst (λ (o : Option StreamEnd). Fed base_of responds tells o [] v k old fed w l) c.in-Some-end.is
    (c.in_ok-end-2.ensures v k follows) in
    let e = c.in_ok-flush-2.ensures.connection in
    let came : fed.taken ≡ old.taken = f.taken.1 ∙ ap (λ xs. old.taken ++ xs) (none_taken f.taken.0)
    ∙ append-nil old.taken in
    let whole = append-nil h.taken ∙ ap (λ (g : History). g.taken) e ∙ came ∙ ap (λ (g : History). g.taken) shut
    ∙ inv.taken
    ∙ ap (flat_map bytes) (take_all c.loop-piece.piece-index pieces (omega arith)) in
    let out = handed_all fed before c.loop-piece.sent.items c.flush-2.new.sent.items
    (inv.sent ∙ ap (λ (g : History). before ++ g.sent) (sym shut) ∙ ap (λ xs. before ++ xs) (sym f.sent))
    c.in_ok-flush-2.ensures.sent in
    serves S K base_of responds tells c.args.connection.now.instance (base_of v) v w k l h c.in-Some-end.end
    (flat_map bytes pieces) [] before c.flush-2.new.sent.items c.served-2.ensures
    (follows_went S K base_of responds tells v w k l fed (length fed.out) h e f.follows)
    (ap (λ (g : History). g.instance) e ∙ f.instance ∙ ap (λ (g : History). g.instance) shut ∙ inv.instance)
    (ap (λ (g : History). g.base) e ∙ f.base ∙ ap (λ (g : History). g.base) shut ∙ inv.base ∙ c.requires.base)
    (ap (λ (g : History). g.ended) e ∙ f.comes) (ap (λ (g : History). g.out) e ∙ none_left fed.out)
    (inr refl) whole (out ∙ ap (λ (g : History). before ++ g.sent) (sym e))
