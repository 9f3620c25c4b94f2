use Rattle.std.proofs.Common.{◌≡◌, ℕ, ◌+◌, ◌-◌, List, take, drop, ap, sym, ◌∙◌, subst, arith, Ok}
use Rattle.lra_steps.specs.declared.connection.Step.{Step}
use Rattle.lra_steps.specs.History.{History, took}
use Rattle.lra_steps.specs.Steps.{StepsTo, Takes}
use Rattle.lra_steps.proofs.PieceLemmas.{passes, finishes, follows_took, taken_more}
use Rattle.lra_steps.proofs.serve.feed.Goals as goal

pub loop-alloc-smaller-in-RequestReady : goal.loop-alloc-smaller-in-RequestReady
loop-alloc-smaller-in-RequestReady g c =
    let s = subst (λ (step : Step). StepsTo step c.loop-alloc.connection c.next.new.self) c.in-RequestReady.is
    c.in_ok-next.ensures in
    let p = passes g.A.Handler.State g.row.K.Denot g.A.Handler.base_of g.A.Handler.responds g.K.Clock.tells
    g.met.A.Handler.stays c.loop-alloc.connection c.next.new.self c.answer_request.new.connection
    (g.A.Handler.sight c.loop-alloc.handler) (g.A.Handler.sight c.answer_request.new.handler) c.loop-alloc.clock
    c.answer_request.new.clock c.answer_request.result s c.answer_request.ensures in
    omega (arith, p.shorter)

pub loop-alloc-preserved-in-RequestReady : goal.loop-alloc-preserved-in-RequestReady
loop-alloc-preserved-in-RequestReady g c =
    let s = subst (λ (step : Step). StepsTo step c.loop-alloc.connection c.next.new.self) c.in-RequestReady.is
    c.in_ok-next.ensures in
    let p = passes g.A.Handler.State g.row.K.Denot g.A.Handler.base_of g.A.Handler.responds g.K.Clock.tells
    g.met.A.Handler.stays c.loop-alloc.connection c.next.new.self c.answer_request.new.connection
    (g.A.Handler.sight c.loop-alloc.handler) (g.A.Handler.sight c.answer_request.new.handler) c.loop-alloc.clock
    c.answer_request.new.clock c.answer_request.result s c.answer_request.ensures in
    let before = c.loop-alloc.invariant in
    record {
      within = before.within;
      none = p.none;
      base = p.base ∙ before.base ∙ sym p.same;
      own = p.base ∙ before.own;
      follows = λ v k f. p.follows v k (before.follows v k f);
      instance = p.instance ∙ before.instance;
      sent = p.sent ∙ before.sent;
      closed = p.closed ∙ before.closed;
      taken = p.taken ∙ before.taken;
    }

pub returns-in-Ended : goal.returns-in-Ended
returns-in-Ended g c = λ v k f.
    let s = subst (λ (step : Step). StepsTo step c.loop-alloc.connection c.next.new.self) c.in-Ended.is
    c.in_ok-next.ensures in
    let p = finishes g.A.Handler.State g.row.K.Denot g.A.Handler.base_of g.A.Handler.responds g.K.Clock.tells
    c.in-Ended.end c.loop-alloc.connection c.next.new.self (g.A.Handler.sight c.loop-alloc.handler)
    c.loop-alloc.clock s in
    let before = c.loop-alloc.invariant in
    record {
      follows = p.follows v k (before.follows v k f);
      instance = p.instance ∙ before.instance;
      base = p.base ∙ before.own;
      sent = p.sent ∙ before.sent;
      closed = p.closed ∙ before.closed;
      taken = (c.loop-alloc.at, p.taken ∙ before.taken);
      comes = p.ended;
    }

pub loop-alloc-preserved : goal.loop-alloc-preserved
loop-alloc-preserved g c =
    let h = c.loop-alloc.connection in
    let new = c.take.new.self in
    let at = c.loop-alloc.at in
    let count = c.min-count.result in
    let piece = c.args.piece.now in
    let bytes : List ℕ = take ((at + count) - at) (drop at piece) in
    let s = subst (λ (step : Step). StepsTo step h c.next.new.self) c.in-NeedsInput.is c.in_ok-next.ensures in
    let t = subst (λ b. Takes (Ok b) bytes c.next.new.self new) c.if-not-branch.false
    c.in_ok-take-in-NeedsInput.ensures in
    let e : new ≡ took h bytes = t.1 ∙ ap (λ (g : History). took g bytes) s.4 in
    let before = c.loop-alloc.invariant in
    record {
      within = omega arith;
      none = ap (λ (g : History). g.stands) e ∙ before.none;
      base = ap (λ (g : History). g.base) e ∙ before.base;
      own = ap (λ (g : History). g.base) e ∙ before.own;
      follows = λ v k f. follows_took g.A.Handler.State g.row.K.Denot g.A.Handler.base_of g.A.Handler.responds
          g.K.Clock.tells v (g.A.Handler.sight c.loop-alloc.handler) k c.loop-alloc.clock h bytes new e
          (before.follows v k f);
      instance = ap (λ (g : History). g.instance) e ∙ before.instance;
      sent = ap (λ (g : History). g.sent) e ∙ before.sent;
      closed = ap (λ (g : History). g.closed) e ∙ before.closed;
      taken = taken_more c.args.connection.now.taken h.taken new.taken piece at count before.taken
          (ap (λ (g : History). g.taken) e);
    }
