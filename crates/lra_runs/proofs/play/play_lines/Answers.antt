use Rattle.std.proofs.Common.{refl, ◌≡◌, ◌++◌, ◌<◌, ℕ, List, Option, length, sym, ap, subst, ◌∙◌, arith}
use Rattle.std.proofs.lemmas.Bool.{eqb-true}
use Rattle.std.proofs.lemmas.List.{take-append-drop, length_push, length-append, nil_from_length}
use Rattle.lra_runs.specs.Play.{PlaysUpToLine}
use Rattle.lra_runs.specs.inner.Players.{stage_of, ComesTo}
use Rattle.lra_runs.proofs.Playing.{play_fault, played_more, plays_whole, stops_here, none_torn, none_at, none_playable}
use Rattle.lra_runs.proofs.play.play_lines.Goals as goal

pub returns-in_default-clause-line : goal.returns-in_default-clause-line
returns-in_default-clause-line g c = λ before begun n e.
    let now = g.W.Write.contents c.loop-rest.writer in
    let rest = c.loop-rest.rest.now in
    stops_here c.args.script.now before now c.loop-rest.playing c.loop-rest.is_refused c.loop-rest.number n rest _
    (c.loop-rest.invariant.played before begun) (sym c.is_empty.ensures ∙ c.loop-rest-test.true)
    (none_torn (stage_of c.loop-rest.playing) rest c.in_default.ensures.none) refl e

pub returns-in_default-read_request_line-clause-line : goal.returns-in_default-read_request_line-clause-line
returns-in_default-read_request_line-clause-line g c = λ before begun n e.
    let now = g.W.Write.contents c.loop-rest.writer in
    let rest = c.loop-rest.rest.now in
    let none = none_at (stage_of c.loop-rest.playing) rest c.in-Some.end c.in-Some.ensures.found.1
    (λ l has same. c.in_default-read_request_line.ensures.all l has (c.split_at.ensures.front ∙ same)) in
    stops_here c.args.script.now before now c.loop-rest.playing c.loop-rest.is_refused c.loop-rest.number n rest _
    (c.loop-rest.invariant.played before begun) (sym c.is_empty.ensures ∙ c.loop-rest-test.true) none refl e

pub returns-in_default-2-clause-line : goal.returns-in_default-2-clause-line
returns-in_default-2-clause-line g c = λ before begun n e.
    let now = g.W.Write.contents c.loop-rest.writer in
    let rest = c.loop-rest.rest.now in
    let line = c.in-Some-read_request_line.line in
    let next = g.W.Write.contents c.play.new.writer in
    let played = subst (ComesTo (stage_of c.loop-rest.playing) line (stage_of c.play.new.self) now next)
    c.in_default-2.is c.in_ok-was_refused.ensures.played in
    let none = none_playable (stage_of c.loop-rest.playing) rest c.in-Some.end line c.in-Some.ensures.found.1
    (λ l has same. c.in-Some-read_request_line.ensures.all l has (c.split_at.ensures.front ∙ same)) played.0 in
    subst (λ (w : Option (List ℕ)). PlaysUpToLine c.args.script.now n before w) (sym played.1)
    (stops_here c.args.script.now before now c.loop-rest.playing c.loop-rest.is_refused c.loop-rest.number n rest _
    (c.loop-rest.invariant.played before begun) (sym c.is_empty.ensures ∙ c.loop-rest-test.true) none refl e)

pub loop-rest-preserved : goal.loop-rest-preserved
loop-rest-preserved g c =
    let now = g.W.Write.contents c.loop-rest.writer in
    let next = g.W.Write.contents c.play.new.writer in
    let rest = c.loop-rest.rest.now in
    let front = c.split_at.result.0.now in
    let others = c.split_at.result.1.now in
    let found = c.in-Some.ensures.found in
    let read = c.in-Some-read_request_line.ensures.found in
    let parts : rest ≡ front ++ others =
    (let front_is = c.split_at.ensures.front in let back_is = c.split_at.ensures.back in
    let joined = take-append-drop c.in-Some.end rest in cc) in
    let some : 0 < length front = omega (
      arith,
      ap length c.split_at.ensures.front,
      ap length found.1.ends,
      length_push found.1.body 10,
    ) in
    record {
      setting = c.in_ok-was_refused.ensures.setting;
      within = omega (arith, some, c.loop-rest.invariant.within, ap length parts, length-append front others);
      played = λ before begun.
          played_more c.args.script.now before now next c.loop-rest.playing c.play.new.self c.loop-rest.is_refused
          c.in-Some-2.was_refused c.loop-rest.number rest front others c.in-Some-read_request_line.line
          (c.loop-rest.invariant.played before begun)
          read.0 parts read.1
          (subst (ComesTo (stage_of c.loop-rest.playing) c.in-Some-read_request_line.line (stage_of c.play.new.self) now
          next) c.in-Some-2.is c.in_ok-was_refused.ensures.played);
    }

pub returns-clause-ok : goal.returns-clause-ok
returns-clause-ok g c = λ before begun.
    let rest = c.loop-rest.rest.now in
    plays_whole c.args.script.now before (g.W.Write.contents c.loop-rest.writer) c.loop-rest.playing
    c.loop-rest.is_refused c.loop-rest.number c.status.result rest (c.loop-rest.invariant.played before begun)
    (nil_from_length rest (eqb-true _ _ (sym c.is_empty.ensures ∙ c.loop-rest-test.false))) c.status.ensures

pub returns-in_err-was_refused-clause-fault : goal.returns-in_err-was_refused-clause-fault
returns-in_err-was_refused-clause-fault g c = play_fault c.from_residual.result c.in_err-was_refused.field-0.0
    c.from_residual.ensures.1 c.in_err-was_refused.ensures.fault
