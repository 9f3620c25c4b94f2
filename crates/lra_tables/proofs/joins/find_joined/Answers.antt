use Rattle.std.proofs.Common.{◌∙◌, ◌<◌, ◌≤◌, ℕ, length, find, sym, ap, arith}
use Rattle.std.proofs.lemmas.List.{take_all}
use Rattle.lra_tables.specs.inner.Kept.{staying_with}
use Rattle.lra_tables.specs.inner.Same.{found_same}
use Rattle.lra_tables.proofs.SameMembers.{found_already, find_on, find_here, find_end}
use Rattle.lra_tables.proofs.Staying.{staying_few}
use Rattle.lra_tables.proofs.joins.find_joined.Goals as goal

pub returns-then-is_same_member : goal.returns-then-is_same_member
returns-then-is_same_member c = λ history stands.
    sym (find_here (found_same history c.args.action c.args.uris.now) (staying_with c.args.index.now.key
    c.digest-digest.result history) c.loop-rank.rank c.in-Some.number (c.loop-rank.invariant history stands)
    (sym (c.in-Some.ensures ∙ c.requires history stands c.digest-digest.result c.loop-rank.rank))
    (sym (c.is_same_member.ensures history stands) ∙ c.if-is_same_member.true))
    ∙ ap (λ (digest : ℕ). find (found_same history c.args.action c.args.uris.now)
    (staying_with c.args.index.now.key digest history)) c.digest-digest.ensures
    ∙ found_already c.args.rows.now.snapshot history c.args.index.now.key c.args.action c.args.uris.now stands

pub returns-in-None : goal.returns-in-None
returns-in-None c = λ history stands.
    sym (find_end (found_same history c.args.action c.args.uris.now) (staying_with c.args.index.now.key
    c.digest-digest.result history) c.loop-rank.rank (c.loop-rank.invariant history stands)
    (sym (c.in-None.ensures ∙ c.requires history stands c.digest-digest.result c.loop-rank.rank)))
    ∙ ap (λ (digest : ℕ). find (found_same history c.args.action c.args.uris.now)
    (staying_with c.args.index.now.key digest history)) c.digest-digest.ensures
    ∙ found_already c.args.rows.now.snapshot history c.args.index.now.key c.args.action c.args.uris.now stands

pub loop-rank-preserved : goal.loop-rank-preserved
loop-rank-preserved c = λ history stands.
    find_on (found_same history c.args.action c.args.uris.now) (staying_with c.args.index.now.key c.digest-digest.result
    history) c.loop-rank.rank c.in-Some.number (c.loop-rank.invariant history stands)
    (sym (c.in-Some.ensures ∙ c.requires history stands c.digest-digest.result c.loop-rank.rank))
    (sym (c.is_same_member.ensures history stands) ∙ c.if-is_same_member.false)

pub returns : goal.returns
returns c = λ history stands.
    let few : length (staying_with c.args.index.now.key c.digest-digest.result history)
    < 18446744073709551616 = staying_few stands.version stands.is_address history stands.legal
    c.args.index.now.key c.digest-digest.result in
    let end : 18446744073709551615 ≤ c.loop-rank.rank = c.loop-rank-test.false in
    let past : length (staying_with c.args.index.now.key c.digest-digest.result history)
    ≤ c.loop-rank.rank = omega arith in
    sym (c.loop-rank.invariant history stands)
    ∙ ap (find (found_same history c.args.action c.args.uris.now)) (take_all c.loop-rank.rank
    (staying_with c.args.index.now.key c.digest-digest.result history) past)
    ∙ ap (λ (digest : ℕ). find (found_same history c.args.action c.args.uris.now)
    (staying_with c.args.index.now.key digest history)) c.digest-digest.ensures
    ∙ found_already c.args.rows.now.snapshot history c.args.index.now.key c.args.action c.args.uris.now stands
