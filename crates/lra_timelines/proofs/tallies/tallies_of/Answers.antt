use Rattle.std.proofs.Common.{List, subst, arith, sym, ◌∙◌}
use Rattle.lra_course.specs.declared.listing.ListedMember.{ListedMember}
use Rattle.lra_timelines.specs.inner.Tallied.{Tallied}
use Rattle.std.proofs.lemmas.List.{take_all}
use Rattle.lra_timelines.proofs.Listed.{tallied_next}
use Rattle.lra_timelines.proofs.tallies.tallies_of.Goals as goal

pub loop-place-preserved : goal.loop-place-preserved
loop-place-preserved c =
    tallied_next c.args.listing.now.members c.loop-place.place c.in-Some.member c.loop-place.counts.items
    c.count.new.counts.items (sym c.member.ensures ∙ c.in-Some.is) c.in_ok-count-in-Some.ensures
    c.loop-place.invariant

pub returns : goal.returns
returns c =
    subst (λ (ms : List ListedMember). Tallied ms c.loop-place.counts.items)
    (take_all c.loop-place.place c.args.listing.now.members
    (omega (arith, c.loop-place-test.false, c.member_count-place-end.ensures)))
    c.loop-place.invariant
