use Rattle.std.proofs.Common.{ℕ, ◌++◌, ◌∙◌, ap, map, string_bytes, get_or, arith}
use Rattle.std.specs.Prelude.{option_to_list}
use Rattle.std.proofs.lemmas.Result.{IfOk-weaker}
use Rattle.lra_model.specs.declared.status.MemberStatus.TheVariants as member
use Rattle.lra_timelines.specs.Lines.{statuses, counted, count_of, place_of}
use Rattle.lra_timelines.proofs.Listed.{words_more, words_whole}
use Rattle.lra_timelines.proofs.tallies.tally_text.Goals as goal

pub loop-place-preserved : goal.loop-place-preserved
loop-place-preserved c = λ ms tallied.
    words_more (λ s. counted s (count_of ms c.args.action (place_of s))) statuses c.loop-place.place member.Active
    (map string_bytes c.loop-place.words.items) (map string_bytes c.push_counted.new.words.items)
    (omega (arith, c.loop-place-test.true)) (c.loop-place.invariant ms tallied)
    (c.in_ok-push_counted.ensures
    ∙ ap (λ (n : ℕ). map string_bytes c.loop-place.words.items ++ option_to_list
    (counted (get_or statuses c.loop-place.place member.Active) n)) (c.in_ok-count.ensures ms tallied))

pub returns : goal.returns
returns c = λ ms tallied.
    IfOk-weaker c.listed_words.result _ _
    (λ text is. is ∙ words_whole (count_of ms c.args.action) c.deref.result.now c.loop-place.words.items
    c.loop-place.place c.deref.ensures.value (c.loop-place.invariant ms tallied)
    (omega (arith, c.loop-place-test.false)))
    c.listed_words.ensures
