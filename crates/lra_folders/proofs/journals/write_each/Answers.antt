use Rattle.std.proofs.Common.{◌∙◌, ap, arith, subst, List, String, Global, string_bytes}
use Rattle.std.proofs.lemmas.List.{take_all}
use Rattle.lra_words.specs.Asked.{texts}
use Rattle.lra_folders.specs.Folders.{path_of, TellsEach}
use Rattle.lra_folders.proofs.Each.{each_more}
use Rattle.lra_folders.proofs.journals.write_each.Goals as goal

pub loop-place-preserved : goal.loop-place-preserved
loop-place-preserved g c = (
  λ deed bytes all.
      each_more deed bytes c.args.folder.now c.args.names.now c.args.journals.now c.loop-place.place
      c.index-names-place.result c.index-journals-place.result c.as_str-in-loop-place.result.now _ _ _
      (omega (arith, c.loop-place-test.true, c.loop-place.auto.place-end)) c.index-names-place.is
      c.index-journals-place.is
      (c.as_str-in-loop-place.ensures.value ∙ c.in_ok-path.ensures ∙ ap (path_of c.args.folder.now)
      c.as_str.ensures.value) all
      (c.loop-place.invariant.0 deed bytes all) c.in_ok-write_next.ensures.next,
  (let more = c.in_ok-write_next.ensures.more in let before = c.loop-place.invariant.1 in omega (arith, more, before)),
)

pub returns-clause-each : goal.returns-clause-each
returns-clause-each g c = λ deed bytes all.
    subst (λ (words : List (String Global)). TellsEach deed bytes c.args.folder.now (texts words)
    (record {
      written = g.W.Write.contents c.args.writer.now;
      told = string_bytes c.args.told.now;
      tally =
          c.args.tally.now;
    })
    (record {
      written = g.W.Write.contents c.loop-place.writer;
      told = string_bytes c.loop-place.told;
      tally =
          c.loop-place.tally;
    }))
    (take_all c.loop-place.place c.args.names.now (omega (arith, c.loop-place-test.false, c.loop-place.auto.place-end)))
    (c.loop-place.invariant.0 deed bytes all)
