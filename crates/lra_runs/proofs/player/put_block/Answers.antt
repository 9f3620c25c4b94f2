use Rattle.std.proofs.Common.{List, ℕ, ap, subst, ◌∙◌}
use Rattle.std.specs.Prelude.{Ok}
use Rattle.std.specs.List.{flat_map}
use Rattle.std.specs.Option.{option_map_or}
use Rattle.std.specs.Io.KnownBytes.{Appends}
use Rattle.std.proofs.KnownBytes.{Appends-trans}
use Rattle.std.proofs.lemmas.Result.{on_ok_weaker}
use Rattle.lra_lines.specs.Lines.{lines_of}
use Rattle.lra_runs.specs.Play.{answer_line, errand_line, marked}
use Rattle.lra_runs.proofs.player.put_block.Goals as goal

pub returns-clause-written : goal.returns-clause-written
returns-clause-written g c =
    let before = g.W.Write.contents c.args.writer.now in
    let mid = g.W.Write.contents c.put.new.writer in
    let now = g.W.Write.contents c.put-2.new.writer in
    let b = c.args.block.now in
    let first = subst (Appends before mid) (c.as_bytes.ensures.value ∙ c.in_ok-text.ensures)
    c.in_ok-put.ensures.written in
    let lines = c.deref.ensures.value ∙ c.in_ok-lines.ensures ∙ ap (λ (t : List ℕ). flat_map marked (lines_of t))
    c.text.ensures.lines in
    let whole = Appends-trans before mid now (option_map_or errand_line b.errand (answer_line (Ok b.told))) _ first in
    on_ok_weaker c.put-2.result (λ then. whole (subst (Appends mid now) lines then)) c.put-2.ensures.written
