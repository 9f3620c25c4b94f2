use Rattle.std.proofs.Common.{◌++◌, List, ℕ, subst}
use Rattle.std.specs.Prelude.{Ok}
use Rattle.std.specs.Option.{option_map_or}
use Rattle.std.specs.Io.KnownBytes.{Appends}
use Rattle.lra_runs.specs.Play.{answer_line, errand_line}
use Rattle.lra_runs.proofs.Performing.{marked_last}
use Rattle.lra_runs.proofs.player.perform_block.Goals as goal

pub returns-clause-written : goal.returns-clause-written
returns-clause-written g c =
    let before = g.W.Write.contents c.args.writer.now in
    let now = g.W.Write.contents c.put_block.new.writer in
    let b = c.args.block in
    let lines = marked_last c.commit-errand.new.self c.args.coordinator.now.history b.entries c.lawful.ensures
    c.commit-errand.ensures.grown.history in
    subst (λ (x : List ℕ). Appends before now (option_map_or errand_line b.errand (answer_line (Ok b.told)) ++ x)) lines
    c.in_ok-put_block.ensures.written
