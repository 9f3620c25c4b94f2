use Rattle.std.proofs.Common.{◌∙◌, sym, ap}
use Rattle.std.specs.Prelude.{option_map}
use Rattle.lra_runs.specs.inner.Players.{holding, placed}
use Rattle.lra_runs.proofs.Lined.{played_by, refused_by}
use Rattle.lra_runs.proofs.player.Player.play_with.Goals as goal

pub returns-in_default-clause-played : goal.returns-in_default-clause-played
returns-in_default-clause-played g c =
    refused_by c.args.self.now c.args.line.now (g.W.Write.contents c.args.writer.now)
    (g.W.Write.contents c.put_refusal.new.writer)
    (sym (c.command_of.ensures (holding c.args.self.now.held) c.errand_for-errand.ensures)
    ∙ ap (option_map placed) c.in_default.is) c.in_ok-put_refusal.ensures.written

pub returns-clause-played : goal.returns-clause-played
returns-clause-played g c =
    played_by c.args.self.now c.keep.new.self c.args.line.now c.in-Some.command c.perform.new.coordinator
    c.in_ok-performed.performed (g.W.Write.contents c.args.writer.now) (g.W.Write.contents c.perform.new.writer)
    (sym (c.command_of.ensures (holding c.args.self.now.held) c.errand_for-errand.ensures)
    ∙ ap (option_map placed) c.in-Some.is) (sym c.is_suited.ensures ∙ c.if-not-is_suited.false)
    c.in_ok-performed.ensures.performed
    c.in_ok-keep.ensures.coordinator c.in_ok-keep.ensures.held
