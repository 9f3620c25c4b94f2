use Rattle.std.proofs.Common.{◌-◌, ◌<◌, ◌∙◌, refl, length, arith}
use Rattle.std.proofs.lemmas.List.{drop-set-lt}
use Rattle.lra_timers.proofs.Matches.{IsWonFrom-down}
use Rattle.lra_timers.proofs.tournament.play.Goals as goal

pub loop-at-init : goal.loop-at-init
loop-at-init c = (refl, record { upward = λ j positive above inner. absurd (omega arith) })

pub loop-at-preserved : goal.loop-at-preserved
loop-at-preserved c =
    let inside : c.loop-at.at - 1 < length c.loop-at.nodes = omega arith in (
      drop-set-lt c.args.width c.loop-at.nodes (c.loop-at.at - 1) c.winner.result (omega arith) ∙ c.loop-at.invariant.0,
      IsWonFrom-down c.loop-at.nodes c.args.width c.loop-at.at (c.loop-at.at - 1) c.winner.result (omega arith) inside
          (omega arith) c.loop-at.invariant.1 c.winner.ensures,
    )

pub returns-clause-won : goal.returns-clause-won
returns-clause-won c = λ j positive inner. c.loop-at.invariant.1.upward j positive (omega arith) inner
