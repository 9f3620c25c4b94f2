use Rattle.std.proofs.Common.{◌<◌, ◌/◌, ◌∙◌, length, arith, length-set}
use Rattle.std.proofs.lemmas.List.{drop-set-add, drop-set-lt, get_or_default}
use Rattle.lra_timers.specs.Order.{last}
use Rattle.lra_timers.specs.declared.deadline.Deadline.{Deadline}
use Rattle.lra_timers.proofs.Orders.{deadline_from_eq}
use Rattle.lra_timers.proofs.Matches.{IsWonBut-leaf, IsWonBut-up, IsWon-found}
use Rattle.lra_timers.proofs.tournament.enter.Goals as goal

pub loop-at-init : goal.loop-at-init
loop-at-init c = (
  omega arith,
  omega arith,
  drop-set-add c.args.width c.args.nodes.now c.args.place c.args.deadline,
  IsWonBut-leaf c.args.nodes.now c.args.width _ c.args.deadline (omega arith) c.requires.won,
)

pub returns-then-eq-clause-won : goal.returns-then-eq-clause-won
returns-then-eq-clause-won c =
    let inside : c.loop-at.at / 2 < length c.loop-at.nodes = omega (arith, length-set {A = Deadline}) in
    let here = get_or_default c.loop-at.nodes (c.loop-at.at / 2) last _ inside ∙ deadline_from_eq _ _ c.if-eq.ensures in
    IsWon-found c.loop-at.nodes c.args.width (c.loop-at.at / 2) c.winner-winner.result c.loop-at.invariant.3 here
    c.winner-winner.ensures

pub loop-at-preserved : goal.loop-at-preserved
loop-at-preserved c =
    let inside : c.loop-at.at / 2 < length c.loop-at.nodes = omega (arith, length-set {A = Deadline}) in (
      omega arith,
      omega arith,
      drop-set-lt c.args.width c.loop-at.nodes (c.loop-at.at / 2) c.winner-winner.result (omega arith)
          ∙ c.loop-at.invariant.2,
      IsWonBut-up c.loop-at.nodes c.args.width (c.loop-at.at / 2) c.winner-winner.result (omega arith) inside
          c.loop-at.invariant.3 c.winner-winner.ensures,
    )
