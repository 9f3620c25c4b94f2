use Rattle.std.proofs.Common.{◌≡◌, Option, IfSome, sym, subst, rules}
use Rattle.lra_rotation.specs.declared.action.RotationAction.{RotationAction}
use Rattle.lra_rotation.specs.Deciding as deciding
use Rattle.lra_rotation.specs.Laws.{Suits}
use Rattle.lra_rotation.proofs.Suited.{decide_suits}
use Rattle.lra_rotation.proofs.rotation.Rotation.decide.Goals as goal

pub returns-clause-suits : goal.returns-clause-suits
returns-clause-suits c =
    let e : c.or-5.result ≡ deciding.decide c.args.self.now c.args.moment c.args.is_own c.args.observations.now =
    search rules in
    subst (λ (o : Option RotationAction). IfSome o (Suits c.args.self.now c.args.observations.now)) (sym e)
    (decide_suits c.args.self.now c.args.moment c.args.is_own c.args.observations.now)
