use Rattle.lra_audits.proofs.Pieces.{IsFedOn-trans}
use Rattle.lra_audits.proofs.taking.AuditorTaker.accept.Goals as goal

pub returns-clause-took : goal.returns-clause-took
returns-clause-took c = λ first bytes had. IsFedOn-trans first c.args.self.now c.feed.new.self bytes c.args.piece.now
    had c.in_ok-feed.ensures.ok
