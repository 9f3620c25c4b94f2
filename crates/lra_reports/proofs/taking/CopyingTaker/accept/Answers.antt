use Rattle.std.proofs.KnownBytes.{Appends-trans}
use Rattle.std.proofs.lemmas.Result.{on_ok_weaker}
use Rattle.lra_audits.proofs.Pieces.{IsFedOn-trans}
use Rattle.lra_reports.proofs.taking.CopyingTaker.accept.Goals as goal

pub returns-clause-took : goal.returns-clause-took
returns-clause-took g c = λ first bytes had.
    on_ok_weaker c.put.result (λ more. (
      IsFedOn-trans first.auditor.now c.args.self.now.auditor.now c.feed.new.self bytes c.args.piece.now had.0
          c.in_ok-feed.ensures.ok,
      Appends-trans (g.W.Write.contents first.writer.now) (g.W.Write.contents c.args.self.now.writer.now)
          (g.W.Write.contents c.put.new.writer) bytes c.args.piece.now had.1 more,
    )) c.put.ensures.written
