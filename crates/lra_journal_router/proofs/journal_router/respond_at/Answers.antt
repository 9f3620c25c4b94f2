use Rattle.std.proofs.Common.{inl}
use Rattle.lra_journal_router.proofs.journal_router.respond_at.Goals as goal

pub returns-in-None-clause-serves : goal.returns-in-None-clause-serves
returns-in-None-clause-serves g c = inl (c.in-None.ensures.none, c.respond.ensures.serves)
