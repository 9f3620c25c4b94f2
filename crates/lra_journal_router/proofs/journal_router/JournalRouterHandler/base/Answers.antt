use Rattle.std.proofs.Common.{◌∙◌}
use Rattle.lra_journal_router.specs.JournalRouters.{base_of}
use Rattle.lra_journal_router.proofs.journal_router.JournalRouterHandler.base.Goals as goal

pub returns : goal.returns
returns g c = c.base.ensures ∙ c.newest.ensures (base_of c.args.self.now.journal_set) c.args.self.now.kin
