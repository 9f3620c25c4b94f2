use Rattle.std.proofs.Common.{◌≡◌}
use Rattle.std.specs.Prelude.{string_bytes}
use Rattle.std.proofs.lemmas.Result.{IfOk-weaker}
use Rattle.lra_journal_folder.specs.GivenUp as spec
use Rattle.lra_journal_folder.proofs.given_up.given_up_line.Goals as goal

pub returns : goal.returns
returns c = IfOk-weaker c.format.result _ (λ line. string_bytes line ≡ spec.line c.args.given)
    (λ line h. rw (← c.number-journal.ensures.value) h) c.format.ensures.ok
