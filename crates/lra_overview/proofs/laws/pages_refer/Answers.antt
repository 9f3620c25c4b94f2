use Rattle.lra_overview.proofs.Referring.{home_refers, action_refers, plain_refers}
use Rattle.lra_overview.proofs.laws.pages_refer.Goals as goal

pub returns : goal.returns
returns c = record { home = home_refers; action = action_refers; plain = plain_refers }
