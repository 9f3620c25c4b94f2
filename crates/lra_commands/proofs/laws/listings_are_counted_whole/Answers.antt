use Rattle.lra_commands.proofs.ToldWhole.{listings_are_counted_whole}
use Rattle.lra_commands.proofs.laws.listings_are_counted_whole.Goals as goal

pub returns : goal.returns
returns c = listings_are_counted_whole
