use Rattle.lra_front.proofs.Listing.{replies_listed}
use Rattle.lra_front.proofs.laws.replies_are_listed.Goals as goal

pub returns : goal.returns
returns g c = replies_listed g.C.Counter.gives g.met.C.Counter.keeps
