use Rattle.lra_auditor.proofs.OneVerdict.{one_verdict}
use Rattle.lra_auditor.proofs.laws.bytes_have_one_verdict.Goals as goal

pub returns : goal.returns
returns c = one_verdict
