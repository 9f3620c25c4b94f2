use Rattle.std.proofs.Common.{ap, ◌∙◌}
use Rattle.lra_runs.specs.inner.RequestReading.{request_line_of}
use Rattle.lra_runs.proofs.RequestLines.{request_found, request_line_of-line}
use Rattle.lra_runs.proofs.requests.read_request_line.Goals as goal

pub returns-clause-found : goal.returns-clause-found
returns-clause-found c = request_found c.args.bytes.now c.line_in.result c.line_in.ensures

pub returns-clause-all : goal.returns-clause-all
returns-clause-all c = λ l has same. c.line_in.ensures ∙ ap request_line_of same ∙ request_line_of-line l has
