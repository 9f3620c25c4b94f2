use Rattle.std.proofs.Common.{refl, sym, ◌∙◌}
use Rattle.lra_lines.proofs.Naming.{next_named_none}
use Rattle.lra_runs.specs.inner.RequestReading.{request_name, request_names}
use Rattle.lra_runs.proofs.requests.request_name.Goals as goal

pub returns-in_err-from_name : goal.returns-in_err-from_name
returns-in_err-from_name c =
    c.from_residual-in_err-from_name.ensures ∙ sym (next_named_none request_name request_names c.args.fields
    c.in_ok-word.left c.in_ok-word.word.now c.in_ok-word.word.now c.from_name.result c.in_ok-word.ensures refl
    c.from_name.ensures.only c.in_err-from_name.was)
