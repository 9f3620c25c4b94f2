use Rattle.std.proofs.Common.{take, drop, ap, ◌∙◌, arith}
use Rattle.lra_timelines.proofs.Naming.{where_none, too_short, path_lacks, end_lacks}
use Rattle.lra_timelines.proofs.wanted.id_at_end.Goals as goal

pub returns-in_err-at-clause-none : goal.returns-in_err-at-clause-none
returns-in_err-at-clause-none c = where_none _ (too_short c.args.uri.now (omega (arith, c.in_err-at.ensures)))

pub returns-in_err-_base-clause-none : goal.returns-in_err-_base-clause-none
returns-in_err-_base-clause-none c =
    where_none _ (path_lacks c.args.uri.now c.split_at.result.0.now c.in_ok-at.at (omega (arith, c.in_ok-at.ensures))
    (c.split_at.ensures.front ∙ ap (take c.in_ok-at.at) c.as_bytes.ensures.value)
    c.in_err-_base.ensures)

pub returns-in-Err-clause-none : goal.returns-in-Err-clause-none
returns-in-Err-clause-none c =
    end_lacks c.args.uri.now c.split_at.result.1.now c.in_ok-at.at (omega (arith, c.in_ok-at.ensures))
    (c.split_at.ensures.back ∙ ap (drop c.in_ok-at.at) c.as_bytes.ensures.value)
    c.in-Err.ensures.cases.0
