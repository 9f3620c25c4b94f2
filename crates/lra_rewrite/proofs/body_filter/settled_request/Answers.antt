use Rattle.std.proofs.Common.{rules, refl}
use Rattle.std.specs.Prelude.{IfOk}
use Rattle.lra_rewrite.specs.inner.Made.{meant_by}
use Rattle.lra_rewrite.specs.Requests.{MeansParts}
use Rattle.lra_rewrite.proofs.Settled.{limited_is, spelled_is, neither_is}
use Rattle.lra_rewrite.proofs.Others.{itself}
use Rattle.lra_rewrite.proofs.body_filter.settled_request.Goals as goal

pub returns-then-may_mean-clause-ok : goal.returns-then-may_mean-clause-ok
returns-then-may_mean-clause-ok c =
    rw (limited_is c.args.limit c.args.is_proxied c.args.request.now (search rules)) (search rules)

pub returns-then-may_spell-clause-ok : goal.returns-then-may_spell-clause-ok
returns-then-may_spell-clause-ok c =
    rw (spelled_is c.args.limit c.args.is_proxied c.args.request.now (search rules) (search rules)) (search rules)

pub returns-clause-ok : goal.returns-clause-ok
returns-clause-ok c =
    itself c.args.request.now _
    (neither_is c.args.limit c.args.is_proxied c.args.request.now (search rules) (search rules))
