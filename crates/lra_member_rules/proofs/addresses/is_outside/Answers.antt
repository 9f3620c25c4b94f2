use Rattle.std.proofs.Common.{rules}
use Rattle.serde_json.specs.View.{view}
use Rattle.lra_member_rules.proofs.Joins.{no_value, unfit_value, fit_value}
use Rattle.lra_member_rules.proofs.addresses.is_outside.Goals as goal

pub returns-in_default : goal.returns-in_default
returns-in_default c =
    no_value c.args.rules.now _ c.args.join.now.body c.requires (rw c.in_default.is at c.in_ok-body.ensures.ok)

pub returns-then-not-fits : goal.returns-then-not-fits
returns-then-not-fits c =
    unfit_value c.args.rules.now _ c.args.join.now.body (view c.in-Some.body.now) c.requires
    (rw c.in-Some.is at c.in_ok-body.ensures.ok) (search rules)

pub returns : goal.returns
returns c =
    fit_value c.args.rules.now _ c.args.join.now.body (view c.in-Some.body.now) c.in_ok-let_all.field-0 c.requires
    (rw c.in-Some.is at c.in_ok-body.ensures.ok) (search rules) c.in_ok-let_all.ensures
