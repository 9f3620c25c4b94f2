use Rattle.std.proofs.Common.{ap, ◌∙◌}
use Rattle.lra_ids.specs.Bearing.{instance_in}
use Rattle.lra_timelines.proofs.Naming.{where_none, id_unborne, id_unread}
use Rattle.lra_timelines.proofs.wanted.of_id.Goals as goal

pub returns-in_err-instance-clause-none : goal.returns-in_err-instance-clause-none
returns-in_err-instance-clause-none c = where_none _ (id_unborne c.args.text.now c.instance_in.result
    c.in_err-instance.was (c.instance_in.ensures ∙ ap instance_in c.as_bytes.ensures.value))

pub returns-in_err-action-clause-none : goal.returns-in_err-action-clause-none
returns-in_err-action-clause-none c =
    where_none _ (id_unread c.args.text.now c.in_ok-instance.instance c.instance_in.result c.read_id.result
    (c.instance_in.ensures ∙ ap instance_in c.as_bytes.ensures.value) c.in_ok-instance.was
    c.read_id.ensures.all c.in_err-action.was)
