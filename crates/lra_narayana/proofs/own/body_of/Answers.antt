use Rattle.serde_json.specs.View.{view, members_view}
use Rattle.serde_json.specs.declared.value.Value.{Object}
use Rattle.serde_json.proofs.Views.{view-Object}
use Rattle.lra_narayana.proofs.Objects.{written_is}
use Rattle.lra_narayana.proofs.own.body_of.Goals as goal

pub returns : goal.returns
returns c = λ fits. written_is c.in_ok-text.text (view (Object c.args.members)) (members_view c.args.members.entries)
    (view-Object c.args.members) c.in_ok-text.ensures.reads_back fits
