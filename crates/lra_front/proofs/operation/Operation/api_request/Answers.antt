use Rattle.std.proofs.Common.{rules}
use Rattle.serde_json.specs.Find.{as_object}
use Rattle.serde_json.specs.View.{view}
use Rattle.lra_front.proofs.Requesting.{api_request_of_action}
use Rattle.lra_front.proofs.operation.Operation.api_request.Goals as goal

pub returns-in-Ok-find_action : goal.returns-in-Ok-find_action
returns-in-Ok-find_action c =
    api_request_of_action c.args.instance c.args.base.now c.args.id.now (as_object (view c.args.body.now)) c.args.self
    c.in-Ok-find_action.action c.of_action.result
    (search rules) c.in-Ok-find_action.ensures c.of_action.ensures
