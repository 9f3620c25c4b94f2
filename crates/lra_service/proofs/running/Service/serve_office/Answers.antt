use denote.Exit.{yes}
use denote.Param.{param}
use denote.Param.Send.{param_send, arg_send}
use Rattle.lra_office.proofs.Crosses.{desk_send}
use Rattle.lra_service.proofs.running.Service.serve_office.Goals as goal

pub work-requires-send-V : goal.work-requires-send-V
work-requires-send-V g c κs within =
    param_send _ _ (arg_send _ yes _ (desk_send (param 3 g.row.K) g.K.Write c.type_bounds.send-K))
