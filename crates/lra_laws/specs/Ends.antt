-- When an action may end, and how, by its row.
use Rattle.std.specs.Prelude.{◌==◌, Bool, false, ◌&&◌, cond}
use Rattle.lra_model.specs.declared.status.ActionStatus.{ActionStatus}
use Rattle.lra_model.specs.declared.status.ActionStatus.TheVariants as action
use Rattle.lra_laws.specs.Rows.{ActionRow}

-- whether an action may end, by its counts
abbrev pub settled_by : ActionRow → Bool
settled_by r = by_status r.status
  where
    by_status : ActionStatus → Bool
    by_status action.Closing = (r.completing == 0) && (r.unended == 0)
    by_status action.Cancelling = (r.compensating == 0) && (r.uncancelled == 0)
    by_status _ = false

-- the status that an action ends with, by its counts
abbrev pub right_end_by : ActionRow → ActionStatus
right_end_by r = by_status r.status
  where
    by_status : ActionStatus → ActionStatus
    by_status action.Closing = cond ((r.uncompleted == 0) && (r.failed == 0)) action.Closed action.FailedToClose
    by_status _ = cond ((r.uncompensated == 0) && (r.failed == 0)) action.Cancelled action.FailedToCancel
