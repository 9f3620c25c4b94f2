-- What the code answers, by the entries that a command appends.
use Rattle.std.specs.Prelude.{ℕ, unwrap_or, List, [], ◌∷◌}
use Rattle.lra_model.specs.declared.status.ActionStatus.TheVariants as action
use Rattle.lra_model.specs.declared.status.MemberStatus.{MemberStatus}
use Rattle.lra_model.specs.declared.status.MemberStatus.TheVariants as member
use Rattle.lra_model.specs.declared.status.Ending.{Ending}
use Rattle.lra_model.specs.declared.status.Ending.TheVariants as ending
use Rattle.lra_model.specs.declared.asks.Cause.TheVariants as cause
use Rattle.lra_model.specs.declared.entry.Deed.{Deed}
use Rattle.lra_model.specs.declared.entry.Deed.TheVariants as deed
use Rattle.lra_model.specs.declared.entry.Entry.{Entry}
use Rattle.lra_model.specs.Actions.{action_status}
use Rattle.lra_commands.specs.declared.command.Command.TheVariants as command
use Rattle.lra_commands.specs.declared.command.Told.{Told}
use Rattle.lra_commands.specs.declared.command.Told.TheVariants as told
use Rattle.lra_commands.specs.Calls.{Command}

-- the status that entries leave an action in
abbrev pub now : ℕ → List Entry → Told
now a es = told.Now (unwrap_or (action_status es a) action.Active)

-- the status of a member that reported an ending
abbrev pub status_told : Ending → MemberStatus
status_told ending.Completed = member.Completed
status_told ending.FailedToComplete = member.FailedToComplete
status_told ending.Compensated = member.Compensated
status_told ending.FailedToCompensate = member.FailedToCompensate

-- what is returned for the deed that a clerk writes of its own
abbrev pub by_deed : ℕ → Deed → List Entry → Told
by_deed by deed.Enrol es = told.Clerk by
by_deed by (deed.Start a parent limit) es = told.Action a
by_deed by (deed.Join p a uris) es = told.Member p
by_deed by (deed.Leave p) es = told.Left
by_deed by (deed.Close a cause) es = now a es
by_deed by (deed.Cancel a cause.Limit) es = told.Fired a
by_deed by (deed.Cancel a cause) es = now a es
by_deed by (deed.Ask n p kind) es = told.Asked n
by_deed by (deed.Reply n o) es = told.Recorded
by_deed by deed.Restart es = told.Restarted
by_deed by (deed.Renew a limit) es = told.Renewed
by_deed by _ es = told.Idle

-- what is returned for the entry that a command writes of its own
abbrev pub told_by : Entry → List Entry → Told
told_by e es = by_deed e.by e.deed es

-- what is returned for entries, the first of which is the command's own
abbrev pub told_by_entries : List Entry → Told
told_by_entries [] = told.Idle
told_by_entries (e ∷ es) = told_by e (e ∷ es)

-- what a command returns
abbrev pub told_to : Command → List Entry → Told
told_to (command.Report p e) es = told.MemberNow (status_told e)
told_to _ es = told_by_entries es
