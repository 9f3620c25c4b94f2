-- What a command writes of its own.
use Rattle.std.specs.Prelude.{ℕ, ◌+◌, Bool, false, not, List, length, Option, Some, None, option_map, is_some}
use Rattle.std.specs.Prelude.{unwrap_or, cond}
use Rattle.std.specs.Option.{option_map_or, option_and_then}
use Rattle.std.specs.Result.{result_ok}
use Rattle.lra_model.specs.declared.status.Ending.{Ending}
use Rattle.lra_model.specs.declared.status.Ending.TheVariants as ending
use Rattle.lra_model.specs.declared.asks.Direction.{Direction}
use Rattle.lra_model.specs.declared.asks.Direction.TheVariants as direction
use Rattle.lra_model.specs.declared.asks.Outcome.{Outcome}
use Rattle.lra_model.specs.declared.asks.Outcome.TheVariants as outcome
use Rattle.lra_model.specs.declared.asks.Cause.TheVariants as cause
use Rattle.lra_model.specs.declared.entry.Deed.{Deed}
use Rattle.lra_model.specs.declared.entry.Deed.TheVariants as deed
use Rattle.lra_model.specs.declared.entry.Entry.{Entry}
use Rattle.lra_model.specs.Addresses.{Addresses}
use Rattle.lra_model.specs.Words.{when, is_active}
use Rattle.lra_model.specs.History.{History, clerks, actions, members, asks}
use Rattle.lra_model.specs.Actions.{action_status}
use Rattle.lra_model.specs.Members.{decided}
use Rattle.lra_model.specs.Joins.{already_member}
use Rattle.lra_model.specs.Facts.{facts_of}
use Rattle.lra_model.specs.Tests.{at_action, may_cancel_as_client}
use Rattle.lra_model.specs.Wants.{wants}
use Rattle.lra_ids.specs.Addresses.{address_of}
use Rattle.lra_commands.specs.declared.command.Command.TheVariants as command
use Rattle.lra_commands.specs.declared.limits.Terms.{Terms}
use Rattle.lra_commands.specs.Calls.{Command, Call, moment_of}
use Rattle.lra_commands.specs.Due.{due, late}

-- the text that an address is stored as: that of its URL (the URL Standard, section 4.5)
abbrev pub stored : List ℕ → List ℕ
stored text = unwrap_or (result_ok (address_of text)) text

-- addresses as they are stored
abbrev pub stored_addresses : Addresses → Addresses
stored_addresses u = record {
  compensate = option_map stored u.compensate;
  complete = option_map stored u.complete;
  status = option_map stored u.status;
  forget = option_map stored u.forget;
  after = option_map stored u.after;
}

-- the direction that a member's ending is of
abbrev pub direction_told : Ending → Direction
direction_told ending.Completed = direction.Completion
direction_told ending.FailedToComplete = direction.Completion
direction_told ending.Compensated = direction.Compensation
direction_told ending.FailedToCompensate = direction.Compensation

-- the outcome that a member's ending is
abbrev pub outcome_told : Ending → Outcome
outcome_told ending.Completed = outcome.Done
outcome_told ending.FailedToComplete = outcome.Failed
outcome_told ending.Compensated = outcome.Done
outcome_told ending.FailedToCompensate = outcome.Failed

-- whether the direction of an ending is decided for a member
abbrev pub is_decided : History → ℕ → Ending → Bool
is_decided J p e = is_some (decided J p (direction_told e))

-- whether an action is Active
abbrev pub is_open : History → ℕ → Bool
is_open J a = option_map_or is_active (action_status J a) false

-- whether a client may cancel an action
abbrev pub may_be_cancelled : Terms → History → ℕ → Bool
may_be_cancelled s J a = at_action (may_cancel_as_client s.version (facts_of J)) (facts_of J) a

-- the deed that a command writes, where it isn't refused: none for a repeat, where nothing is due, and where it only
-- reads
abbrev pub own_deed : Terms → History → ℕ → Command → Option Deed
own_deed s J m command.Enrol = Some deed.Enrol
own_deed s J m (command.Start parent limit) = Some (deed.Start (length (actions J) + 1) parent limit)
own_deed s J m (command.Join a uris) =
    cond (is_some (already_member J a (stored_addresses uris.now))) None
    (Some (deed.Join (length (members J) + 1) a (stored_addresses uris.now)))
own_deed s J m (command.Leave a p) = Some (deed.Leave p)
own_deed s J m (command.Close a) = when (is_open J a) (deed.Close a cause.Client)
own_deed s J m (command.Cancel a) = when (may_be_cancelled s J a) (deed.Cancel a cause.Client)
own_deed s J m command.Tick = option_map (λ a. deed.Cancel a cause.Limit) (late J m)
own_deed s J m command.NextAsk = option_and_then (λ p. option_map (deed.Ask (length (asks J) + 1) p) (wants J p))
    (due s.limits J m)
own_deed s J m (command.Record errand o) = Some (deed.Reply errand.now.ask o)
own_deed s J m (command.Report p e) = when (not (is_decided J p e)) (deed.Report p (outcome_told e))
own_deed s J m command.Restart = Some deed.Restart
own_deed s J m (command.Renew a limit) = Some (deed.Renew a limit)
own_deed s J m (command.Status a) = None
own_deed s J m (command.MemberStatus p) = None

-- the clerk whose entries a call writes: the new one where it enrols, else the one that gives it
abbrev pub writer_of : History → Call → ℕ
writer_of J c = by_command c.command
  where
    by_command : Command → ℕ
    by_command command.Enrol = length (clerks J) + 1
    by_command _ = c.by

-- an entry that a call writes
abbrev pub entry_of : History → Call → Deed → Entry
entry_of J c d = record { by = writer_of J c; moment = moment_of J c; deed = d }

-- the entry that a call writes of its own
abbrev pub own_entry : Terms → History → Call → Option Entry
own_entry s J c = option_map (entry_of J c) (own_deed s J (moment_of J c) c.command)
