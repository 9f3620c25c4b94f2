-- The answer to a call, and the history after it.
use Rattle.std.specs.Prelude.{◌≢◌, ℕ, List, [], ◌++◌, length, Result, Ok, Err, is_some, cond}
use Rattle.std.specs.Option.{option_map_or}
use Rattle.lra_model.specs.declared.entry.Entry.{Entry}
use Rattle.lra_model.specs.History.{History, clerks, actions, members, asks}
use Rattle.lra_model.specs.Members.{member_status}
use Rattle.lra_model.specs.Settling.{IsQuiet}
use Rattle.lra_ids.specs.Addresses.{is_address}
use Rattle.lra_commands.specs.declared.command.Command.TheVariants as command
use Rattle.lra_commands.specs.declared.command.Told.{Told}
use Rattle.lra_commands.specs.declared.command.Told.TheVariants as told
use Rattle.lra_commands.specs.declared.refusal.Refusal.{Refusal}
use Rattle.lra_commands.specs.declared.limits.Terms.{Terms}
use Rattle.lra_commands.specs.Calls.{Command, Call, moment_of}
use Rattle.lra_commands.specs.Due.{due, late}
use Rattle.lra_commands.specs.Deeds.{stored_addresses, is_open, is_decided, may_be_cancelled}
use Rattle.lra_model.specs.Joins.{already_member}
use Rattle.lra_commands.specs.Blocks.{block}
use Rattle.lra_commands.specs.Refusals.{status_at, refused}

-- the answer to a command that isn't refused: J is the history before it, and K the one after; a status after what was
-- written is that in K
abbrev pub tells : Terms → History → History → ℕ → Command → Told
tells s J K m command.Enrol = told.Clerk (length (clerks K))
tells s J K m (command.Start parent limit) = told.Action (length (actions K))
tells s J K m (command.Join a uris) = option_map_or told.AlreadyMember (already_member J a (stored_addresses uris.now))
    (told.Member (length (members K)))
tells s J K m (command.Leave a p) = told.Left
tells s J K m (command.Close a) = cond (is_open J a) (told.Now (status_at K a)) (told.Already (status_at J a))
tells s J K m (command.Cancel a) = cond (may_be_cancelled s J a) (told.Now (status_at K a))
    (told.Already (status_at J a))
tells s J K m command.Tick = option_map_or told.Fired (late J m) told.Idle
tells s J K m command.NextAsk = cond (is_some (due s.limits J m)) (told.Asked (length (asks K))) told.Idle
tells s J K m (command.Record errand o) = told.Recorded
tells s J K m (command.Report p e) = cond (is_decided J p e) (told.MemberAlready (member_status J p))
    (told.MemberNow (member_status K p))
tells s J K m command.Restart = told.Restarted
tells s J K m (command.Renew a limit) = told.Renewed
tells s J K m (command.Status a) = told.ActionIs (status_at J a)
tells s J K m (command.MemberStatus p) = told.MemberIs (member_status J p)

-- the answer to a call that isn't refused
abbrev pub told_of : Terms → History → Call → Told
told_of s J c = tells s J (J ++ block s J c) (moment_of J c) c.command

-- the answer to a call: the first refusal that holds, else the answer to a call that isn't refused
unfoldable pub answer : Terms → History → Call → Result Told Refusal
answer s J c = option_map_or Err (refused s J c) (Ok (told_of s J c))

-- what a call appends: its block, unless it is refused
unfoldable pub growth : Terms → History → Call → List Entry
growth s J c = cond (is_some (refused s J c)) [] (block s J c)

-- the history after a call
abbrev pub after_call : Terms → History → Call → History
after_call s J c = J ++ growth s J c

-- nothing is left to settle after a call that writes
abbrev pub IsQuietAfter : Terms → History → Call → Type 0
IsQuietAfter s J c = block s J c ≢ [] → IsQuiet s.version is_address (after_call s J c)
