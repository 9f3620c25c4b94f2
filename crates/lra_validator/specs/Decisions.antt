-- What a decision on a call says.
use Rattle.std.specs.Prelude.{◌≡◌, ◌⊎◌, ℕ, Bool, true, false, ◌&&◌, List, [], ◌++◌, ◌≢◌, Some, None, Result, Ok, Err}
use Rattle.lra_model.specs.declared.entry.Entry.{Entry}
use Rattle.lra_model.specs.Words.{when}
use Rattle.lra_model.specs.History.{History, clerks, is_among}
use Rattle.lra_model.specs.Rules.{allows}
use Rattle.lra_model.specs.Settling.{with_settling}
use Rattle.lra_ids.specs.Addresses.{is_address}
use Rattle.lra_commands.specs.declared.command.Command.TheVariants as command
use Rattle.lra_commands.specs.declared.command.Told.{Told}
use Rattle.lra_commands.specs.declared.limits.Terms.{Terms}
use Rattle.lra_commands.specs.declared.refusal.Resource.TheVariants as resource
use Rattle.lra_commands.specs.declared.refusal.Refusal.{Refusal}
use Rattle.lra_commands.specs.declared.refusal.Refusal.TheVariants as refusal
use Rattle.lra_commands.specs.Calls.{Command, Call}
use Rattle.lra_commands.specs.Deeds.{is_open, own_entry}
use Rattle.lra_commands.specs.Blocks.{block}
use Rattle.lra_commands.specs.Refusals.{passes, refused}
use Rattle.lra_commands.specs.Answers.{answer}
use Rattle.lra_commands.specs.Due.{due, late}
use Rattle.lra_validator.specs.declared.due_facts.DueFacts.{DueFacts}
use Rattle.lra_validator.specs.declared.decision.Decision.{Decision}
use Rattle.lra_validator.specs.declared.decision.Decision.TheVariants as decision

-- what a command reads that the tables don't have is what the history says at the moment of what it writes
abbrev pub HasDueFacts : Terms → History → ℕ → Command → DueFacts → Type 0
HasDueFacts s J m command.NextAsk x = x.due ≡ due s.limits J m
HasDueFacts s J m command.Tick x = x.late ≡ late J m
HasDueFacts s J m _ x = Unit {0}

-- a call returns this, and appends nothing
pub record IsTold (s : Terms) (J : History) (c : Call) (t : Told) : Type 0 where
  pub answered : answer s J c ≡ Ok t
  pub nothing : block s J c ≡ []

-- a call writes this entry of its own, which may come now, and nothing refuses it but too many entries, those that
-- settle counted
pub record IsWritten (s : Terms) (J : History) (c : Call) (e : Entry) : Type 0 where
  pub own : own_entry s J c ≡ Some e
  pub allowed : allows s.version is_address J e ≡ true
  pub written : block s J c ≡ with_settling J e
  pub refused : refused s J c ≡ when (passes s.limits resource.Entries (J ++ with_settling J e))
      (refusal.Full resource.Entries)

-- whether a call comes to where addresses are read, which takes memory: a join by an enrolled clerk, of an action that
-- is Active
abbrev pub reads_addresses : History → Call → Bool
reads_addresses J c = by_command c.command
  where
    by_command : Command → Bool
    by_command (command.Join a uris) = is_among (clerks J) c.by && is_open J a
    by_command _ = false

-- no memory was left to read addresses
pub record LacksMemory (J : History) (c : Call) (r : Refusal) : Type 0 where
  pub memory : r ≡ refusal.Memory
  pub reads : reads_addresses J c ≡ true

-- a call is refused for this, or no memory was left to read its addresses
abbrev pub IsRefused : Terms → History → Call → Refusal → Type 0
IsRefused s J c r = (answer s J c ≡ Err r) ⊎ LacksMemory J c r

-- what is decided on a call
abbrev pub IsDecided : Terms → History → Call → Result Decision Refusal → Type 0
IsDecided s J c (Ok (decision.Told t)) = IsTold s J c t
IsDecided s J c (Ok (decision.Write e)) = IsWritten s J c e
IsDecided s J c (Err r) = IsRefused s J c r

-- entries are what a call that isn't refused appends, where it writes
pub record IsAppended (s : Terms) (J : History) (c : Call) (entries : List Entry) : Type 0 where
  pub refused : refused s J c ≡ None
  pub block : block s J c ≡ entries
  pub filled : entries ≢ []
