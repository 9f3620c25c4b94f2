-- Commands that clerks give, and when.
use Rattle.std.specs.Prelude.{◌≡◌, ℕ, ◌<◌, ◌^◌, max, Bool, true, ◌&&◌, List, Option}
use Rattle.std.specs.Option.{option_map_or}
use Rattle.std.specs.Str.{is_utf8}
use Rattle.lra_model.specs.Addresses.{Addresses}
use Rattle.lra_model.specs.Words.{outcome_suits}
use Rattle.lra_model.specs.History.{History, last_moment}
use Rattle.lra_commands.specs.declared.command.Command.{Command as CommandOf}
use Rattle.lra_commands.specs.Errands.{Asking}
use Rattle.lra_commands.specs.declared.command.Command.TheVariants.{Join, Record}

-- a command: its errand is seen as what it says
abbrev pub Command : Type 0
Command = CommandOf Asking

-- a command, with the clerk that gives it and the moment that it hands in; the clerk doesn't matter where it enrols
pub record Call : Type 0 where
  pub by : ℕ
  pub moment : ℕ
  pub command : Command

-- the moment of what a call writes: the one handed in, but never before the last entry (this project's choice)
abbrev pub moment_of : History → Call → ℕ
moment_of J c = max c.moment (last_moment J)

-- whether optional bytes are a text
abbrev pub is_text : Option (List ℕ) → Bool
is_text text = option_map_or is_utf8 text true

-- whether addresses are texts
abbrev pub are_texts : Addresses → Bool
are_texts u = is_text u.compensate && is_text u.complete && is_text u.status && is_text u.forget && is_text u.after

-- an outcome to record is one that its ask may have, and the addresses of a member are texts
abbrev pub is_fitting : Command → Bool
is_fitting (Record errand outcome) = outcome_suits errand.now.kind outcome
is_fitting (Join action uris) = are_texts uris.now
is_fitting _ = true

-- a call that can be made
pub record IsCall (c : Call) : Type 0 where
  pub moment : c.moment < 2 ^ 64
  pub fits : is_fitting c.command ≡ true
