-- What a command does at a desk.
use Rattle.std.specs.Prelude.{◌≡◌, ◌≢◌, true, ◌⊎◌, [], IsOk, Option, Result, Ok, Err}
use Rattle.lra_model.specs.History.{History}
use Rattle.lra_commands.specs.declared.command.Told.{Told}
use Rattle.lra_commands.specs.declared.limits.Terms.{Terms}
use Rattle.lra_commands.specs.declared.refusal.Refusal.{Refusal}
use Rattle.lra_commands.specs.declared.refusal.Refusal.TheVariants.{Stopped}
use Rattle.lra_commands.specs.Errands.{Asking}
use Rattle.lra_commands.specs.Calls.{Call}
use Rattle.lra_commands.specs.Blocks.{block}
use Rattle.lra_commands.specs.Answers.{answer, after_call}
use Rattle.lra_commands.specs.Counters.{Setting, terms_of}
use Rattle.lra_commands.specs.Given.{errand_of}
use Rattle.lra_commands.specs.Shortages.{IsRefusal}
use Rattle.lra_commands.specs.Terms.{AreKeepable}
use Rattle.lra_commands.specs.Runs.{IsLawful}
use Rattle.lra_model.specs.Settling.{IsQuiet}
use Rattle.lra_ids.specs.Addresses.{is_address}
use Rattle.lra_core.specs.declared.block.Committed.{Committed}

-- the scribe has stopped, and what the call would write can't be written
pub record IsStopped (s : Terms) (J : History) (c : Call) : Type 0 where
  pub told : IsOk (answer s J c)
  pub writes : block s J c ≢ []

-- why a command isn't done: it is refused, or the scribe has stopped
abbrev pub IsHeldBack : Terms → History → Call → Refusal → Type 0
IsHeldBack s J c r = IsRefusal s J c r ⊎ ((r ≡ Stopped) × IsStopped s J c)

-- a call was done: it got the definitions' answer and its errand, and the history grew by it
pub record IsDone (g : Setting) (J : History) (c : Call) (t : Told) (e : Option Asking) (K : History) : Type 0 where
  pub answered : answer (terms_of g) J c ≡ Ok t
  pub errand : e ≡ errand_of g J c
  pub grown : K ≡ after_call (terms_of g) J c

-- a call at a desk: it is done, or nothing is changed
abbrev pub IsServed : Setting → History → Call → Result Committed Refusal → History → Type 0
IsServed g J c (Ok r) K = IsDone g J c r.told r.errand K
IsServed g J c (Err r) K = IsHeldBack (terms_of g) J c r × (K ≡ J)

-- a history that a coordinator of this setting can have whenever the lock is free
pub record IsKeptBy (g : Setting) (J : History) : Type 0 where
  pub limits : AreKeepable g.limits
  pub lawful : IsLawful (terms_of g) J
  pub quiet : IsQuiet g.version is_address J
