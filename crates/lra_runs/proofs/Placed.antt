-- The addresses in memory of what a command borrows don't matter.
use Rattle.std.proofs.Common.{◌≡◌, ℕ, refl}
use Rattle.lra_model.specs.History.{History}
use Rattle.lra_commands.specs.declared.command.Command.TheVariants as command
use Rattle.lra_commands.specs.declared.limits.Terms.{Terms}
use Rattle.lra_commands.specs.Calls.{Command, Call}
use Rattle.lra_commands.specs.Blocks.{block}
use Rattle.lra_commands.specs.Refusals.{refused}
use Rattle.lra_commands.specs.Answers.{answer, growth}
use Rattle.lra_commands.specs.Counters.{Setting}
use Rattle.lra_commands.specs.Given.{errand_of}
use Rattle.lra_core.specs.Prepares.{is_suited}
use Rattle.lra_runs.specs.inner.Players.{placed}

-- the call of a command
abbrev pub called : ℕ → ℕ → Command → Call
called by m c = record { by = by; moment = m; command = c }

pub answer_placed : (s : Terms) (J : History) (by m : ℕ) (c : Command) → answer s J (called by m (placed c))
    ≡ answer s J (called by m c)
unfolding answer refused block
answer_placed s J by m (command.Join a u) = refl
answer_placed s J by m (command.Record e o) = refl
answer_placed s J by m _ = refl

pub growth_placed : (s : Terms) (J : History) (by m : ℕ) (c : Command) → growth s J (called by m (placed c))
    ≡ growth s J (called by m c)
unfolding growth refused block
growth_placed s J by m (command.Join a u) = refl
growth_placed s J by m (command.Record e o) = refl
growth_placed s J by m _ = refl

pub errand_placed : (g : Setting) (J : History) (by m : ℕ) (c : Command) → errand_of g J (called by m (placed c))
    ≡ errand_of g J (called by m c)
errand_placed g J by m (command.Join a u) = refl
errand_placed g J by m (command.Record e o) = refl
errand_placed g J by m _ = refl

pub suited_placed : (c : Command) → is_suited (placed c) ≡ is_suited c
suited_placed (command.Join a u) = refl
suited_placed (command.Record e o) = refl
suited_placed _ = refl
