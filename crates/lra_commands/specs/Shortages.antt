-- Where refused memory has its place in the order of refusals.
use Rattle.std.specs.Prelude.{◌≡◌, ◌⊎◌, Bool, true, false, ◌||◌, List, [], ◌∷◌, ◌++◌, None, Err, not}
use Rattle.lra_model.specs.History.{History}
use Rattle.lra_commands.specs.declared.command.Command.TheVariants as command
use Rattle.lra_commands.specs.declared.refusal.Resource.TheVariants as resource
use Rattle.lra_commands.specs.declared.refusal.Refusal.{Refusal}
use Rattle.lra_commands.specs.declared.refusal.Refusal.TheVariants as refusal
use Rattle.lra_commands.specs.declared.limits.Terms.{Terms}
use Rattle.lra_commands.specs.Calls.{Command, Call, moment_of}
use Rattle.lra_commands.specs.Deeds.{is_open}
use Rattle.lra_commands.specs.Blocks.{block}
use Rattle.lra_commands.specs.Refusals.{Ground, no_action, status_at, is_filled, overfills, command_grounds}
use Rattle.lra_commands.specs.Refusals.{is_stranger, first_ground}
use Rattle.lra_commands.specs.Answers.{answer}

-- the refusals that come before a growth that the checks of a call need: a join reads its addresses once its action is
-- known to be open, and every other command makes its block before the entries are counted (this project's choice)
abbrev pub checks_before_growth : Terms → History → Call → List Ground
checks_before_growth s J c = by_command c.command
  where
    by_command : Command → List Ground
    by_command (command.Join a uris) = (refusal.NoSuchAction, no_action J a)
        ∷ (refusal.NotActive (status_at J a), not (is_open J a)) ∷ []
    by_command o =
        command_grounds s J (moment_of J c) o
        ++ ((refusal.Full resource.Clerks, overfills s J c resource.Clerks)
        ∷ (refusal.Full resource.Actions, overfills s J c resource.Actions)
        ∷ (refusal.Full resource.Members, overfills s J c resource.Members) ∷ [])

-- the same, after the refusal of a clerk that isn't enrolled
abbrev pub grounds_before_growth : Terms → History → Call → List Ground
grounds_before_growth s J c = (refusal.NoSuchClerk, is_stranger J c.by c.command) ∷ checks_before_growth s J c

-- whether a command has addresses that are to be read
abbrev pub has_addresses : Command → Bool
has_addresses (command.Join a uris) = true
has_addresses _ = false

-- a call may be refused for want of memory: it takes some, since it writes or has addresses to read, and nothing that
-- comes before that refuses it
pub record MayRunOut (s : Terms) (J : History) (c : Call) : Type 0 where
  pub takes : (is_filled (block s J c) || has_addresses c.command) ≡ true
  pub before : first_ground (grounds_before_growth s J c) ≡ None

-- why a call isn't done: the definitions refuse it, or memory was refused
abbrev pub IsRefusal : Terms → History → Call → Refusal → Type 0
IsRefusal s J c r = (answer s J c ≡ Err r) ⊎ ((r ≡ refusal.Memory) × MayRunOut s J c)
