-- The definitions never answer that the scribe has stopped, nor that no memory is left: those are for the code that
-- writes the journal, or takes memory, to say.
use Rattle.std.proofs.Common.{◌≡◌, ◌≢◌, ℕ, Bool, true, false, Option, Some, None, Ok, Err, inl, inr, refl, ap}
use Rattle.std.specs.Option.{option_map_or}
use Rattle.lra_model.specs.History.{History}
use Rattle.lra_commands.specs.declared.command.Command.TheVariants as command
use Rattle.lra_commands.specs.declared.limits.Terms.{Terms}
use Rattle.lra_commands.specs.declared.refusal.Refusal.{Refusal}
use Rattle.lra_commands.specs.declared.refusal.Refusal.TheVariants as refusal
use Rattle.lra_commands.specs.Calls.{Command, Call}
use Rattle.lra_commands.specs.Refusals.{grounds, refused}
use Rattle.lra_commands.specs.Answers.{told_of, answer}
use Rattle.lra_commands.specs.Counters.{IsRefusedAt}
use Rattle.lra_commands.specs.Shortages.{IsRefusal}
use Rattle.lra_commands.proofs.Grounds.{names, other_first}

-- of these the definitions know nothing
abbrev is_outside : Refusal → Bool
is_outside refusal.Stopped = true
is_outside refusal.Memory = true
is_outside _ = false

never_named : (s : Terms) (J : History) (by m : ℕ) (o : Command) → names is_outside
    (grounds s J (record { by = by; moment = m; command = o })) ≡ false
never_named s J by m command.Enrol = refl
never_named s J by m (command.Start parent limit) = refl
never_named s J by m (command.Join a uris) = refl
never_named s J by m (command.Leave a p) = refl
never_named s J by m (command.Close a) = refl
never_named s J by m (command.Cancel a) = refl
never_named s J by m command.Tick = refl
never_named s J by m command.NextAsk = refl
never_named s J by m (command.Record errand o) = refl
never_named s J by m (command.Report p e) = refl
never_named s J by m command.Restart = refl
never_named s J by m (command.Renew a limit) = refl
never_named s J by m (command.Status a) = refl
never_named s J by m (command.MemberStatus p) = refl

refused_as : (s : Terms) (J : History) (c : Call) (r : Refusal) → answer s J c ≡ Err r → refused s J c ≡ Some r
unfolding answer
refused_as s J c r h = some (refused s J c) h
  where
    some : (o : Option Refusal) → option_map_or Err o (Ok (told_of s J c)) ≡ Err r → o ≡ Some r
    some None e = absurd cc
    some (Some x) e = let same : x ≡ r = cc in ap Some same

never_answered : (s : Terms) (J : History) (c : Call) (r : Refusal) → is_outside r ≡ true → answer s J c ≢ Err r
unfolding refused
never_answered s J c r outside h = let bad = other_first is_outside (grounds s J c)
    (never_named s J c.by c.moment c.command) r (refused_as s J c r h) in absurd cc

-- so a refusal of a coordinator is one of a counter
pub refused_at : (s : Terms) (J : History) (c : Call) (r : Refusal) → IsRefusal s J c r → IsRefusedAt s J c r
refused_at s J c refusal.Stopped (inl e) = absurd (never_answered s J c refusal.Stopped refl e)
refused_at s J c refusal.Stopped (inr m) = let bad = m.0 in absurd cc
refused_at s J c refusal.Memory (inl e) = absurd (never_answered s J c refusal.Memory refl e)
refused_at s J c refusal.Memory (inr m) = m.1
refused_at s J c r (inl e) = e
refused_at s J c r (inr m) = let bad = m.0 in absurd cc
