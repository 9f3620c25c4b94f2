-- What callers need of a decision: these are about definitions alone.
use Rattle.std.proofs.Common.{◌≡◌, refl}
use Rattle.lra_model.specs.declared.entry.Entry.{Entry}
use Rattle.lra_model.specs.History.{History}
use Rattle.lra_laws.specs.Snapshots.{StateSnapshot, StandsFor, Follows}
use Rattle.lra_ids.specs.Addresses.{is_address}
use Rattle.lra_commands.specs.declared.command.Command.TheVariants as command
use Rattle.lra_commands.specs.declared.limits.Terms.{Terms}
use Rattle.lra_commands.specs.Errands.{Asking}
use Rattle.lra_commands.specs.Calls.{Command, Call}
use Rattle.lra_commands.specs.Runs.{IsLawful}
use Rattle.lra_validator.specs.CommandValues.{command_value}
use Rattle.lra_validator.specs.Decisions.{IsWritten}

-- an errand that is seen as what it says leaves the command as it is
pub spoken_as_it_is : (o : Command) → command_value (λ (e : Asking). e) o ≡ o
spoken_as_it_is command.Enrol = refl
spoken_as_it_is (command.Start parent limit) = refl
spoken_as_it_is (command.Join a uris) = refl
spoken_as_it_is (command.Leave a p) = refl
spoken_as_it_is (command.Close a) = refl
spoken_as_it_is (command.Cancel a) = refl
spoken_as_it_is command.Tick = refl
spoken_as_it_is command.NextAsk = refl
spoken_as_it_is (command.Record errand o) = refl
spoken_as_it_is (command.Report p e) = refl
spoken_as_it_is command.Restart = refl
spoken_as_it_is (command.Renew a limit) = refl
spoken_as_it_is (command.Status a) = refl
spoken_as_it_is (command.MemberStatus p) = refl

-- an entry that is to be written may be planned
pub written_follows : (s : Terms) (t : StateSnapshot) (J : History) (c : Call) (e : Entry) → StandsFor t J
    → IsLawful s J
    → IsWritten s J c e → Follows t e
written_follows s t J c e h k w =
    record {
      history = J;
      stands = record {
        version = s.version;
        is_address = is_address;
        legal = k.legal;
        snapshot =
            h.snapshot;
      };
      allowed = w.allowed;
    }
