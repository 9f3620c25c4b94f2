-- The words by which scripts and bodies name refusals.
use Rattle.std.specs.Prelude.{ℕ, List, codes}
use Rattle.lra_commands.specs.declared.refusal.Resource.{Resource}
use Rattle.lra_commands.specs.declared.refusal.Resource.TheVariants as resource
use Rattle.lra_commands.specs.declared.refusal.Refusal.{Refusal}
use Rattle.lra_commands.specs.declared.refusal.Refusal.TheVariants as refusal

-- the word for what there may be too much of (this project's own)
abbrev pub resource_name : Resource → List ℕ
resource_name resource.Clerks = codes "Clerks"
resource_name resource.Actions = codes "Actions"
resource_name resource.Members = codes "Members"
resource_name resource.Entries = codes "Entries"

-- the word for a refusal (this project's own)
abbrev pub refusal_name : Refusal → List ℕ
refusal_name refusal.NoSuchClerk = codes "NoSuchClerk"
refusal_name refusal.OldJournal = codes "OldJournal"
refusal_name refusal.NoSuchAction = codes "NoSuchAction"
refusal_name refusal.NoSuchMember = codes "NoSuchMember"
refusal_name refusal.WrongAction = codes "WrongAction"
refusal_name refusal.HasLeft = codes "HasLeft"
refusal_name (refusal.NotActive status) = codes "NotActive"
refusal_name refusal.BadAddresses = codes "BadAddresses"
refusal_name refusal.LimitTooFar = codes "LimitTooFar"
refusal_name refusal.TooDeep = codes "TooDeep"
refusal_name (refusal.Full resource) = codes "Full"
refusal_name refusal.NotAsked = codes "NotAsked"
refusal_name refusal.Stopped = codes "Stopped"
refusal_name refusal.Memory = codes "Memory"
