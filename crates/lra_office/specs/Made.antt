-- What callers know of an office that was made, and of one that wasn't.
use Rattle.std.specs.Prelude.{◌≡◌, ℕ, ◌<◌, List, [], length, take, Option, Some, None}
use Rattle.std.specs.Io.KnownBytes.{Appends}
use Rattle.lra_model.specs.declared.version.Version.TheVariants.{Two}
use Rattle.lra_ticket.specs.declared.kept.Kept.{Ghosts}
use Rattle.lra_ticket.specs.declared.lock.Pass.{Pass}
use Rattle.lra_ticket.specs.Views.{first_view}
use Rattle.lra_ticket.specs.Locks.{lock_id, pass_id, pass_view}
use Rattle.lra_commands.specs.declared.limits.Limits.{Limits}
use Rattle.lra_office.specs.declared.fault.StartFault.{StartFault}
use Rattle.lra_office.specs.declared.fault.StartFault.TheVariants.{Stopped, Memory}
use Rattle.lra_office.specs.declared.office.OfficeOf.{OfficeOf}
use Rattle.lra_office.specs.Origins.{Origin}
use Rattle.lra_office.specs.Windows.{IsOfficeOf}

-- the origin of a new office: its journal is of version 2 and begins with it
abbrev pub new_origin : ℕ → List ℕ → Limits → Option (List ℕ) → Origin
new_origin instance base limits had =
    record {
      setting = record { version = Two; instance = instance; base = base; limits = limits };
      front = [];
      had =
          had;
    }

-- a new office of an origin, and its first pass, which has no number yet and has seen that there is no entry
pub record IsFirst {X : Type 0} {g : Ghosts X Origin} (o : Origin) (office : OfficeOf X Origin)
    (pass : Pass X Origin g) : Type 0 where
  pub lock : pass_id pass ≡ lock_id office.lock
  pub view : pass_view pass ≡ first_view 0 o []
  pub copies : IsOfficeOf o.setting office

-- a writer that took the beginning of a text, cut short
pub record IsCutShort {W : Type 0} (contents : W → Option (List ℕ)) (before : W) (text : List ℕ) (after : W) : Type 0
  where
    pub count : ℕ
    pub short : count < length text
    pub grown : Appends (contents before) (contents after) (take count text)

-- why no new office is made: its header was cut short, and the writer is returned; or no memory was left
abbrev pub IsNotStarted : {W : Type 0} → (W → Option (List ℕ)) → W → List ℕ → StartFault → Option W → Type 0
IsNotStarted contents before header Stopped (Some after) = IsCutShort contents before header after
IsNotStarted contents before header Stopped None = ⊥
IsNotStarted contents before header Memory writer = writer ≡ None
