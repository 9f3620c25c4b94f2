-- What an audit says of an office's journal whenever the lock is free.
use Rattle.std.specs.Prelude.{◌≡◌, ℕ, ◌<◌, ◌^◌, false, Bool, List, [], ◌++◌, Option}
use Rattle.lra_model.specs.declared.entry.Entry.{Entry}
use Rattle.lra_model.specs.History.{History}
use Rattle.lra_core.specs.Shape.{Shape}
use Rattle.lra_core.specs.Texts.{IsSoundAlone}
use Rattle.lra_office.specs.Origins.{Origin}
use Rattle.lra_office.specs.Desks.{IsDesk}
use Rattle.lra_office.specs.Wholes.{whole_lines}

-- the whole lines of a journal are sound and nothing else: they are the text of a history and of what was written of a
-- block that was cut short; of none, and nothing is torn, while the scribe goes on
pub record HasSoundJournal (J : History) (journal : List ℕ) (is_stopped : Bool) : Type 0 where
  pub cut : List Entry
  pub sound : IsSoundAlone (whole_lines journal) (J ++ cut)
  pub going : is_stopped ≡ false → (cut ≡ []) × (whole_lines journal ≡ journal)

-- so it is with the journal prefix that an office went on from and all that its writer took since, whenever the lock is
-- free
abbrev pub JournalsAreSound : Type 0
JournalsAreSound =
    (o : Origin) (c : Shape) (contents : Option (List ℕ)) (count : ℕ) (is_stopped : Bool)
    (d : IsDesk o c contents count is_stopped)
    → o.setting.instance < 2 ^ 60 → c.setting ≡ o.setting
    → HasSoundJournal c.history (o.front ++ d.written.taken) is_stopped
