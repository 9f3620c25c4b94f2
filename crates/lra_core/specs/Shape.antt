-- What a coordinator is, as contracts see it.
use Rattle.std.specs.Prelude.{◌≡◌, ℕ}
use Rattle.lra_model.specs.History.{History}
use Rattle.lra_ids.specs.Addresses.{is_address}
use Rattle.lra_model.specs.Settling.{IsQuiet}
use Rattle.lra_tables.specs.Plans.{Tabled}
use Rattle.lra_commands.specs.Terms.{AreKeepable}
use Rattle.lra_commands.specs.Runs.{IsLawful}
use Rattle.lra_commands.specs.Counters.{Setting, terms_of}

-- room that was made: for entries, for what the tables keep of them, and for moments of wants and deadlines
pub record Room : Type 0 where
  pub entries : ℕ
  pub tables : Tabled
  pub moments : ℕ

-- a coordinator: what it was made with, its history, and the room that it has
pub record Shape : Type 0 where
  pub setting : Setting
  pub history : History
  pub room : Room

-- what holds of every coordinator: its limits can be kept, and its history is legal in its version and passes none of
-- them, depth among them
pub record IsCoordinator (c : Shape) : Type 0 where
  pub limits : AreKeepable c.setting.limits
  pub history : IsLawful (terms_of c.setting) c.history

-- nothing is left to settle
abbrev pub IsAtRest : Shape → Type 0
IsAtRest c = IsQuiet c.setting.version is_address c.history

-- a coordinator with the same history and made with the same, whatever it has room for
pub record IsSame (before after : Shape) : Type 0 where
  pub setting : after.setting ≡ before.setting
  pub history : after.history ≡ before.history

-- a coordinator made with the same, with another history
abbrev pub IsGrown : Shape → Shape → History → Type 0
IsGrown before after K = IsSame (record before { history = K }) after
