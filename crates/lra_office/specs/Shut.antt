-- What is left of an office that ended.
use Rattle.std.specs.Prelude.{◌≡◌, ℕ, List, Option}
use mathlib.Core.List.{IsPrefix}
use Rattle.lra_scribe.specs.Progress.{Progress}
use Rattle.lra_ticket.specs.declared.view.View.{View}
use Rattle.lra_ticket.specs.History.{entries_by}
use Rattle.lra_core.specs.Shape.{Shape}
use Rattle.lra_office.specs.Origins.{Origin}
use Rattle.lra_office.specs.Desks.{IsDesk}

-- the coordinator and the scribe, as the clerk that ended the office finds them: of its origin and lawful, with all
-- that it had seen, and nothing under its number but its own entries
pub record IsShut {W : Type 0} (contents : W → Option (List ℕ)) (v : View Origin) (c : Shape) (s : Progress W) : Type 0
  where
    pub desk : IsDesk v.origin c (contents s.writer) s.count s.is_stopped
    pub setting : c.setting ≡ v.origin.setting
    pub begins : IsPrefix v.seen c.history
    pub own : entries_by v.number c.history ≡ v.mine
