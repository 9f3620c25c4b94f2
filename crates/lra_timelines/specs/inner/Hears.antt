-- The timeline of an action that follows an audit.
use Rattle.std.specs.Prelude.{◌≡◌, ℕ, [], Option, Some, None}
use Rattle.lra_laws.specs.Snapshots.{snapshot_of, StandsFor}
use Rattle.lra_model.specs.History.{History}
use Rattle.lra_auditor.specs.Heard.{Heard}
use Rattle.lra_timelines.specs.declared.timeline.Timeline.{Timeline}
use Rattle.lra_timelines.specs.TimelineItems.{told}

-- a timeline got nothing; or it got a header and the entries of a history, and has their rows and its action's items
abbrev pub Hears : Timeline → Option Heard → Type 0
Hears s None = (s.rows.snapshot ≡ snapshot_of []) × (s.told.items ≡ [])
Hears s (Some h) = (s.instance ≡ Some h.instance) × (s.rows.snapshot ≡ snapshot_of h.entries)
    × (s.told.items ≡ told s.action h.entries)

-- the timeline of an action of a legal history of an instance
pub record Tells (s : Timeline) (i : ℕ) (J : History) : Type 0 where
  pub instance : s.instance ≡ Some i
  pub stands : StandsFor s.rows.snapshot J
  pub told : s.told.items ≡ told s.action J
