use Rattle.std.proofs.Common.{◌≡◌, ◌++◌, take, string_bytes}
use Rattle.std.specs.List.{flat_map}
use Rattle.lra_model.specs.History.{History}
use Rattle.lra_laws.specs.Snapshots.{StandsFor}
use Rattle.lra_timelines.specs.Sentences.{told_line}
use Rattle.lra_timelines.proofs.explaining.push_told.Given as goal

abbrev pub invariant-loop-entry : goal.invariant-loop-entry
invariant-loop-entry l = (J : History) → StandsFor l.rows.snapshot J → string_bytes l.text ≡ string_bytes l.initial.text
    ++ flat_map (told_line J) (take l.entry-index l.told)
