use Rattle.std.proofs.Common.{◌≡◌, take}
use Rattle.std.specs.Prelude.{filter}
use Rattle.lra_timelines.specs.Waits.{is_repeat}
use Rattle.lra_timelines.proofs.waits.repeats_of.Given as goal

abbrev pub invariant-loop-entry : goal.invariant-loop-entry
invariant-loop-entry l = l.repeats.items ≡ filter (is_repeat l.member l.stage) (take l.entry-index l.told)
