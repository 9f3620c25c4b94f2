use Rattle.std.proofs.Common.{◌≡◌, drop}
use Rattle.std.specs.List.{find}
use Rattle.lra_timelines.specs.Waits.{is_ask}
use Rattle.lra_timelines.proofs.waits.find_ask.Given as goal

abbrev pub invariant-loop-entry : goal.invariant-loop-entry
invariant-loop-entry l = find (is_ask l.ask) (drop l.entry-index l.told) ≡ find (is_ask l.ask) l.told
