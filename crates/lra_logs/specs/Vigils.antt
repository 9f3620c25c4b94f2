-- The state of an ask tracker.
use Rattle.std.specs.Prelude.{nat_eq, unwrap_or}
use Rattle.std.specs.HashMap.{get}
use Rattle.lra_logs.specs.declared.ask_tracker.AskTracker.{AskTracker}
use Rattle.lra_logs.specs.Silences.{Sight}

-- what a tracker knows of a journal's entries
abbrev pub sight_of : AskTracker → Sight
sight_of v = record {
  asked = λ ask. get nat_eq v.asks ask;
  silent = λ member. unwrap_or (get nat_eq v.silences member)
      0;
}
