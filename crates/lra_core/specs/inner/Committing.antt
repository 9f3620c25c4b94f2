-- What a command does where its block is written at once, with what the commit gives.
use Rattle.std.specs.Prelude.{◌≡◌, IfSome, Result, MatchResult}
use Rattle.lra_commands.specs.declared.refusal.Refusal.{Refusal}
use Rattle.lra_commands.specs.Calls.{Call}
use Rattle.lra_commands.specs.Given.{errand_of, IsOfAsk}
use Rattle.lra_core.specs.declared.block.Committed.{Committed}
use Rattle.lra_core.specs.Shape.{Shape}
use Rattle.lra_core.specs.Performs.{IsDone, IsRefused}

-- a call was done, and what it gave besides its answer
pub record IsCommitted (before : Shape) (c : Call) (after : Shape) (x : Committed) : Type 0 where
  pub done : IsDone before c after x.told
  pub errand : x.errand ≡ errand_of before.setting before.history c
  pub asked : IfSome x.errand (IsOfAsk after.history)

-- a call that is made, with its errand
abbrev pub PerformsCommitting : Shape → Call → Shape → Result Committed Refusal → Type 0
PerformsCommitting before c after result = MatchResult result (IsCommitted before c after) (IsRefused before c after)
