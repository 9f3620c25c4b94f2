-- What a command does where its block is written at once.
use Rattle.std.specs.Prelude.{◌≡◌, ℕ, Option, IfSome, Result, Ok, MatchResult}
use Rattle.lra_model.specs.declared.asks.Outcome.{Outcome}
use Rattle.lra_commands.specs.declared.command.Command.TheVariants.{Record}
use Rattle.lra_commands.specs.declared.command.Told.{Told}
use Rattle.lra_commands.specs.declared.refusal.Refusal.{Refusal}
use Rattle.lra_commands.specs.Errands.{Asking}
use Rattle.lra_commands.specs.Calls.{Command, Call}
use Rattle.lra_commands.specs.Answers.{answer, after_call, IsQuietAfter}
use Rattle.lra_commands.specs.Counters.{terms_of}
use Rattle.lra_commands.specs.Given.{errand_of, IsOfAsk}
use Rattle.lra_commands.specs.Shortages.{IsRefusal}
use Rattle.lra_core.specs.Shape.{Shape, IsSame, IsGrown}

-- a call was done: it got the definitions' answer, the history grew by it, and nothing is left to settle if it wrote
pub record IsDone (before : Shape) (c : Call) (after : Shape) (t : Told) : Type 0 where
  pub answered : answer (terms_of before.setting) before.history c ≡ Ok t
  pub grown : IsGrown before after (after_call (terms_of before.setting) before.history c)
  pub quiet : IsQuietAfter (terms_of before.setting) before.history c

-- a call wasn't done, and nothing is changed
pub record IsRefused (before : Shape) (c : Call) (after : Shape) (r : Refusal) : Type 0 where
  pub refusal : IsRefusal (terms_of before.setting) before.history c r
  pub same : IsSame before after

-- a call that is made: it is done, or it isn't
abbrev pub Performs : Shape → Call → Shape → Result Told Refusal → Type 0
Performs before c after result = MatchResult result (IsDone before c after) (IsRefused before c after)

-- a call was done, and gave an errand, or none: that of the ask which it made
pub record IsDoneGiving (before : Shape) (c : Call) (after : Shape) (e : Option Asking) : Type 0 where
  pub told : Told
  pub done : IsDone before c after told
  pub errand : e ≡ errand_of before.setting before.history c
  pub asked : IfSome e (IsOfAsk after.history)

-- a call that asks for an errand
abbrev pub PerformsGiving : Shape → Call → Shape → Result (Option Asking) Refusal → Type 0
PerformsGiving before c after result = MatchResult result (IsDoneGiving before c after) (IsRefused before c after)

-- a command records the outcome of an errand's ask
abbrev pub IsRecording : Asking → Outcome → Command → Type 0
IsRecording e o (Record errand outcome) = (errand.now ≡ e) × (outcome ≡ o)
IsRecording e o _ = ⊥

-- a call records the outcome of an errand's ask
pub record RecordsAs (c : Call) (clerk at : ℕ) (e : Asking) (o : Outcome) : Type 0 where
  pub by : c.by ≡ clerk
  pub moment : c.moment ≡ at
  pub command : IsRecording e o c.command

-- the outcome of an ask is recorded, or the errand is returned
abbrev pub PerformsRecord : Shape → ℕ → ℕ → Asking → Outcome → Shape → Result Told (Refusal × Asking) → Type 0
PerformsRecord before by moment e o after result =
    (c : Call) × RecordsAs c by moment e o × MatchResult result (IsDone before c after)
    (λ x. IsRefused before c after x.0 × (x.1 ≡ e))
