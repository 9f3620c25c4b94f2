-- Asks whose answer nothing waits for.
use Rattle.std.specs.Prelude.{Bool, true, false}
use Rattle.lra_model.specs.declared.asks.AskKind.{AskKind}
use Rattle.lra_model.specs.declared.asks.AskKind.TheVariants.{Forget, After}

-- an ask only notifies a member of how its action ended: nothing waits for its answer
abbrev pub is_telling : AskKind → Bool
is_telling Forget = true
is_telling After = true
is_telling _ = false
