-- The entries that a call appends, by its answer.
use Rattle.std.proofs.Common.{◌≡◌, cond, List, [], Option, Some, None, refl}
use Rattle.std.specs.Prelude.{Ok, Err, is_some}
use Rattle.std.specs.Option.{option_map_or}
use Rattle.lra_model.specs.History.{History}
use Rattle.lra_commands.specs.declared.command.Told.{Told}
use Rattle.lra_commands.specs.declared.refusal.Refusal.{Refusal}
use Rattle.lra_commands.specs.declared.limits.Terms.{Terms}
use Rattle.lra_commands.specs.Calls.{Call}
use Rattle.lra_commands.specs.Blocks.{block}
use Rattle.lra_commands.specs.Refusals.{refused}
use Rattle.lra_commands.specs.Answers.{told_of, answer, growth}

told_grows : {X : Type 0} (r : Option Refusal) (all : List X) (y t : Told) → option_map_or Err r (Ok y) ≡ Ok t
    → cond (is_some r) [] all ≡ all
told_grows None all y t e = refl
told_grows (Some x) all y t e = absurd cc

refused_stays : {X : Type 0} (r : Option Refusal) (all : List X) (y : Told) (x : Refusal) → option_map_or Err r (Ok y)
    ≡ Err x → cond (is_some r) [] all ≡ []
refused_stays None all y x e = absurd cc
refused_stays (Some z) all y x e = refl

-- a call that isn't refused appends its block
pub growth_told : (s : Terms) (J : History) (c : Call) (t : Told) → answer s J c ≡ Ok t → growth s J c ≡ block s J c
unfolding answer growth
growth_told s J c t e = told_grows (refused s J c) (block s J c) (told_of s J c) t e

-- a call that is refused appends nothing
pub growth_refused : (s : Terms) (J : History) (c : Call) (r : Refusal) → answer s J c ≡ Err r → growth s J c ≡ []
unfolding answer growth
growth_refused s J c r e = refused_stays (refused s J c) (block s J c) (told_of s J c) r e
