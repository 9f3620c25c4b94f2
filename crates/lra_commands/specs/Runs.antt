-- Commands one after another, by any clerks.
use Rattle.std.specs.Prelude.{◌≡◌, ℕ, ◌≤◌, true, List, [], ◌∷◌, length, None, All}
use Rattle.lra_model.specs.History.{History, clerks, actions, members, is_among}
use Rattle.lra_model.specs.Actions.{depth}
use Rattle.lra_model.specs.Rules.{is_legal}
use Rattle.lra_ids.specs.Addresses.{is_address}
use Rattle.lra_commands.specs.declared.limits.Limits.{Limits}
use Rattle.lra_commands.specs.declared.limits.Terms.{Terms}
use Rattle.lra_commands.specs.Terms.{AreKeepable}
use Rattle.lra_commands.specs.Calls.{Call, IsCall}
use Rattle.lra_commands.specs.Refusals.{refused}
use Rattle.lra_commands.specs.Answers.{after_call, IsQuietAfter}

-- the history after calls, one after another
abbrev pub after_calls : Terms → History → List Call → History
after_calls s J [] = J
after_calls s J (c ∷ cs) = after_calls s (after_call s J c) cs

-- a history has no more of anything than the limits say
pub record IsWithin (l : Limits) (J : History) : Type 0 where
  pub clerks : length (clerks J) ≤ l.clerks
  pub actions : length (actions J) ≤ l.actions
  pub members : length (members J) ≤ l.members
  pub entries : length J ≤ l.entries

-- no action is nested deeper than the limit
abbrev pub IsShallow : Limits → History → Type 0
IsShallow l J = (a : ℕ) → is_among (actions J) a ≡ true → depth J a ≤ l.depth

-- a history that a coordinator can have: it is legal, and passes none of the limits, depth among them
pub record IsLawful (s : Terms) (J : History) : Type 0 where
  pub legal : is_legal s.version is_address J ≡ true
  pub within : IsWithin s.limits J
  pub shallow : IsShallow s.limits J

-- whatever calls are made, by any clerks and in any order, the history stays legal and within the limits
abbrev pub CallsKeepHistories : Type 0
CallsKeepHistories = (s : Terms) (J : History) (cs : List Call) → AreKeepable s.limits → IsLawful s J → All IsCall cs
    → IsLawful s (after_calls s J cs)

-- from nothing, whatever calls are made, there comes a legal history within the limits
abbrev pub CallsMakeHistories : Type 0
CallsMakeHistories = (s : Terms) (cs : List Call) → AreKeepable s.limits → All IsCall cs
    → IsLawful s (after_calls s [] cs)

-- whatever call is made, unless it is refused, nothing is left to settle after it, if it writes
abbrev pub CallsLeaveQuiet : Type 0
CallsLeaveQuiet = (s : Terms) (J : History) (c : Call) → AreKeepable s.limits → IsLawful s J → IsCall c → refused s J c
    ≡ None → IsQuietAfter s J c
