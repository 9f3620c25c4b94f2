-- The names of actions on the command line (this project's choice).
use Rattle.std.specs.Prelude.{◌≡◌, ◌⊎◌, ◌<◌, ◌^◌, ℕ, List, Option, Some, None}
use Rattle.std.specs.Fmt.{decimal}
use Rattle.lra_ids.specs.Identifiers.{IsSpelling, id_text, action_uri}
use Rattle.lra_timelines.specs.declared.wanted.Wanted.{Wanted}

-- a text names an action: it spells the action's number, or is the UUID of that number at an instance, or its URI over
-- some base
abbrev pub IsNamed : List ℕ → ℕ → Option ℕ → Type 0
IsNamed text a None = text ≡ decimal a
IsNamed text a (Some i) = IsSpelling (id_text i) text a ⊎ ((base : List ℕ) × IsSpelling (action_uri i base) text a)

-- the text names the wanted action
abbrev pub IsWanted : List ℕ → Wanted → Type 0
IsWanted text w = IsNamed text w.action w.instance

-- a number, or an instance and a number, in their ranges: a number has 64 bits, and an instance 60 (this project's
-- choice)
abbrev pub CanBe : ℕ → Option ℕ → Type 0
CanBe a None = a < 2 ^ 64
CanBe a (Some i) = i < 2 ^ 60

-- the text names no action whose number and instance are in their ranges
abbrev pub NamesNone : List ℕ → Type 0
NamesNone text = (a : ℕ) (o : Option ℕ) → CanBe a o → IsNamed text a o → ⊥
