-- Actions that are named by their UUID.
use Rattle.std.specs.Prelude.{ℕ, ◌<◌, ◌^◌, List, Option, Some, None}
use Rattle.lra_ids.specs.Identifiers.{IsSpelling, id_text, action_uri}
use Rattle.lra_timelines.specs.declared.wanted.Wanted.{Wanted}

-- the text is the UUID of a number at an instance
abbrev pub IsSpelled : List ℕ → ℕ → Option ℕ → Type 0
IsSpelled text a None = ⊥
IsSpelled text a (Some i) = IsSpelling (id_text i) text a

-- the text is the UUID of the wanted action
abbrev pub IsId : List ℕ → Wanted → Type 0
IsId text w = IsSpelled text w.action w.instance

-- the text is the UUID of no number at any instance
abbrev pub IsNoId : List ℕ → Type 0
IsNoId text = (i n : ℕ) → i < 2 ^ 60 → IsSpelling (id_text i) text n → ⊥

-- the text is the URI, over any base, of no number at any instance
abbrev pub IsNoUri : List ℕ → Type 0
IsNoUri text = (base : List ℕ) (i n : ℕ) → i < 2 ^ 60 → IsSpelling (action_uri i base) text n → ⊥
