-- What is counted of a journal that is followed.
use Rattle.std.specs.Prelude.{◌≡◌, ℕ, List, [], ◌∷◌, length, map, codes, decimal}
use Rattle.lra_model.specs.History.{History, actions}
use Rattle.lra_model.specs.Tallies.{count_actions}
use Rattle.lra_laws.specs.Rows.{ActionRow, state_of, is_unended}
use Rattle.lra_verdict_lines.specs.VerdictLines.{joined}
use Rattle.lra_inspect.specs.declared.counts.FollowCounts.{FollowCounts}

-- the counts are of a history: the number of its entries, and each action's status, in the order of their numbers
pub record Count (c : FollowCounts) (J : History) : Type 0 where
  pub entries : c.entries ≡ length J
  pub statuses : c.statuses.items ≡ map (λ (r : ActionRow). r.status) (state_of J).actions

-- the line for a journal that has been sound so far: how many entries and actions it has, and how many of these haven't
-- ended (this project's choice)
abbrev pub sound_line : History → List ℕ
sound_line J = joined (codes "sound so far: " ∷ decimal (length J) ∷ codes " entries, " ∷ decimal (length (actions J))
    ∷ codes " actions, " ∷ decimal (count_actions is_unended J) ∷ codes " unended\n" ∷ [])
