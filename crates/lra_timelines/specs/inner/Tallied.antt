-- Counts of members: eight for each action, one for each status.
use Rattle.std.specs.Prelude.{◌≡◌, ℕ, ◌+◌, ◌*◌, ◌<◌, List, length, get_or, set}
use Rattle.lra_course.specs.declared.listing.ListedMember.{ListedMember}
use Rattle.lra_timelines.specs.Lines.{place_of, count_of}

-- each count is the number of members of its action that have its status
abbrev pub Tallied : List ListedMember → List ℕ → Type 0
Tallied ms counts = (slot a p : ℕ) → slot + 8 ≡ 8 * a + p → p < 8 → slot < length counts → get_or counts slot 0
    ≡ count_of ms a p

-- a member is counted, and no other count has changed
pub record IsMore (m : ListedMember) (before after : List ℕ) : Type 0 where
  pub slot : ℕ
  pub place : slot + 8 ≡ 8 * m.action + place_of m.status
  pub within : slot < length before
  pub changed : after ≡ set before slot (get_or before slot 0 + 1)
