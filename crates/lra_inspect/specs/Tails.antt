-- An audit of the bytes so far, with its counts.
use Rattle.std.specs.Prelude.{ℕ, List}
use Rattle.lra_auditor.specs.Feeding.{Feed, IsFollowed}
use Rattle.lra_inspect.specs.declared.counts.FollowCounts.{FollowCounts}
use Rattle.lra_inspect.specs.inner.Statuses.{Hears}

-- how far the bytes were audited, and the counts of what was accepted
pub record Tail : Type 0 where
  pub feed : Feed
  pub counts : FollowCounts

-- a tail stands for the bytes that it was fed
abbrev pub IsTailOf : Tail → List ℕ → Type 0
IsTailOf t bytes = IsFollowed (Hears t.counts) t.feed bytes
