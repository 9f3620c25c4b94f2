-- What the counts of an action are at most, so that one more entry can raise each by one.
use Rattle.std.specs.Prelude.{ℕ, ◌-◌, ◌^◌, ◌≤◌}
use Rattle.lra_laws.specs.Rows.{ActionRow}

-- the counts of an action are at most n
pub record CountsTo (n : ℕ) (r : ActionRow) : Type 0 where
  pub completing : r.completing ≤ n
  pub compensating : r.compensating ≤ n
  pub uncompleted : r.uncompleted ≤ n
  pub uncompensated : r.uncompensated ≤ n
  pub unended : r.unended ≤ n
  pub uncancelled : r.uncancelled ≤ n
  pub failed : r.failed ≤ n

-- each count of an action can go up by one, and is less than 2^64 then
abbrev pub CanCount : ActionRow → Type 0
CanCount r = CountsTo (2 ^ 64 - 2) r
