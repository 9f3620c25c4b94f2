-- What the counts of a snapshot are at most, so that one more entry can raise each by one.
use Rattle.std.specs.Prelude.{◌≡◌, ℕ, ◌^◌, ◌<◌, ◌≤◌, length, IfSome}
use Rattle.lra_laws.specs.Rows.{row_at}
use Rattle.lra_laws.specs.Snapshots.{Nesting, Endpoint, StateSnapshot}
use Rattle.lra_states.specs.inner.Changes.{AllCanCount}

-- a member's repeats are at most n
pub record RepeatsTo (n : ℕ) (c : Endpoint) : Type 0 where
  pub completing : c.completing.count ≤ n
  pub compensating : c.compensating.count ≤ n
  pub forgetting : c.forgetting.count ≤ n
  pub telling : c.telling.count ≤ n

-- no action is nested deeper than n
abbrev pub DeepTo : ℕ → Nesting → Type 0
DeepTo n x = x.depth ≤ n

-- there is room for one more entry in each count, and as many asks are listed as were counted
pub record CanCount (s : StateSnapshot) : Type 0 where
  pub entries : s.entries < 2 ^ 63
  pub actions : AllCanCount s.state.actions
  pub nestings : (a : ℕ) → IfSome (row_at s.nestings a) (DeepTo (2 ^ 63))
  pub endpoints : (p : ℕ) → IfSome (row_at s.endpoints p) (RepeatsTo (2 ^ 63))
  pub asks : length s.asks ≡ s.state.asks
