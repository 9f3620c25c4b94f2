-- Positions that are noted, and those that were durable.
use Rattle.std.proofs.Common.{◌≡◌, ℕ, ◌≤◌, Bool, List, [], ◌∷◌, ◌++◌, Option, Some, None, inl, inr, refl, sym, ap, ◌∙◌}
use Rattle.std.proofs.Common.{subst, arith}
use Rattle.std.specs.Prelude.{◌⊎◌, IfSome, IsSomeAnd}
use Rattle.std.proofs.Math.Logic.{∥∥₁_map}
use Rattle.lra_durable.specs.Leaves.{MayLeave}
use Rattle.lra_steps.specs.declared.handler.Answered.{Answered}
use Rattle.lra_steps.specs.History.{Turn}
use Rattle.lra_event_loop.specs.declared.positions.Position.{Position}
use Rattle.lra_event_loop.specs.declared.positions.Positions.{Positions}
use Rattle.lra_event_loop.specs.Waiting.{AllMayGo, AreNoted, IsDurable, IsNoted, MayGo, Reaches, WaitFor}
use Rattle.lra_event_loop.specs.inner.Noting.{Adds, Goes, KeepsNoted, Notes, Settles}

-- ---- there is no position

reaches_none : (place : Option Position) (instance n : ℕ) → place ≡ None → Reaches place instance n → ⊥
reaches_none None instance n e h = absurd h
reaches_none (Some p) instance n e h = absurd cc

waits_none : (ps : Positions) (instance n : ℕ) → ps.first ≡ None → ps.other ≡ None → WaitFor ps instance n → ⊥
waits_none ps instance n first other (inl h) = absurd (reaches_none ps.first instance n first h)
waits_none ps instance n first other (inr h) = absurd (reaches_none ps.other instance n other h)

-- ---- one more position

-- the first position
pub adds_first : (old : Positions) (p : Position) → old.first ≡ None → old.other ≡ None → Adds old (record {
  first =
      Some p;
  other = None;
}) p
adds_first old p first other = record {
  goes = λ instance n h. absurd (waits_none old instance n first other h);
  added = inl (refl, omega arith);
}

-- another position in the journal of the first
pub adds_same : (old : Positions) (p q r : Position) → old.first ≡ Some q → old.other ≡ None → q.instance ≡ p.instance
    → r.instance ≡ q.instance → q.length ≤ r.length → p.length ≤ r.length
    → Adds old (record { first = Some r; other = None }) p
adds_same old p q r first other same kept more least = record { goes = goes; added = inl (kept ∙ same, least) } where
  goes : Goes old (record { first = Some r; other = None })
  goes instance n (inr h) = absurd (reaches_none old.other instance n other h)
  goes instance n (inl h) =
      let k : Reaches (Some q) instance n = subst (λ (o : Option Position). Reaches o instance n) first h in
      inl (kept ∙ k.0, omega (arith, k.1, more))

-- a position in another journal
pub adds_other : (old : Positions) (p q : Position) → old.first ≡ Some q → old.other ≡ None → Adds old (record {
  first
      = Some q;
  other = Some p;
}) p
adds_other old p q first other = record { goes = goes; added = inr (refl, omega arith) } where
  goes : Goes old (record { first = Some q; other = Some p })
  goes instance n (inr h) = absurd (reaches_none old.other instance n other h)
  goes instance n (inl h) = inl (subst (λ (o : Option Position). Reaches o instance n) first h)

-- the position of an answer
pub notes_some : (old new : Positions) (answered : Answered) (n : ℕ) → answered.position ≡ Some n → Adds old new
    (record { instance = answered.instance; length = n }) → Notes old new answered
notes_some old new answered n e a = record {
  goes = a.goes;
  noted = subst (λ (o : Option ℕ). IfSome o (WaitFor new answered.instance)) (sym e) a.added;
}

pub notes_none : (old : Positions) (answered : Answered) → answered.position ≡ None → Notes old old answered
notes_none old answered e = record {
  goes = λ instance n h. h;
  noted = subst (λ (o : Option ℕ). IfSome o (WaitFor old answered.instance)) (sym e) tt;
}

-- ---- durable positions

-- a position that is reached
pub durable_below : (keeps : ℕ → ℕ → Bool) (p : Position) (kept instance n : ℕ) → MayLeave (keeps p.instance) p.length
    kept → Reaches (Some p) instance n → IsDurable keeps instance n
durable_below keeps p kept instance n leave h =
    subst (λ (i : ℕ). IsDurable keeps i n) h.0 (kept, (omega (arith, leave.0, h.1), leave.1))

-- both are settled
pub settles_both : (keeps : ℕ → ℕ → Bool) (old new : Positions) → ((instance n : ℕ) → Reaches old.first instance n →
    IsDurable keeps instance n ⊎ Reaches new.first instance n)
    → ((instance n : ℕ) → Reaches old.other instance n → IsDurable keeps instance n ⊎ Reaches new.other instance n) →
    Settles keeps old new
settles_both keeps old new first other instance n (inl h) = by (first instance n h) where
  by : IsDurable keeps instance n ⊎ Reaches new.first instance n → IsDurable keeps instance n ⊎ WaitFor new instance n
  by (inl d) = inl d
  by (inr r) = inr (inl r)
settles_both keeps old new first other instance n (inr h) = by (other instance n h) where
  by : IsDurable keeps instance n ⊎ Reaches new.other instance n → IsDurable keeps instance n ⊎ WaitFor new instance n
  by (inl d) = inl d
  by (inr r) = inr (inr r)

-- ---- turns

some_moves : (keeps : ℕ → ℕ → Bool) (old new : Positions) (instance : ℕ) (position : Option ℕ)
    → Settles keeps old new
    → IfSome position (λ n. IsDurable keeps instance n ⊎ WaitFor old instance n) → IfSome position (λ n. IsDurable
    keeps instance n ⊎ WaitFor new instance n)
some_moves keeps old new instance None moves h = tt
some_moves keeps old new instance (Some n) moves (inl d) = inl d
some_moves keeps old new instance (Some n) moves (inr w) = moves instance n w

-- positions that are settled stay durable or noted
pub noted_settled : (keeps : ℕ → ℕ → Bool) (old new : Positions) (turns : List Turn) → Settles keeps old new →
    AreNoted keeps old turns → AreNoted keeps new turns
noted_settled keeps old new [] moves h = tt
noted_settled keeps old new (turn ∷ turns) moves h = (
  some_moves keeps old new turn.answered.instance turn.answered.position moves h.0,
  noted_settled keeps old new
      turns moves h.1,
)

some_durable : (keeps : ℕ → ℕ → Bool) (ps : Positions) (instance : ℕ) (position : Option ℕ) → ps.first ≡ None →
    ps.other ≡ None
    → IfSome position (λ n. IsDurable keeps instance n ⊎ WaitFor ps instance n) → IfSome position (IsDurable keeps
    instance)
some_durable keeps ps instance None first other h = tt
some_durable keeps ps instance (Some n) first other (inl d) = d
some_durable keeps ps instance (Some n) first other (inr w) = absurd (waits_none ps instance n first other w)

-- if no position is noted, all are durable
pub all_durable : (keeps : ℕ → ℕ → Bool) (ps : Positions) (turns : List Turn) → ps.first ≡ None → ps.other ≡ None →
    AreNoted keeps ps turns → AllMayGo keeps turns
all_durable keeps ps [] first other h = tt
all_durable keeps ps (turn ∷ turns) first other h = (
  some_durable keeps ps turn.answered.instance turn.answered.position first other h.0,
  all_durable keeps ps turns
      first other h.1,
)

noted_goes : (keeps : ℕ → ℕ → Bool) (old new : Positions) (turns : List Turn) → Goes old new → AreNoted keeps old
    turns → AreNoted keeps new turns
noted_goes keeps old new turns goes h = noted_settled keeps old new turns (λ instance n w. inr (goes instance n w)) h

noted_waits : (keeps : ℕ → ℕ → Bool) (ps : Positions) (instance : ℕ) (position : Option ℕ) → IfSome position (WaitFor
    ps instance)
    → IfSome position (λ n. IsDurable keeps instance n ⊎ WaitFor ps instance n)
noted_waits keeps ps instance None h = tt
noted_waits keeps ps instance (Some n) h = inr h

noted_append : (keeps : ℕ → ℕ → Bool) (ps : Positions) (turns : List Turn) (turn : Turn) → AreNoted keeps ps turns →
    IsNoted keeps ps turn.answered → AreNoted keeps ps (turns ++ turn ∷ [])
noted_append keeps ps [] turn h one = (one, tt)
noted_append keeps ps (first ∷ turns) turn h one = (h.0, noted_append keeps ps turns turn h.1 one)

-- a turn whose answer is noted
pub keeps_one : (old new : Positions) (turns more : List Turn) (turn : Turn) → more ≡ turns ++ turn ∷ [] → Notes old
    new turn.answered → KeepsNoted turns more old new
keeps_one old new turns more turn e notes keeps h =
    subst (AreNoted keeps new) (sym e)
    (noted_append keeps new turns turn (noted_goes keeps old new turns notes.goes h) (noted_waits keeps new
    turn.answered.instance turn.answered.position notes.noted))

-- no turn is added
pub keeps_same : (ps : Positions) (turns more : List Turn) → more ≡ turns → KeepsNoted turns more ps ps
keeps_same ps turns more e keeps h = subst (AreNoted keeps ps) (sym e) h

-- some turns are added, and then others
pub keeps_on : (old mid new : Positions) (turns more most : List Turn) → KeepsNoted turns more old mid → KeepsNoted
    more most mid new → KeepsNoted turns most old new
keeps_on old mid new turns more most a b keeps h = b keeps (a keeps h)

-- ---- a client

pub noted_begun : (keeps : ℕ → ℕ → Bool) (ps : Positions) (turns : List Turn) → turns ≡ [] → ∥ AreNoted keeps ps turns
    ∥₁
noted_begun keeps ps [] e = ∣ tt ∣₁
noted_begun keeps ps (turn ∷ turns) e = absurd cc

pub noted_answered : (keeps : ℕ → ℕ → Bool) (old new : Positions) (turns more : List Turn) → KeepsNoted turns more old
    new → ∥ AreNoted keeps old turns ∥₁ → ∥ AreNoted keeps new more ∥₁
noted_answered keeps old new turns more on h = ∥∥₁_map h (on keeps)

pub noted_still : (keeps : ℕ → ℕ → Bool) (ps : Positions) (turns more : List Turn) → more ≡ turns → ∥ AreNoted keeps
    ps turns ∥₁ → ∥ AreNoted keeps ps more ∥₁
noted_still keeps ps turns more e h = ∥∥₁_map h (subst (AreNoted keeps ps) (sym e))

pub noted_moved : (keeps : ℕ → ℕ → Bool) (old new : Positions) (turns : List Turn) → Settles keeps old new → ∥
    AreNoted keeps old turns ∥₁ → ∥ AreNoted keeps new turns ∥₁
noted_moved keeps old new turns moves h = ∥∥₁_map h (noted_settled keeps old new turns moves)

-- if all positions are settled, all turns are durable
pub durable_all : (keeps : ℕ → ℕ → Bool) (old new : Positions) (turns : List Turn) → Settles keeps old new → new.first
    ≡ None → new.other ≡ None → ∥ AreNoted keeps old turns ∥₁
    → ∥ AllMayGo keeps turns ∥₁
durable_all keeps old new turns moves first other h = ∥∥₁_map h (λ noted. all_durable keeps new turns first other
    (noted_settled keeps old new turns moves noted))
