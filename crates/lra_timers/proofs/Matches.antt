-- What a write leaves of the matches of a tree of winners.
use Rattle.std.proofs.Common.{◌≡◌, ◌≢◌, ℕ, ◌+◌, ◌*◌, ◌/◌, ◌≤◌, ◌<◌, List, length, set, inl, inr, sym, subst, arith}
use Rattle.std.proofs.Common.{get_or-set_same, get_or-set_other}
use Rattle.std.proofs.lemmas.Bool.{cases_eq}
use Rattle.lra_timers.specs.declared.deadline.Deadline.{Deadline}
use Rattle.lra_timers.specs.Order.{node, last}
use Rattle.lra_timers.specs.inner.Tree.{IsWinner, IsWonAt, IsWon}

-- all matches were won, but perhaps the one at a place, which is 0 for none
pub record IsWonBut (nodes : List Deadline) (width open_place : ℕ) : Type 0 where
  pub others : (at : ℕ) → 1 ≤ at → at < width → at ≢ open_place → IsWonAt nodes at

-- a write touches no match but the one at its place and the one above it
IsWonAt-set : (nodes : List Deadline) (at : ℕ) (deadline : Deadline) (j : ℕ) → j ≢ at → j ≢ at / 2 → IsWonAt nodes j
    → IsWonAt (set nodes at deadline) j
IsWonAt-set nodes at deadline j other not_above won =
    let first : 2 * j ≢ at = omega arith in
    let second : 2 * j + 1 ≢ at = omega arith in
    rw (
      get_or-set_other nodes at j deadline last other,
      get_or-set_other nodes at (2 * j) deadline last first,
      get_or-set_other nodes at (2 * j + 1) deadline last second,
    ) won

-- what is written stands there, and the two below it stay
IsWonAt-set_here : (nodes : List Deadline) (at : ℕ) (winner : Deadline) → 1 ≤ at → at < length nodes
    → IsWinner winner (node nodes (2 * at)) (node nodes (2 * at + 1)) → IsWonAt (set nodes at winner) at
IsWonAt-set_here nodes at winner positive inside is =
    let first : 2 * at ≢ at = omega arith in
    let second : 2 * at + 1 ≢ at = omega arith in
    rw (
      get_or-set_same nodes at winner last inside,
      get_or-set_other nodes at (2 * at) winner last first,
      get_or-set_other nodes at (2 * at + 1) winner last second,
    ) is

-- a write into a leaf opens the match above it
pub IsWonBut-leaf : (nodes : List Deadline) (width leaf : ℕ) (deadline : Deadline) → width ≤ leaf → IsWon nodes width
    → IsWonBut (set nodes leaf deadline) width (leaf / 2)
IsWonBut-leaf nodes width leaf deadline behind won = record {
  others = λ j positive inner other. IsWonAt-set nodes leaf deadline j (omega arith) other (won j positive inner);
}

-- an open match is won, and opens the one above it
pub IsWonBut-up : (nodes : List Deadline) (width at : ℕ) (winner : Deadline) → 1 ≤ at → at < length nodes
    → IsWonBut nodes width at → IsWinner winner (node nodes (2 * at)) (node nodes (2 * at + 1))
    → IsWonBut (set nodes at winner) width (at / 2)
IsWonBut-up nodes width at winner positive inside but is = record {
  others = λ j j_positive inner not_above. elim (cases_eq j at) [
    | inl same ↦ subst (λ k. IsWonAt (set nodes at winner) k) (sym same)
        (IsWonAt-set_here nodes at winner positive inside is)
    | inr other ↦ IsWonAt-set nodes at winner j other not_above (but.others j j_positive inner other)
  ];
}

-- the winner of an open match stands there already
pub IsWon-found : (nodes : List Deadline) (width at : ℕ) (winner : Deadline) → IsWonBut nodes width at → node nodes at
    ≡ winner → IsWinner winner (node nodes (2 * at)) (node nodes (2 * at + 1)) → IsWon nodes width
IsWon-found nodes width at winner but here is j positive inner = elim (cases_eq j at) [
  | inl same ↦ subst (λ k. IsWonAt nodes k) (sym same)
      (subst (λ w. IsWinner w (node nodes (2 * at)) (node nodes (2 * at + 1))) (sym here) is)
  | inr other ↦ but.others j positive inner other
]

-- the matches from a place on were won
pub record IsWonFrom (nodes : List Deadline) (width from : ℕ) : Type 0 where
  pub upward : (at : ℕ) → 1 ≤ at → from ≤ at → at < width → IsWonAt nodes at

pub IsWonFrom-down : (nodes : List Deadline) (width from at : ℕ) (winner : Deadline) → 1 ≤ at → at < length nodes → from
    ≤ at + 1 → IsWonFrom nodes width from → IsWinner winner (node nodes (2 * at)) (node nodes (2 * at + 1))
    → IsWonFrom (set nodes at winner) width at
IsWonFrom-down nodes width from at winner positive inside next won is = record {
  upward = λ j j_positive above inner. elim (cases_eq j at) [
    | inl same ↦ subst (λ k. IsWonAt (set nodes at winner) k) (sym same)
        (IsWonAt-set_here nodes at winner positive inside is)
    | inr other ↦ IsWonAt-set nodes at winner j other (omega arith) (won.upward j j_positive (omega arith) inner)
  ];
}
