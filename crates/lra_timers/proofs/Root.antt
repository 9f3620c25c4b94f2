-- In a tree of winners place 1 has the first of all leaves.
use Rattle.std.proofs.Common.{◌≡◌, ℕ, zero, suc, ◌+◌, ◌-◌, ◌*◌, ◌/◌, ◌≤◌, ◌<◌, List, length, take, drop, inl, inr, sym}
use Rattle.std.proofs.Common.{◌∙◌, ap, subst, arith}
use Rattle.std.proofs.lemmas.Bool.{cases_eq}
use Rattle.std.proofs.lemmas.Bool.Decides.{leb_tells}
use Rattle.std.proofs.lemmas.List.{get_or-drop, get_or-take, length-take-le, length-drop}
use Rattle.lra_timers.specs.declared.deadline.Deadline.{Deadline}
use Rattle.lra_timers.specs.Order.{IsNotAfter, IsFirstOf, node, last}
use Rattle.lra_timers.specs.inner.Tree.{IsWonAt, IsWon, IsTree}
use Rattle.lra_timers.proofs.Orders.{IsNotAfter-refl, IsNotAfter-trans, IsNotAfter-antisym}

-- what stands above a place isn't after what stands there
parent_not_after : (nodes : List Deadline) (width at : ℕ) → IsWon nodes width → 1 < at → at < 2 * width
    → IsNotAfter (node nodes (at / 2)) (node nodes at)
parent_not_after nodes width at won below inside =
    let match_won : IsWonAt nodes (at / 2) = won (at / 2) (omega arith) (omega arith) in
    elim (cases_eq at (2 * (at / 2))) [
      | inl even ↦ subst (λ k. IsNotAfter (node nodes (at / 2)) (node nodes k)) (sym even) match_won.first
      | inr odd ↦ let is : 2 * (at / 2) + 1 ≡ at = omega arith in
          subst (λ k. IsNotAfter (node nodes (at / 2)) (node nodes k)) is match_won.second
    ]

root_not_after : (nodes : List Deadline) (width : ℕ) → IsWon nodes width → (fuel at : ℕ) → at ≤ fuel → 1 ≤ at → at
    < 2 * width → IsNotAfter (node nodes 1) (node nodes at)
root_not_after nodes width won zero at enough positive inside = absurd (omega arith)
root_not_after nodes width won (suc fuel) at enough positive inside = elim (cases_eq at 1) [
  | inl root ↦ subst (λ k. IsNotAfter (node nodes 1) (node nodes k)) (sym root) (IsNotAfter-refl (node nodes 1))
  | inr below ↦
      IsNotAfter-trans (node nodes 1) (node nodes (at / 2)) (node nodes at)
      (root_not_after nodes width won fuel (at / 2) (omega arith) (omega arith) (omega arith))
      (parent_not_after nodes width at won (omega arith) inside)
]

-- what stands at a place stands at some leaf
abbrev StandsAtLeaf : List Deadline → ℕ → Deadline → Type 0
StandsAtLeaf nodes width winner = (k : ℕ) × (k < width) × (winner ≡ node nodes (width + k))

stands_at_leaf : (nodes : List Deadline) (width : ℕ) → IsWon nodes width → (fuel at : ℕ) → 2 * width ≤ fuel + at → 1
    ≤ at → at < 2 * width → StandsAtLeaf nodes width (node nodes at)
stands_at_leaf nodes width won zero at enough positive inside = absurd (omega arith)
stands_at_leaf nodes width won (suc fuel) at enough positive inside = elim (leb_tells width at) [
  | inl leaf ↦ let here : at ≡ width + (at - width) = omega arith in (at - width, omega arith, ap (node nodes) here)
  | inr inner ↦ elim (won at positive inner.1).one_of [
    | inl first ↦ let deep = stands_at_leaf nodes width won fuel (2 * at) (omega arith) (omega arith) (omega arith) in
        (deep.0, deep.1, first ∙ deep.2)
    | inr second ↦ let deep = stands_at_leaf nodes width won fuel (2 * at + 1) (omega arith) (omega arith)
        (omega arith) in (deep.0, deep.1, second ∙ deep.2)
  ]
]

node_of_leaf : (nodes : List Deadline) (width i : ℕ) → node (drop width nodes) i ≡ node nodes (width + i)
node_of_leaf nodes width i = get_or-drop width nodes i last

node_of_item : (nodes : List Deadline) (width len i : ℕ) → i < len → node (take len (drop width nodes)) i
    ≡ node nodes (width + i)
node_of_item nodes width len i within = get_or-take len (drop width nodes) i last within ∙ node_of_leaf nodes width i

-- where a free leaf is the first, so is the first deadline
last_is_item : (nodes : List Deadline) (width len : ℕ) → IsTree nodes width len → node nodes 1 ≡ last
    → IsNotAfter (node nodes 1) (node nodes (width + 0)) → node nodes (width + 0) ≡ node nodes 1
last_is_item nodes width len tree root least =
    IsNotAfter-antisym (node nodes (width + 0)) (node nodes 1)
    (subst (λ d. IsNotAfter (node nodes (width + 0)) d) (sym root) (subst (λ d. IsNotAfter d last)
    (node_of_leaf nodes width 0) (tree.in_range 0))) least

pub length_of_items : (nodes : List Deadline) (width len : ℕ) → IsTree nodes width len
    → length (take len (drop width nodes)) ≡ len
length_of_items nodes width len tree = length-take-le len (drop width nodes)
    (omega (arith, tree.size, tree.within, length-drop width nodes))

-- the first of the deadlines stands at place 1
pub IsFirstOf-root : (nodes : List Deadline) (width len : ℕ) → IsTree nodes width len → 0 < len
    → IsFirstOf (take len (drop width nodes)) (node nodes 1)
IsFirstOf-root nodes width len tree some =
    let items = take len (drop width nodes) in
    let size = length_of_items nodes width len tree in
    let least : (i : ℕ) → i < len → IsNotAfter (node nodes 1) (node nodes (width + i)) =
    λ i within. root_not_after nodes width tree.won (width + i) (width + i) (omega arith) (omega arith)
    (omega (arith, tree.within)) in
    let all : (i : ℕ) → i < length items → IsNotAfter (node nodes 1) (node items i) =
    λ i within. subst (λ d. IsNotAfter (node nodes 1) d) (sym (node_of_item nodes width len i (omega arith)))
    (least i (omega arith)) in
    let deep = stands_at_leaf nodes width tree.won (2 * width) 1 (omega arith) (omega arith)
    (omega (arith, tree.within)) in
    elim (leb_tells len deep.0) [
      | inl free ↦
          let root : node nodes 1 ≡ last = deep.2 ∙ sym (node_of_leaf nodes width deep.0) ∙ tree.free deep.0 free.1 in
          record {
            place = 0;
            within = omega arith;
            here = node_of_item nodes width len 0 some
                ∙ last_is_item nodes width len tree root (least 0 some);
            least = all;
          }
      | inr taken ↦ record {
        place = deep.0;
        within = omega (arith, taken.1);
        here =
            node_of_item nodes width len deep.0 taken.1 ∙ sym deep.2;
        least = all;
      }
    ]
