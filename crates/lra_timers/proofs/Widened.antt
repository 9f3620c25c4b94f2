-- A tree of winners stays one where its leaves move behind more room, and all matches are played again.
use Rattle.std.proofs.Common.{◌≡◌, ℕ, ◌+◌, ◌-◌, ◌*◌, ◌≤◌, ◌<◌, List, ◌++◌, length, take, drop, inl, inr, refl, sym, ◌∙◌}
use Rattle.std.proofs.Common.{ap, subst, arith}
use Rattle.std.proofs.Math.ListN.{replicate}
use Rattle.std.proofs.lemmas.Bool.Decides.{leb_tells}
use Rattle.std.proofs.lemmas.List.{get_or-drop, get_or_append_left, get_or-append_right, get_or-replicate, get_or_past}
use Rattle.std.proofs.lemmas.List.{length-replicate, take_all}
use Rattle.std.specs.List.{CopiedTo, SameFrom}
use Rattle.lra_timers.specs.declared.deadline.Deadline.{Deadline}
use Rattle.lra_timers.specs.Order.{IsNotAfter, node, last}
use Rattle.lra_timers.specs.inner.Tree.{IsWon, IsTree}
use Rattle.lra_timers.proofs.Orders.{IsNotAfter-refl}

node-replicate : (n i : ℕ) → node (replicate n last) i ≡ last
node-replicate n i = elim (leb_tells n i) [
  | inl past ↦ get_or_past (replicate n last) i last (subst (λ m. m ≤ i) (sym (length-replicate n last)) past.1)
  | inr within ↦ get_or-replicate n i last last within.1
]

-- the old nodes, and behind them free ones
record IsGrown (old grown : List Deadline) : Type 0 where
  within : (k : ℕ) → k < length old → node grown k ≡ node old k
  behind : (k : ℕ) → length old ≤ k → node grown k ≡ last

grown : (old new : List Deadline) (size n : ℕ) → length old ≤ size → new ≡ take size old ++ replicate n last
    → IsGrown old new
grown old new size n fits is =
    let whole : new ≡ old ++ replicate n last = is ∙ ap (λ xs. xs ++ replicate n last) (take_all size old fits) in
    record {
      within = λ k inside. ap (λ xs. node xs k) whole ∙ get_or_append_left old (replicate n last) last k inside;
      behind = λ k past. ap (λ xs. node xs k) whole ∙ get_or-append_right old (replicate n last) (length old) k last
          refl past ∙ node-replicate n (k - length old);
    }

-- the nodes after a growth, after the leaves were copied, and after the matches
pub IsTree-widened : (old new copied played : List Deadline) (width len wider size n : ℕ) → IsTree old width len
    → 2 * width ≤ wider → len ≤ wider → size ≡ 2 * wider → new ≡ take size old ++ replicate n last
    → CopiedTo new copied width wider (width + len - width) → SameFrom new copied (wider + (width + len - width))
    → length played ≡ 2 * wider → IsWon played wider → drop wider played ≡ drop wider copied
    → IsTree played wider len
IsTree-widened old new copied played width len wider size n tree wide fits doubled is moved same length_is won leaves =
    let nodes = grown old new size n (omega (arith, tree.size)) is in
    let leaf : (i : ℕ) → node (drop wider played) i ≡ node copied (wider + i) = λ i. ap (λ xs. node xs i) leaves
    ∙ get_or-drop wider copied i last in
    let free : (i : ℕ) → len ≤ i → node (drop wider played) i ≡ last =
    λ i past. leaf i ∙ same (wider + i) last (omega arith) ∙ nodes.behind (wider + i) (omega (arith, tree.size)) in
    let item : (i : ℕ) → i < len → node (drop wider played) i ≡ node (drop width old) i =
    λ i within.
    let back : wider + i - wider ≡ i = omega arith in
    leaf i ∙ moved (wider + i) last (omega arith) (omega arith) ∙ ap (λ j. node new (width + j)) back
    ∙ nodes.within (width + i) (omega (arith, tree.size, tree.within)) ∙ sym (get_or-drop width old i last) in
    record {
      size = length_is;
      within = fits;
      won = won;
      free = free;
      in_range = λ i. elim (leb_tells len i) [
        | inl past ↦ subst (λ d. IsNotAfter d last) (sym (free i past.1)) (IsNotAfter-refl last)
        | inr within ↦ subst (λ d. IsNotAfter d last) (sym (item i within.1)) (tree.in_range i)
      ];
    }
