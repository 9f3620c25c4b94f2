-- Where nothing comes next, nothing is left to settle.
use Rattle.std.proofs.Common.{◌≡◌, ℕ, Bool, true, false, List, [], ◌∷◌, Option, Some, None, refl, sym, ap, ◌∙◌, cond}
use Rattle.std.proofs.Common.{eqb-true}
use Rattle.std.proofs.lemmas.Bool.{false_from_ne_true}
use Rattle.std.specs.Prelude.{◌==◌, ◌||◌, option_map}
use Rattle.std.specs.Option.{option_or}
use Rattle.std.specs.List.{filter_map, cons_option, last_or, find}
use Rattle.lra_model.specs.declared.version.Version.{Version}
use Rattle.lra_model.specs.declared.asks.Cause.TheVariants as cause
use Rattle.lra_model.specs.declared.entry.Deed.{Deed}
use Rattle.lra_model.specs.declared.entry.Deed.TheVariants.{Close, Cancel, Skip, End}
use Rattle.lra_model.specs.History.{History, first, last, actions, members, is_among, last_moment}
use Rattle.lra_model.specs.Ends.{is_settled, right_end}
use Rattle.lra_model.specs.Facts.{ActionFacts, facts_of}
use Rattle.lra_model.specs.Tests.{at_action, may_close_with_parent, may_cancel_with_parent, may_skip}
use Rattle.lra_model.specs.Rules.{deed_rules, allows}
use Rattle.lra_model.specs.Settling.{is_settling, IsQuiet, may_be_skipped, by_parent, next_settling}
use Rattle.lra_laws.proofs.GoodLists.{find_nothing}
use Rattle.lra_laws.proofs.Legal.{AllKept, allowed, entry_kept, close_kept, cancel_kept, skip_kept, end_kept}
use Rattle.lra_laws.proofs.Legal.{action_fact, member_fact}

-- ---- lists that give nothing

-- where nothing is read, nothing is read of one among them
read_nothing : {X : Type 0} (f : ℕ → Option X) (ns : List ℕ) (n : ℕ) → filter_map f ns ≡ [] → is_among ns n ≡ true → f n
    ≡ None
read_nothing f [] n h k = absurd cc
read_nothing {X = X} f (x ∷ ns) n h k = either (f x) refl (x == n) refl h k (read_nothing f ns n)
  where
    either : (o : Option X) → f x ≡ o → (b : Bool) → (x == n) ≡ b → cons_option o (filter_map f ns) ≡ []
        → (b || is_among ns n) ≡ true → (filter_map f ns ≡ [] → is_among ns n ≡ true → f n ≡ None) → f n ≡ None
    either (Some y) g b e i j rest = absurd cc
    either None g true e i j rest = ap f (sym (eqb-true x n e)) ∙ g
    either None g false e i j rest = rest i j

no_first : {X : Type 0} (xs : List X) → first xs ≡ None → xs ≡ []
no_first [] h = refl
no_first (x ∷ xs) h = absurd cc

last_some : {X : Type 0} (x : X) (xs : List X) → last_or (Some x) xs ≡ None → ⊥
last_some x [] h = cc
last_some x (y ∷ xs) h = last_some y xs h

no_last : {X : Type 0} (xs : List X) → last xs ≡ None → xs ≡ []
no_last [] h = refl
no_last (x ∷ xs) h = absurd (last_some x xs h)

neither : {X : Type 0} (o p : Option X) → option_or o p ≡ None → (o ≡ None) × (p ≡ None)
neither None p h = (refl, h)
neither (Some x) p h = absurd cc

not_mapped : {X Y : Type 0} (f : X → Y) (o : Option X) → option_map f o ≡ None → o ≡ None
not_mapped f None h = refl
not_mapped f (Some x) h = absurd cc

-- ---- histories

-- where nothing comes next, no member may be skipped, no parent does anything, and no action may end
pub record NothingNext (J : History) : Type 0 where
  pub skips : (p : ℕ) → is_among (members J) p ≡ true → may_be_skipped J p ≡ false
  pub parents : (a : ℕ) → is_among (actions J) a ≡ true → by_parent J a ≡ None
  pub ends : (a : ℕ) → is_among (actions J) a ≡ true → is_settled J a ≡ false

pub nothing_next : (J : History) → next_settling J ≡ None → NothingNext J
unfolding next_settling
nothing_next J h =
    let skip = option_map Skip (find (may_be_skipped J) (members J)) in
    let turn = first (filter_map (by_parent J) (actions J)) in
    let over = last (filter_map (λ a. cond (is_settled J a) (Some a) None) (actions J)) in
    let k = neither skip (option_or turn (option_map (λ a. End a (right_end J a)) over)) h in
    let r = neither turn (option_map (λ a. End a (right_end J a)) over) k.1 in
    record {
      skips = λ p. find_nothing (may_be_skipped J) (members J) p (not_mapped Skip (find (may_be_skipped J) (members J))
          k.0);
      parents = λ a. read_nothing (by_parent J) (actions J) a (no_first (filter_map (by_parent J) (actions J)) r.0);
      ends = λ a there. unsettled a (is_settled J a) (read_nothing (λ a. cond (is_settled J a) (Some a) None)
          (actions J) a (no_last (filter_map (λ a. cond (is_settled J a) (Some a) None) (actions J))
          (not_mapped (λ a. End a (right_end J a)) over r.1)) there);
    }
  where
    unsettled : (a : ℕ) (b : Bool) → cond b (Some a) None ≡ None → b ≡ false
    unsettled a true g = absurd cc
    unsettled a false g = refl

-- where nothing comes next, nothing is left to settle
pub no_next_is_quiet : (v : Version) (t : List ℕ → Bool) (J : History) → next_settling J ≡ None → IsQuiet v t J
no_next_is_quiet v t J h by d g =
    false_from_ne_true (allows v t J (record { by = by; moment = last_moment J; deed = d }))
    (λ k. refuted d g (entry_kept v t (facts_of J) _ (allowed v t J _ k).unbroken).deed)
  where
    none : NothingNext J
    none = nothing_next J h

    -- what its parent does to an action is one of two things
    neither_way : (close cancel : Bool) (a : ℕ) → cond close (Some (Close a cause.Parent))
        (cond cancel (Some (Cancel a cause.Parent)) None) ≡ None → (close ≡ false) × (cancel ≡ false)
    neither_way false false a i = (refl, refl)
    neither_way false true a i = absurd cc
    neither_way true b a i = absurd cc

    refuted : (d : Deed) → is_settling d ≡ true → AllKept (deed_rules v t (facts_of J) (last_moment J) d) → ⊥
    refuted (Close a cause.Parent) s k =
        let may = (close_kept v t (facts_of J) (last_moment J) a cause.Parent k).may in
        let i = neither_way (at_action (may_close_with_parent (facts_of J)) (facts_of J) a)
        (at_action (may_cancel_with_parent (facts_of J)) (facts_of J) a) a
        (none.parents a (action_fact (may_close_with_parent (facts_of J)) J a may).0) in
        let b = i.0 in cc
    refuted (Cancel a cause.Parent) s k =
        let may : at_action (may_cancel_with_parent (facts_of J)) (facts_of J) a
        ≡ true = (cancel_kept v t (facts_of J) (last_moment J) a cause.Parent k).may in
        let i = neither_way (at_action (may_close_with_parent (facts_of J)) (facts_of J) a)
        (at_action (may_cancel_with_parent (facts_of J)) (facts_of J) a) a
        (none.parents a (action_fact (may_cancel_with_parent (facts_of J)) J a may).0) in
        let b = i.1 in cc
    refuted (Skip p) s k =
        let may = (skip_kept v t (facts_of J) (last_moment J) p k).may in
        let b = none.skips p (member_fact (may_skip (facts_of J)) J p may).0 in
        cc
    refuted (End a status) s k =
        let settled = action_fact (λ (x : ActionFacts). x.settled) J a
        (end_kept v t (facts_of J) (last_moment J) a status k).settled in
        let b = none.ends a settled.0 in
        let c = settled.1 in
        cc
    refuted d s k = absurd cc
