-- What settles next is found by the least member that may be skipped, the least action that its parent closes or
-- cancels, and the greatest that may end.
use Rattle.std.proofs.Common.{◌≡◌, ℕ, zero, suc, ◌+◌, ◌≤◌, ◌<◌, Bool, true, false, List, [], ◌∷◌, length, Option, Some}
use Rattle.std.proofs.Common.{None, inl, inr, refl, sym, ap, ◌∙◌, cond, arith}
use Rattle.std.proofs.lemmas.Bool.{cases_eq}
use Rattle.std.specs.Prelude.{is_some, option_map}
use Rattle.std.specs.Option.{option_or, option_and_then}
use Rattle.std.specs.List.{filter_map, cons_option, last_or, find, range_with_len}
use Rattle.lra_model.specs.declared.version.Version.{Version}
use Rattle.lra_model.specs.declared.entry.Deed.{Deed}
use Rattle.lra_model.specs.declared.asks.Cause.TheVariants as cause
use Rattle.lra_model.specs.declared.entry.Deed.TheVariants.{Close, Cancel, Skip, End}
use Rattle.lra_model.specs.History.{History, first, last, actions, members, is_among}
use Rattle.lra_model.specs.Ends.{is_settled, right_end}
use Rattle.lra_model.specs.Facts.{ActionFacts, Facts, action_facts, facts_of}
use Rattle.lra_model.specs.Tests.{at_action, at_member, may_close_with_parent, may_cancel_with_parent, may_skip}
use Rattle.lra_model.specs.Settling.{may_be_skipped, by_parent, next_settling}
use Rattle.lra_model.specs.Rules.{is_legal}
use Rattle.lra_laws.specs.Rows.{state_of}
use Rattle.lra_laws.specs.Settles.{may_skip_by, turn_by, end_by}
use Rattle.lra_laws.proofs.Legal.{IsNumbered, numbered_among, actions_numbered, members_numbered, action_fact}
use Rattle.lra_laws.proofs.Legal.{member_fact}
use Rattle.lra_laws.proofs.Agree.{agree}
use Rattle.lra_laws.proofs.GoodLists.{among_here, among_there}

-- ---- the least and the greatest number that pass a test

-- the least number that passes, where any does
abbrev pub IsLeast : (ℕ → Bool) → Option ℕ → Type 0
IsLeast test None = (n : ℕ) → test n ≡ false
IsLeast test (Some k) = (test k ≡ true) × ((n : ℕ) → test n ≡ true → k ≤ n)

-- the greatest
abbrev pub IsGreatest : (ℕ → Bool) → Option ℕ → Type 0
IsGreatest test None = (n : ℕ) → test n ≡ false
IsGreatest test (Some k) = (test k ≡ true) × ((n : ℕ) → test n ≡ true → n ≤ k)

-- a number, where it passes
abbrev kept : (ℕ → Bool) → ℕ → Option ℕ
kept test a = cond (test a) (Some a) None

find_in : (test : ℕ → Bool) (a n k : ℕ) → test k ≡ true → ((m : ℕ) → test m ≡ true → k ≤ m) → a ≤ k → k < a + n
    → find test (range_with_len a n) ≡ Some k
find_in test a zero k passes least low high = absurd (omega arith)
find_in test a (suc n) k passes least low high = either (test a) refl (λ before. find_in test (a + 1) n k passes least
    before (omega arith))
  where
    here : a ≡ k → Some a ≡ Some k
    here e = cc

    either : (b : Bool) → test a ≡ b → (a + 1 ≤ k → find test (range_with_len (a + 1) n) ≡ Some k)
        → cond b (Some a) (find test (range_with_len (a + 1) n)) ≡ Some k
    either true e rest = let l = least a e in here (omega arith)
    either false e rest = elim (cases_eq a k) [
      | inl same ↦ let g : test a ≡ test k = ap test same in absurd cc
      | inr other ↦ rest (omega arith)
    ]

find_none : (test : ℕ → Bool) (ns : List ℕ) → ((m : ℕ) → test m ≡ false) → find test ns ≡ None
find_none test [] none = refl
find_none test (n ∷ ns) none = ap (λ (b : Bool). cond b (Some n) (find test ns)) (none n) ∙ find_none test ns none

pub find_least : (test : ℕ → Bool) (ns : List ℕ) → IsNumbered ns → ((m : ℕ) → test m ≡ true → is_among ns m ≡ true)
    → (o : Option ℕ) → IsLeast test o → find test ns ≡ o
find_least test ns numbered there None none = find_none test ns none
find_least test ns numbered there (Some k) is = let b = numbered_among ns numbered k (there k is.0) in
    ap (find test) numbered ∙ find_in test 1 (length ns) k is.0 is.1 (omega arith) (omega arith)

-- the first that something is read of
first_read : {X : Type 0} (f : ℕ → Option X) (ns : List ℕ) → first (filter_map f ns)
    ≡ option_and_then f (find (λ n. is_some (f n)) ns)
first_read f [] = refl
first_read {X = X} f (n ∷ ns) = either (f n) refl (first_read f ns)
  where
    either : (o : Option X) → f n ≡ o → first (filter_map f ns) ≡ option_and_then f (find (λ m. is_some (f m)) ns)
        → first (cons_option o (filter_map f ns)) ≡ option_and_then f (cond (is_some o) (Some n)
        (find (λ m. is_some (f m)) ns))
    either None e rest = rest
    either (Some x) e rest = sym e

kept_none : (test : ℕ → Bool) (a n : ℕ) → ((m : ℕ) → a ≤ m → test m ≡ false)
    → filter_map (kept test) (range_with_len a n) ≡ []
kept_none test a zero none = refl
kept_none test a (suc n) none =
    ap (λ (b : Bool). cons_option (cond b (Some a) None) (filter_map (kept test) (range_with_len (a + 1) n)))
    (none a (omega arith)) ∙ kept_none test (a + 1) n (λ m low. none m (omega arith))

last_in : (test : ℕ → Bool) (o : Option ℕ) (a n k : ℕ) → test k ≡ true → ((m : ℕ) → test m ≡ true → m ≤ k) → a ≤ k → k
    < a + n → last_or o (filter_map (kept test) (range_with_len a n)) ≡ Some k
last_in test o a zero k passes greatest low high = absurd (omega arith)
last_in test o a (suc n) k passes greatest low high = either (test a) refl
    (λ q before. last_in test q (a + 1) n k passes greatest before (omega arith))
  where
    beyond : a ≡ k → (m : ℕ) → a + 1 ≤ m → test m ≡ false
    beyond same m low = decide (test m) refl
      where
        decide : (b : Bool) → test m ≡ b → b ≡ false
        decide false e = refl
        decide true e = let g = greatest m e in absurd (omega arith)

    ends : a ≡ k → last_or (Some a) (filter_map (kept test) (range_with_len (a + 1) n)) ≡ Some k
    ends same = ap (last_or (Some a)) (kept_none test (a + 1) n (beyond same))
        ∙ ap (λ (m : ℕ). let x : Option ℕ = Some m in x) same

    either : (b : Bool) → test a ≡ b → ((q : Option ℕ) → a + 1 ≤ k → last_or q
        (filter_map (kept test) (range_with_len (a + 1) n)) ≡ Some k) → last_or o
        (cons_option (cond b (Some a) None) (filter_map (kept test) (range_with_len (a + 1) n))) ≡ Some k
    either true e rest = elim (cases_eq a k) [
      | inl same ↦ ends same
      | inr other ↦ rest (Some a) (omega arith)
    ]
    either false e rest = elim (cases_eq a k) [
      | inl same ↦ let g : test a ≡ test k = ap test same in absurd cc
      | inr other ↦ rest o (omega arith)
    ]

pub last_greatest : (test : ℕ → Bool) (ns : List ℕ) → IsNumbered ns → ((m : ℕ) → test m ≡ true → is_among ns m ≡ true)
    → (o : Option ℕ) → IsGreatest test o → last (filter_map (kept test) ns) ≡ o
last_greatest test ns numbered there None none = ap (λ (ms : List ℕ). last (filter_map (kept test) ms)) numbered
    ∙ ap last (kept_none test 1 (length ns) (λ m low. none m))
last_greatest test ns numbered there (Some k) is =
    let b = numbered_among ns numbered k (there k is.0) in
    ap (λ (ms : List ℕ). last (filter_map (kept test) ms)) numbered ∙ last_in test None 1 (length ns) k is.0 is.1
    (omega arith) (omega arith)

read_within : {X : Type 0} (f g : ℕ → Option X) (ns : List ℕ) → ((n : ℕ) → is_among ns n ≡ true → f n ≡ g n)
    → filter_map f ns ≡ filter_map g ns
read_within f g [] h = refl
read_within {X = X} f g (n ∷ ns) h = two (f n) (g n) (h n (among_here n ns))
    (read_within f g ns (λ m k. h m (among_there n ns m k)))
  where
    two : (o q : Option X) → o ≡ q → filter_map f ns ≡ filter_map g ns → cons_option o (filter_map f ns)
        ≡ cons_option q (filter_map g ns)
    two o q e k = λ i. cons_option (e i) (k i)

-- ---- a history

module _ (v : Version) (t : List ℕ → Bool) (J : History) (l : is_legal v t J ≡ true) where
  pub may_skip_agrees : (p : ℕ) → may_skip_by (state_of J) p ≡ may_be_skipped J p
  may_skip_agrees p = ap (λ (f : Facts). at_member (may_skip f) f p) (agree v t J l)

  pub turn_agrees : (a : ℕ) → turn_by (state_of J) a ≡ by_parent J a
  turn_agrees a =
      ap (λ (f : Facts). cond (at_action (may_close_with_parent f) f a) (Some (Close a cause.Parent))
      (cond (at_action (may_cancel_with_parent f) f a) (Some (Cancel a cause.Parent)) None)) (agree v t J l)

  -- the end of an action that is there
  abbrev ending : ℕ → Option Deed
  ending a = cond (is_settled J a) (Some (End a (right_end J a))) None

  pub end_agrees : (a : ℕ) → end_by (state_of J) a ≡ cond (is_among (actions J) a)
      (cond (is_settled J a) (Some (End a (right_end J a))) None) None
  unfolding facts_of
  end_agrees a = ap (λ (f : Facts). option_and_then (λ (x : ActionFacts). cond x.settled (Some (End a x.right_end))
      None) (f.action a)) (agree v t J l) ∙ known (is_among (actions J) a)
    where
      known : (b : Bool) → option_and_then (λ (x : ActionFacts). cond x.settled (Some (End a x.right_end)) None)
          (cond b (Some (action_facts J a)) None) ≡ cond b (cond (is_settled J a) (Some (End a (right_end J a))) None)
          None
      known true = refl
      known false = refl

  skip_there : (p : ℕ) → may_skip_by (state_of J) p ≡ true → is_among (members J) p ≡ true
  skip_there p h = (member_fact (may_skip (facts_of J)) J p (sym (may_skip_agrees p) ∙ h)).0

  turn_there : (a : ℕ) → is_some (turn_by (state_of J) a) ≡ true → is_among (actions J) a ≡ true
  turn_there a h = known (at_action (may_close_with_parent (facts_of J)) (facts_of J) a)
      (at_action (may_cancel_with_parent (facts_of J)) (facts_of J) a) refl refl (ap is_some (sym (turn_agrees a)) ∙ h)
    where
      known : (b c : Bool) → at_action (may_close_with_parent (facts_of J)) (facts_of J) a ≡ b
          → at_action (may_cancel_with_parent (facts_of J)) (facts_of J) a ≡ c
          → is_some (cond b (Some (Close a cause.Parent)) (cond c (Some (Cancel a cause.Parent)) None)) ≡ true
          → is_among (actions J) a ≡ true
      known true c e g k = (action_fact (may_close_with_parent (facts_of J)) J a e).0
      known false true e g k = (action_fact (may_cancel_with_parent (facts_of J)) J a g).0
      known false false e g k = absurd cc

  end_there : (a : ℕ) → is_some (end_by (state_of J) a) ≡ true → is_among (actions J) a ≡ true
  end_there a h = known (is_among (actions J) a) refl (ap is_some (sym (end_agrees a)) ∙ h)
    where
      known : (b : Bool) → is_among (actions J) a ≡ b → is_some (cond b
          (cond (is_settled J a) (Some (End a (right_end J a))) None) None) ≡ true → is_among (actions J) a ≡ true
      known true e k = e
      known false e k = absurd cc

  end_test : (a : ℕ) → is_among (actions J) a ≡ true → kept (is_settled J) a
      ≡ kept (λ x. is_some (end_by (state_of J) x)) a
  end_test a there = ap (λ (b : Bool). cond b (Some a) None) (either (is_settled J a)
      ∙ sym (ap is_some (end_agrees a ∙ ap (λ (b : Bool). cond b (ending a) None) there)))
    where
      either : (b : Bool) → b ≡ is_some (cond b (Some (End a (right_end J a))) None)
      either true = refl
      either false = refl

  skips_are : (skip : Option ℕ) → IsLeast (may_skip_by (state_of J)) skip → find (may_be_skipped J) (members J) ≡ skip
  skips_are skip least = ap (λ (f : ℕ → Bool). find f (members J)) (λ i p. sym (may_skip_agrees p) i)
      ∙ find_least (may_skip_by (state_of J)) (members J) (members_numbered v t J l) skip_there skip least

  turns_are : (turn : Option ℕ) → IsLeast (λ a. is_some (turn_by (state_of J) a)) turn
      → first (filter_map (by_parent J) (actions J)) ≡ option_and_then (turn_by (state_of J)) turn
  turns_are turn least =
      ap (λ (f : ℕ → Option Deed). first (filter_map f (actions J))) (λ i a. sym (turn_agrees a) i)
      ∙ first_read (turn_by (state_of J)) (actions J)
      ∙ ap (option_and_then (turn_by (state_of J))) (find_least (λ a. is_some (turn_by (state_of J) a)) (actions J)
      (actions_numbered v t J l) turn_there turn least)

  ends_are : (over : Option ℕ) → IsGreatest (λ a. is_some (end_by (state_of J) a)) over
      → option_map (λ a. End a (right_end J a)) (last (filter_map (kept (is_settled J)) (actions J)))
      ≡ option_and_then (end_by (state_of J)) over
  ends_are over greatest =
      ap (λ (o : List ℕ). option_map (λ a. End a (right_end J a)) (last o))
      (read_within (kept (is_settled J)) (kept (λ x. is_some (end_by (state_of J) x))) (actions J) end_test)
      ∙ ap (option_map (λ a. End a (right_end J a))) (last_greatest (λ a. is_some (end_by (state_of J) a)) (actions J)
      (actions_numbered v t J l) end_there over greatest)
      ∙ known over greatest
    where
      settled : (b c : Bool) (a : ℕ) → is_some (cond b (cond c (Some (End a (right_end J a))) None) None) ≡ true
          → Some (End a (right_end J a)) ≡ cond b (cond c (Some (End a (right_end J a))) None) None
      settled true true a h = refl
      settled true false a h = absurd cc
      settled false c a h = absurd cc

      known : (o : Option ℕ) → IsGreatest (λ a. is_some (end_by (state_of J) a)) o
          → option_map (λ a. End a (right_end J a)) o ≡ option_and_then (end_by (state_of J)) o
      known None h = refl
      known (Some a) h = settled (is_among (actions J) a) (is_settled J a) a (ap is_some (sym (end_agrees a)) ∙ h.0)
          ∙ sym (end_agrees a)

  -- what settles next
  pub next_is : (skip turn over : Option ℕ) → IsLeast (may_skip_by (state_of J)) skip
      → IsLeast (λ a. is_some (turn_by (state_of J) a)) turn → IsGreatest (λ a. is_some (end_by (state_of J) a)) over
      → option_or (option_map Skip skip) (option_or (option_and_then (turn_by (state_of J)) turn)
      (option_and_then (end_by (state_of J)) over)) ≡ next_settling J
  unfolding next_settling
  next_is skip turn over least_skip least_turn greatest_end = λ i. option_or
      (option_map Skip (sym (skips_are skip least_skip) i)) (option_or (sym (turns_are turn least_turn) i)
      (sym (ends_are over greatest_end) i))
