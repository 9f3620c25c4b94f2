-- What settles a legal history may be written.
use Rattle.std.proofs.Common.{◌≡◌, ℕ, Bool, true, false, List, [], ◌∷◌, Option, Some, None, refl, sym, ap, ◌∙◌, subst}
use Rattle.std.proofs.Common.{cond}
use Rattle.std.specs.Prelude.{◌&&◌, not, is_some, option_map}
use Rattle.std.specs.Option.{option_or}
use Rattle.std.specs.List.{filter_map, cons_option, find, last_or}
use Rattle.lra_model.specs.declared.version.Version.{Version}
use Rattle.lra_model.specs.declared.status.ActionStatus.{ActionStatus}
use Rattle.lra_model.specs.declared.status.ActionStatus.TheVariants as action
use Rattle.lra_model.specs.declared.status.MemberStatus.{MemberStatus}
use Rattle.lra_model.specs.declared.status.MemberStatus.TheVariants as member
use Rattle.lra_model.specs.declared.asks.Cause.TheVariants as cause
use Rattle.lra_model.specs.declared.entry.Deed.{Deed}
use Rattle.lra_model.specs.declared.entry.Deed.TheVariants.{Close, Cancel, Skip, End}
use Rattle.lra_model.specs.Words.{is_closing, same_status, is_untouched, has_gone}
use Rattle.lra_model.specs.History.{History, actions, members, is_among, first, last}
use Rattle.lra_model.specs.Actions.{action_status}
use Rattle.lra_model.specs.Ends.{settles, is_settled, right_end}
use Rattle.lra_model.specs.Facts.{ActionFacts, MemberFacts, member_facts, facts_of}
use Rattle.lra_model.specs.Tests.{at_action, status_is, may_close_with_parent, may_cancel_with_parent, may_skip}
use Rattle.lra_model.specs.Settling.{may_be_skipped, by_parent, next_settling}
use Rattle.lra_laws.proofs.Tested.{both}
use Rattle.lra_laws.proofs.Legal.{Allowed, action_fact, member_fact, at_action_from, at_member_from}
use Rattle.lra_laws.proofs.Named.{status_is_there}
use Rattle.lra_laws.proofs.Ranges.{action_in_range, member_in_range}
use Rattle.lra_laws.proofs.Writes.{MayWrite, known_deed, may_write}

-- ---- what is found

found_passes : {X : Type 0} (test : X → Bool) (xs : List X) (x : X) → find test xs ≡ Some x → test x ≡ true
found_passes test [] x h = absurd cc
found_passes {X = X} test (y ∷ xs) x h = either (test y) refl h (found_passes test xs x)
  where
    either : (b : Bool) → test y ≡ b → cond b (Some y) (find test xs) ≡ Some x → (find test xs ≡ Some x → test x ≡ true)
        → test x ≡ true
    either true g i rest = let e : y ≡ x = cc in ap test (sym e) ∙ g
    either false g i rest = rest i

first_is_read : {X Y : Type 0} (h : X → Option Y) (xs : List X) (y : Y) → first (filter_map h xs) ≡ Some y → (x : X)
    × (h x ≡ Some y)
first_is_read h [] y g = absurd cc
first_is_read {X = X} {Y = Y} h (x ∷ xs) y g = either (h x) refl g (first_is_read h xs y)
  where
    either : (o : Option Y) → h x ≡ o → first (cons_option o (filter_map h xs)) ≡ Some y
        → (first (filter_map h xs) ≡ Some y → (z : X) × (h z ≡ Some y)) → (z : X) × (h z ≡ Some y)
    either (Some z) i j rest = (x, i ∙ j)
    either None i j rest = rest j

last_is_read : {X Y : Type 0} (h : X → Option Y) (xs : List X) (o : Option Y) (y : Y) → last_or o (filter_map h xs)
    ≡ Some y → ((o ≡ Some y) → (x : X) × (h x ≡ Some y)) → (x : X) × (h x ≡ Some y)
last_is_read h [] o y g from = from g
last_is_read {X = X} {Y = Y} h (x ∷ xs) o y g from = either (h x) refl g (λ p. last_is_read h xs p y)
  where
    either : (p : Option Y) → h x ≡ p → last_or o (cons_option p (filter_map h xs)) ≡ Some y
        → ((q : Option Y) → last_or q (filter_map h xs) ≡ Some y → ((q ≡ Some y) → (z : X) × (h z ≡ Some y)) → (z : X)
        × (h z ≡ Some y)) → (z : X) × (h z ≡ Some y)
    either (Some z) i j rest = rest (Some z) j (λ k. (x, i ∙ k))
    either None i j rest = rest o j from

-- ---- each kind of settling deed

skip_allowed : (v : Version) (t : List ℕ → Bool) (J : History) (by m p : ℕ) → MayWrite v t J by m → may_be_skipped J p
    ≡ true → Allowed v t J (record { by = by; moment = m; deed = Skip p })
skip_allowed v t J by m p k h =
    let f = member_fact (may_skip (facts_of J)) J p h in
    may_write v t J by m (Skip p) k refl (member_in_range v t J k.legal p f.0) (known_deed v (Skip p) refl) (
      at_member_from (λ (x : MemberFacts). true) J p f.0 refl,
      (
        at_member_from
            (λ (x : MemberFacts). not (has_gone x.status)) J p f.0 (here (member_facts J p) f.1),
        (h, tt),
      ),
    )
  where
    here_by : (s : MemberStatus) → is_untouched s ≡ true → not (has_gone s) ≡ true
    here_by member.Active g = refl
    here_by _ g = absurd cc

    here : (x : MemberFacts) → may_skip (facts_of J) x ≡ true → not (has_gone x.status) ≡ true
    here x g =
        let a = both (status_is is_closing (facts_of J) x.action && is_untouched x.status && not x.addresses.complete)
        x.addresses.compensate g in
        let b = both (status_is is_closing (facts_of J) x.action && is_untouched x.status) (not x.addresses.complete)
        a.0 in
        here_by x.status (both (status_is is_closing (facts_of J) x.action) (is_untouched x.status) b.0).1

parent_allowed : (v : Version) (t : List ℕ → Bool) (J : History) (by m a : ℕ) (d : Deed) → MayWrite v t J by m
    → by_parent J a ≡ Some d → Allowed v t J (record { by = by; moment = m; deed = d })
parent_allowed v t J by m a d k h = by_tests (at_action (may_close_with_parent (facts_of J)) (facts_of J) a) refl
    (at_action (may_cancel_with_parent (facts_of J)) (facts_of J) a) refl h
  where
    same_deed : (x : Deed) → x ≡ d → Allowed v t J (record { by = by; moment = m; deed = x })
        → Allowed v t J (record { by = by; moment = m; deed = d })
    same_deed x e = subst (λ (y : Deed). Allowed v t J (record { by = by; moment = m; deed = y })) e

    by_tests : (x : Bool) → at_action (may_close_with_parent (facts_of J)) (facts_of J) a ≡ x → (y : Bool)
        → at_action (may_cancel_with_parent (facts_of J)) (facts_of J) a ≡ y
        → cond x (Some (Close a cause.Parent)) (cond y (Some (Cancel a cause.Parent)) None) ≡ Some d
        → Allowed v t J (record { by = by; moment = m; deed = d })
    by_tests true g y i j =
        let there = (action_fact (may_close_with_parent (facts_of J)) J a g).0 in
        same_deed (Close a cause.Parent) (cc)
        (may_write v t J by m (Close a cause.Parent) k refl (action_in_range v t J k.legal a there)
        (known_deed v (Close a cause.Parent) refl)
        (at_action_from (λ (x : ActionFacts). true) J a there refl, (g, tt)))
    by_tests false g true i j =
        let there = (action_fact (may_cancel_with_parent (facts_of J)) J a i).0 in
        same_deed (Cancel a cause.Parent) (cc)
        (may_write v t J by m (Cancel a cause.Parent) k refl (action_in_range v t J k.legal a there)
        (known_deed v (Cancel a cause.Parent) refl)
        (at_action_from (λ (x : ActionFacts). true) J a there refl, (i, tt)))
    by_tests false g false i j = absurd cc

same_status_self : (s : ActionStatus) → same_status s s ≡ true
same_status_self action.Active = refl
same_status_self action.Closing = refl
same_status_self action.Closed = refl
same_status_self action.FailedToClose = refl
same_status_self action.Cancelling = refl
same_status_self action.Cancelled = refl
same_status_self action.FailedToCancel = refl

end_allowed : (v : Version) (t : List ℕ → Bool) (J : History) (by m a : ℕ) → MayWrite v t J by m → is_settled J a ≡ true
    → Allowed v t J (record { by = by; moment = m; deed = End a (right_end J a) })
unfolding is_settled
end_allowed v t J by m a k h =
    may_write v t J by m (End a (right_end J a)) k refl (action_in_range v t J k.legal a there)
    (known_deed v (End a (right_end J a)) refl) (
      at_action_from (λ (x : ActionFacts). true) J a there refl,
      (
        at_action_from (λ (x : ActionFacts). x.settled) J a there h,
        (
          at_action_from
              (λ (x : ActionFacts). same_status (right_end J a) x.right_end) J a there
              (same_status_self (right_end J a)),
          tt,
        ),
      ),
    )
  where
    has_state : (s : Option ActionStatus) → settles s J a ≡ true → is_some s ≡ true
    has_state None g = absurd cc
    has_state (Some s) g = refl

    there : is_among (actions J) a ≡ true
    there = sym (status_is_there v t J k.legal a) ∙ has_state (action_status J a) h

-- ---- the next one

some_map : {X Y : Type 0} (f : X → Y) (o : Option X) (y : Y) → option_map f o ≡ Some y → (x : X) × (o ≡ Some x)
    × (f x ≡ y)
some_map f None y h = absurd cc
some_map f (Some x) y h = (x, refl, cc)

-- what settles a legal history next may be written, by any clerk that is there, at a moment that isn't before the last
-- one
pub settling_allowed : (v : Version) (t : List ℕ → Bool) (J : History) (by m : ℕ) (d : Deed) → MayWrite v t J by m
    → next_settling J ≡ Some d → Allowed v t J (record { by = by; moment = m; deed = d })
unfolding next_settling
settling_allowed v t J by m d k h = either (option_map Skip (find (may_be_skipped J) (members J))) refl
    (first (filter_map (by_parent J) (actions J))) refl h
  where
    same_deed : (x : Deed) → x ≡ d → Allowed v t J (record { by = by; moment = m; deed = x })
        → Allowed v t J (record { by = by; moment = m; deed = d })
    same_deed x e = subst (λ (y : Deed). Allowed v t J (record { by = by; moment = m; deed = y })) e

    settled_one : (a : ℕ) (b : Bool) → is_settled J a ≡ b → (x : ℕ) → cond b (Some a) None ≡ Some x → is_settled J x
        ≡ true
    settled_one a true g x i = let e : a ≡ x = cc in ap (is_settled J) (sym e) ∙ g
    settled_one a false g x i = absurd cc

    skipped : option_map Skip (find (may_be_skipped J) (members J)) ≡ Some d
        → Allowed v t J (record { by = by; moment = m; deed = d })
    skipped g =
        let r = some_map Skip (find (may_be_skipped J) (members J)) d g in
        same_deed (Skip r.0) r.2 (skip_allowed v t J by m r.0 k (found_passes (may_be_skipped J) (members J) r.0 r.1))

    turned : first (filter_map (by_parent J) (actions J)) ≡ Some d → Allowed v t J
        (record { by = by; moment = m; deed = d })
    turned g = let r = first_is_read (by_parent J) (actions J) d g in parent_allowed v t J by m r.0 d k r.1

    ended : option_map (λ a. End a (right_end J a))
        (last (filter_map (λ a. cond (is_settled J a) (Some a) None) (actions J))) ≡ Some d
        → Allowed v t J (record { by = by; moment = m; deed = d })
    ended g =
        let r = some_map (λ (a : ℕ). End a (right_end J a))
        (last (filter_map (λ a. cond (is_settled J a) (Some a) None) (actions J))) d g in
        let s = last_is_read (λ a. cond (is_settled J a) (Some a) None) (actions J) None r.0 r.1 (λ i. absurd cc) in
        same_deed (End r.0 (right_end J r.0)) r.2 (end_allowed v t J by m r.0 k
        (settled_one s.0 (is_settled J s.0) refl r.0 s.1))

    either : (x : Option Deed) → option_map Skip (find (may_be_skipped J) (members J)) ≡ x → (y : Option Deed)
        → first (filter_map (by_parent J) (actions J)) ≡ y
        → option_or x (option_or y (option_map (λ a. End a (right_end J a))
        (last (filter_map (λ a. cond (is_settled J a) (Some a) None) (actions J))))) ≡ Some d
        → Allowed v t J (record { by = by; moment = m; deed = d })
    either (Some x) g y i j = skipped (g ∙ j)
    either None g (Some y) i j = turned (i ∙ j)
    either None g None i j = ended j
