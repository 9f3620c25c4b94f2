-- Every legal history has good ends: up from a member to an action that closed or was cancelled, and down from one that
-- failed to a member that did.
use Rattle.std.proofs.Common.{◌≡◌, ℕ, zero, suc, ◌+◌, ◌<◌, ◌≤◌, Bool, true, false, List, length, Option, Some, None}
use Rattle.std.proofs.Common.{◌⊎◌, inl, inr, refl, sym, ap, ◌∙◌, cond, arith, le_refl, true≢false, eqb-true, eq-eqb}
use Rattle.std.specs.Prelude.{◌==◌, ◌&&◌, ◌||◌, not, is_some}
use Rattle.std.specs.Option.{option_or, option_map_or}
use Rattle.std.proofs.Math.Bool.{or-false, or-true}
use Rattle.std.proofs.lemmas.Bool.{not-false}
use Rattle.std.specs.List.{list_all, list_any}
use Rattle.lra_model.specs.declared.version.Version.{Version}
use Rattle.lra_model.specs.declared.status.ActionStatus.{ActionStatus}
use Rattle.lra_model.specs.declared.status.ActionStatus.TheVariants as action
use Rattle.lra_model.specs.declared.status.MemberStatus.{MemberStatus}
use Rattle.lra_model.specs.declared.status.MemberStatus.TheVariants as member
use Rattle.lra_model.specs.declared.asks.Cause.{Cause}
use Rattle.lra_model.specs.declared.entry.Deed.{Deed}
use Rattle.lra_model.specs.declared.entry.Deed.TheVariants.{Start, Close, Cancel, End}
use Rattle.lra_model.specs.Words.{when, is_active, has_ended, has_failed, has_finished_cancelling, member_has_failed}
use Rattle.lra_model.specs.Words.{same_status, is_completed, is_compensated, is_done_completing, is_done_compensating}
use Rattle.lra_model.specs.History.{History, actions, members, is_among}
use Rattle.lra_model.specs.Actions.{parent, status_given, action_status, children, members_of, is_cancel_of}
use Rattle.lra_model.specs.Actions.{was_cancelled, was_cancelled_below}
use Rattle.lra_model.specs.Members.{action_of, stays, member_status}
use Rattle.lra_model.specs.Ends.{staying, action_is, settles, is_settled, children_are_well, ends_as, right_end}
use Rattle.lra_model.specs.Facts.{ActionFacts, facts_of}
use Rattle.lra_model.specs.Rules.{is_legal}
use Rattle.lra_laws.proofs.Climbs.{is_within, under_climbs, cancelled_within, below_climbs}
use Rattle.lra_model.specs.GoodEnds.{StaysUnder, IsCompletedForGood, HasGoodEnd, LegalHistoriesHaveGoodEnds}
use Rattle.lra_laws.proofs.Push.{action_status_push, was_cancelled_push}
use Rattle.lra_laws.proofs.Tested.{both}
use Rattle.lra_laws.proofs.Legal.{Allowed, entry_kept, close_kept, end_kept, action_fact, started_number}
use Rattle.lra_laws.proofs.Legal.{actions_numbered, numbered_among, numbered_fresh}
use Rattle.lra_laws.proofs.Named.{state_is_lem, status_is_there}
use Rattle.lra_laws.proofs.Legal.{legal_induction}
use Rattle.lra_laws.proofs.Named.{parent_there, child_of, child_from, member_action, member_from}
use Rattle.lra_laws.proofs.GoodLists.{passes_at, fails_at, found_at, none_at}
use Rattle.lra_laws.proofs.GoodStatus.{completed_never_asked}
use Rattle.lra_laws.proofs.GoodKept.{staying_member, staying_from, EndsAgain, EndsStand}
use Rattle.lra_laws.proofs.GoodSpared.{close_active, same_status_true, ends_stand}

-- ---- an action was cancelled exactly where it is cancelling or has ended so

abbrev pub cancels : ActionStatus → Bool
cancels action.Cancelling = true
cancels action.Cancelled = true
cancels action.FailedToCancel = true
cancels _ = false

-- the status that an action ends in is of the way that it went
ends_as_way : (J : History) (a : ℕ) (o : Option ActionStatus) → settles o J a ≡ true → cancels (ends_as o J a)
    ≡ option_map_or cancels o false
ends_as_way J a (Some action.Closing) h = either (list_all (λ p. is_completed (member_status J p)) (staying J a)
    && children_are_well J a)
  where
    either : (b : Bool) → cancels (cond b action.Closed action.FailedToClose) ≡ false
    either true = refl
    either false = refl
ends_as_way J a (Some action.Cancelling) h = either (list_all (λ p. is_compensated (member_status J p)) (staying J a)
    && children_are_well J a)
  where
    either : (b : Bool) → cancels (cond b action.Cancelled action.FailedToCancel) ≡ true
    either true = refl
    either false = refl
ends_as_way J a _ h = absurd cc

cancelled_after : (v : Version) (t : List ℕ → Bool) (J : History) → is_legal v t J ≡ true → (by m : ℕ) (d : Deed)
    → Allowed v t J (record { by = by; moment = m; deed = d })
    → (a : ℕ) → was_cancelled J a ≡ action_is cancels J a → (was_cancelled J a || is_cancel_of a d)
    ≡ option_map_or cancels (option_or (status_given a d) (action_status J a)) false
unfolding is_settled right_end
cancelled_after v t J l by m d k a ih = by_deed d k
  where
    same : (was_cancelled J a || false) ≡ option_map_or cancels (action_status J a) false
    same = or-false (was_cancelled J a) ∙ ih

    -- a change of status that is no cancellation, of an action that wasn't cancelled
    turned : (x : ActionStatus) → cancels x ≡ false → (b : Bool) → (b ≡ true → action_is cancels J a ≡ false)
        → (was_cancelled J a || false) ≡ option_map_or cancels (option_or (when b x) (action_status J a)) false
    turned x h true g = or-false (was_cancelled J a) ∙ ih ∙ g refl ∙ sym h
    turned x h false g = same

    cancelled : (b : Bool) → (was_cancelled J a || b) ≡ option_map_or cancels
        (option_or (when b action.Cancelling) (action_status J a)) false
    cancelled true = or-true (was_cancelled J a)
    cancelled false = same

    new : (b : ℕ) → b ≡ length (actions J) + 1 → (b == a) ≡ true → action_is cancels J a ≡ false
    new b number g =
        let fresh = numbered_fresh (actions J) (actions_numbered v t J l) a (sym (eqb-true b a g) ∙ number) in
        none (action_status J a) (status_is_there v t J l a ∙ fresh)
      where
        none : (o : Option ActionStatus) → is_some o ≡ false → option_map_or cancels o false ≡ false
        none None h = refl
        none (Some s) h = absurd cc

    active : (b : ℕ) (c : Cause) → Allowed v t J (record { by = by; moment = m; deed = Close b c }) → (b == a) ≡ true
        → action_is cancels J a ≡ false
    active b c k g =
        let r = close_kept v t (facts_of J) m b c (entry_kept v t (facts_of J)
        (record { by = by; moment = m; deed = Close b c }) k.unbroken).deed in
        let is = sym (state_is_lem v t J l is_active b) ∙ close_active (facts_of J) b c r.may in
        one (action_status J a) (ap (action_is is_active J) (sym (eqb-true b a g)) ∙ is)
      where
        one : (o : Option ActionStatus) → option_map_or is_active o false ≡ true → option_map_or cancels o false ≡ false
        one (Some action.Active) h = refl
        one _ h = absurd cc

    ended : (b : ℕ) (s : ActionStatus) → Allowed v t J (record { by = by; moment = m; deed = End b s }) → (y : Bool)
        → (b == a) ≡ y → (was_cancelled J a || false) ≡ option_map_or cancels (option_or (when y s) (action_status J a))
        false
    ended b s k false g = same
    ended b s k true g =
        let r = end_kept v t (facts_of J) m b s (entry_kept v t (facts_of J)
        (record { by = by; moment = m; deed = End b s }) k.unbroken).deed in
        let settled = (action_fact (λ (x : ActionFacts). x.settled) J b r.settled).1 in
        let right = same_status_true s (right_end J b) (action_fact (λ (x : ActionFacts). same_status s x.right_end) J b
        r.right).1 in
        same ∙ ap (action_is cancels J) (sym (eqb-true b a g)) ∙ sym (ends_as_way J b (action_status J b) settled)
        ∙ ap cancels (sym right)

    by_deed : (d : Deed) → Allowed v t J (record { by = by; moment = m; deed = d })
        → (was_cancelled J a || is_cancel_of a d) ≡ option_map_or cancels
        (option_or (status_given a d) (action_status J a)) false
    by_deed (Start b parent limit) k = turned action.Active refl (b == a)
        (new b (started_number v t J by m (Start b parent limit) k b refl))
    by_deed (Close b c) k = turned action.Closing refl (b == a) (active b c k)
    by_deed (Cancel b c) k = cancelled (b == a)
    by_deed (End b s) k = ended b s k (b == a) refl
    by_deed _ k = same

-- in a legal history, an action was cancelled exactly where its status says so
pub was_cancelled_lem : (v : Version) (t : List ℕ → Bool) (J : History) → is_legal v t J ≡ true → (a : ℕ)
    → was_cancelled J a ≡ action_is cancels J a
unfolding was_cancelled action_status
was_cancelled_lem v t = legal_induction v t (λ J. (a : ℕ) → was_cancelled J a ≡ action_is cancels J a) (λ a. refl)
    (λ J e l k ih a.
    was_cancelled_push J e a ∙ cancelled_after v t J l e.by e.moment e.deed k a (ih a)
    ∙ ap (λ (o : Option ActionStatus). option_map_or cancels o false) (sym (action_status_push J e a)))

-- ---- what an end says of the members and of the nested actions

completed_from : (x : MemberStatus) → is_completed x ≡ true → x ≡ member.Completed
completed_from member.Completed h = refl
completed_from _ h = absurd cc

compensated_from : (x : MemberStatus) → is_compensated x ≡ true → x ≡ member.Compensated
compensated_from member.Compensated h = refl
compensated_from _ h = absurd cc

-- no nested action failed
well_children : (J : History) (a : ℕ) → children_are_well J a ≡ true → (c : ℕ) → is_among (children J a) c ≡ true
    → action_is has_failed J c ≡ false
well_children J a h c k = none_at (action_is has_failed J) (children J a) c
    (not_true (list_any (action_is has_failed J) (children J a)) h) k
  where
    not_true : (b : Bool) → not b ≡ true → b ≡ false
    not_true true g = absurd cc
    not_true false g = refl

-- where an action Closed, its staying members completed, and the actions nested in it closed or were cancelled
record HasClosed (J : History) (a : ℕ) : Type 0 where
  members : (p : ℕ) → is_among (staying J a) p ≡ true → member_status J p ≡ member.Completed
  children : (c : ℕ) → is_among (children J a) c ≡ true → (action_status J c ≡ Some action.Closed)
      ⊎ (action_status J c ≡ Some action.Cancelled)

has_closed : (J : History) (a : ℕ) → EndsAgain J a action.Closed → HasClosed J a
has_closed J a h = record {
  members = λ p k. completed_from (member_status J p) (passes_at (λ q. is_completed (member_status J q)) (staying J a) p
      right.0 k);
  children = λ c k. ended (action_status J c) (passes_at (action_is has_ended J) (children J a) c
      (both (list_all (λ q. is_done_completing (member_status J q)) (staying J a))
      (list_all (action_is has_ended J) (children J a)) h.settled).1 k) (well_children J a right.1 c k);
}
  where
    chosen : (b : Bool) → cond b action.Closed action.FailedToClose ≡ action.Closed → b ≡ true
    chosen true g = refl
    chosen false g = absurd cc

    right : (list_all (λ q. is_completed (member_status J q)) (staying J a) ≡ true) × (children_are_well J a ≡ true)
    right = both (list_all (λ q. is_completed (member_status J q)) (staying J a)) (children_are_well J a)
        (chosen (list_all (λ q. is_completed (member_status J q)) (staying J a) && children_are_well J a) h.right)

    ended : (o : Option ActionStatus) → option_map_or has_ended o false ≡ true → option_map_or has_failed o false
        ≡ false → (o ≡ Some action.Closed) ⊎ (o ≡ Some action.Cancelled)
    ended (Some action.Closed) g i = inl refl
    ended (Some action.Cancelled) g i = inr refl
    ended _ g i = absurd cc

-- where an action was Cancelled, its staying members compensated, and the actions nested in it were cancelled
record HasCancelled (J : History) (a : ℕ) : Type 0 where
  members : (p : ℕ) → is_among (staying J a) p ≡ true → member_status J p ≡ member.Compensated
  children : (c : ℕ) → is_among (children J a) c ≡ true → action_status J c ≡ Some action.Cancelled

has_cancelled : (J : History) (a : ℕ) → EndsAgain J a action.Cancelled → HasCancelled J a
has_cancelled J a h = record {
  members = λ p k. compensated_from (member_status J p) (passes_at (λ q. is_compensated (member_status J q))
      (staying J a) p right.0 k);
  children = λ c k. ended (action_status J c) (passes_at (action_is has_finished_cancelling J) (children J a) c
      (both (list_all (λ q. is_done_compensating (member_status J q)) (staying J a))
      (list_all (action_is has_finished_cancelling J) (children J a)) h.settled).1 k) (well_children J a right.1 c k);
}
  where
    chosen : (b : Bool) → cond b action.Cancelled action.FailedToCancel ≡ action.Cancelled → b ≡ true
    chosen true g = refl
    chosen false g = absurd cc

    right : (list_all (λ q. is_compensated (member_status J q)) (staying J a) ≡ true) × (children_are_well J a ≡ true)
    right = both (list_all (λ q. is_compensated (member_status J q)) (staying J a)) (children_are_well J a)
        (chosen (list_all (λ q. is_compensated (member_status J q)) (staying J a) && children_are_well J a) h.right)

    ended : (o : Option ActionStatus) → option_map_or has_finished_cancelling o false ≡ true
        → option_map_or has_failed o false ≡ false → o ≡ Some action.Cancelled
    ended (Some action.Cancelled) g i = refl
    ended _ g i = absurd cc

-- a member of an action that stays and has failed
abbrev FailedMember : History → ℕ → Type 0
FailedMember J a = (p : ℕ) × (is_among (staying J a) p ≡ true) × (member_has_failed (member_status J p) ≡ true)

-- an action nested in it that has failed
abbrev FailedChild : History → ℕ → Type 0
FailedChild J a = (c : ℕ) × (is_among (children J a) c ≡ true) × (action_is has_failed J c ≡ true)

-- where an action failed, a member of it that stays failed, or an action nested in it
has_failed_by : (J : History) (a : ℕ) (s : ActionStatus) → has_failed s ≡ true → EndsAgain J a s → FailedMember J a
    ⊎ FailedChild J a
has_failed_by J a s failed h = by_status s failed h
  where
    some_child : children_are_well J a ≡ false → FailedMember J a ⊎ FailedChild J a
    some_child g = inr (found_at (action_is has_failed J) (children J a)
        (not-false (list_any (action_is has_failed J) (children J a)) g))

    -- some member is done with what it was asked for, and not well
    some_member : (done well : MemberStatus → Bool) → ((x : MemberStatus) → done x ≡ true → well x ≡ false
        → member_has_failed x ≡ true) → list_all (λ q. done (member_status J q)) (staying J a) ≡ true
        → list_all (λ q. well (member_status J q)) (staying J a) ≡ false → FailedMember J a ⊎ FailedChild J a
    some_member done well fails g i =
        let r = fails_at (λ q. well (member_status J q)) (staying J a) i in
        inl (
          r.0,
          r.1,
          fails (member_status J r.0) (passes_at (λ q. done (member_status J q)) (staying J a) r.0 g r.1)
              r.2,
        )

    either : (done well : MemberStatus → Bool) → ((x : MemberStatus) → done x ≡ true → well x ≡ false
        → member_has_failed x ≡ true) → list_all (λ q. done (member_status J q)) (staying J a) ≡ true
        → (b : Bool) → list_all (λ q. well (member_status J q)) (staying J a) ≡ b → (b && children_are_well J a) ≡ false
        → FailedMember J a ⊎ FailedChild J a
    either done well fails g true e i = some_child i
    either done well fails g false e i = some_member done well fails g e

    not_completed : (x : MemberStatus) → is_done_completing x ≡ true → is_completed x ≡ false → member_has_failed x
        ≡ true
    not_completed member.FailedToComplete g i = refl
    not_completed _ g i = absurd cc

    not_compensated : (x : MemberStatus) → is_done_compensating x ≡ true → is_compensated x ≡ false
        → member_has_failed x ≡ true
    not_compensated member.FailedToCompensate g i = refl
    not_compensated member.FailedToComplete g i = refl
    not_compensated _ g i = absurd cc

    left_out : (b : Bool) (x y : ActionStatus) → has_failed x ≡ false → has_failed y ≡ true → cond b x y ≡ y → b ≡ false
    left_out true x y g i e = absurd (true≢false (sym i ∙ ap has_failed (sym e) ∙ g))
    left_out false x y g i e = refl

    by_status : (s : ActionStatus) → has_failed s ≡ true → EndsAgain J a s → FailedMember J a ⊎ FailedChild J a
    by_status action.FailedToClose g i =
        either is_done_completing is_completed not_completed
        (both (list_all (λ q. is_done_completing (member_status J q)) (staying J a))
        (list_all (action_is has_ended J) (children J a)) i.settled).0
        (list_all (λ q. is_completed (member_status J q)) (staying J a)) refl
        (left_out (list_all (λ q. is_completed (member_status J q)) (staying J a) && children_are_well J a)
        action.Closed action.FailedToClose refl refl i.right)
    by_status action.FailedToCancel g i =
        either is_done_compensating is_compensated not_compensated (both
        (list_all (λ q. is_done_compensating (member_status J q)) (staying J a))
        (list_all (action_is has_finished_cancelling J) (children J a)) i.settled).0
        (list_all (λ q. is_compensated (member_status J q)) (staying J a)) refl
        (left_out (list_all (λ q. is_compensated (member_status J q)) (staying J a) && children_are_well J a)
        action.Cancelled action.FailedToCancel refl refl i.right)
    by_status _ g i = absurd cc

-- ---- up from an action to one above it that has ended

-- an action below one that Closed: closed itself, and no cancellation is on the way; or cancelled, and one is
abbrev Below : History → ℕ → ℕ → ℕ → Type 0
Below J n t a = ((action_status J a ≡ Some action.Closed) × (cancelled_within n J t a ≡ false))
    ⊎ ((action_status J a ≡ Some action.Cancelled) × (cancelled_within n J t a ≡ true))

-- what is known of a legal history
record Law (J : History) : Type 0 where
  ends : EndsStand J
  ways : (a : ℕ) → was_cancelled J a ≡ action_is cancels J a
  child_of : (a c : ℕ) → is_among (children J a) c ≡ true → parent J c ≡ Some a
  child_from : (a c : ℕ) → parent J c ≡ Some a → is_among (children J a) c ≡ true
  less : (a b : ℕ) → parent J a ≡ Some b → b < a
  bound : (a b : ℕ) → parent J a ≡ Some b → a ≤ length (actions J)
  member_action : (a p : ℕ) → is_among (members_of J a) p ≡ true → (is_among (members J) p ≡ true) × (action_of J p ≡ a)
  member_from : (p : ℕ) → is_among (members J) p ≡ true → is_among (members_of J (action_of J p)) p ≡ true

law : (v : Version) (t : List ℕ → Bool) (J : History) → is_legal v t J ≡ true → Law J
law v t J l = record {
  ends = ends_stand v t J l;
  ways = was_cancelled_lem v t J l;
  child_of = child_of v t J l;
  child_from = child_from v t J l;
  less = λ a b h. (parent_there v t J l a b h).less;
  bound = λ a b h. (numbered_among (actions J) (actions_numbered v t J l) a (parent_there v t J l a b h).child).1;
  member_action = member_action v t J l;
  member_from = member_from v t J l;
}

-- where an action failed, a member of it that stays failed, or an action nested in it
failed_by : (J : History) → Law J → (a : ℕ) → action_is has_failed J a ≡ true → FailedMember J a ⊎ FailedChild J a
failed_by J k a h = one (action_status J a) refl h
  where
    ended : (s : ActionStatus) → has_failed s ≡ true → has_ended s ≡ true
    ended action.FailedToClose g = refl
    ended action.FailedToCancel g = refl
    ended _ g = absurd cc

    one : (o : Option ActionStatus) → action_status J a ≡ o → option_map_or has_failed o false ≡ true → FailedMember J a
        ⊎ FailedChild J a
    one None e g = absurd cc
    one (Some s) e g = has_failed_by J a s g (k.ends a s e (ended s g))

-- the walk up from below an action that Closed
below_closed : (J : History) → Law J → (t : ℕ) → action_status J t ≡ Some action.Closed → (n a : ℕ) → is_within n J t a
    ≡ true → Below J n t a
below_closed J k t closed zero a h = inl (
  ap (action_status J) (eqb-true a t h)
      ∙ closed,
  ap (λ (x : Bool). cond x false (was_cancelled J a)) h,
)
below_closed J k t closed (suc n) a h = either (a == t) refl (parent J a) refl h (below_closed J k t closed n)
  where
    -- the way up from a, step by step
    way : (x : Bool) (o : Option ℕ) (w : Bool) → (a == t) ≡ x → parent J a ≡ o → was_cancelled J a ≡ w
        → cancelled_within (suc n) J t a ≡ cond x false (w || option_map_or (cancelled_within n J t) o false)
    way x o w e f g =
        ap (λ (y : Bool). cond y false (was_cancelled J a || option_map_or (cancelled_within n J t) (parent J a) false))
        e
        ∙ ap (λ (p : Option ℕ). cond x false (was_cancelled J a || option_map_or (cancelled_within n J t) p false)) f
        ∙ ap (λ (y : Bool). cond x false (y || option_map_or (cancelled_within n J t) o false)) g

    its_way : (s : ActionStatus) → action_status J a ≡ Some s → was_cancelled J a ≡ cancels s
    its_way s e = k.ways a ∙ ap (λ (o : Option ActionStatus). option_map_or cancels o false) e

    over : (b : ℕ) → (a == t) ≡ false → parent J a ≡ Some b → Below J n t b → Below J (suc n) t a
    over b e f (inl r) = under ((has_closed J b (k.ends b action.Closed r.0 refl)).children a (k.child_from b a f))
      where
        under : (action_status J a ≡ Some action.Closed) ⊎ (action_status J a ≡ Some action.Cancelled)
            → Below J (suc n) t a
        under (inl s) = inl (s, way false (Some b) false e f (its_way action.Closed s) ∙ r.1)
        under (inr s) = inr (s, way false (Some b) true e f (its_way action.Cancelled s))
    over b e f (inr r) =
        let s = (has_cancelled J b (k.ends b action.Cancelled r.0 refl)).children a (k.child_from b a f) in
        inr (s, way false (Some b) true e f (its_way action.Cancelled s))

    either : (x : Bool) → (a == t) ≡ x → (o : Option ℕ) → parent J a ≡ o
        → (x || option_map_or (is_within n J t) o false) ≡ true
        → ((b : ℕ) → is_within n J t b ≡ true → Below J n t b) → Below J (suc n) t a
    either true e o f h up = inl (
      ap (action_status J) (eqb-true a t e)
          ∙ closed,
      way true o (was_cancelled J a) e f refl,
    )
    either false e (Some b) f h up = over b e f (up b h)
    either false e None f h up = absurd cc

-- the walk up from below one that was Cancelled
below_cancelled : (J : History) → Law J → (t : ℕ) → action_status J t ≡ Some action.Cancelled → (n a : ℕ)
    → is_within n J t a ≡ true → action_status J a ≡ Some action.Cancelled
below_cancelled J k t cancelled zero a h = ap (action_status J) (eqb-true a t h) ∙ cancelled
below_cancelled J k t cancelled (suc n) a h = either (a == t) refl (parent J a) refl h
    (below_cancelled J k t cancelled n)
  where
    either : (x : Bool) → (a == t) ≡ x → (o : Option ℕ) → parent J a ≡ o
        → (x || option_map_or (is_within n J t) o false) ≡ true
        → ((b : ℕ) → is_within n J t b ≡ true → action_status J b ≡ Some action.Cancelled) → action_status J a
        ≡ Some action.Cancelled
    either true e o f h up = ap (action_status J) (eqb-true a t e) ∙ cancelled
    either false e (Some b) f h up = (has_cancelled J b (k.ends b action.Cancelled (up b h) refl)).children a
        (k.child_from b a f)
    either false e None f h up = absurd cc

-- what stands below an action stands below its parent
under_parent : (J : History) → ((a b : ℕ) → parent J a ≡ Some b → b < a) → (t c : ℕ) → parent J c ≡ Some t → (n a : ℕ)
    → a ≤ n → is_within n J c a ≡ true → is_within n J t a ≡ true
under_parent J less t c h zero a k g =
    let same = eqb-true a c g in
    let l = less c t h in
    absurd (omega arith)
under_parent J less t c h (suc n) a k g = either (a == c) refl (parent J a) refl g (under_parent J less t c h n)
  where
    -- an action stands below itself, however far it is looked for
    itself : (m : ℕ) → is_within m J t t ≡ true
    itself zero = eq-eqb t t refl
    itself (suc m) = ap (λ (b : Bool). b || option_map_or (is_within m J t) (parent J t) false) (eq-eqb t t refl)

    later : (o : Option ℕ) → parent J a ≡ o → option_map_or (is_within n J t) o false ≡ true → is_within (suc n) J t a
        ≡ true
    later o e f = ap (λ (p : Option ℕ). (a == t) || option_map_or (is_within n J t) p false) e
        ∙ ap (λ (b : Bool). (a == t) || b) f ∙ or-true (a == t)

    either : (x : Bool) → (a == c) ≡ x → (o : Option ℕ) → parent J a ≡ o
        → (x || option_map_or (is_within n J c) o false) ≡ true
        → ((b : ℕ) → b ≤ n → is_within n J c b ≡ true → is_within n J t b ≡ true) → is_within (suc n) J t a ≡ true
    either true e o f g up = later (Some t) (ap (parent J) (eqb-true a c e) ∙ h) (itself n)
    either false e (Some b) f g up = let l = less a b f in later (Some b) f (up b (omega arith) g)
    either false e None f g up = absurd cc

-- ---- down from an action that failed

-- a member that stays stays in its action
stays_in : (J : History) → Law J → (p : ℕ) → is_among (members J) p ≡ true → stays J p ≡ true
    → is_among (staying J (action_of J p)) p ≡ true
stays_in J k p h s = staying_from J (action_of J p) p (k.member_from p h) s

-- a failed member in an action or below it
FailedUnder : History → ℕ → Type 0
FailedUnder J t = (p : ℕ) × StaysUnder J t p × (member_has_failed (member_status J p) ≡ true)

-- a member of an action that stays and has failed is one in it or below it
failed_in : (J : History) → Law J → (t : ℕ) → FailedMember J t → FailedUnder J t
unfolding FailedUnder
failed_in J k t r =
    let its = staying_member J t r.0 r.1 in
    let there = k.member_action t r.0 its.0 in (
      r.0,
      (
        there.0,
        its.1,
        under_climbs J t (action_of J r.0) ∙ ap (is_within (action_of J r.0) J t) there.1
            ∙ itself (action_of J r.0),
      ),
      r.2,
    )
  where
    itself : (n : ℕ) → is_within n J t t ≡ true
    itself zero = eq-eqb t t refl
    itself (suc n) = ap (λ (b : Bool). b || option_map_or (is_within n J t) (parent J t) false) (eq-eqb t t refl)

-- a member that failed below a nested action failed below the outer one
failed_above : (J : History) → Law J → (t c : ℕ) → parent J c ≡ Some t → FailedUnder J c → FailedUnder J t
unfolding FailedUnder
failed_above J k t c h r =
    let within = under_parent J k.less t c h (action_of J r.0) (action_of J r.0) (le_refl (action_of J r.0))
    (sym (under_climbs J c (action_of J r.0)) ∙ r.1.2) in
    (r.0, (r.1.0, r.1.1, under_climbs J t (action_of J r.0) ∙ within), r.2)

-- below an action that failed a member failed: in it, or below an action nested in it that failed
failed_under : (J : History) → Law J → (n t : ℕ) → length (actions J) ≤ t + n → action_is has_failed J t ≡ true
    → FailedUnder J t
failed_under J k zero t far h = either (failed_by J k t h)
  where
    either : FailedMember J t ⊎ FailedChild J t → FailedUnder J t
    either (inl r) = failed_in J k t r
    either (inr r) =
        let its = k.child_of t r.0 r.1 in
        let l = k.less r.0 t its in
        let b = k.bound r.0 t its in
        absurd (omega arith)
failed_under J k (suc n) t far h = either (failed_by J k t h) (failed_under J k n)
  where
    either : FailedMember J t ⊎ FailedChild J t → ((c : ℕ) → length (actions J) ≤ c + n → action_is has_failed J c
        ≡ true → FailedUnder J c) → FailedUnder J t
    either (inl r) down = failed_in J k t r
    either (inr r) down =
        let its = k.child_of t r.0 r.1 in
        let l = k.less r.0 t its in
        failed_above J k t r.0 its (down r.0 (omega arith) r.2)

-- a member in or below an action that is closed has completed, or has been compensated with a cancellation on the way
good_closed : (J : History) → Law J → (t : ℕ) → action_status J t ≡ Some action.Closed → (p : ℕ) → StaysUnder J t p
    → ((member_status J p ≡ member.Completed) × (was_cancelled_below J t (action_of J p) ≡ false))
    ⊎ ((member_status J p ≡ member.Compensated) × (was_cancelled_below J t (action_of J p) ≡ true))
good_closed J k t closed p s = either (below_closed J k t closed (action_of J p) (action_of J p)
    (sym (under_climbs J t (action_of J p)) ∙ s.2))
  where
    either : Below J (action_of J p) t (action_of J p)
        → ((member_status J p ≡ member.Completed) × (was_cancelled_below J t (action_of J p) ≡ false))
        ⊎ ((member_status J p ≡ member.Compensated) × (was_cancelled_below J t (action_of J p) ≡ true))
    either (inl r) = inl (
      (has_closed J (action_of J p) (k.ends (action_of J p) action.Closed r.0 refl)).members p
          (stays_in J k p s.0 s.1),
      below_climbs J t (action_of J p) ∙ r.1,
    )
    either (inr r) = inr (
      (has_cancelled J (action_of J p) (k.ends (action_of J p) action.Cancelled r.0 refl)).members p
          (stays_in J k p s.0 s.1),
      below_climbs J t (action_of J p) ∙ r.1,
    )

-- a member in or below an action that is cancelled has been compensated
good_cancelled : (J : History) → Law J → (t : ℕ) → action_status J t ≡ Some action.Cancelled → (p : ℕ)
    → StaysUnder J t p → member_status J p ≡ member.Compensated
good_cancelled J k t cancelled p s =
    let r = below_cancelled J k t cancelled (action_of J p) (action_of J p)
    (sym (under_climbs J t (action_of J p)) ∙ s.2) in
    (has_cancelled J (action_of J p) (k.ends (action_of J p) action.Cancelled r refl)).members p
    (stays_in J k p s.0 s.1)

-- an action that ended and didn't fail is Closed or Cancelled
ended_well : (J : History) (t : ℕ) → action_is has_ended J t ≡ true → action_is has_failed J t ≡ false
    → (action_status J t ≡ Some action.Closed) ⊎ (action_status J t ≡ Some action.Cancelled)
ended_well J t = one (action_status J t)
  where
    one : (o : Option ActionStatus) → option_map_or has_ended o false ≡ true → option_map_or has_failed o false ≡ false
        → (o ≡ Some action.Closed) ⊎ (o ≡ Some action.Cancelled)
    one (Some action.Closed) h g = inl refl
    one (Some action.Cancelled) h g = inr refl
    one _ h g = absurd cc

-- ---- the law

-- the good end of an action, from what is known of a legal history
good_end : (J : History) → Law J → (t : ℕ) → HasGoodEnd J t
good_end J k t = record {
  closed = λ h p s no_cancel. completed p (good_closed J k t h p s) no_cancel;
  undone = λ h p s cancel. compensated p (good_closed J k t h p s) cancel;
  cancelled = good_cancelled J k t;
  failed = λ h. unfold FailedUnder in failed_under J k (length (actions J)) t (omega arith) h;
  unfailed = λ h g p s. unfailed p s (ended_well J t h g);
}
  where
    Either : ℕ → Type 0
    Either p = ((member_status J p ≡ member.Completed) × (was_cancelled_below J t (action_of J p) ≡ false))
        ⊎ ((member_status J p ≡ member.Compensated) × (was_cancelled_below J t (action_of J p) ≡ true))

    completed : (p : ℕ) → Either p → was_cancelled_below J t (action_of J p) ≡ false → IsCompletedForGood J p
    completed p (inl r) g = record { completed = r.0; never_asked = completed_never_asked J p r.0 }
    completed p (inr r) g = absurd (true≢false (sym r.1 ∙ g))

    compensated : (p : ℕ) → Either p → was_cancelled_below J t (action_of J p) ≡ true → member_status J p
        ≡ member.Compensated
    compensated p (inl r) g = absurd (true≢false (sym g ∙ r.1))
    compensated p (inr r) g = r.0

    unfailed : (p : ℕ) → StaysUnder J t p → (action_status J t ≡ Some action.Closed)
        ⊎ (action_status J t ≡ Some action.Cancelled) → member_has_failed (member_status J p) ≡ false
    unfailed p s (inl h) = one (good_closed J k t h p s)
      where
        one : Either p → member_has_failed (member_status J p) ≡ false
        one (inl r) = ap member_has_failed r.0
        one (inr r) = ap member_has_failed r.0
    unfailed p s (inr h) = ap member_has_failed (good_cancelled J k t h p s)

-- every legal history has good ends
pub good_ends : LegalHistoriesHaveGoodEnds
good_ends v is_address J l = good_end J (law v is_address J l)
