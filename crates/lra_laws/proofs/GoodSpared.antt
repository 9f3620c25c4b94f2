-- No allowed entry touches what the end of an action was read from, so each action that has ended would end so again.
use Rattle.std.proofs.Common.{◌≡◌, ℕ, ◌+◌, Bool, true, false, List, [], ◌∷◌, ◌++◌, length, Option, Some, None, ◌⊎◌, inl}
use Rattle.std.proofs.Common.{inr, refl, sym, ap, ◌∙◌, subst, arith, true≢false, eqb-true, ne_eqb}
use Rattle.std.specs.Prelude.{◌==◌, ◌&&◌, ◌||◌, not}
use Rattle.std.specs.Option.{option_or, option_map_or}
use Rattle.std.proofs.lemmas.Bool.{false_from_ne_true}
use Rattle.std.proofs.Math.Bool.{and-false}
use Rattle.lra_model.specs.declared.version.Version.{Version}
use Rattle.lra_model.specs.declared.version.Version.TheVariants as version
use Rattle.lra_model.specs.declared.status.ActionStatus.{ActionStatus}
use Rattle.lra_model.specs.declared.status.ActionStatus.TheVariants as action
use Rattle.lra_model.specs.declared.asks.AskKind.TheVariants as ask
use Rattle.lra_model.specs.declared.asks.Cause.{Cause}
use Rattle.lra_model.specs.declared.asks.Cause.TheVariants as cause
use Rattle.lra_model.specs.declared.entry.Deed.{Deed}
use Rattle.lra_model.specs.declared.entry.Deed.TheVariants.{Start, Join, Leave, Close, Cancel, Ask, End}
use Rattle.lra_model.specs.declared.entry.Entry.{Entry}
use Rattle.lra_model.specs.Words.{when, is_active, is_closing, is_cancelling, is_closed, has_ended, is_cancellable}
use Rattle.lra_model.specs.Words.{same_status, is_untouched, is_completed, is_compensating}
use Rattle.lra_model.specs.History.{History, started_by, actions, is_among}
use Rattle.lra_model.specs.Actions.{parent, status_given, action_status, child_given, children, member_given}
use Rattle.lra_model.specs.Actions.{members_of}
use Rattle.lra_model.specs.Members.{action_of, is_leave_of, is_ask_for}
use Rattle.lra_model.specs.Ends.{action_is, settles, is_settled, right_end}
use Rattle.lra_model.specs.Facts.{ActionFacts, MemberFacts, Facts, action_facts, member_facts, facts_of}
use Rattle.lra_model.specs.Tests.{at_action, status_is, parent_is, may_close, may_cancel, may_take_back}
use Rattle.lra_model.specs.Tests.{limit_has_passed, has_address, is_time_for, may_ask}
use Rattle.lra_model.specs.Rules.{deed_rules, is_legal}
use Rattle.lra_laws.proofs.Push.{action_status_push}
use Rattle.lra_laws.proofs.Tested.{both}
use Rattle.lra_laws.proofs.Legal.{Allowed, AllKept, entry_kept, start_kept, join_kept, leave_kept, close_kept}
use Rattle.lra_laws.proofs.Legal.{cancel_kept, ask_kept, end_kept, action_fact, member_fact, at_action_from}
use Rattle.lra_laws.proofs.Legal.{started_number, actions_numbered, numbered_among}
use Rattle.lra_laws.proofs.Named.{state_is_lem, parent_there}
use Rattle.lra_laws.proofs.Legal.{legal_induction}
use Rattle.lra_laws.proofs.Named.{child_of, member_action}
use Rattle.lra_laws.proofs.GoodKept.{Spares, untouched, before_end, EndsAgain, EndsStand, ends_again_after}
use Rattle.lra_laws.proofs.GoodKept.{ends_again_now, settles_decided, settles_ended}

-- ---- statuses

-- statuses that are tested to be one are one
pub same_status_true : (x y : ActionStatus) → same_status x y ≡ true → x ≡ y
same_status_true action.Active action.Active h = refl
same_status_true action.Closing action.Closing h = refl
same_status_true action.Closed action.Closed h = refl
same_status_true action.FailedToClose action.FailedToClose h = refl
same_status_true action.Cancelling action.Cancelling h = refl
same_status_true action.Cancelled action.Cancelled h = refl
same_status_true action.FailedToCancel action.FailedToCancel h = refl
same_status_true _ _ h = absurd cc

-- an action isn't in two statuses that exclude one another
pub not_in_both : (f g : ActionStatus → Bool) → ((s : ActionStatus) → f s ≡ true → g s ≡ true → ⊥)
    → (J : History) (a : ℕ) → action_is f J a ≡ true → action_is g J a ≡ true → ⊥
not_in_both f g apart J a = one (action_status J a)
  where
    one : (o : Option ActionStatus) → option_map_or f o false ≡ true → option_map_or g o false ≡ true → ⊥
    one None h k = absurd cc
    one (Some s) h k = apart s h k

-- neither an Active action nor a Cancelling one has ended
pub active_not_ended : (s : ActionStatus) → is_active s ≡ true → has_ended s ≡ true → ⊥
active_not_ended action.Active h k = absurd cc
active_not_ended _ h k = absurd cc

cancelling_not_ended : (s : ActionStatus) → is_cancelling s ≡ true → has_ended s ≡ true → ⊥
cancelling_not_ended action.Cancelling h k = absurd cc
cancelling_not_ended _ h k = absurd cc

-- the test of a status that is known
pub action_is_from : (test : ActionStatus → Bool) (J : History) (a : ℕ) (s : ActionStatus) → action_status J a ≡ Some s
    → test s ≡ true → action_is test J a ≡ true
action_is_from test J a s h k = ap (λ (o : Option ActionStatus). option_map_or test o false) h ∙ k

-- ---- what a kept rule says of statuses

-- an action that may be closed is Active
pub close_active : (f : Facts) (a : ℕ) (c : Cause) → at_action (may_close c f) f a ≡ true → status_is is_active f a
    ≡ true
close_active f a c h = one c (f.action a) h
  where
    one : (c : Cause) (o : Option ActionFacts) → option_map_or (may_close c f) o false ≡ true
        → option_map_or (λ (x : ActionFacts). is_active x.status) o false ≡ true
    one c None g = absurd cc
    one cause.Client (Some x) g = g
    one cause.Parent (Some x) g = (both (is_active x.status) (parent_is is_closing f x) g).0
    one cause.Limit (Some x) g = absurd cc

-- an action that may be cancelled is Active, or its parent is Active or Cancelling
pub cancel_case : (v : Version) (m : ℕ) (c : Cause) (f : Facts) (x : ActionFacts) → may_cancel v m c f x ≡ true
    → (is_active x.status ≡ true) ⊎ (parent_is is_active f x ≡ true) ⊎ (parent_is is_cancelling f x ≡ true)
cancel_case v m cause.Client f x h = either (is_active x.status) refl h
  where
    back : (v : Version) → may_take_back v f x ≡ true → parent_is is_active f x ≡ true
    back version.One g = absurd cc
    back version.Two g = (both (is_closed x.status) (parent_is is_active f x) g).1

    either : (b : Bool) → is_active x.status ≡ b → (b || may_take_back v f x) ≡ true → (is_active x.status ≡ true)
        ⊎ (parent_is is_active f x ≡ true) ⊎ (parent_is is_cancelling f x ≡ true)
    either true e g = inl e
    either false e g = inr (inl (back v g))
cancel_case v m cause.Parent f x h = inr (inr (both (is_cancellable x.status) (parent_is is_cancelling f x) h).1)
cancel_case v m cause.Limit f x h = inl (both (is_active x.status) (limit_has_passed m x) h).0

-- ---- an allowed entry spares what has ended

-- an action that may end has not ended
settled_not_ended : (J : History) (a : ℕ) → is_settled J a ≡ true → action_is has_ended J a ≡ true → ⊥
unfolding is_settled
settled_not_ended J a = one (action_status J a)
  where
    one : (o : Option ActionStatus) → settles o J a ≡ true → option_map_or has_ended o false ≡ true → ⊥
    one (Some action.Closing) h k = absurd cc
    one (Some action.Cancelling) h k = absurd cc
    one _ h k = absurd cc

-- an allowed entry spares an action that has ended, where those nested in it have
spares_ended : (v : Version) (t : List ℕ → Bool) (J : History) → is_legal v t J ≡ true → (by m : ℕ) (d : Deed)
    → Allowed v t J (record { by = by; moment = m; deed = d })
    → (a : ℕ) → action_is has_ended J a ≡ true → ((c : ℕ) → is_among (children J a) c ≡ true → action_is has_ended J c
    ≡ true) → Spares J d a
spares_ended v t J l by m d k a ended below = record {
  no_child = no_child d rules;
  no_member = no_member d rules;
  no_leave = no_leave d rules;
  no_ask = no_ask d rules;
  no_turn = no_turn d rules (started_number v t J by m d k);
}
  where
    rules : AllKept (deed_rules v t (facts_of J) m d)
    rules = (entry_kept v t (facts_of J) (record { by = by; moment = m; deed = d }) k.unbroken).deed

    -- a test of a status by the facts that holds of an action which has ended
    not_here : (test : ActionStatus → Bool) → ((s : ActionStatus) → test s ≡ true → has_ended s ≡ true → ⊥) → (b c : ℕ)
        → b ≡ c → action_is has_ended J c ≡ true → status_is test (facts_of J) b ≡ true → ⊥
    not_here test apart b c e h g = not_in_both test has_ended apart J c
        (ap (action_is test J) (sym e) ∙ sym (state_is_lem v t J l test b) ∙ g) h

    no_child : (d : Deed) → AllKept (deed_rules v t (facts_of J) m d) → child_given a d ≡ None
    no_child (Start b (Some p) limit) r =
        ap (λ (x : Bool). when x b)
        (false_from_ne_true (p == a) (λ g. not_here is_active active_not_ended p a (eqb-true p a g) ended
        (start_kept v t (facts_of J) m b (Some p) limit r).parent_active))
    no_child (Start b None limit) r = refl
    no_child _ r = refl

    no_member : (d : Deed) → AllKept (deed_rules v t (facts_of J) m d) → member_given a d ≡ None
    no_member (Join p b uris) r =
        ap (λ (x : Bool). when x p)
        (false_from_ne_true (b == a) (λ g. not_here is_active active_not_ended b a (eqb-true b a g) ended
        (join_kept v t (facts_of J) m p b uris r).active))
    no_member _ r = refl

    no_leave : (d : Deed) → AllKept (deed_rules v t (facts_of J) m d) → (p : ℕ) → is_among (members_of J a) p ≡ true
        → is_leave_of p d ≡ false
    no_leave (Leave q) r p h =
        false_from_ne_true (q == p) (λ g.
        let its = ap (action_of J) (eqb-true q p g) ∙ (member_action v t J l a p h).1 in
        let active = (member_fact (λ (x : MemberFacts). status_is is_active (facts_of J) x.action) J q
        (leave_kept v t (facts_of J) m q r).active).1 in
        not_here is_active active_not_ended (action_of J q) a its ended active)
    no_leave _ r p h = refl

    no_ask : (d : Deed) → AllKept (deed_rules v t (facts_of J) m d) → (p : ℕ) → is_among (members_of J a) p ≡ true
        → is_ask_for p ask.Compensate d ≡ false
    no_ask (Ask n q ask.Compensate) r p h =
        false_from_ne_true ((q == p) && true) (λ g.
        let its = ap (action_of J) (eqb-true q p (both (q == p) true g).0) ∙ (member_action v t J l a p h).1 in
        let x = member_facts J q in
        let may = (member_fact (may_ask ask.Compensate (facts_of J)) J q
        (ask_kept v t (facts_of J) m n q ask.Compensate r).may).1 in
        let time = (both (not x.is_asked && has_address ask.Compensate x.addresses)
        (is_time_for ask.Compensate (facts_of J) x) may).1 in
        let cancelling = (both (status_is is_cancelling (facts_of J) x.action)
        (is_untouched x.status || is_completed x.status || is_compensating x.status) time).0 in
        not_here is_cancelling cancelling_not_ended (action_of J q) a its ended cancelling)
    no_ask (Ask n q kind) r p h = and-false (q == p)
    no_ask _ r p h = refl

    no_turn : (d : Deed) → AllKept (deed_rules v t (facts_of J) m d) →
        ((x : ℕ) → started_by d ≡ Some x → x ≡ length (actions J) + 1) → (c : ℕ) → is_among (children J a) c ≡ true
        → status_given c d ≡ None
    no_turn (Start b parent limit) r number c h =
        ap (λ (x : Bool). when x action.Active) (false_from_ne_true (b == c) (λ g.
        let same = eqb-true b c g in
        let n = number b refl in
        let at_most = numbered_among (actions J) (actions_numbered v t J l) c
        (parent_there v t J l c a (child_of v t J l a c h)).child in
        let z : ⊥ = omega arith in z))
    no_turn (Close b cause) r number c h =
        ap (λ (x : Bool). when x action.Closing) (false_from_ne_true (b == c)
        (λ g. not_here is_active active_not_ended b c (eqb-true b c g) (below c h)
        (close_active (facts_of J) b cause (close_kept v t (facts_of J) m b cause r).may)))
    no_turn (Cancel b cause) r number c h = ap (λ (x : Bool). when x action.Cancelling)
        (false_from_ne_true (b == c) (λ g. turned g (cancel_case v m cause (facts_of J) (action_facts J b) fact.1)))
      where
        fact : (is_among (actions J) b ≡ true) × (may_cancel v m cause (facts_of J) (action_facts J b) ≡ true)
        fact = action_fact (may_cancel v m cause (facts_of J)) J b (cancel_kept v t (facts_of J) m b cause r).may

        its_parent : (b == c) ≡ true → parent J b ≡ Some a
        its_parent g = ap (parent J) (eqb-true b c g) ∙ child_of v t J l a c h

        of_parent : (test : ActionStatus → Bool) → (b == c) ≡ true → parent_is test (facts_of J) (action_facts J b)
            ≡ true → status_is test (facts_of J) a ≡ true
        of_parent test g i = ap (λ (o : Option ℕ). option_map_or (status_is test (facts_of J)) o false)
            (sym (its_parent g)) ∙ i

        turned : (b == c) ≡ true → (is_active (action_facts J b).status ≡ true)
            ⊎ (parent_is is_active (facts_of J) (action_facts J b) ≡ true)
            ⊎ (parent_is is_cancelling (facts_of J) (action_facts J b) ≡ true) → ⊥
        turned g (inl i) = not_here is_active active_not_ended b c (eqb-true b c g) (below c h)
            (at_action_from (λ (x : ActionFacts). is_active x.status) J b fact.0 i)
        turned g (inr (inl i)) = not_here is_active active_not_ended a a refl ended (of_parent is_active g i)
        turned g (inr (inr i)) = not_here is_cancelling cancelling_not_ended a a refl ended
            (of_parent is_cancelling g i)
    no_turn (End b s) r number c h =
        ap (λ (x : Bool). when x s) (false_from_ne_true (b == c) (λ g.
        let settled = (action_fact (λ (x : ActionFacts). x.settled) J b
        (end_kept v t (facts_of J) m b s r).settled).1 in
        settled_not_ended J b settled (ap (action_is has_ended J) (eqb-true b c g) ∙ below c h)))
    no_turn _ r number c h = refl

-- an end spares its own action: those nested in it are others
spares_end : (v : Version) (t : List ℕ → Bool) (J : History) → is_legal v t J ≡ true → (a : ℕ) (s : ActionStatus)
    → Spares J (End a s) a
spares_end v t J l a s = record {
  no_child = refl;
  no_member = refl;
  no_leave = λ p h. refl;
  no_ask = λ p h. refl;
  no_turn = λ c h. let less = (parent_there v t J l c a (child_of v t J l a c h)).less in
      ap (λ (x : Bool). when x s) (ne_eqb a c (λ (i : a ≡ c). let z : ⊥ = omega arith in z));
}

-- an action that ends now ends so again
ends_now : (v : Version) (t : List ℕ → Bool) (J : History) → is_legal v t J ≡ true → (by m a : ℕ) (s : ActionStatus)
    → Allowed v t J (record { by = by; moment = m; deed = End a s })
    → EndsAgain (J ++ record { by = by; moment = m; deed = End a s } ∷ []) a s
unfolding is_settled right_end
ends_now v t J l by m a s k =
    let e : Entry = record { by = by; moment = m; deed = End a s } in
    let r = end_kept v t (facts_of J) m a s (entry_kept v t (facts_of J) e k.unbroken).deed in
    let settled = (action_fact (λ (x : ActionFacts). x.settled) J a r.settled).1 in
    let right = same_status_true s (right_end J a) (action_fact (λ (x : ActionFacts). same_status s x.right_end) J a
    r.right).1 in
    let now = ends_again_now J a (action_status J a) s settled right in
    ends_again_after J e a s (untouched v t J l e a (spares_end v t J l a s)
    (settles_decided J a (before_end s) now.settled)) now

-- what has ended stands after an allowed entry
ends_stand_push : (v : Version) (t : List ℕ → Bool) (J : History) → is_legal v t J ≡ true → (by m : ℕ) (d : Deed)
    → Allowed v t J (record { by = by; moment = m; deed = d }) → EndsStand J
    → (a : ℕ) (s : ActionStatus) → option_or (status_given a d) (action_status J a) ≡ Some s → has_ended s ≡ true
    → EndsAgain (J ++ record { by = by; moment = m; deed = d } ∷ []) a s
ends_stand_push v t J l by m d k ih a s h ended = by_deed d k h
  where
    -- one that had ended before
    before : (d : Deed) → Allowed v t J (record { by = by; moment = m; deed = d }) → action_status J a ≡ Some s
        → EndsAgain (J ++ record { by = by; moment = m; deed = d } ∷ []) a s
    before d k g =
        let old = ih a s g ended in
        let spares = spares_ended v t J l by m d k a (action_is_from has_ended J a s g ended)
        (settles_ended J a (before_end s) old.settled) in
        ends_again_after J (record { by = by; moment = m; deed = d }) a s
        (untouched v t J l (record { by = by; moment = m; deed = d }) a spares
        (settles_decided J a (before_end s) old.settled)) old

    -- a change of status that is no end
    turned : (b : Bool) (x : ActionStatus) (d : Deed) → Allowed v t J (record { by = by; moment = m; deed = d })
        → has_ended x ≡ false → option_or (when b x) (action_status J a) ≡ Some s
        → EndsAgain (J ++ record { by = by; moment = m; deed = d } ∷ []) a s
    turned true x d k lasts g = let e : x ≡ s = cc in absurd (true≢false (sym ended ∙ ap has_ended (sym e) ∙ lasts))
    turned false x d k lasts g = before d k g

    ends : (b : ℕ) (x : ActionStatus) → Allowed v t J (record { by = by; moment = m; deed = End b x }) → (y : Bool)
        → (b == a) ≡ y → option_or (when y x) (action_status J a) ≡ Some s
        → EndsAgain (J ++ record { by = by; moment = m; deed = End b x } ∷ []) a s
    ends b x k false e g = before (End b x) k g
    ends b x k true e g =
        let K : History = J ++ record { by = by; moment = m; deed = End b x } ∷ [] in
        let same : x ≡ s = cc in
        subst (λ (y : ActionStatus). EndsAgain K a y) same (subst (λ (n : ℕ). EndsAgain K n x) (eqb-true b a e)
        (ends_now v t J l by m b x k))

    by_deed : (d : Deed) → Allowed v t J (record { by = by; moment = m; deed = d })
        → option_or (status_given a d) (action_status J a) ≡ Some s → EndsAgain
        (J ++ record { by = by; moment = m; deed = d } ∷ []) a s
    by_deed (Start b parent limit) k g = turned (b == a) action.Active (Start b parent limit) k refl g
    by_deed (Close b cause) k g = turned (b == a) action.Closing (Close b cause) k refl g
    by_deed (Cancel b cause) k g = turned (b == a) action.Cancelling (Cancel b cause) k refl g
    by_deed (End b x) k g = ends b x k (b == a) refl g
    by_deed d k g = before d k g

-- in a legal history each action that has ended would end so again
pub ends_stand : (v : Version) (t : List ℕ → Bool) (J : History) → is_legal v t J ≡ true → EndsStand J
unfolding action_status
ends_stand v t = legal_induction v t EndsStand (λ a s h ended. absurd cc)
    (λ J e l k ih a s h ended. ends_stand_push v t J l e.by e.moment e.deed k ih a s
    (sym (action_status_push J e a) ∙ h) ended)
