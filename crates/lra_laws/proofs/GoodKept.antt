-- An action that has ended would end so again: no allowed entry touches what its end was read from.
use Rattle.std.proofs.Common.{◌≡◌, ℕ, Bool, true, false, List, [], ◌∷◌, ◌++◌, Option, Some, None, refl, sym, ap, ap₂}
use Rattle.std.proofs.Common.{◌∙◌, subst, append-nil, cond}
use Rattle.std.specs.Prelude.{◌&&◌, ◌||◌, not, is_some, option_to_list, filter}
use Rattle.std.specs.Option.{option_or, option_map_or}
use Rattle.std.proofs.Math.Bool.{or-false}
use Rattle.std.specs.List.{list_all, list_any}
use Rattle.lra_model.specs.declared.version.Version.{Version}
use Rattle.lra_model.specs.declared.status.ActionStatus.{ActionStatus}
use Rattle.lra_model.specs.declared.status.ActionStatus.TheVariants as action
use Rattle.lra_model.specs.declared.status.MemberStatus.{MemberStatus}
use Rattle.lra_model.specs.declared.status.MemberStatus.TheVariants as member
use Rattle.lra_model.specs.declared.asks.AskKind.TheVariants as ask
use Rattle.lra_model.specs.declared.entry.Deed.{Deed}
use Rattle.lra_model.specs.declared.entry.Entry.{Entry}
use Rattle.lra_model.specs.Addresses.{Addresses}
use Rattle.lra_model.specs.Words.{has_ended, has_failed, has_finished_cancelling, is_completed, is_compensated}
use Rattle.lra_model.specs.Words.{is_done_completing, is_done_compensating}
use Rattle.lra_model.specs.History.{History, is_among}
use Rattle.lra_model.specs.Actions.{status_given, action_status, child_given, children, member_given, members_of}
use Rattle.lra_model.specs.Members.{addresses_of, is_leave_of, has_left, stays, is_ask_for, member_status}
use Rattle.lra_model.specs.Ends.{staying, action_is, settles, children_are_well, ends_as}
use Rattle.lra_model.specs.Rules.{is_legal}
use Rattle.lra_laws.proofs.Push.{action_status_push, children_push, members_of_push, has_left_push}
use Rattle.lra_laws.proofs.Tested.{both, and_intro}
use Rattle.lra_laws.proofs.Named.{addresses_stay, member_action}
use Rattle.lra_laws.proofs.GoodLists.{list_all_same, list_any_same, filter_same, passes_at, among_filter}
use Rattle.lra_laws.proofs.GoodStatus.{is_decided, member_status_kept}

-- an action that ended cancelled has ended
cancelled_has_ended : (s : ActionStatus) → has_finished_cancelling s ≡ true → has_ended s ≡ true
cancelled_has_ended action.Cancelled h = refl
cancelled_has_ended action.FailedToCancel h = refl
cancelled_has_ended _ h = absurd cc

-- ---- what an end is read from

-- a deed starts, joins, leaves and asks nothing that the end of an action is read from, and changes no such status
pub record Spares (J : History) (d : Deed) (a : ℕ) : Type 0 where
  pub no_child : child_given a d ≡ None
  pub no_member : member_given a d ≡ None
  pub no_leave : (p : ℕ) → is_among (members_of J a) p ≡ true → is_leave_of p d ≡ false
  pub no_ask : (p : ℕ) → is_among (members_of J a) p ≡ true → is_ask_for p ask.Compensate d ≡ false
  pub no_turn : (c : ℕ) → is_among (children J a) c ≡ true → status_given c d ≡ None

-- an entry leaves all that the end of an action is read from
pub record Untouched (J : History) (e : Entry) (a : ℕ) : Type 0 where
  pub children_same : children (J ++ e ∷ []) a ≡ children J a
  pub staying_same : staying (J ++ e ∷ []) a ≡ staying J a
  pub member_same : (p : ℕ) → is_among (staying J a) p ≡ true → member_status (J ++ e ∷ []) p ≡ member_status J p
  pub child_same : (c : ℕ) → is_among (children J a) c ≡ true → action_status (J ++ e ∷ []) c ≡ action_status J c

-- a member that stays in an action is one of its members
pub staying_member : (J : History) (a p : ℕ) → is_among (staying J a) p ≡ true → (is_among (members_of J a) p ≡ true)
    × (stays J p ≡ true)
unfolding staying
staying_member J a p h = both (is_among (members_of J a) p) (stays J p)
    (sym (among_filter (stays J) (members_of J a) p) ∙ h)

-- and the other way round
pub staying_from : (J : History) (a p : ℕ) → is_among (members_of J a) p ≡ true → stays J p ≡ true
    → is_among (staying J a) p ≡ true
unfolding staying
staying_from J a p h k = among_filter (stays J) (members_of J a) p ∙ and_intro (is_among (members_of J a) p) (stays J p)
    h k

-- what a deed spares, where the members that stay are decided, its entry leaves as it was
pub untouched : (v : Version) (t : List ℕ → Bool) (J : History) → is_legal v t J ≡ true → (e : Entry) (a : ℕ)
    → Spares J e.deed a → ((p : ℕ) → is_among (staying J a) p ≡ true → is_decided (member_status J p) ≡ true)
    → Untouched J e a
unfolding staying stays
untouched v t J l e a s decided = record {
  children_same = children_push J e a ∙ ap (λ (o : Option ℕ). children J a ++ option_to_list o) s.no_child
      ∙ append-nil (children J a);
  staying_same = ap (λ (ns : List ℕ). filter (stays (J ++ e ∷ [])) ns) members_same
      ∙ filter_same (stays (J ++ e ∷ [])) (stays J) (members_of J a) stays_same;
  member_same = λ p h. let q = staying_member J a p h in
      member_status_kept J e p (decided p h) (s.no_leave p q.0) (s.no_ask p q.0);
  child_same = λ c h. action_status_push J e c ∙ ap (λ (o : Option ActionStatus). option_or o (action_status J c))
      (s.no_turn c h);
}
  where
    members_same : members_of (J ++ e ∷ []) a ≡ members_of J a
    members_same = members_of_push J e a ∙ ap (λ (o : Option ℕ). members_of J a ++ option_to_list o) s.no_member
        ∙ append-nil (members_of J a)

    stays_same : (p : ℕ) → is_among (members_of J a) p ≡ true → stays (J ++ e ∷ []) p ≡ stays J p
    stays_same p h =
        let there = (member_action v t J l a p h).0 in
        ap (λ (u : Addresses). is_some u.compensate && not (has_left (J ++ e ∷ []) p)) (addresses_stay J e p there)
        ∙ ap (λ (b : Bool). is_some (addresses_of J p).compensate && not b)
        (has_left_push J e p ∙ ap (λ (b : Bool). has_left J p || b) (s.no_leave p h) ∙ or-false (has_left J p))

-- so each test of the members that stay and of the nested actions says the same after it, and so do the rules of an end
members_same : (J : History) (e : Entry) (a : ℕ) → Untouched J e a → (test : MemberStatus → Bool)
    → list_all (λ p. test (member_status (J ++ e ∷ []) p)) (staying (J ++ e ∷ []) a)
    ≡ list_all (λ p. test (member_status J p)) (staying J a)
members_same J e a u test =
    ap (list_all (λ p. test (member_status (J ++ e ∷ []) p))) u.staying_same
    ∙ list_all_same (λ p. test (member_status (J ++ e ∷ []) p)) (λ p. test (member_status J p)) (staying J a)
    (λ p h. ap test (u.member_same p h))

children_same : (J : History) (e : Entry) (a : ℕ) → Untouched J e a → (test : ActionStatus → Bool)
    → list_all (action_is test (J ++ e ∷ [])) (children (J ++ e ∷ []) a) ≡ list_all (action_is test J) (children J a)
children_same J e a u test =
    ap (list_all (action_is test (J ++ e ∷ []))) u.children_same
    ∙ list_all_same (action_is test (J ++ e ∷ [])) (action_is test J) (children J a)
    (λ c h. ap (λ (o : Option ActionStatus). option_map_or test o false) (u.child_same c h))

settles_same : (J : History) (e : Entry) (a : ℕ) → Untouched J e a → (s : Option ActionStatus)
    → settles s (J ++ e ∷ []) a ≡ settles s J a
settles_same J e a u (Some action.Closing) = ap₂ (λ (b c : Bool). b && c) (members_same J e a u is_done_completing)
    (children_same J e a u has_ended)
settles_same J e a u (Some action.Cancelling) = ap₂ (λ (b c : Bool). b && c) (members_same J e a u is_done_compensating)
    (children_same J e a u has_finished_cancelling)
settles_same J e a u _ = refl

well_same : (J : History) (e : Entry) (a : ℕ) → Untouched J e a → children_are_well (J ++ e ∷ []) a
    ≡ children_are_well J a
well_same J e a u =
    ap (λ (ns : List ℕ). not (list_any (action_is has_failed (J ++ e ∷ [])) ns)) u.children_same
    ∙ ap not (list_any_same (action_is has_failed (J ++ e ∷ [])) (action_is has_failed J) (children J a)
    (λ c h. ap (λ (o : Option ActionStatus). option_map_or has_failed o false) (u.child_same c h)))

ends_as_same : (J : History) (e : Entry) (a : ℕ) → Untouched J e a → (s : Option ActionStatus)
    → ends_as s (J ++ e ∷ []) a ≡ ends_as s J a
ends_as_same J e a u (Some action.Closing) = ap₂ (λ (b c : Bool). cond (b && c) action.Closed action.FailedToClose)
    (members_same J e a u is_completed) (well_same J e a u)
ends_as_same J e a u _ = ap₂ (λ (b c : Bool). cond (b && c) action.Cancelled action.FailedToCancel)
    (members_same J e a u is_compensated) (well_same J e a u)

-- ---- ends that stay

-- the status in which an action was before it ended so
abbrev pub before_end : ActionStatus → ActionStatus
before_end action.Closed = action.Closing
before_end action.FailedToClose = action.Closing
before_end _ = action.Cancelling

-- an action would be settled, and end again as it ended
pub record EndsAgain (J : History) (a : ℕ) (s : ActionStatus) : Type 0 where
  pub settled : settles (Some (before_end s)) J a ≡ true
  pub right : ends_as (Some (before_end s)) J a ≡ s

-- each action that has ended would end so again
abbrev pub EndsStand : History → Type 0
EndsStand J = (a : ℕ) (s : ActionStatus) → action_status J a ≡ Some s → has_ended s ≡ true → EndsAgain J a s

-- what stands before an entry that leaves it stands after it
pub ends_again_after : (J : History) (e : Entry) (a : ℕ) (s : ActionStatus) → Untouched J e a → EndsAgain J a s
    → EndsAgain (J ++ e ∷ []) a s
ends_again_after J e a s u h = record {
  settled = settles_same J e a u (Some (before_end s))
      ∙ h.settled;
  right = ends_as_same J e a u (Some (before_end s)) ∙ h.right;
}

-- an action that may end so ends so again
pub ends_again_now : (J : History) (a : ℕ) (o : Option ActionStatus) (s : ActionStatus) → settles o J a ≡ true → s
    ≡ ends_as o J a → EndsAgain J a s
ends_again_now J a (Some action.Closing) s h k = subst (EndsAgain J a) (sym k)
    (closing (list_all (λ p. is_completed (member_status J p)) (staying J a) && children_are_well J a) refl)
  where
    closing : (b : Bool) → (list_all (λ p. is_completed (member_status J p)) (staying J a) && children_are_well J a) ≡ b
        → EndsAgain J a (cond b action.Closed action.FailedToClose)
    closing true e = record { settled = h; right = ap (λ (b : Bool). cond b action.Closed action.FailedToClose) e }
    closing false e = record { settled = h; right = ap (λ (b : Bool). cond b action.Closed action.FailedToClose) e }
ends_again_now J a (Some action.Cancelling) s h k = subst (EndsAgain J a) (sym k)
    (cancelling (list_all (λ p. is_compensated (member_status J p)) (staying J a) && children_are_well J a) refl)
  where
    cancelling : (b : Bool) → (list_all (λ p. is_compensated (member_status J p)) (staying J a)
        && children_are_well J a) ≡ b → EndsAgain J a (cond b action.Cancelled action.FailedToCancel)
    cancelling true e = record {
      settled = h;
      right = ap (λ (b : Bool). cond b action.Cancelled action.FailedToCancel)
          e;
    }
    cancelling false e = record {
      settled = h;
      right = ap (λ (b : Bool). cond b action.Cancelled action.FailedToCancel)
          e;
    }
ends_again_now J a _ s h k = absurd cc

-- nothing that a settled action waits for changes by itself: its staying members are decided
pub settles_decided : (J : History) (a : ℕ) (s : ActionStatus) → settles (Some s) J a ≡ true → (p : ℕ)
    → is_among (staying J a) p ≡ true → is_decided (member_status J p) ≡ true
settles_decided J a action.Closing h p k = decided (member_status J p)
    (passes_at (λ q. is_done_completing (member_status J q)) (staying J a) p
    (both (list_all (λ q. is_done_completing (member_status J q)) (staying J a))
    (list_all (action_is has_ended J) (children J a)) h).0 k)
  where
    decided : (x : MemberStatus) → is_done_completing x ≡ true → is_decided x ≡ true
    decided member.Completed g = refl
    decided member.FailedToComplete g = refl
    decided _ g = absurd cc
settles_decided J a action.Cancelling h p k = decided (member_status J p)
    (passes_at (λ q. is_done_compensating (member_status J q)) (staying J a) p
    (both (list_all (λ q. is_done_compensating (member_status J q)) (staying J a))
    (list_all (action_is has_finished_cancelling J) (children J a)) h).0 k)
  where
    decided : (x : MemberStatus) → is_done_compensating x ≡ true → is_decided x ≡ true
    decided member.Compensated g = refl
    decided member.FailedToCompensate g = refl
    decided member.FailedToComplete g = refl
    decided _ g = absurd cc
settles_decided J a _ h p k = absurd cc

-- and the actions nested in it have ended
pub settles_ended : (J : History) (a : ℕ) (s : ActionStatus) → settles (Some s) J a ≡ true → (c : ℕ)
    → is_among (children J a) c ≡ true → action_is has_ended J c ≡ true
settles_ended J a action.Closing h c k = passes_at (action_is has_ended J) (children J a) c
    (both (list_all (λ q. is_done_completing (member_status J q)) (staying J a))
    (list_all (action_is has_ended J) (children J a)) h).1 k
settles_ended J a action.Cancelling h c k = ended (action_status J c) (passes_at (action_is has_finished_cancelling J)
    (children J a) c (both (list_all (λ q. is_done_compensating (member_status J q)) (staying J a))
    (list_all (action_is has_finished_cancelling J) (children J a)) h).1 k)
  where
    ended : (o : Option ActionStatus) → option_map_or has_finished_cancelling o false ≡ true
        → option_map_or has_ended o false ≡ true
    ended None g = absurd cc
    ended (Some s) g = cancelled_has_ended s g
settles_ended J a _ h c k = absurd cc
