-- Each entry that settles a history leaves less to settle.
use Rattle.std.proofs.Common.{◌≡◌, ℕ, ◌+◌, ◌*◌, ◌≤◌, ◌<◌, Bool, true, false, List, [], ◌∷◌, ◌++◌, length, Option, Some}
use Rattle.std.proofs.Common.{None, refl, sym, ap, ◌∙◌, subst, cond, arith, eqb-true, eq-eqb}
use Rattle.std.proofs.lemmas.List.{append-nil}
use Rattle.std.proofs.lemmas.List.Elements.{All-from_get_or}
use Rattle.std.proofs.lemmas.List.Sums.{sum_by-cons, sum_by-le, sum_by-le-sum_by}
use Rattle.std.specs.Prelude.{◌==◌, ◌&&◌, ◌||◌, not, is_some, unwrap_or, option_map, option_to_list, get_or}
use Rattle.std.specs.Option.{option_or, option_map_or}
use Rattle.std.specs.List.{filter_map, cons_option, find, sum_by}
use Rattle.lra_model.specs.declared.version.Version.{Version}
use Rattle.lra_model.specs.declared.status.ActionStatus.{ActionStatus}
use Rattle.lra_model.specs.declared.status.ActionStatus.TheVariants as action
use Rattle.lra_model.specs.declared.status.MemberStatus.TheVariants as member
use Rattle.lra_model.specs.declared.asks.AskKind.TheVariants as ask
use Rattle.lra_model.specs.declared.asks.Cause.TheVariants as cause
use Rattle.lra_model.specs.declared.asks.Direction.{Direction}
use Rattle.lra_model.specs.declared.asks.Direction.TheVariants as direction
use Rattle.lra_model.specs.declared.asks.Outcome.{Outcome}
use Rattle.lra_model.specs.declared.asks.Outcome.TheVariants as outcome
use Rattle.lra_model.specs.declared.entry.Deed.{Deed}
use Rattle.lra_model.specs.declared.entry.Deed.TheVariants.{Close, Cancel, Skip, End}
use Rattle.lra_model.specs.declared.entry.Entry.{Entry}
use Rattle.lra_model.specs.Words.{when, is_active, is_closing, is_cancellable, is_cancelling, same_status, is_untouched}
use Rattle.lra_model.specs.Words.{is_decisive, same_direction}
use Rattle.lra_model.specs.History.{History, steps, first, last, started_by, joined_by, actions, members, is_among}
use Rattle.lra_model.specs.Actions.{status_given, action_status}
use Rattle.lra_model.specs.Members.{has_left, was_asked, Heard, heard_at, decides, decided, by_decision, member_status}
use Rattle.lra_model.specs.Ends.{settles, is_settled, ends_as, right_end}
use Rattle.lra_model.specs.Facts.{ActionFacts, MemberFacts, action_facts, member_facts, facts_of}
use Rattle.lra_model.specs.Tests.{at_action, status_is, parent_is, may_close_with_parent, may_cancel_with_parent}
use Rattle.lra_model.specs.Tests.{may_skip}
use Rattle.lra_model.specs.Rules.{deed_rules}
use Rattle.lra_model.specs.Settling.{is_settling, may_be_skipped, by_parent, next_settling}
use Rattle.lra_laws.proofs.Push.{step, actions_push, members_push, action_status_push, decided_push}
use Rattle.lra_laws.proofs.Tested.{both}
use Rattle.lra_laws.proofs.Legal.{Allowed, AllKept, entry_kept, close_kept, cancel_kept, skip_kept, end_kept}
use Rattle.lra_laws.proofs.Legal.{action_fact, member_fact}
use Rattle.lra_laws.proofs.Writes.{MayWrite}
use Rattle.lra_laws.proofs.Settled.{settling_allowed}

-- ---- how much may be left to settle

-- how many changes of its status an action has left: to Closing, its end, Cancelling and its end
abbrev turns_left : ActionStatus → ℕ
turns_left action.Active = 4
turns_left action.Closing = 3
turns_left action.Closed = 2
turns_left action.FailedToClose = 2
turns_left action.Cancelling = 1
turns_left _ = 0

abbrev turns_of : History → ℕ → ℕ
turns_of J a = turns_left (unwrap_or (action_status J a) action.Active)

-- a member has one skip left until its completion is decided
abbrev skips_of : History → ℕ → ℕ
skips_of J p = cond (is_some (decided J p direction.Completion)) 0 1

-- the skips and the changes of status that are left
abbrev pub left_to_settle : History → ℕ
left_to_settle J = sum_by (skips_of J) (members J) + sum_by (turns_of J) (actions J)

-- a sum of numbers each at most so much
sum_most : (f : ℕ → ℕ) (m : ℕ) (xs : List ℕ) → ((x : ℕ) → f x ≤ m) → sum_by f xs ≤ length xs * m
sum_most f m xs h = sum_by-le f m xs (All-from_get_or (λ x. f x ≤ m) xs 0 (λ i lt. h (get_or xs i 0)))

pub left_is_bounded : (J : History) → left_to_settle J ≤ length (members J) + 4 * length (actions J)
left_is_bounded J = omega (
  arith,
  sum_most (skips_of J) 1 (members J) (λ p. one_skip (is_some (decided J p direction.Completion))),
  sum_most (turns_of J) 4 (actions J) (λ a. four_turns (unwrap_or (action_status J a) action.Active)),
)
  where
    one_skip : (b : Bool) → cond b 0 1 ≤ 1
    one_skip true = omega arith
    one_skip false = omega arith

    four_turns : (s : ActionStatus) → turns_left s ≤ 4
    four_turns action.Active = omega arith
    four_turns action.Closing = omega arith
    four_turns action.Closed = omega arith
    four_turns action.FailedToClose = omega arith
    four_turns action.Cancelling = omega arith
    four_turns _ = omega arith

-- a sum is less where no number is more, and one of them is less
sum_less : (f g : ℕ → ℕ) (xs : List ℕ) (n : ℕ) → ((x : ℕ) → f x ≤ g x) → is_among xs n ≡ true → f n < g n → sum_by f xs
    < sum_by g xs
sum_less f g [] n h k l = absurd cc
sum_less f g (x ∷ xs) n h k l = either (x == n) refl k (λ i. sum_less f g xs n h i l)
  where
    either : (b : Bool) → (x == n) ≡ b → (b || is_among xs n) ≡ true →
        (is_among xs n ≡ true → sum_by f xs < sum_by g xs) → sum_by f (x ∷ xs) < sum_by g (x ∷ xs)
    either true e i rest =
        let now : f x < g x = subst (λ (y : ℕ). f y < g y) (sym (eqb-true x n e)) l in
        omega (arith, sum_by-cons f x xs, sum_by-cons g x xs, sum_by-le-sum_by f g xs h)
    either false e i rest = omega (arith, sum_by-cons f x xs, sum_by-cons g x xs, h x, rest i)

-- ---- what an entry changes

-- the outcome that decides a direction is decisive
pub decided_is_decisive : (J : History) (p : ℕ) (d : Direction) → option_map_or is_decisive (decided J p d) true ≡ true
unfolding decided
decided_is_decisive J p d = found (filter_map heard_at (steps J))
  where
    found : (hs : List Heard) → option_map_or is_decisive (option_map (λ (h : Heard). h.outcome)
        (find (decides p d) hs)) true ≡ true
    found [] = refl
    found (h ∷ hs) = either (decides p d h) refl (found hs)
      where
        either : (b : Bool) → decides p d h ≡ b → option_map_or is_decisive
            (option_map (λ (x : Heard). x.outcome) (find (decides p d) hs)) true ≡ true
            → option_map_or is_decisive (option_map (λ (x : Heard). x.outcome)
            (cond b (Some h) (find (decides p d) hs))) true ≡ true
        either true e rest = (both ((h.member == p) && same_direction h.direction d) (is_decisive h.outcome) e).1
        either false e rest = rest

-- an Active member's completion isn't decided yet
untouched_undecided : (J : History) (p : ℕ) → is_untouched (member_status J p) ≡ true → decided J p direction.Completion
    ≡ None
unfolding member_status
untouched_undecided J p h =
    by_words (has_left J p) (decided J p direction.Compensation) (was_asked J p ask.Compensate)
    (decided J p direction.Completion) (was_asked J p ask.Complete) h (decided_is_decisive J p direction.Completion)
  where
    late : (a : Bool) (d : Option Outcome) (b : Bool) → is_untouched (cond a member.Compensating
        (by_decision d member.Completed member.FailedToComplete (cond b member.Completing member.Active))) ≡ true
        → option_map_or is_decisive d true ≡ true → d ≡ None
    late a None b g k = refl
    late true (Some o) b g k = absurd cc
    late false (Some outcome.Done) b g k = absurd cc
    late false (Some outcome.Failed) b g k = absurd cc
    late false (Some outcome.Accepted) b g k = absurd cc
    late false (Some outcome.Silent) b g k = absurd cc

    by_words : (l : Bool) (c : Option Outcome) (a : Bool) (d : Option Outcome) (b : Bool)
        → is_untouched (cond l member.Left (by_decision c member.Compensated member.FailedToCompensate
        (cond a member.Compensating (by_decision d member.Completed member.FailedToComplete
        (cond b member.Completing member.Active))))) ≡ true
        → option_map_or is_decisive d true ≡ true → d ≡ None
    by_words true c a d b g k = absurd cc
    by_words false None a d b g k = late a d b g k
    by_words false (Some outcome.Accepted) a d b g k = late a d b g k
    by_words false (Some outcome.Silent) a d b g k = late a d b g k
    by_words false (Some outcome.Done) a d b g k = absurd cc
    by_words false (Some outcome.Failed) a d b g k = absurd cc

-- no entry gives a member its skip back
skips_fall : (J : History) (e : Entry) (p : ℕ) → skips_of (J ++ e ∷ []) p ≤ skips_of J p
skips_fall J e p =
    subst (λ (o : Option Outcome). cond (is_some o) 0 1 ≤ skips_of J p) (sym (decided_push J e p direction.Completion))
    (either (decided J p direction.Completion)
    (option_map_or (λ (h : Heard). when (decides p direction.Completion h) h.outcome) (heard_at (step J e)) None))
  where
    either : (o n : Option Outcome) → cond (is_some (option_or o n)) 0 1 ≤ cond (is_some o) 0 1
    either (Some x) n = omega arith
    either None (Some x) = omega arith
    either None None = omega arith

-- a skip takes it
skip_taken : (J : History) (by m p : ℕ) → is_untouched (member_status J p) ≡ true
    → skips_of (J ++ record { by = by; moment = m; deed = Skip p } ∷ []) p < skips_of J p
skip_taken J by m p h =
    let before : skips_of J p ≡ 1 = ap (λ (o : Option Outcome). cond (is_some o) 0 1) (untouched_undecided J p h) in
    let after : skips_of (J ++ e ∷ []) p ≡ 0 =
    ap (λ (o : Option Outcome). cond (is_some o) 0 1)
    (decided_push J e p direction.Completion ∙ ap (λ (o : Option Outcome). option_or o
    (when ((p == p) && true && true) outcome.Done)) (untouched_undecided J p h)
    ∙ ap (λ (b : Bool). when (b && true && true) outcome.Done) (eq-eqb p p refl)) in
    omega arith
  where
    e : Entry
    e = record { by = by; moment = m; deed = Skip p }

-- the changes of its status that an action has left after an entry
turns_after : (J : History) (e : Entry) (a : ℕ) → turns_of (J ++ e ∷ []) a
    ≡ turns_left (unwrap_or (option_or (status_given a e.deed) (action_status J a)) action.Active)
turns_after J e a = ap (λ (o : Option ActionStatus). turns_left (unwrap_or o action.Active)) (action_status_push J e a)

-- an entry changes an action's status to one that leaves it fewer changes
record IsTurn (J : History) (d : Deed) (b : ℕ) (s : ActionStatus) : Type 0 where
  pub there : is_among (actions J) b ≡ true
  pub turns : (a : ℕ) → status_given a d ≡ when (b == a) s
  pub less : turns_left s < turns_of J b

module _ (J : History) (by m : ℕ) (d : Deed) (b : ℕ) (s : ActionStatus) (turn : IsTurn J d b s) where
  after_turn : (a : ℕ) → turns_of (J ++ record { by = by; moment = m; deed = d } ∷ []) a
      ≡ turns_left (unwrap_or (option_or (when (b == a) s) (action_status J a)) action.Active)
  after_turn a = turns_after J (record { by = by; moment = m; deed = d }) a
      ∙ ap (λ (o : Option ActionStatus). turns_left (unwrap_or (option_or o (action_status J a)) action.Active))
      (turn.turns a)

  turns_fall : (a : ℕ) → turns_of (J ++ record { by = by; moment = m; deed = d } ∷ []) a ≤ turns_of J a
  turns_fall a = subst (λ (n : ℕ). n ≤ turns_of J a) (sym (after_turn a)) (either (b == a) refl)
    where
      either : (x : Bool) → (b == a) ≡ x → turns_left (unwrap_or (option_or (when x s) (action_status J a))
          action.Active) ≤ turns_of J a
      either true e = let now : turns_left s < turns_of J a = subst (λ (n : ℕ). turns_left s < turns_of J n)
          (eqb-true b a e) turn.less in omega arith
      either false e = omega arith

  turn_taken : turns_of (J ++ record { by = by; moment = m; deed = d } ∷ []) b < turns_of J b
  turn_taken =
      let now = after_turn b
      ∙ ap (λ (x : Bool). turns_left (unwrap_or (option_or (when x s) (action_status J b)) action.Active))
      (eq-eqb b b refl) in
      let less = turn.less in
      omega arith

-- ---- settling

-- which numbers are there stays, where an entry starts and joins nothing
left_after : (J : History) (e : Entry) → started_by e.deed ≡ None → joined_by e.deed ≡ None
    → left_to_settle (J ++ e ∷ []) ≡ sum_by (skips_of (J ++ e ∷ [])) (members J)
    + sum_by (turns_of (J ++ e ∷ [])) (actions J)
left_after J e h k =
    ap (λ (ps : List ℕ). sum_by (skips_of (J ++ e ∷ [])) ps + sum_by (turns_of (J ++ e ∷ [])) (actions (J ++ e ∷ [])))
    (members_push J e ∙ ap (λ (o : Option ℕ). members J ++ option_to_list o) k ∙ append-nil (members J))
    ∙ ap (λ (xs : List ℕ). sum_by (skips_of (J ++ e ∷ [])) (members J) + sum_by (turns_of (J ++ e ∷ [])) xs)
    (actions_push J e ∙ ap (λ (o : Option ℕ). actions J ++ option_to_list o) h ∙ append-nil (actions J))

turn_lessens : (J : History) (by m : ℕ) (d : Deed) (b : ℕ) (s : ActionStatus) → started_by d ≡ None → joined_by d ≡ None
    → IsTurn J d b s
    → left_to_settle (J ++ record { by = by; moment = m; deed = d } ∷ []) < left_to_settle J
turn_lessens J by m d b s h k turn =
    let e : Entry = record { by = by; moment = m; deed = d } in
    omega (
      arith,
      left_after J e h k,
      sum_by-le-sum_by (skips_of (J ++ e ∷ [])) (skips_of J) (members J) (skips_fall J e),
      sum_less (turns_of (J ++ e ∷ [])) (turns_of J) (actions J) b (turns_fall J by m d b s turn) turn.there
          (turn_taken J by m d b s turn),
    )

skip_lessens : (J : History) (by m p : ℕ) → is_among (members J) p ≡ true → is_untouched (member_status J p) ≡ true
    → left_to_settle (J ++ record { by = by; moment = m; deed = Skip p } ∷ []) < left_to_settle J
skip_lessens J by m p there h =
    let e : Entry = record { by = by; moment = m; deed = Skip p } in
    omega (
      arith,
      left_after J e refl refl,
      sum_less (skips_of (J ++ e ∷ [])) (skips_of J) (members J) p (skips_fall J e) there (skip_taken J by m p h),
      sum_by-le-sum_by (turns_of (J ++ e ∷ [])) (turns_of J) (actions J) (λ a. omega (arith, turns_after J e a)),
    )

-- a deed that settles a history, where it is allowed, leaves less to settle
settling_lessens : (v : Version) (t : List ℕ → Bool) (J : History) (by m : ℕ) (d : Deed)
    → Allowed v t J (record { by = by; moment = m; deed = d }) → is_settling d ≡ true
    → left_to_settle (J ++ record { by = by; moment = m; deed = d } ∷ []) < left_to_settle J
unfolding is_settled right_end
settling_lessens v t J by m d k h = by_deed d h (entry_kept v t (facts_of J) (record { by = by; moment = m; deed = d })
    k.unbroken).deed
  where
    from_active : (s : ActionStatus) → is_active s ≡ true → turns_left action.Closing < turns_left s
    from_active action.Active g = omega arith
    from_active _ g = absurd cc

    from_cancellable : (s : ActionStatus) → is_cancellable s ≡ true → turns_left action.Cancelling < turns_left s
    from_cancellable action.Active g = omega arith
    from_cancellable action.Closed g = omega arith
    from_cancellable action.FailedToClose g = omega arith
    from_cancellable _ g = absurd cc

    -- an end that is the right one is after Closing or Cancelling
    closed_by : (b : Bool) (s : ActionStatus) → same_status s (cond b action.Closed action.FailedToClose) ≡ true
        → turns_left s < turns_left action.Closing
    closed_by true action.Closed g = omega arith
    closed_by true _ g = absurd cc
    closed_by false action.FailedToClose g = omega arith
    closed_by false _ g = absurd cc

    cancelled_by : (b : Bool) (s : ActionStatus) → same_status s (cond b action.Cancelled action.FailedToCancel) ≡ true
        → turns_left s < turns_left action.Cancelling
    cancelled_by true action.Cancelled g = omega arith
    cancelled_by true _ g = absurd cc
    cancelled_by false action.FailedToCancel g = omega arith
    cancelled_by false _ g = absurd cc

    from_settled : (a : ℕ) (o : Option ActionStatus) (s : ActionStatus) → settles o J a ≡ true
        → same_status s (ends_as o J a) ≡ true → turns_left s < turns_left (unwrap_or o action.Active)
    from_settled a (Some action.Closing) s g i = closed_by _ s i
    from_settled a (Some action.Cancelling) s g i = cancelled_by _ s i
    from_settled a _ s g i = absurd cc

    by_deed : (d : Deed) → is_settling d ≡ true → AllKept (deed_rules v t (facts_of J) m d)
        → left_to_settle (J ++ record { by = by; moment = m; deed = d } ∷ []) < left_to_settle J
    by_deed (Close a cause.Parent) s r =
        let f = action_fact (may_close_with_parent (facts_of J)) J a (close_kept v t (facts_of J) m a cause.Parent
        r).may in
        let x : ActionFacts = action_facts J a in
        turn_lessens J by m (Close a cause.Parent) a action.Closing refl refl
        (record {
          there = f.0;
          turns = λ b. refl;
          less = from_active x.status
              (both (is_active x.status) (parent_is is_closing (facts_of J) x) f.1).0;
        })
    by_deed (Cancel a cause.Parent) s r =
        let f = action_fact (may_cancel_with_parent (facts_of J)) J a (cancel_kept v t (facts_of J) m a cause.Parent
        r).may in
        let x : ActionFacts = action_facts J a in
        turn_lessens J by m (Cancel a cause.Parent) a action.Cancelling refl refl
        (record {
          there = f.0;
          turns = λ b. refl;
          less = from_cancellable x.status
              (both (is_cancellable x.status) (parent_is is_cancelling (facts_of J) x) f.1).0;
        })
    by_deed (Skip p) s r =
        let f = member_fact (may_skip (facts_of J)) J p (skip_kept v t (facts_of J) m p r).may in
        let x : MemberFacts = member_facts J p in
        let a = both (status_is is_closing (facts_of J) x.action && is_untouched x.status && not x.addresses.complete)
        x.addresses.compensate f.1 in
        let b = both (status_is is_closing (facts_of J) x.action && is_untouched x.status) (not x.addresses.complete)
        a.0 in
        skip_lessens J by m p f.0 (both (status_is is_closing (facts_of J) x.action) (is_untouched x.status) b.0).1
    by_deed (End a z) s r =
        let k = end_kept v t (facts_of J) m a z r in
        let f = action_fact (λ (x : ActionFacts). x.settled) J a k.settled in
        let g = action_fact (λ (x : ActionFacts). same_status z x.right_end) J a k.right in
        turn_lessens J by m (End a z) a z refl refl
        (record { there = f.0; turns = λ b. refl; less = from_settled a (action_status J a) z f.1 g.1 })
    by_deed _ s r = absurd cc

-- what comes next settles
pub next_settles : (J : History) (d : Deed) → next_settling J ≡ Some d → is_settling d ≡ true
unfolding next_settling
next_settles J d h =
    ap (λ (o : Option Deed). option_map_or is_settling o true) (sym h)
    ∙ first_of (option_map Skip (find (may_be_skipped J) (members J))) _ (skips (find (may_be_skipped J) (members J)))
    (first_of (first (filter_map (by_parent J) (actions J))) _ (parents (actions J))
    (ends (last (filter_map (λ a. cond (is_settled J a) (Some a) None) (actions J)))))
  where
    first_of : (o n : Option Deed) → option_map_or is_settling o true ≡ true → option_map_or is_settling n true ≡ true
        → option_map_or is_settling (option_or o n) true ≡ true
    first_of (Some x) n g k = g
    first_of None n g k = k

    skips : (o : Option ℕ) → option_map_or is_settling (option_map Skip o) true ≡ true
    skips (Some p) = refl
    skips None = refl

    ends : (o : Option ℕ) → option_map_or is_settling (option_map (λ a. End a (right_end J a)) o) true ≡ true
    ends (Some a) = refl
    ends None = refl

    parents : (ns : List ℕ) → option_map_or is_settling (first (filter_map (by_parent J) ns)) true ≡ true
    parents [] = refl
    parents (a ∷ ns) = one (at_action (may_close_with_parent (facts_of J)) (facts_of J) a)
        (at_action (may_cancel_with_parent (facts_of J)) (facts_of J) a) (parents ns)
      where
        one : (close cancel : Bool) → option_map_or is_settling (first (filter_map (by_parent J) ns)) true ≡ true
            → option_map_or is_settling
            (first (cons_option (cond close (Some (Close a cause.Parent))
            (cond cancel (Some (Cancel a cause.Parent)) None)) (filter_map (by_parent J) ns))) true ≡ true
        one true cancel rest = refl
        one false true rest = refl
        one false false rest = rest

-- what settles a legal history next leaves less to settle
pub next_lessens : (v : Version) (t : List ℕ → Bool) (J : History) (by m : ℕ) (d : Deed) → MayWrite v t J by m
    → next_settling J ≡ Some d
    → left_to_settle (J ++ record { by = by; moment = m; deed = d } ∷ []) < left_to_settle J
next_lessens v t J by m d w h = settling_lessens v t J by m d (settling_allowed v t J by m d w h) (next_settles J d h)
