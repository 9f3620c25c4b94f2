-- What a member of a legal history wants to be asked may be asked.
use Rattle.std.proofs.Common.{◌≡◌, ℕ, Bool, true, false, List, [], ◌∷◌, ◌++◌, Option, Some, None, refl, sym, ap, ◌∙◌}
use Rattle.std.proofs.Common.{cond, eqb-true, eq-eqb}
use Rattle.std.specs.Prelude.{◌==◌, ◌&&◌, ◌||◌, not, is_some, option_map}
use Rattle.std.specs.Option.{option_or, option_map_or}
use Rattle.std.proofs.Math.Bool.{or-true}
use Rattle.lra_model.specs.declared.version.Version.{Version}
use Rattle.lra_model.specs.declared.status.MemberStatus.{MemberStatus}
use Rattle.lra_model.specs.declared.status.MemberStatus.TheVariants as member
use Rattle.lra_model.specs.declared.asks.AskKind.{AskKind}
use Rattle.lra_model.specs.declared.asks.AskKind.TheVariants as ask
use Rattle.lra_model.specs.declared.asks.Direction.TheVariants as direction
use Rattle.lra_model.specs.declared.asks.Outcome.{Outcome}
use Rattle.lra_model.specs.declared.asks.Outcome.TheVariants as outcome
use Rattle.lra_model.specs.declared.entry.Deed.{Deed}
use Rattle.lra_model.specs.declared.entry.Deed.TheVariants.{Ask, Reply}
use Rattle.lra_model.specs.declared.entry.Entry.{Entry}
use Rattle.lra_model.specs.Words.{when, same_kind, same_direction, is_closing, is_untouched, is_completing}
use Rattle.lra_model.specs.Words.{is_compensating, has_gone}
use Rattle.lra_model.specs.History.{History, steps, members, is_among}
use Rattle.lra_model.specs.Members.{Asked, asked_at, ask_of, ask_direction, was_asked, Replied, replied_at, replies}
use Rattle.lra_model.specs.Members.{last_reply, has_left, decided, by_decision, member_status, is_ask_for}
use Rattle.lra_model.specs.Facts.{MemberFacts, Facts, member_facts, facts_of}
use Rattle.lra_model.specs.Tests.{at_member, has_address, is_time_for, was_accepted, may_ask, status_is}
use Rattle.lra_model.specs.Rules.{is_member, is_here, is_legal}
use Rattle.lra_model.specs.Wants.{wants_completion, wants_compensation, wants_notice, wanted, wants}
use Rattle.lra_laws.proofs.Push.{step, was_asked_push, ask_of_push, last_reply_push}
use Rattle.lra_laws.proofs.Tested.{both, and_intro, or_left}
use Rattle.lra_laws.proofs.Legal.{Allowed, legal_induction, AskKept, ask_kept, entry_kept, member_fact, at_member_from}

-- ---- the status of a member, by the words that it is read from

-- whether a member was asked to complete or to compensate
abbrev was_begun : History → ℕ → Bool
was_begun J p = was_asked J p ask.Complete || was_asked J p ask.Compensate

-- a status that fails a test
abbrev Fails : (MemberStatus → Bool) → MemberStatus → Type 0
Fails test s = test s ≡ false

cond_fails : (test : MemberStatus → Bool) (b : Bool) (x y : MemberStatus) → Fails test x → Fails test y
    → Fails test (cond b x y)
cond_fails test true x y h k = h
cond_fails test false x y h k = k

decision_fails : (test : MemberStatus → Bool) (o : Option Outcome) (x y z : MemberStatus) → Fails test x → Fails test y
    → Fails test z → Fails test (by_decision o x y z)
decision_fails test None x y z h k l = l
decision_fails test (Some outcome.Done) x y z h k l = h
decision_fails test (Some outcome.Failed) x y z h k l = k
decision_fails test (Some outcome.Accepted) x y z h k l = l
decision_fails test (Some outcome.Silent) x y z h k l = l

-- the status of a member, from completion on, and from compensation on
abbrev from_completion : Option Outcome → Bool → MemberStatus
from_completion c q = by_decision c member.Completed member.FailedToComplete (cond q member.Completing member.Active)

abbrev from_compensation : Option Outcome → Bool → Option Outcome → Bool → MemberStatus
from_compensation d a c q = by_decision d member.Compensated member.FailedToCompensate
    (cond a member.Compensating (from_completion c q))

-- a member that hasn't left is in another status than Left
pub not_gone : (J : History) (p : ℕ) → has_left J p ≡ false → has_gone (member_status J p) ≡ false
unfolding member_status
not_gone J p h =
    ap (λ (b : Bool). has_gone
    (cond b member.Left (from_compensation (decided J p direction.Compensation) (was_asked J p ask.Compensate)
    (decided J p direction.Completion) (was_asked J p ask.Complete)))) h
    ∙ decision_fails has_gone (decided J p direction.Compensation) _ _ _ refl refl
    (cond_fails has_gone (was_asked J p ask.Compensate) _ _ refl
    (decision_fails has_gone (decided J p direction.Completion) _ _ _ refl refl
    (cond_fails has_gone (was_asked J p ask.Complete) _ _ refl refl)))

-- a test that no decided status passes, and what each status that may pass it says of whether the member was begun
record Tells (test : MemberStatus → Bool) (begun : Bool) : Type 0 where
  left : Fails test member.Left
  compensated : Fails test member.Compensated
  uncompensated : Fails test member.FailedToCompensate
  completed : Fails test member.Completed
  uncompleted : Fails test member.FailedToComplete
  compensating : test member.Compensating ≡ true → begun ≡ true
  completing : test member.Completing ≡ true → begun ≡ true
  active : test member.Active ≡ true → begun ≡ false

-- it says so of every member in a status that passes
told_begun : (test : MemberStatus → Bool) (x : Bool) → Tells test x → (l : Bool) (d : Option Outcome) (a : Bool)
    (c : Option Outcome) (q : Bool) → test (cond l member.Left (from_compensation d a c q)) ≡ true → (q || a) ≡ x
told_begun test x tells l d a c q h = by_left l h
  where
    never : (b : Bool) → b ≡ false → b ≡ true → (q || a) ≡ x
    never true i j = absurd cc
    never false i j = absurd cc

    by_begun : (b : Bool) → q ≡ b → a ≡ false → test (cond b member.Completing member.Active) ≡ true → (q || a) ≡ x
    by_begun true i g j = ap (λ (y : Bool). y || a) i ∙ sym (tells.completing j)
    by_begun false i g j = ap (λ (y : Bool). y || a) i ∙ g ∙ sym (tells.active j)

    by_completion : (o : Option Outcome) → a ≡ false → test (from_completion o q) ≡ true → (q || a) ≡ x
    by_completion None g j = by_begun q refl g j
    by_completion (Some outcome.Done) g j = never _ tells.completed j
    by_completion (Some outcome.Failed) g j = never _ tells.uncompleted j
    by_completion (Some outcome.Accepted) g j = by_begun q refl g j
    by_completion (Some outcome.Silent) g j = by_begun q refl g j

    by_asked : (b : Bool) → a ≡ b → test (cond b member.Compensating (from_completion c q)) ≡ true → (q || a) ≡ x
    by_asked true g j = ap (λ (y : Bool). q || y) g ∙ or-true q ∙ sym (tells.compensating j)
    by_asked false g j = by_completion c g j

    by_compensation : (o : Option Outcome) → test (from_compensation o a c q) ≡ true → (q || a) ≡ x
    by_compensation None j = by_asked a refl j
    by_compensation (Some outcome.Done) j = never _ tells.compensated j
    by_compensation (Some outcome.Failed) j = never _ tells.uncompensated j
    by_compensation (Some outcome.Accepted) j = by_asked a refl j
    by_compensation (Some outcome.Silent) j = by_asked a refl j

    by_left : (b : Bool) → test (cond b member.Left (from_compensation d a c q)) ≡ true → (q || a) ≡ x
    by_left true j = never _ tells.left j
    by_left false j = by_compensation d j

state_told : (test : MemberStatus → Bool) (x : Bool) → Tells test x → (J : History) (p : ℕ) → test (member_status J p)
    ≡ true → was_begun J p ≡ x
unfolding member_status
state_told test x tells J p h = told_begun test x tells (has_left J p) (decided J p direction.Compensation)
    (was_asked J p ask.Compensate) (decided J p direction.Completion) (was_asked J p ask.Complete) h

untouched_not_begun : (J : History) (p : ℕ) → is_untouched (member_status J p) ≡ true → was_begun J p ≡ false
untouched_not_begun =
    state_told is_untouched false
    (record {
      left = refl;
      compensated = refl;
      uncompensated = refl;
      completed = refl;
      uncompleted = refl;
      compensating = λ i. absurd cc;
      completing = λ i. absurd cc;
      active = λ i. refl;
    })

completing_begun : (J : History) (p : ℕ) → is_completing (member_status J p) ≡ true → was_begun J p ≡ true
completing_begun = state_told is_completing true
    (record {
      left = refl;
      compensated = refl;
      uncompensated = refl;
      completed = refl;
      uncompleted = refl;
      compensating = λ i. absurd cc;
      completing = λ i. refl;
      active = λ i. absurd cc;
    })

compensating_begun : (J : History) (p : ℕ) → is_compensating (member_status J p) ≡ true → was_begun J p ≡ true
compensating_begun = state_told is_compensating true
    (record {
      left = refl;
      compensated = refl;
      uncompensated = refl;
      completed = refl;
      uncompleted = refl;
      compensating = λ i. refl;
      completing = λ i. absurd cc;
      active = λ i. absurd cc;
    })

-- ---- a member that has answered in completion was asked

begun_push : (J : History) (e : Entry) (p : ℕ) → was_begun J p ≡ true → was_begun (J ++ e ∷ []) p ≡ true
begun_push J e p h =
    ap (λ (b : Bool). b || was_asked (J ++ e ∷ []) p ask.Compensate) (was_asked_push J e p ask.Complete)
    ∙ ap (λ (b : Bool). (was_asked J p ask.Complete || is_ask_for p ask.Complete e.deed) || b)
    (was_asked_push J e p ask.Compensate)
    ∙ more (was_asked J p ask.Complete) (is_ask_for p ask.Complete e.deed) (was_asked J p ask.Compensate)
    (is_ask_for p ask.Compensate e.deed) h
  where
    more : (a b c d : Bool) → (a || c) ≡ true → ((a || b) || (c || d)) ≡ true
    more true b c d h = refl
    more false true c d h = refl
    more false false true d h = refl
    more false false false d h = absurd cc

-- an ask that goes to completion
abbrev ToCompletion : Asked → Type 0
ToCompletion x = same_direction x.direction direction.Completion ≡ true

-- an ask in completion that is made now: one to complete, or for the status of a member that was asked before
asked_now : (v : Version) (t : List ℕ → Bool) (J : History) (by m : ℕ) (d : Deed)
    → Allowed v t J (record { by = by; moment = m; deed = d }) → (n : ℕ) (x : Asked)
    → option_map_or (λ (a : Asked). when (a.number == n) a)
    (asked_at (step J (record { by = by; moment = m; deed = d }))) None ≡ Some x → ToCompletion x
    → was_begun (J ++ record { by = by; moment = m; deed = d } ∷ []) x.member ≡ true
asked_now v t J by m (Ask k q kind) allow n x h g = numbered (k == n) h
  where
    e : Entry
    e = record { by = by; moment = m; deed = Ask k q kind }

    rules : AskKept (facts_of J) k q kind
    rules = ask_kept v t (facts_of J) m k q kind (entry_kept v t (facts_of J) e allow.unbroken).deed

    timely : is_time_for kind (facts_of J) (member_facts J q) ≡ true
    timely =
        let may = (member_fact (may_ask kind (facts_of J)) J q rules.may).1 in
        (both (not (member_facts J q).is_asked && has_address kind (member_facts J q).addresses)
        (is_time_for kind (facts_of J) (member_facts J q)) may).1

    either : (a b c d : Bool) → (a ≡ true → was_begun J q ≡ true) → (c ≡ true → was_begun J q ≡ true)
        → ((a && b) || (c && d)) ≡ true → was_begun J q ≡ true
    either true b c d i j h = i refl
    either false b true d i j h = j refl
    either false b false d i j h = absurd cc

    by_kind : (z : AskKind) → kind ≡ z → is_time_for z (facts_of J) (member_facts J q) ≡ true
        → same_direction (ask_direction J q z) direction.Completion ≡ true → was_begun (J ++ e ∷ []) q ≡ true
    by_kind ask.Complete i j w =
        ap (λ (b : Bool). b || was_asked (J ++ e ∷ []) q ask.Compensate)
        (was_asked_push J e q ask.Complete ∙ ap (λ (b : Bool). was_asked J q ask.Complete
        || (b && same_kind kind ask.Complete)) (eq-eqb q q refl) ∙ ap
        (λ (y : AskKind). was_asked J q ask.Complete || same_kind y ask.Complete) i
        ∙ or-true (was_asked J q ask.Complete))
    by_kind ask.Status i j w =
        begun_push J e q (either (is_completing (member_status J q)) (was_accepted
        (last_reply J q direction.Completion)) (is_compensating (member_status J q))
        (was_accepted (last_reply J q direction.Compensation)) (completing_begun J q) (compensating_begun J q) j)
    by_kind ask.Compensate i j w = absurd cc
    by_kind ask.Forget i j w = absurd cc
    by_kind ask.After i j w = absurd cc

    numbered : (b : Bool) → when b
        (let a : Asked = record { number = k; member = q; kind = kind; direction = ask_direction J q kind } in a)
        ≡ Some x → was_begun (J ++ e ∷ []) x.member ≡ true
    numbered false i = absurd cc
    numbered true i =
        let a : Asked = record { number = k; member = q; kind = kind; direction = ask_direction J q kind } in
        let same : a ≡ x = cc in
        let way = ap (λ (z : Asked). same_direction z.direction direction.Completion) same ∙ g in
        ap (λ (z : Asked). was_begun (J ++ e ∷ []) z.member) (sym same) ∙ by_kind kind refl timely way
asked_now v t J by m _ allow n x h g = absurd cc

abbrev AskedBegun : History → Type 0
AskedBegun J = (n : ℕ) (x : Asked) → ask_of J n ≡ Some x → ToCompletion x → was_begun J x.member ≡ true

-- a member that is asked in completion was asked to complete or to compensate
asked_begun : (v : Version) (t : List ℕ → Bool) (J : History) → is_legal v t J ≡ true → AskedBegun J
unfolding ask_of steps
asked_begun v t = legal_induction v t AskedBegun (λ n x h g. absurd cc) push
  where
    push : (J : History) (e : Entry) → is_legal v t J ≡ true → Allowed v t J e → AskedBegun J → AskedBegun (J ++ e ∷ [])
    push J e l k ih n x h g = either (ask_of J n) refl (sym (ask_of_push J e n) ∙ h)
      where
        either : (o : Option Asked) → ask_of J n ≡ o → option_or o (option_map_or
            (λ (a : Asked). when (a.number == n) a) (asked_at (step J e)) None) ≡ Some x
            → was_begun (J ++ e ∷ []) x.member ≡ true
        either (Some y) i j = begun_push J e x.member (ih n x (i ∙ j) g)
        either None i j = asked_now v t J e.by e.moment e.deed k n x j g

abbrev RepliedBegun : History → Type 0
RepliedBegun J = (p : ℕ) → is_some (last_reply J p direction.Completion) ≡ true → was_begun J p ≡ true

-- a member that has replied in completion was asked to complete or to compensate
replied_begun : (v : Version) (t : List ℕ → Bool) (J : History) → is_legal v t J ≡ true → RepliedBegun J
unfolding last_reply replies steps
replied_begun v t = legal_induction v t RepliedBegun (λ p h. absurd cc) push
  where
    new : (J : History) → AskedBegun J → (by m : ℕ) (d : Deed) (p : ℕ)
        → is_some (option_map_or (λ (r : Replied). when ((r.to.member == p)
        && same_direction r.to.direction direction.Completion) r.outcome)
        (replied_at (step J (record { by = by; moment = m; deed = d }))) None) ≡ true → was_begun J p ≡ true
    new J begun by m (Reply n o) p h = by_ask (ask_of J n) refl h
      where
        by_ask : (x : Option Asked) → ask_of J n ≡ x
            → is_some (option_map_or (λ (r : Replied). when
            ((r.to.member == p) && same_direction r.to.direction direction.Completion) r.outcome)
            (option_map (λ (a : Asked). let r : Replied = record { to = a; outcome = o; moment = m } in r) x) None)
            ≡ true → was_begun J p ≡ true
        by_ask None g i = absurd cc
        by_ask (Some a) g i = by_member (a.member == p) refl (same_direction a.direction direction.Completion) refl i
          where
            by_member : (b : Bool) → (a.member == p) ≡ b → (c : Bool) → same_direction a.direction direction.Completion
                ≡ c → is_some (when (b && c) o) ≡ true → was_begun J p ≡ true
            by_member true j true k w = ap (was_begun J) (sym (eqb-true a.member p j)) ∙ begun n a g k
            by_member true j false k w = absurd cc
            by_member false j c k w = absurd cc
    new J begun by m _ p h = absurd cc

    push : (J : History) (e : Entry) → is_legal v t J ≡ true → Allowed v t J e → RepliedBegun J
        → RepliedBegun (J ++ e ∷ [])
    push J e l k ih p h =
        begun_push J e p (either
        (option_map_or (λ (r : Replied). when ((r.to.member == p) && same_direction r.to.direction direction.Completion)
        r.outcome) (replied_at (step J e)) None) refl
        (sym (ap (λ (o : Option Outcome). is_some o) (last_reply_push J e p direction.Completion)) ∙ h))
      where
        either : (o : Option Outcome) → option_map_or (λ (r : Replied). when
            ((r.to.member == p) && same_direction r.to.direction direction.Completion) r.outcome)
            (replied_at (step J e)) None ≡ o → is_some (option_or o (last_reply J p direction.Completion)) ≡ true
            → was_begun J p ≡ true
        either None i j = ih p j
        either (Some x) i j = new J (asked_begun v t J l) e.by e.moment e.deed p
            (ap (λ (o : Option Outcome). is_some o) i)

-- a member that was asked nothing has accepted nothing
untouched_not_accepted : (v : Version) (t : List ℕ → Bool) (J : History) → is_legal v t J ≡ true → (p : ℕ)
    → is_untouched (member_status J p) ≡ true → was_accepted (last_reply J p direction.Completion) ≡ false
untouched_not_accepted v t J l p h = either (last_reply J p direction.Completion) refl
  where
    either : (o : Option Outcome) → last_reply J p direction.Completion ≡ o → was_accepted o ≡ false
    either None g = refl
    either (Some x) g =
        let begun = replied_begun v t J l p (ap (λ (o : Option Outcome). is_some o) g) in
        let z : true ≡ false = sym begun ∙ untouched_not_begun J p h in
        absurd cc

-- ---- what is wanted

-- an ask that a member may be sent now: it has the address, and it is time
abbrev IsTimely : Facts → MemberFacts → AskKind → Type 0
IsTimely f p kind = (has_address kind p.addresses ≡ true) × (is_time_for kind f p ≡ true)

some_when : {X : Type 0} (b : Bool) (x y : X) → when b x ≡ Some y → (b ≡ true) × (x ≡ y)
some_when true x y h = (refl, cc)
some_when false x y h = absurd cc

timely_notice : (f : Facts) (p : MemberFacts) (z kind : AskKind) → wants_notice z f p ≡ Some kind → IsTimely f p kind
timely_notice f p z kind h =
    let k = some_when (is_time_for z f p && has_address z p.addresses) z kind h in
    let b = both (is_time_for z f p) (has_address z p.addresses) k.0 in (
      ap (λ (y : AskKind). has_address y p.addresses) (sym k.1) ∙ b.1,
      ap (λ (y : AskKind). is_time_for y f p) (sym k.1)
          ∙ b.0,
    )

timely_completion : (f : Facts) (p : MemberFacts) (kind : AskKind) → (is_untouched p.status ≡ true
    → was_accepted p.completion ≡ false) → wants_completion f p ≡ Some kind → IsTimely f p kind
timely_completion f p kind fresh h = by_status (was_accepted p.completion) refl (has_address ask.Status p.addresses)
    refl k.1
  where
    k : ((is_time_for ask.Complete f p && has_address ask.Complete p.addresses) ≡ true)
        × (cond (was_accepted p.completion && has_address ask.Status p.addresses) ask.Status ask.Complete ≡ kind)
    k = some_when (is_time_for ask.Complete f p && has_address ask.Complete p.addresses)
        (cond (was_accepted p.completion && has_address ask.Status p.addresses) ask.Status ask.Complete) kind h

    b : (is_time_for ask.Complete f p ≡ true) × (has_address ask.Complete p.addresses ≡ true)
    b = both (is_time_for ask.Complete f p) (has_address ask.Complete p.addresses) k.0

    begun : (u c : Bool) → is_untouched p.status ≡ u → was_accepted p.completion ≡ true → (u || c) ≡ true → c ≡ true
    begun true c i j g = let z : true ≡ false = sym j ∙ fresh i in absurd cc
    begun false c i j g = g

    plain : ask.Complete ≡ kind → IsTimely f p kind
    plain i = (
      ap (λ (y : AskKind). has_address y p.addresses) (sym i)
          ∙ b.1,
      ap (λ (y : AskKind). is_time_for y f p) (sym i) ∙ b.0,
    )

    by_status : (x : Bool) → was_accepted p.completion ≡ x → (y : Bool) → has_address ask.Status p.addresses ≡ y
        → cond (x && y) ask.Status ask.Complete ≡ kind → IsTimely f p kind
    by_status true g true i j =
        let going = begun (is_untouched p.status) (is_completing p.status) refl g
        (both (state_is_closing) (is_untouched p.status || is_completing p.status) b.0).1 in (
          ap (λ (y : AskKind). has_address y p.addresses) (sym j) ∙ i,
          ap (λ (y : AskKind). is_time_for y f p) (sym j) ∙ or_left (is_completing p.status
              && was_accepted p.completion) (is_compensating p.status && was_accepted p.compensation)
              (and_intro (is_completing p.status) (was_accepted p.completion) going g),
        )
      where
        state_is_closing : Bool
        state_is_closing = status_is is_closing f p.action
    by_status true g false i j = plain j
    by_status false g y i j = plain j

timely_compensation : (f : Facts) (p : MemberFacts) (kind : AskKind) → wants_compensation f p ≡ Some kind
    → IsTimely f p kind
timely_compensation f p kind h = by_status (is_compensating p.status && was_accepted p.compensation) refl
    (has_address ask.Status p.addresses) refl k.1
  where
    k : ((is_time_for ask.Compensate f p && has_address ask.Compensate p.addresses) ≡ true)
        × (cond (is_compensating p.status && was_accepted p.compensation && has_address ask.Status p.addresses)
        ask.Status ask.Compensate ≡ kind)
    k = some_when (is_time_for ask.Compensate f p && has_address ask.Compensate p.addresses)
        (cond (is_compensating p.status && was_accepted p.compensation && has_address ask.Status p.addresses) ask.Status
        ask.Compensate) kind h

    b : (is_time_for ask.Compensate f p ≡ true) × (has_address ask.Compensate p.addresses ≡ true)
    b = both (is_time_for ask.Compensate f p) (has_address ask.Compensate p.addresses) k.0

    plain : ask.Compensate ≡ kind → IsTimely f p kind
    plain i = (
      ap (λ (y : AskKind). has_address y p.addresses) (sym i)
          ∙ b.1,
      ap (λ (y : AskKind). is_time_for y f p) (sym i) ∙ b.0,
    )

    by_status : (x : Bool) → (is_compensating p.status && was_accepted p.compensation) ≡ x → (y : Bool)
        → has_address ask.Status p.addresses ≡ y → cond (x && y) ask.Status ask.Compensate ≡ kind → IsTimely f p kind
    by_status true g true i j = (
      ap (λ (y : AskKind). has_address y p.addresses) (sym j) ∙ i,
      ap (λ (y : AskKind). is_time_for y f p) (sym j) ∙ ap (λ (y : Bool).
          (is_completing p.status && was_accepted p.completion) || y) g
          ∙ or-true (is_completing p.status && was_accepted p.completion),
    )
    by_status true g false i j = plain j
    by_status false g y i j = plain j

-- what is wanted is timely, of a member that no ask waits for and that hasn't left
record IsWanted (f : Facts) (p : MemberFacts) (kind : AskKind) : Type 0 where
  free : p.is_asked ≡ false
  here : has_gone p.status ≡ false
  timely : IsTimely f p kind

wanted_timely : (f : Facts) (p : MemberFacts) (kind : AskKind) → (is_untouched p.status ≡ true
    → was_accepted p.completion ≡ false) → wanted f p ≡ Some kind → IsWanted f p kind
wanted_timely f p kind fresh h = by_tests p.is_asked refl (has_gone p.status) refl h
  where
    rest : Option AskKind
    rest = option_or (wants_completion f p) (option_or (wants_compensation f p)
        (option_or (wants_notice ask.Forget f p) (wants_notice ask.After f p)))

    first_of_all : (a b c d : Option AskKind) → (a ≡ Some kind → IsTimely f p kind)
        → (b ≡ Some kind → IsTimely f p kind) → (c ≡ Some kind → IsTimely f p kind)
        → (d ≡ Some kind → IsTimely f p kind)
        → option_or a (option_or b (option_or c d)) ≡ Some kind → IsTimely f p kind
    first_of_all (Some x) b c d i j k l h = i h
    first_of_all None (Some x) c d i j k l h = j h
    first_of_all None None (Some x) d i j k l h = k h
    first_of_all None None None d i j k l h = l h

    timely : rest ≡ Some kind → IsTimely f p kind
    timely =
        first_of_all (wants_completion f p) (wants_compensation f p) (wants_notice ask.Forget f p)
        (wants_notice ask.After f p) (timely_completion f p kind fresh) (timely_compensation f p kind)
        (timely_notice f p ask.Forget kind) (timely_notice f p ask.After kind)

    by_tests : (x : Bool) → p.is_asked ≡ x → (y : Bool) → has_gone p.status ≡ y → cond (x || y) None rest ≡ Some kind
        → IsWanted f p kind
    by_tests false i false j g = record { free = i; here = j; timely = timely g }
    by_tests true i y j g = absurd cc
    by_tests false i true j g = absurd cc

-- what a member may be asked now, and that it is there and hasn't left
pub record MayBeAsked (J : History) (p : ℕ) (kind : AskKind) : Type 0 where
  pub there : is_among (members J) p ≡ true
  pub is_member : is_member (facts_of J) p ≡ true
  pub is_here : is_here (facts_of J) p ≡ true
  pub may : at_member (may_ask kind (facts_of J)) (facts_of J) p ≡ true

-- what a member of a legal history wants to be asked, it may be asked
pub wants_may : (v : Version) (t : List ℕ → Bool) (J : History) → is_legal v t J ≡ true → (p : ℕ) (kind : AskKind)
    → wants J p ≡ Some kind → MayBeAsked J p kind
unfolding wants facts_of
wants_may v t J l p kind h = decide (is_among (members J) p) refl h
  where
    facts : MemberFacts
    facts = member_facts J p

    decide : (b : Bool) → is_among (members J) p ≡ b → option_map_or (wanted (facts_of J)) (cond b (Some facts) None)
        None ≡ Some kind → MayBeAsked J p kind
    decide false g i = absurd cc
    decide true g i =
        let w = wanted_timely (facts_of J) facts kind (untouched_not_accepted v t J l p) i in
        record {
          there = g;
          is_member = at_member_from (λ (x : MemberFacts). true) J p g refl;
          is_here = at_member_from (λ (x : MemberFacts). not (has_gone x.status)) J p g (ap not w.here);
          may =
              at_member_from (may_ask kind (facts_of J)) J p g
              (and_intro (not facts.is_asked && has_address kind facts.addresses) (is_time_for kind (facts_of J) facts)
              (and_intro (not facts.is_asked) (has_address kind facts.addresses) (ap not w.free) w.timely.0)
              w.timely.1);
        }
