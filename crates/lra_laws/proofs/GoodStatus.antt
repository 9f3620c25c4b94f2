-- A member that completed, compensated or failed stays so under every entry but its Leave and a compensate ask of it.
use Rattle.std.proofs.Common.{◌≡◌, ℕ, Bool, true, false, [], ◌∷◌, ◌++◌, Option, Some, None, refl, sym, ap, ◌∙◌, cond}
use Rattle.std.proofs.Common.{eqb-true, eq-eqb}
use Rattle.std.specs.Prelude.{◌==◌, ◌&&◌, ◌||◌, option_map}
use Rattle.std.specs.Option.{option_or, option_map_or}
use Rattle.std.proofs.Math.Bool.{or-false, or-true}
use Rattle.lra_model.specs.declared.status.MemberStatus.{MemberStatus}
use Rattle.lra_model.specs.declared.status.MemberStatus.TheVariants as member
use Rattle.lra_model.specs.declared.asks.AskKind.{AskKind}
use Rattle.lra_model.specs.declared.asks.AskKind.TheVariants as ask
use Rattle.lra_model.specs.declared.asks.Direction.{Direction}
use Rattle.lra_model.specs.declared.asks.Direction.TheVariants as direction
use Rattle.lra_model.specs.declared.asks.Outcome.{Outcome}
use Rattle.lra_model.specs.declared.asks.Outcome.TheVariants as outcome
use Rattle.lra_model.specs.declared.entry.Deed.{Deed}
use Rattle.lra_model.specs.declared.entry.Deed.TheVariants.{Skip, Ask, Reply, Report}
use Rattle.lra_model.specs.declared.entry.Entry.{Entry}
use Rattle.lra_model.specs.Words.{when, is_decisive, same_kind, same_direction}
use Rattle.lra_model.specs.History.{History, steps}
use Rattle.lra_model.specs.Members.{has_left, is_leave_of, is_ask_for, was_asked, status_direction, ask_direction}
use Rattle.lra_model.specs.Members.{Asked, asked_at, ask_of, Heard, heard_at, decides, decided, by_decision}
use Rattle.lra_model.specs.Members.{member_status}
use Rattle.lra_laws.proofs.Push.{step, has_left_push, was_asked_push, ask_of_push, decided_push}
use Rattle.lra_laws.proofs.Legal.{snoc_induction}

-- ---- an ask in compensation is of a member that was asked to compensate

abbrev ToCompensated : History → Type 0
ToCompensated J = (n : ℕ) (x : Asked) → ask_of J n ≡ Some x → same_direction x.direction direction.Compensation ≡ true
    → was_asked J x.member ask.Compensate ≡ true

-- an ask that is made now
asked_now : (J : History) (by m : ℕ) (d : Deed) (n : ℕ) (x : Asked) → option_map_or
    (λ (a : Asked). when (a.number == n) a) (asked_at (step J (record { by = by; moment = m; deed = d }))) None ≡ Some x
    → same_direction x.direction direction.Compensation ≡ true → (was_asked J x.member ask.Compensate
    || is_ask_for x.member ask.Compensate d) ≡ true
asked_now J by m (Ask k q kind) n x h g = numbered (k == n) h
  where
    by_kind : (kind : AskKind) → same_direction (ask_direction J q kind) direction.Compensation ≡ true
        → (was_asked J q ask.Compensate || ((q == q) && same_kind kind ask.Compensate)) ≡ true
    by_kind ask.Compensate i = ap (λ (b : Bool). was_asked J q ask.Compensate || (b && true)) (eq-eqb q q refl)
        ∙ or-true (was_asked J q ask.Compensate)
    by_kind ask.Status i = by_word (was_asked J q ask.Compensate) i
      where
        by_word : (b : Bool) → same_direction (cond b direction.Compensation direction.Completion)
            direction.Compensation ≡ true → (b || ((q == q) && false)) ≡ true
        by_word true j = refl
        by_word false j = absurd cc
    by_kind ask.Complete i = absurd cc
    by_kind ask.Forget i = absurd cc
    by_kind ask.After i = absurd cc

    numbered : (b : Bool) → when b
        (let a : Asked = record { number = k; member = q; kind = kind; direction = ask_direction J q kind } in a)
        ≡ Some x → (was_asked J x.member ask.Compensate || is_ask_for x.member ask.Compensate (Ask k q kind)) ≡ true
    numbered false i = absurd cc
    numbered true i =
        let a : Asked = record { number = k; member = q; kind = kind; direction = ask_direction J q kind } in
        let e : a ≡ x = cc in
        let way = ap (λ (z : Asked). same_direction z.direction direction.Compensation) e ∙ g in
        ap (λ (z : Asked). was_asked J z.member ask.Compensate || is_ask_for z.member ask.Compensate (Ask k q kind))
        (sym e) ∙ by_kind kind way
asked_now J by m _ n x h g = absurd cc

to_compensated_push : (J : History) (e : Entry) → ToCompensated J → ToCompensated (J ++ e ∷ [])
to_compensated_push J e ih n x h g = was_asked_push J e x.member ask.Compensate
    ∙ either (ask_of J n) refl (sym (ask_of_push J e n) ∙ h)
  where
    either : (o : Option Asked) → ask_of J n ≡ o → option_or o (option_map_or (λ (a : Asked). when (a.number == n) a)
        (asked_at (step J e)) None) ≡ Some x → (was_asked J x.member ask.Compensate
        || is_ask_for x.member ask.Compensate e.deed) ≡ true
    either (Some y) i j = ap (λ (b : Bool). b || is_ask_for x.member ask.Compensate e.deed) (ih n x (i ∙ j) g)
    either None i j = asked_now J e.by e.moment e.deed n x j g

to_compensated : (J : History) → ToCompensated J
unfolding ask_of steps
to_compensated = snoc_induction ToCompensated (λ n x h g. absurd cc) to_compensated_push

-- ---- what is heard of a member that was never asked to compensate is of its completion

not_heard : (J : History) (by m : ℕ) (d : Deed) (p : ℕ) → was_asked J p ask.Compensate ≡ false
    → option_map_or (λ (h : Heard). when (decides p direction.Compensation h) h.outcome)
    (heard_at (step J (record { by = by; moment = m; deed = d }))) None ≡ None
not_heard J by m (Reply n o) p h = by_ask (ask_of J n) refl
  where
    by_ask : (x : Option Asked) → ask_of J n ≡ x
        → option_map_or (λ (h : Heard). when (decides p direction.Compensation h) h.outcome)
        (option_map (λ (a : Asked). let r : Heard =
        record { member = a.member; direction = a.direction; outcome = o } in r) x) None ≡ None
    by_ask None g = refl
    by_ask (Some a) g = by_member (a.member == p) refl (same_direction a.direction direction.Compensation) refl
      where
        by_member : (b : Bool) → (a.member == p) ≡ b → (c : Bool) → same_direction a.direction direction.Compensation
            ≡ c → when (b && c && is_decisive o) o ≡ None
        by_member false i c j = refl
        by_member true i false j = refl
        by_member true i true j =
            let w = ap (λ (q : ℕ). was_asked J q ask.Compensate) (sym (eqb-true a.member p i))
            ∙ to_compensated J n a g j in
            let z : true ≡ false = sym w ∙ h in
            absurd cc
not_heard J by m (Report q o) p h = by_member (q == p) refl
  where
    by_member : (b : Bool) → (q == p) ≡ b → when (b && same_direction (status_direction J q) direction.Compensation
        && is_decisive o) o ≡ None
    by_member false i = refl
    by_member true i =
        let w = ap (λ (n : ℕ). was_asked J n ask.Compensate) (eqb-true q p i) ∙ h in
        ap (λ (b : Bool). when (same_direction (cond b direction.Compensation direction.Completion)
        direction.Compensation && is_decisive o) o) w
not_heard J by m (Skip q) p h = by_member (q == p)
  where
    by_member : (b : Bool) → when (b && false && true) outcome.Done ≡ None
    by_member true = refl
    by_member false = refl
not_heard J by m _ p h = refl

-- ---- the status of a member

-- a status that stays: completed, compensated or failed
abbrev pub is_decided : MemberStatus → Bool
is_decided member.Completed = true
is_decided member.FailedToComplete = true
is_decided member.Compensated = true
is_decided member.FailedToCompensate = true
is_decided _ = false

-- the status of a member, by the words that it is read from
abbrev pub status_by : Bool → Option Outcome → Bool → Option Outcome → Bool → MemberStatus
status_by left compensation asked completion begun =
    cond left member.Left
    (by_decision compensation member.Compensated member.FailedToCompensate
    (cond asked member.Compensating
    (by_decision completion member.Completed member.FailedToComplete
    (cond begun member.Completing member.Active))))

-- where completion alone decided, what is heard later of compensation, once nothing is, changes nothing
by_completion : (c : Option Outcome) (c' : Option Outcome) (q q' : Bool)
    → is_decided (by_decision c member.Completed member.FailedToComplete (cond q member.Completing member.Active))
    ≡ true
    → by_decision (option_or c c') member.Completed member.FailedToComplete (cond q' member.Completing member.Active)
    ≡ by_decision c member.Completed member.FailedToComplete (cond q member.Completing member.Active)
by_completion (Some outcome.Done) c' q q' h = refl
by_completion (Some outcome.Failed) c' q q' h = refl
by_completion (Some outcome.Accepted) c' true q' h = absurd cc
by_completion (Some outcome.Accepted) c' false q' h = absurd cc
by_completion (Some outcome.Silent) c' true q' h = absurd cc
by_completion (Some outcome.Silent) c' false q' h = absurd cc
by_completion None c' true q' h = absurd cc
by_completion None c' false q' h = absurd cc

status_kept : (l : Bool) (d d' : Option Outcome) (a : Bool) (c c' : Option Outcome) (q q' : Bool)
    → is_decided (status_by l d a c q) ≡ true → (a ≡ false → d' ≡ None)
    → status_by l (option_or d d') a (option_or c c') q' ≡ status_by l d a c q
status_kept true d d' a c c' q q' h g = absurd cc
status_kept false (Some outcome.Done) d' a c c' q q' h g = refl
status_kept false (Some outcome.Failed) d' a c c' q q' h g = refl
status_kept false (Some outcome.Accepted) d' true c c' q q' h g = absurd cc
status_kept false (Some outcome.Accepted) d' false c c' q q' h g = by_completion c c' q q' h
status_kept false (Some outcome.Silent) d' true c c' q q' h g = absurd cc
status_kept false (Some outcome.Silent) d' false c c' q q' h g = by_completion c c' q q' h
status_kept false None d' true c c' q q' h g = absurd cc
status_kept false None d' false c c' q q' h g = ap (λ (o : Option Outcome). status_by false o false (option_or c c') q')
    (g refl) ∙ by_completion c c' q q' h

-- a status that is decided stays, where the member doesn't leave and isn't asked to compensate
pub member_status_kept : (J : History) (e : Entry) (p : ℕ) → is_decided (member_status J p) ≡ true
    → is_leave_of p e.deed ≡ false → is_ask_for p ask.Compensate e.deed ≡ false → member_status (J ++ e ∷ []) p
    ≡ member_status J p
unfolding member_status
member_status_kept J e p h no_leave no_ask =
    ap (λ (b : Bool). status_by b (decided K p direction.Compensation) (was_asked K p ask.Compensate)
    (decided K p direction.Completion) (was_asked K p ask.Complete))
    (has_left_push J e p ∙ ap (λ (b : Bool). has_left J p || b) no_leave ∙ or-false (has_left J p))
    ∙ ap (λ (b : Bool). status_by (has_left J p) (decided K p direction.Compensation) b
    (decided K p direction.Completion) (was_asked K p ask.Complete))
    (was_asked_push J e p ask.Compensate ∙ ap (λ (b : Bool). was_asked J p ask.Compensate || b) no_ask
    ∙ or-false (was_asked J p ask.Compensate))
    ∙ ap (λ (o : Option Outcome). status_by (has_left J p) o (was_asked J p ask.Compensate)
    (decided K p direction.Completion) (was_asked K p ask.Complete)) (decided_push J e p direction.Compensation)
    ∙ ap (λ (o : Option Outcome). status_by (has_left J p) (option_or (decided J p direction.Compensation)
    (new direction.Compensation)) (was_asked J p ask.Compensate) o (was_asked K p ask.Complete))
    (decided_push J e p direction.Completion)
    ∙ status_kept (has_left J p) (decided J p direction.Compensation) (new direction.Compensation)
    (was_asked J p ask.Compensate) (decided J p direction.Completion) (new direction.Completion)
    (was_asked J p ask.Complete) (was_asked K p ask.Complete) h
    (not_heard J e.by e.moment e.deed p)
  where
    K : History
    K = J ++ e ∷ []

    new : Direction → Option Outcome
    new d = option_map_or (λ (h : Heard). when (decides p d h) h.outcome) (heard_at (step J e)) None

-- a member that is completed was never asked to compensate
pub completed_never_asked : (J : History) (p : ℕ) → member_status J p ≡ member.Completed → was_asked J p ask.Compensate
    ≡ false
unfolding member_status
completed_never_asked J p h = by_words (has_left J p) (decided J p direction.Compensation)
    (was_asked J p ask.Compensate) (decided J p direction.Completion) (was_asked J p ask.Complete) h
  where
    by_words : (l : Bool) (d : Option Outcome) (a : Bool) (c : Option Outcome) (q : Bool) → status_by l d a c q
        ≡ member.Completed → a ≡ false
    by_words l d false c q g = refl
    by_words true d true c q g = absurd cc
    by_words false (Some outcome.Done) true c q g = absurd cc
    by_words false (Some outcome.Failed) true c q g = absurd cc
    by_words false (Some outcome.Accepted) true c q g = absurd cc
    by_words false (Some outcome.Silent) true c q g = absurd cc
    by_words false None true c q g = absurd cc
