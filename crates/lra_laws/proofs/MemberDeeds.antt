-- The row of a member after an entry that concerns it.
use Rattle.std.proofs.Common.{◌≡◌, ℕ, Bool, true, false, Option, Some, None, refl, sym, ap, ◌∙◌, cond}
use Rattle.std.proofs.Math.Bool.{or-false, or-true}
use Rattle.std.specs.Prelude.{◌==◌, ◌&&◌, ◌||◌, option_map}
use Rattle.std.specs.Option.{option_map_or, option_or, option_and_then}
use Rattle.lra_model.specs.declared.status.MemberStatus.{MemberStatus}
use Rattle.lra_model.specs.declared.status.MemberStatus.TheVariants as member
use Rattle.lra_model.specs.declared.asks.AskKind.{AskKind}
use Rattle.lra_model.specs.declared.asks.AskKind.TheVariants as ask
use Rattle.lra_model.specs.declared.asks.Direction.{Direction}
use Rattle.lra_model.specs.declared.asks.Direction.TheVariants as direction
use Rattle.lra_model.specs.declared.asks.Outcome.{Outcome}
use Rattle.lra_model.specs.declared.asks.Outcome.TheVariants as outcome
use Rattle.lra_model.specs.declared.entry.Deed.{Deed}
use Rattle.lra_model.specs.declared.entry.Deed.TheVariants.{Leave, Skip, Ask, Reply, Report}
use Rattle.lra_model.specs.Addresses.{presence_of}
use Rattle.lra_model.specs.Words.{when, same_kind, same_direction, is_untouched, is_completing, is_compensating}
use Rattle.lra_model.specs.Words.{is_done, is_decisive}
use Rattle.lra_model.specs.History.{History}
use Rattle.lra_model.specs.Members.{action_given, addresses_given, is_leave_of, has_left, is_ask_for, was_asked}
use Rattle.lra_model.specs.Members.{status_direction, ask_direction, Asked, ask_of, replied_at, Heard, heard_at}
use Rattle.lra_model.specs.Members.{decides, decided, member_status, last_reply}
use Rattle.lra_laws.proofs.GoodStatus.{status_by}
use Rattle.lra_laws.proofs.Push.{step, has_left_push, was_asked_push, decided_push}
use Rattle.lra_laws.proofs.Rests.{decided_is_decisive}
use Rattle.lra_laws.specs.Rows.{Standing, MemberRow, standing_at, standing, member_row, decided_as, way_of, way_asked}
use Rattle.lra_laws.specs.Rows.{asked_as, with_ask, word_of, decided_by, with_reply, with_reply_to, with_report}
use Rattle.lra_laws.specs.Rows.{with_skip}
use Rattle.lra_laws.proofs.RowLists.{eqb_self}
use Rattle.lra_laws.proofs.Told.{entry, more, ask_fits}
use Rattle.lra_laws.proofs.MemberWords.{status_is, action_kept, addresses_kept, left_quiet, asked_quiet, decided_quiet}
use Rattle.lra_laws.proofs.MemberWords.{reply_after, answer_after, answer_kept, stand_after, heard_of, replied_of}
use Rattle.lra_laws.proofs.MemberWords.{answered_of}
use Rattle.lra_laws.proofs.StatusCases.{asked_to_complete, asked_to_compensate, skipped, goes_on, decided_anew}

-- a member's status after an entry, by what it depends on
pub status_after : (J : History) (by m : ℕ) (d : Deed) (p : ℕ) (l gc gd : Bool) (c e : Option Outcome)
    → has_left (more J by m d) p ≡ l → decided (more J by m d) p direction.Compensation ≡ c
    → was_asked (more J by m d) p ask.Compensate ≡ gc
    → decided (more J by m d) p direction.Completion ≡ e → was_asked (more J by m d) p ask.Complete ≡ gd
    → member_status (more J by m d) p ≡ status_by l c gc e gd
status_after J by m d p l gc gd c e hl hc hgc he hgd = status_is (more J by m d) p
    ∙ (λ i. status_by (hl i) (hc i) (hgc i) (he i) (hgd i))

pub decided_after : (J : History) (by m : ℕ) (d : Deed) (p : ℕ) (way : Direction) (o : Option Outcome)
    → heard_of p way (heard_at (step J (entry by m d))) ≡ o → decided (more J by m d) p way
    ≡ option_or (decided J p way) o
decided_after J by m d p way o h = decided_push J (entry by m d) p way ∙ ap (option_or (decided J p way)) h

-- what the entry says of the member itself
heard_self : (p : ℕ) (way : Direction) (x : Heard) → (x.member == p) ≡ true → when (decides p way x) x.outcome
    ≡ word_of x.direction way x.outcome
heard_self p way x h = ap (λ (b : Bool). when (b && same_direction x.direction way && is_decisive x.outcome) x.outcome)
    h

-- what has decided a direction, after one more outcome
word_decides : (J : History) (by m : ℕ) (d : Deed) (p : ℕ) (to way : Direction) (o : Outcome)
    → heard_of p to (heard_at (step J (entry by m d))) ≡ word_of way to o
    → decided (more J by m d) p to ≡ decided_by to way o (decided J p to)
word_decides J by m d p to way o = decided_after J by m d p to (word_of way to o)

-- ---- a status and decisions that change alone

state_row : (J : History) (by m : ℕ) (d : Deed) (p : ℕ) (s : MemberStatus) (b c : Option Outcome) → action_given p d
    ≡ None → addresses_given p d ≡ None → replied_at (step J (entry by m d)) ≡ None
    → standing_at p (step J (entry by m d)) ≡ None
    → member_status (more J by m d) p ≡ s → decided (more J by m d) p direction.Completion ≡ b
    → decided (more J by m d) p direction.Compensation ≡ c
    → member_row (more J by m d) p ≡ record (member_row J p) { status = s; completed_as = b; compensated_as = c }
state_row J by m d p s b c a u r x h k g = λ i. record {
  action = action_kept J by m d p a i;
  addresses = presence_of (addresses_kept J by m d p u i);
  status = h i;
  completion = reply_after J by m d p direction.Completion None (ap (replied_of p direction.Completion) r) i;
  compensation = reply_after J by m d p direction.Compensation None (ap (replied_of p direction.Compensation) r) i;
  completed_as = k i;
  compensated_as = g i;
  asked = stand_after J by m d p None x i;
  has_forgotten = answer_kept J by m d p ask.Forget (ap (answered_of p ask.Forget) r) i;
  was_told = answer_kept J by m d p ask.After (ap (answered_of p ask.After) r) i;
}

pub leave_row : (J : History) (by m p : ℕ) → member_row (more J by m (Leave p)) p
    ≡ record (member_row J p) { status = member.Left }
leave_row J by m p = state_row J by m (Leave p) p member.Left (decided J p direction.Completion)
    (decided J p direction.Compensation) refl refl refl refl
    (status_is (more J by m (Leave p)) p ∙ ap (λ (b : Bool). status_by b
    (decided (more J by m (Leave p)) p direction.Compensation) (was_asked (more J by m (Leave p)) p ask.Compensate)
    (decided (more J by m (Leave p)) p direction.Completion) (was_asked (more J by m (Leave p)) p ask.Complete)) l)
    (decided_quiet J by m (Leave p) p direction.Completion refl)
    (decided_quiet J by m (Leave p) p direction.Compensation refl)
  where
    l : has_left (more J by m (Leave p)) p ≡ true
    l = has_left_push J (entry by m (Leave p)) p ∙ ap (λ (b : Bool). has_left J p || b) (eqb_self p)
        ∙ or-true (has_left J p)

pub skip_row : (J : History) (by m p : ℕ) → is_untouched (member_status J p) ≡ true
    → member_row (more J by m (Skip p)) p ≡ with_skip (member_row J p)
skip_row J by m p h = state_row J by m (Skip p) p member.Completed (option_or (decided J p direction.Completion)
    (Some outcome.Done)) (decided J p direction.Compensation) refl refl refl refl
    (status_after J by m (Skip p) p (has_left J p) (was_asked J p ask.Compensate) (was_asked J p ask.Complete)
    (decided J p direction.Compensation) (option_or (decided J p direction.Completion) (Some outcome.Done))
    (left_quiet J by m (Skip p) p refl)
    not_compensated
    (asked_quiet J by m (Skip p) p ask.Compensate refl)
    (decided_after J by m (Skip p) p direction.Completion (Some outcome.Done) done)
    (asked_quiet J by m (Skip p) p ask.Complete refl)
    ∙ skipped (has_left J p) (decided J p direction.Compensation) (was_asked J p ask.Compensate)
    (decided J p direction.Completion) (was_asked J p ask.Complete) (ap is_untouched (sym (status_is J p)) ∙ h)
    (decided_is_decisive J p direction.Completion))
    (decided_after J by m (Skip p) p direction.Completion (Some outcome.Done) done)
    not_compensated
  where
    done : heard_of p direction.Completion (heard_at (step J (entry by m (Skip p)))) ≡ Some outcome.Done
    done = heard_self p direction.Completion
        (record { member = p; direction = direction.Completion; outcome = outcome.Done }) (eqb_self p)

    not_compensated : decided (more J by m (Skip p)) p direction.Compensation ≡ decided J p direction.Compensation
    not_compensated = decided_quiet J by m (Skip p) p direction.Compensation
        (heard_self p direction.Compensation
        (record { member = p; direction = direction.Completion; outcome = outcome.Done }) (eqb_self p))

-- what a member's asks say of the way of a word
abbrev pub Went : History → ℕ → Direction → Type 0
Went J p way = (same_direction way direction.Completion ≡ true → was_asked J p ask.Complete ≡ true)
    × (same_direction way direction.Compensation ≡ true → was_asked J p ask.Compensate ≡ true)

-- a word that goes the way of an ask that was made
word_status : (J : History) (by m : ℕ) (d : Deed) (p : ℕ) (way : Direction) (o : Outcome) → Went J p way
    → is_leave_of p d ≡ false → is_ask_for p ask.Compensate d ≡ false → is_ask_for p ask.Complete d ≡ false
    → ((to : Direction) → heard_of p to (heard_at (step J (entry by m d))) ≡ word_of way to o)
    → member_status (more J by m d) p ≡ decided_as way o (member_status J p)
word_status J by m d p way o went l c e heard =
    status_after J by m d p (has_left J p) (was_asked J p ask.Compensate) (was_asked J p ask.Complete)
    (option_or (decided J p direction.Compensation) (word_of way direction.Compensation o))
    (option_or (decided J p direction.Completion) (word_of way direction.Completion o))
    (left_quiet J by m d p l)
    (decided_after J by m d p direction.Compensation (word_of way direction.Compensation o)
    (heard direction.Compensation))
    (asked_quiet J by m d p ask.Compensate c)
    (decided_after J by m d p direction.Completion (word_of way direction.Completion o) (heard direction.Completion))
    (asked_quiet J by m d p ask.Complete e)
    ∙ decided_anew way o (has_left J p) (decided J p direction.Compensation) (was_asked J p ask.Compensate)
    (decided J p direction.Completion) (was_asked J p ask.Complete) went.0 went.1
    (decided_is_decisive J p direction.Compensation) (decided_is_decisive J p direction.Completion)
    ∙ ap (decided_as way o) (sym (status_is J p))

-- one that goes on was asked to, in the direction in which it goes
pub goes_its_way : (J : History) (p : ℕ) → (is_completing (member_status J p) || is_compensating (member_status J p))
    ≡ true → (status_direction J p ≡ way_of (member_status J p)) × Went J p (status_direction J p)
goes_its_way J p h = (g.0 ∙ ap way_of (sym (status_is J p)), went (was_asked J p ask.Compensate) refl g.1)
  where
    g : (cond (was_asked J p ask.Compensate) direction.Compensation direction.Completion
        ≡ way_of (status_by (has_left J p) (decided J p direction.Compensation) (was_asked J p ask.Compensate)
        (decided J p direction.Completion) (was_asked J p ask.Complete)))
        × ((was_asked J p ask.Compensate ≡ false) → was_asked J p ask.Complete ≡ true)
    g = goes_on (has_left J p) (decided J p direction.Compensation) (was_asked J p ask.Compensate)
        (decided J p direction.Completion) (was_asked J p ask.Complete)
        (ap (λ (s : MemberStatus). is_completing s || is_compensating s) (sym (status_is J p)) ∙ h)

    went : (b : Bool) → was_asked J p ask.Compensate ≡ b → (was_asked J p ask.Compensate ≡ false
        → was_asked J p ask.Complete ≡ true)
        → (same_direction (cond b direction.Compensation direction.Completion) direction.Completion ≡ true
        → was_asked J p ask.Complete ≡ true) × (same_direction (cond b direction.Compensation direction.Completion)
        direction.Compensation ≡ true → was_asked J p ask.Compensate ≡ true)
    went true e k = (λ x. absurd cc, λ x. e)
    went false e k = (λ x. k e, λ x. absurd cc)

pub report_row : (J : History) (by m p : ℕ) (o : Outcome) → (is_completing (member_status J p)
    || is_compensating (member_status J p)) ≡ true → member_row (more J by m (Report p o)) p
    ≡ with_report o (member_row J p)
report_row J by m p o h =
    let g = goes_its_way J p h in
    state_row J by m (Report p o) p (decided_as (way_of (member_status J p)) o (member_status J p))
    (decided_by direction.Completion (way_of (member_status J p)) o (decided J p direction.Completion))
    (decided_by direction.Compensation (way_of (member_status J p)) o (decided J p direction.Compensation)) refl
    refl refl refl
    (word_status J by m (Report p o) p (status_direction J p) o g.1 refl refl refl heard
    ∙ ap (λ (w : Direction). decided_as w o (member_status J p)) g.0)
    (decides direction.Completion g.0)
    (decides direction.Compensation g.0)
  where
    heard : (to : Direction) → heard_of p to (heard_at (step J (entry by m (Report p o))))
        ≡ word_of (status_direction J p) to o
    heard to = heard_self p to (record { member = p; direction = status_direction J p; outcome = o }) (eqb_self p)

    decides : (to : Direction) → status_direction J p ≡ way_of (member_status J p)
        → decided (more J by m (Report p o)) p to ≡ decided_by to (way_of (member_status J p)) o (decided J p to)
    decides to same = word_decides J by m (Report p o) p to (status_direction J p) o (heard to)
        ∙ ap (λ (w : Direction). decided_by to w o (decided J p to)) same

-- ---- an ask

-- the way of an ask, by the state of its member
pub ask_way : (J : History) (p : ℕ) (kind : AskKind) → ask_fits kind (member_status J p) ≡ true → ask_direction J p kind
    ≡ way_asked kind (member_status J p)
ask_way J p ask.Complete h = refl
ask_way J p ask.Compensate h = refl
ask_way J p ask.Status h = (goes_its_way J p h).0
ask_way J p ask.Forget h = refl
ask_way J p ask.After h = refl

-- what the member was asked before it, in the direction of a status ask
pub ask_went : (J : History) (p : ℕ) (kind : AskKind) → ask_fits kind (member_status J p) ≡ true → (b c : Bool)
    → (was_asked J p ask.Complete || same_kind kind ask.Complete) ≡ b →
    (was_asked J p ask.Compensate || same_kind kind ask.Compensate) ≡ c
    → (same_direction (ask_direction J p kind) direction.Completion ≡ true → b ≡ true)
    × (same_direction (ask_direction J p kind) direction.Compensation ≡ true → c ≡ true)
ask_went J p ask.Complete h b c x y = (λ z. sym x ∙ or-true (was_asked J p ask.Complete), λ z. absurd cc)
ask_went J p ask.Compensate h b c x y = (λ z. absurd cc, λ z. sym y ∙ or-true (was_asked J p ask.Compensate))
ask_went J p ask.Status h b c x y =
    let g = goes_its_way J p h in (
      λ z. sym x ∙ or-false (was_asked J p ask.Complete) ∙ g.1.0 z,
      λ z. sym y ∙ or-false (was_asked J p ask.Compensate)
          ∙ g.1.1 z,
    )
ask_went J p ask.Forget h b c x y = (λ z. absurd cc, λ z. absurd cc)
ask_went J p ask.After h b c x y = (λ z. absurd cc, λ z. absurd cc)

-- what a member was asked, after an ask of it
pub asked_after : (J : History) (by m n p : ℕ) (kind other : AskKind) → was_asked (more J by m (Ask n p kind)) p other
    ≡ (was_asked J p other || same_kind kind other)
asked_after J by m n p kind other = was_asked_push J (entry by m (Ask n p kind)) p other
    ∙ ap (λ (b : Bool). was_asked J p other || (b && same_kind kind other)) (eqb_self p)

ask_status : (J : History) (by m n p : ℕ) (kind : AskKind) → ask_fits kind (member_status J p) ≡ true
    → member_status (more J by m (Ask n p kind)) p ≡ asked_as kind (member_status J p)
ask_status J by m n p kind h = of_kind kind h (anew kind)
  where
    anew : (kind : AskKind) → member_status (more J by m (Ask n p kind)) p
        ≡ status_by (has_left J p) (decided J p direction.Compensation)
        (was_asked J p ask.Compensate || same_kind kind ask.Compensate) (decided J p direction.Completion)
        (was_asked J p ask.Complete || same_kind kind ask.Complete)
    anew kind = status_after J by m (Ask n p kind) p (has_left J p) (was_asked J p ask.Compensate
        || same_kind kind ask.Compensate) (was_asked J p ask.Complete || same_kind kind ask.Complete)
        (decided J p direction.Compensation) (decided J p direction.Completion)
        (left_quiet J by m (Ask n p kind) p refl)
        (decided_quiet J by m (Ask n p kind) p direction.Compensation refl)
        (asked_after J by m n p kind ask.Compensate)
        (decided_quiet J by m (Ask n p kind) p direction.Completion refl)
        (asked_after J by m n p kind ask.Complete)

    by_asks : Bool → Bool → MemberStatus
    by_asks c d = status_by (has_left J p) (decided J p direction.Compensation) c (decided J p direction.Completion) d

    same : by_asks (was_asked J p ask.Compensate || false) (was_asked J p ask.Complete || false) ≡ member_status J p
    same = (λ i. by_asks (or-false (was_asked J p ask.Compensate) i) (or-false (was_asked J p ask.Complete) i))
        ∙ sym (status_is J p)

    of_kind : (kind : AskKind) → ask_fits kind (member_status J p) ≡ true → member_status (more J by m (Ask n p kind)) p
        ≡ by_asks (was_asked J p ask.Compensate || same_kind kind ask.Compensate)
        (was_asked J p ask.Complete || same_kind kind ask.Complete) → member_status (more J by m (Ask n p kind)) p
        ≡ asked_as kind (member_status J p)
    of_kind ask.Complete h e = e ∙ (λ i. by_asks (or-false (was_asked J p ask.Compensate) i)
        (or-true (was_asked J p ask.Complete) i)) ∙ asked_to_complete (has_left J p)
        (decided J p direction.Compensation) (was_asked J p ask.Compensate) (decided J p direction.Completion)
        (was_asked J p ask.Complete) (ap (ask_fits ask.Complete) (sym (status_is J p)) ∙ h)
    of_kind ask.Compensate h e = e ∙ (λ i. by_asks (or-true (was_asked J p ask.Compensate) i)
        (or-false (was_asked J p ask.Complete) i)) ∙ asked_to_compensate (has_left J p)
        (decided J p direction.Compensation) (was_asked J p ask.Compensate) (decided J p direction.Completion)
        (was_asked J p ask.Complete) (ap (ask_fits ask.Compensate) (sym (status_is J p)) ∙ h)
    of_kind ask.Status h e = e ∙ same
    of_kind ask.Forget h e = e ∙ same
    of_kind ask.After h e = e ∙ same

-- what is left unanswered after an ask
pub stand_asked : (J : History) (by m n p : ℕ) (kind : AskKind) → standing (more J by m (Ask n p kind)) p
    ≡ Some (record { number = n; kind = kind; direction = ask_direction J p kind })
stand_asked J by m n p kind = stand_after J by m (Ask n p kind) p (Some
    (Some (record { number = n; kind = kind; direction = ask_direction J p kind })))
    (ap (λ (b : Bool). cond b (Some (Some (record { number = n; kind = kind; direction = ask_direction J p kind })))
    None) (eqb_self p))

pub ask_row : (J : History) (by m n p : ℕ) (kind : AskKind) → ask_fits kind (member_status J p) ≡ true
    → member_row (more J by m (Ask n p kind)) p ≡ with_ask n kind (member_row J p)
ask_row J by m n p kind h =
    let d : Deed = Ask n p kind in
    let x : standing (more J by m d) p
    ≡ Some (record { number = n; kind = kind; direction = way_asked kind (member_status J p) }) =
    stand_asked J by m n p kind ∙ (λ i. Some (record { number = n; kind = kind; direction = ask_way J p kind h i })) in
    λ i. record {
      action = action_kept J by m d p refl i;
      addresses = presence_of (addresses_kept J by m d p refl i);
      status = ask_status J by m n p kind h i;
      completion = reply_after J by m d p direction.Completion None refl i;
      compensation = reply_after J by m d p direction.Compensation None refl i;
      completed_as = decided_quiet J by m d p direction.Completion refl i;
      compensated_as = decided_quiet J by m d p direction.Compensation refl i;
      asked = x i;
      has_forgotten = answer_kept J by m d p ask.Forget refl i;
      was_told = answer_kept J by m d p ask.After refl i;
    }

-- ---- a reply

replied_row : (way : Direction) (kind : AskKind) (n : ℕ) (o : Outcome) (r : MemberRow) (c d : Option Outcome) → c
    ≡ option_or (when (same_direction way direction.Completion) o) r.completion → d
    ≡ option_or (when (same_direction way direction.Compensation) o) r.compensation
    → record r {
      status = decided_as way o r.status;
      completion = c;
      compensation = d;
      completed_as =
          decided_by direction.Completion way o r.completed_as;
      compensated_as =
          decided_by direction.Compensation way o r.compensated_as;
      asked = None;
      has_forgotten = r.has_forgotten
          || (same_kind kind ask.Forget && is_done o);
      was_told = r.was_told || (same_kind kind ask.After && is_done o);
    }
    ≡ with_reply_to (record { number = n; kind = kind; direction = way }) o r
replied_row direction.Completion kind n o r c d h k = λ i. record r {
  status =
      decided_as direction.Completion o r.status;
  completion = h i;
  compensation = k i;
  completed_as =
      decided_by direction.Completion direction.Completion o r.completed_as;
  compensated_as =
      decided_by direction.Compensation direction.Completion o r.compensated_as;
  asked = None;
  has_forgotten =
      r.has_forgotten || (same_kind kind ask.Forget && is_done o);
  was_told = r.was_told
      || (same_kind kind ask.After && is_done o);
}
replied_row direction.Compensation kind n o r c d h k = λ i. record r {
  status =
      decided_as direction.Compensation o r.status;
  completion = h i;
  compensation = k i;
  completed_as =
      decided_by direction.Completion direction.Compensation o r.completed_as;
  compensated_as =
      decided_by direction.Compensation direction.Compensation o r.compensated_as;
  asked = None;
  has_forgotten =
      r.has_forgotten || (same_kind kind ask.Forget && is_done o);
  was_told = r.was_told
      || (same_kind kind ask.After && is_done o);
}
replied_row direction.Neither kind n o r c d h k = λ i. record r {
  status = decided_as direction.Neither o r.status;
  completion = h i;
  compensation = k i;
  completed_as = decided_by direction.Completion direction.Neither o
      r.completed_as;
  compensated_as = decided_by direction.Compensation direction.Neither o r.compensated_as;
  asked =
      None;
  has_forgotten = r.has_forgotten || (same_kind kind ask.Forget && is_done o);
  was_told = r.was_told
      || (same_kind kind ask.After && is_done o);
}

-- what is left unanswered of the member that was asked, after a reply
pub stand_replied : (J : History) (by m n : ℕ) (o : Outcome) (x : Asked) → ask_of J n ≡ Some x
    → standing (more J by m (Reply n o)) x.member ≡ None
stand_replied J by m n o x h = stand_after J by m (Reply n o) x.member (Some None)
    (ap (option_and_then {U = Option Standing} (λ (a : Asked). cond (a.member == x.member) (Some None) None)) h
    ∙ ap (λ (b : Bool). cond b (Some None) None) (eqb_self x.member))

pub reply_row : (J : History) (by m n : ℕ) (o : Outcome) (x : Asked) → ask_of J n ≡ Some x → Went J x.member x.direction
    → standing J x.member ≡ Some (record { number = n; kind = x.kind; direction = x.direction })
    → member_row (more J by m (Reply n o)) x.member ≡ with_reply o (member_row J x.member)
reply_row J by m n o x a went stands =
    (λ i. record {
      action = action_kept J by m d p refl i;
      addresses = presence_of (addresses_kept J by m d p refl i);
      status = word_status J by m d p x.direction o went refl refl refl heard i;
      completion = reply_after J by m d p direction.Completion (when (same_direction x.direction direction.Completion)
          o) (replied direction.Completion) i;
      compensation = reply_after J by m d p direction.Compensation (when
          (same_direction x.direction direction.Compensation) o) (replied direction.Compensation) i;
      completed_as = word_decides J by m d p direction.Completion x.direction o (heard direction.Completion) i;
      compensated_as = word_decides J by m d p direction.Compensation x.direction o (heard direction.Compensation) i;
      asked = stand_replied J by m n o x a i;
      has_forgotten = answer_after J by m d p ask.Forget (same_kind x.kind ask.Forget && is_done o)
          (answered ask.Forget) i;
      was_told = answer_after J by m d p ask.After (same_kind x.kind ask.After && is_done o) (answered ask.After) i;
    })
    ∙ replied_row x.direction x.kind n o (member_row J p)
    (option_or (when (same_direction x.direction direction.Completion) o) (last_reply J p direction.Completion))
    (option_or (when (same_direction x.direction direction.Compensation) o) (last_reply J p direction.Compensation))
    refl refl
    ∙ sym (ap (λ (s : Option Standing). option_map_or (λ (y : Standing). with_reply_to y o (member_row J p)) s
    (member_row J p)) stands)
  where
    d : Deed
    d = Reply n o

    p : ℕ
    p = x.member

    heard : (to : Direction) → heard_of x.member to (heard_at (step J (entry by m (Reply n o))))
        ≡ word_of x.direction to o
    heard to = ap (λ (y : Option Asked). heard_of x.member to (option_map
        (λ (a : Asked). record { member = a.member; direction = a.direction; outcome = o }) y)) a
        ∙ heard_self x.member to (record { member = x.member; direction = x.direction; outcome = o })
        (eqb_self x.member)

    replied : (to : Direction) → replied_of x.member to (replied_at (step J (entry by m (Reply n o))))
        ≡ when (same_direction x.direction to) o
    replied to = ap (λ (y : Option Asked). replied_of x.member to (option_map
        (λ (a : Asked). record { to = a; outcome = o; moment = m }) y)) a
        ∙ ap (λ (b : Bool). when (b && same_direction x.direction to) o) (eqb_self x.member)

    answered : (kind : AskKind) → answered_of x.member kind (replied_at (step J (entry by m (Reply n o))))
        ≡ (same_kind x.kind kind && is_done o)
    answered kind = ap (λ (y : Option Asked). answered_of x.member kind
        (option_map (λ (a : Asked). record { to = a; outcome = o; moment = m }) y)) a
        ∙ ap (λ (b : Bool). b && same_kind x.kind kind && is_done o) (eqb_self x.member)
