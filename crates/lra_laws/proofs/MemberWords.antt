-- The words of a member after one more entry.
use Rattle.std.proofs.Common.{◌≡◌, ℕ, Bool, false, List, [], ◌∷◌, ◌++◌, Option, Some, None, refl, sym, ap, ◌∙◌, cond}
use Rattle.std.proofs.Math.Bool.{or-false}
use Rattle.std.specs.Prelude.{◌==◌, ◌&&◌, ◌||◌, unwrap_or, option_map}
use Rattle.std.specs.Option.{option_map_or, option_or, option_and_then}
use Rattle.std.specs.List.{filter_map}
use Rattle.lra_model.specs.declared.asks.AskKind.{AskKind}
use Rattle.lra_model.specs.declared.asks.AskKind.TheVariants as ask
use Rattle.lra_model.specs.declared.asks.Direction.{Direction}
use Rattle.lra_model.specs.declared.asks.Direction.TheVariants as direction
use Rattle.lra_model.specs.declared.asks.Outcome.{Outcome}
use Rattle.lra_model.specs.declared.asks.Outcome.TheVariants as outcome
use Rattle.lra_model.specs.declared.entry.Deed.{Deed}
use Rattle.lra_model.specs.declared.entry.Deed.TheVariants.{Join, Leave, Skip, Ask, Reply, Report}
use Rattle.lra_model.specs.declared.entry.Entry.{Entry}
use Rattle.lra_model.specs.Addresses as texts
use Rattle.lra_model.specs.Addresses.{presence_of}
use Rattle.lra_model.specs.Words.{when, same_kind, same_direction, is_done, is_decisive}
use Rattle.lra_model.specs.History.{History, Step, steps, first, last, read_deeds}
use Rattle.lra_model.specs.Members.{action_given, action_of, no_addresses, addresses_given, addresses_of, is_leave_of}
use Rattle.lra_model.specs.Members.{has_left, is_ask_for, was_asked, ask_direction, status_direction, Asked, ask_of}
use Rattle.lra_model.specs.Members.{Replied, replied_at, Heard, heard_at, decides, decided, member_status, last_reply}
use Rattle.lra_model.specs.Members.{was_answered}
use Rattle.lra_laws.proofs.GoodStatus.{status_by}
use Rattle.lra_laws.proofs.Push.{or_none, unwrap_either, step, steps_push, last_read_push, action_of_push}
use Rattle.lra_laws.proofs.Push.{addresses_of_push, has_left_push, was_asked_push, decided_push, last_reply_push}
use Rattle.lra_laws.proofs.Push.{was_answered_push}
use Rattle.lra_laws.specs.Rows.{Standing, standing_at, standing, void_at, void_asks, member_row}
use Rattle.lra_laws.proofs.Told.{entry, more}

pub standing_push : (J : History) (e : Entry) (p : ℕ) → standing (J ++ e ∷ []) p
    ≡ unwrap_or (standing_at p (step J e)) (standing J p)
unfolding standing
standing_push J e p =
    ap (λ (ss : List Step). unwrap_or (last (filter_map (standing_at p) ss)) None) (steps_push J e)
    ∙ ap (λ (o : Option (Option Standing)). unwrap_or o None) (last_read_push (standing_at p) (steps J) (step J e))
    ∙ unwrap_either (standing_at p (step J e)) (last (filter_map (standing_at p) (steps J))) None

pub void_push : (J : History) (e : Entry) → void_asks (J ++ e ∷ []) ≡ unwrap_or (void_at (step J e)) (void_asks J)
unfolding void_asks
void_push J e =
    ap (λ (ss : List Step). unwrap_or (last (filter_map void_at ss)) 0) (steps_push J e)
    ∙ ap (λ (o : Option ℕ). unwrap_or o 0) (last_read_push void_at (steps J) (step J e))
    ∙ unwrap_either (void_at (step J e)) (last (filter_map void_at (steps J))) 0

-- ---- the words of a member, as one

-- two histories have one answer to each word of a member
pub record SameWords (J K : History) (p : ℕ) : Type 0 where
  pub action : action_of K p ≡ action_of J p
  pub addresses : addresses_of K p ≡ addresses_of J p
  pub left : has_left K p ≡ has_left J p
  pub decided : (d : Direction) → decided K p d ≡ decided J p d
  pub asked : (kind : AskKind) → was_asked K p kind ≡ was_asked J p kind
  pub reply : (d : Direction) → last_reply K p d ≡ last_reply J p d
  pub standing : standing K p ≡ standing J p
  pub answered : (kind : AskKind) → was_answered K p kind ≡ was_answered J p kind

-- the status of a member, by what it depends on
pub status_is : (J : History) (p : ℕ) → member_status J p ≡ status_by (has_left J p)
    (decided J p direction.Compensation) (was_asked J p ask.Compensate) (decided J p direction.Completion)
    (was_asked J p ask.Complete)
unfolding member_status
status_is J p = refl

pub status_same : (J K : History) (p : ℕ) → has_left K p ≡ has_left J p
    → ((d : Direction) → decided K p d ≡ decided J p d) → ((kind : AskKind) → was_asked K p kind ≡ was_asked J p kind)
    → member_status K p ≡ member_status J p
status_same J K p l d a = status_is K p ∙ (λ i. status_by (l i) (d direction.Compensation i) (a ask.Compensate i)
    (d direction.Completion i) (a ask.Complete i)) ∙ sym (status_is J p)

pub same_row : (J K : History) (p : ℕ) → SameWords J K p → member_row K p ≡ member_row J p
same_row J K p s = λ i. record {
  action = s.action i;
  addresses = presence_of (s.addresses i);
  status = status_same J K p s.left s.decided s.asked i;
  completion = s.reply direction.Completion i;
  compensation = s.reply direction.Compensation i;
  completed_as = s.decided direction.Completion i;
  compensated_as = s.decided direction.Compensation i;
  asked = s.standing i;
  has_forgotten = s.answered ask.Forget i;
  was_told = s.answered ask.After i;
}

-- ---- a deed that concerns another member, or none

abbrev pub concerns : History → Deed → ℕ → Bool
concerns J (Join q a uris) p = q == p
concerns J (Leave q) p = q == p
concerns J (Skip q) p = q == p
concerns J (Ask n q kind) p = q == p
concerns J (Reply n o) p = option_map_or (λ (a : Asked). a.member == p) (ask_of J n) false
concerns J (Report q o) p = q == p
concerns J _ p = false

pub action_kept : (J : History) (by m : ℕ) (d : Deed) (p : ℕ) → action_given p d ≡ None → action_of (more J by m d) p
    ≡ action_of J p
unfolding action_of
action_kept J by m d p h = action_of_push J (entry by m d) p ∙ ap (λ (o : Option ℕ). unwrap_or
    (option_or (first (read_deeds (action_given p) J)) o) 0) h ∙ ap (λ (o : Option ℕ). unwrap_or o 0)
    (or_none (first (read_deeds (action_given p) J)))

pub addresses_kept : (J : History) (by m : ℕ) (d : Deed) (p : ℕ) → addresses_given p d ≡ None
    → addresses_of (more J by m d) p ≡ addresses_of J p
unfolding addresses_of
addresses_kept J by m d p h =
    addresses_of_push J (entry by m d) p ∙ ap (λ (o : Option texts.Addresses). unwrap_or
    (option_or (first (read_deeds (addresses_given p) J)) o) no_addresses) h
    ∙ ap (λ (o : Option texts.Addresses). unwrap_or o no_addresses)
    (or_none (first (read_deeds (addresses_given p) J)))

pub action_quiet : (J : History) (by m : ℕ) (d : Deed) (p : ℕ) → concerns J d p ≡ false → action_of (more J by m d) p
    ≡ action_of J p
action_quiet J by m d p h = action_kept J by m d p (none d h)
  where
    none : (d : Deed) → concerns J d p ≡ false → action_given p d ≡ None
    none (Join q a uris) k = ap (λ (b : Bool). when b a) k
    none _ k = refl

pub addresses_quiet : (J : History) (by m : ℕ) (d : Deed) (p : ℕ) → concerns J d p ≡ false
    → addresses_of (more J by m d) p ≡ addresses_of J p
addresses_quiet J by m d p h = addresses_kept J by m d p (none d h)
  where
    none : (d : Deed) → concerns J d p ≡ false → addresses_given p d ≡ None
    none (Join q a uris) k = ap (λ (b : Bool). when b uris) k
    none _ k = refl

pub left_quiet : (J : History) (by m : ℕ) (d : Deed) (p : ℕ) → is_leave_of p d ≡ false → has_left (more J by m d) p
    ≡ has_left J p
left_quiet J by m d p h = has_left_push J (entry by m d) p ∙ ap (λ (b : Bool). has_left J p || b) h
    ∙ or-false (has_left J p)

pub leave_quiet : (J : History) (d : Deed) (p : ℕ) → concerns J d p ≡ false → is_leave_of p d ≡ false
leave_quiet J (Leave q) p h = h
leave_quiet J _ p h = refl

pub asked_quiet : (J : History) (by m : ℕ) (d : Deed) (p : ℕ) (kind : AskKind) → is_ask_for p kind d ≡ false
    → was_asked (more J by m d) p kind ≡ was_asked J p kind
asked_quiet J by m d p kind h = was_asked_push J (entry by m d) p kind ∙ ap (λ (b : Bool). was_asked J p kind || b) h
    ∙ or-false (was_asked J p kind)

pub ask_quiet : (J : History) (d : Deed) (p : ℕ) (kind : AskKind) → concerns J d p ≡ false → is_ask_for p kind d ≡ false
ask_quiet J (Ask n q k) p kind h = ap (λ (b : Bool). b && same_kind k kind) h
ask_quiet J _ p kind h = refl

-- what an entry says of a member's way
abbrev pub heard_of : ℕ → Direction → Option Heard → Option Outcome
heard_of p d o = option_map_or (λ (h : Heard). when (decides p d h) h.outcome) o None

pub decided_quiet : (J : History) (by m : ℕ) (d : Deed) (p : ℕ) (way : Direction)
    → heard_of p way (heard_at (step J (entry by m d))) ≡ None → decided (more J by m d) p way ≡ decided J p way
decided_quiet J by m d p way h = decided_push J (entry by m d) p way ∙ ap (option_or (decided J p way)) h
    ∙ or_none (decided J p way)

heard_other : (p : ℕ) (way : Direction) (x : Heard) → (x.member == p) ≡ false → when (decides p way x) x.outcome ≡ None
heard_other p way x h = ap (λ (b : Bool). when (b && same_direction x.direction way && is_decisive x.outcome) x.outcome)
    h

pub hear_quiet : (J : History) (by m : ℕ) (d : Deed) (p : ℕ) (way : Direction) → concerns J d p ≡ false
    → heard_of p way (heard_at (step J (entry by m d))) ≡ None
hear_quiet J by m (Skip q) p way h =
    heard_other p way (record { member = q; direction = direction.Completion; outcome = outcome.Done }) h
hear_quiet J by m (Report q o) p way h =
    heard_other p way (record { member = q; direction = status_direction J q; outcome = o }) h
hear_quiet J by m (Reply n o) p way h = known (ask_of J n) h
  where
    known : (x : Option Asked) → option_map_or (λ (a : Asked). a.member == p) x false ≡ false
        → heard_of p way (option_map (λ (a : Asked). record { member = a.member; direction = a.direction; outcome = o })
        x) ≡ None
    known None k = refl
    known (Some a) k = heard_other p way (record { member = a.member; direction = a.direction; outcome = o }) k
hear_quiet J by m _ p way h = refl

-- what an entry says of a member's last reply
abbrev pub replied_of : ℕ → Direction → Option Replied → Option Outcome
replied_of p d o = option_map_or (λ (r : Replied). when ((r.to.member == p) && same_direction r.to.direction d)
    r.outcome) o None

pub reply_after : (J : History) (by m : ℕ) (d : Deed) (p : ℕ) (way : Direction) (o : Option Outcome)
    → replied_of p way (replied_at (step J (entry by m d))) ≡ o → last_reply (more J by m d) p way
    ≡ option_or o (last_reply J p way)
reply_after J by m d p way o h = last_reply_push J (entry by m d) p way
    ∙ ap (λ (x : Option Outcome). option_or x (last_reply J p way)) h

pub reply_quiet : (J : History) (by m : ℕ) (d : Deed) (p : ℕ) (way : Direction) → concerns J d p ≡ false
    → last_reply (more J by m d) p way ≡ last_reply J p way
reply_quiet J by m d p way h = reply_after J by m d p way None (none d h)
  where
    none : (d : Deed) → concerns J d p ≡ false → replied_of p way (replied_at (step J (entry by m d))) ≡ None
    none (Reply n o) k = known (ask_of J n) k
      where
        known : (x : Option Asked) → option_map_or (λ (a : Asked). a.member == p) x false ≡ false
            → replied_of p way (option_map (λ (a : Asked). record { to = a; outcome = o; moment = m }) x) ≡ None
        known None k = refl
        known (Some a) k = ap (λ (b : Bool). when (b && same_direction a.direction way) o) k
    none _ k = refl

abbrev pub answered_of : ℕ → AskKind → Option Replied → Bool
answered_of p kind o = option_map_or (λ (r : Replied). (r.to.member == p) && same_kind r.to.kind kind
    && is_done r.outcome) o false

pub answer_after : (J : History) (by m : ℕ) (d : Deed) (p : ℕ) (kind : AskKind) (b : Bool)
    → answered_of p kind (replied_at (step J (entry by m d))) ≡ b → was_answered (more J by m d) p kind
    ≡ (was_answered J p kind || b)
answer_after J by m d p kind b h = was_answered_push J (entry by m d) p kind
    ∙ ap (λ (x : Bool). was_answered J p kind || x) h

pub answer_kept : (J : History) (by m : ℕ) (d : Deed) (p : ℕ) (kind : AskKind)
    → answered_of p kind (replied_at (step J (entry by m d))) ≡ false → was_answered (more J by m d) p kind
    ≡ was_answered J p kind
answer_kept J by m d p kind h = answer_after J by m d p kind false h ∙ or-false (was_answered J p kind)

pub answer_quiet : (J : History) (by m : ℕ) (d : Deed) (p : ℕ) (kind : AskKind) → concerns J d p ≡ false
    → was_answered (more J by m d) p kind ≡ was_answered J p kind
answer_quiet J by m d p kind h = answer_kept J by m d p kind (none d h)
  where
    none : (d : Deed) → concerns J d p ≡ false → answered_of p kind (replied_at (step J (entry by m d))) ≡ false
    none (Reply n o) k = known (ask_of J n) k
      where
        known : (x : Option Asked) → option_map_or (λ (a : Asked). a.member == p) x false ≡ false
            → answered_of p kind (option_map (λ (a : Asked). record { to = a; outcome = o; moment = m }) x) ≡ false
        known None k = refl
        known (Some a) k = ap (λ (b : Bool). b && same_kind a.kind kind && is_done o) k
    none _ k = refl

pub stand_after : (J : History) (by m : ℕ) (d : Deed) (p : ℕ) (o : Option (Option Standing))
    → standing_at p (step J (entry by m d)) ≡ o → standing (more J by m d) p ≡ unwrap_or o (standing J p)
stand_after J by m d p o h = standing_push J (entry by m d) p ∙ ap (λ (x : Option (Option Standing)). unwrap_or x
    (standing J p)) h

pub stand_quiet : (J : History) (by m : ℕ) (d : Deed) (p : ℕ) → concerns J d p ≡ false → standing (more J by m d) p
    ≡ standing J p
stand_quiet J by m d p h = stand_after J by m d p None (none d h)
  where
    none : (d : Deed) → concerns J d p ≡ false → standing_at p (step J (entry by m d)) ≡ None
    none (Ask n q kind) k =
        ap (λ (b : Bool). cond b (Some (Some (record { number = n; kind = kind; direction = ask_direction J q kind })))
        None) k
    none (Reply n o) k = known (ask_of J n) k
      where
        known : (x : Option Asked) → option_map_or (λ (a : Asked). a.member == p) x false ≡ false
            → option_and_then {U = Option Standing} (λ (a : Asked). cond (a.member == p) (Some None) None) x ≡ None
        known None k = refl
        known (Some a) k = ap (λ (b : Bool). cond b (Some None) None) k
    none _ k = refl

-- each word stays
pub quiet_words : (J : History) (by m : ℕ) (d : Deed) (p : ℕ) → concerns J d p ≡ false → SameWords J (more J by m d) p
quiet_words J by m d p h = record {
  action = action_quiet J by m d p h;
  addresses = addresses_quiet J by m d p h;
  left = left_quiet J by m d p (leave_quiet J d p h);
  decided = λ way. decided_quiet J by m d p way (hear_quiet J by m d p way h);
  asked = λ kind. asked_quiet J by m d p kind (ask_quiet J d p kind h);
  reply = λ way. reply_quiet J by m d p way h;
  standing = stand_quiet J by m d p h;
  answered = λ kind. answer_quiet J by m d p kind h;
}

pub quiet_row : (J : History) (by m : ℕ) (d : Deed) (p : ℕ) → concerns J d p ≡ false → member_row (more J by m d) p
    ≡ member_row J p
quiet_row J by m d p h = same_row J (more J by m d) p (quiet_words J by m d p h)
