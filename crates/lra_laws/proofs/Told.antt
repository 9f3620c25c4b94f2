-- What the rules say of an allowed deed, in the words of the history before it.
use Rattle.std.proofs.Common.{◌≡◌, ℕ, ◌+◌, Bool, true, false, List, ◌∷◌, [], ◌++◌, length, Option, Some, None, refl}
use Rattle.std.proofs.Common.{cond, eqb-true}
use Rattle.std.specs.Prelude.{◌&&◌, ◌||◌, not, is_some, option_map}
use Rattle.std.specs.Option.{option_map_or}
use Rattle.lra_model.specs.declared.version.Version.{Version}
use Rattle.lra_model.specs.declared.status.MemberStatus.{MemberStatus}
use Rattle.lra_model.specs.declared.asks.AskKind.{AskKind}
use Rattle.lra_model.specs.declared.asks.AskKind.TheVariants as ask
use Rattle.lra_model.specs.declared.asks.Outcome.{Outcome}
use Rattle.lra_model.specs.declared.entry.Deed.{Deed}
use Rattle.lra_model.specs.declared.entry.Deed.TheVariants.{Enrol, Start, Join, Leave, Close, Cancel, Skip, Ask, Reply}
use Rattle.lra_model.specs.declared.entry.Deed.TheVariants.{Report, End, Restart, Renew}
use Rattle.lra_model.specs.declared.entry.Entry.{Entry}
use Rattle.lra_model.specs.Words.{is_untouched, is_completing, is_completed, is_compensating, is_decisive}
use Rattle.lra_model.specs.Words.{outcome_suits}
use Rattle.lra_model.specs.History.{History, clerks, actions, members, asks, is_among}
use Rattle.lra_model.specs.Members.{Asked, ask_of, member_status, is_outstanding, outstanding_ask}
use Rattle.lra_model.specs.Facts.{ActionFacts, MemberFacts, Facts, member_facts, facts_of}
use Rattle.lra_model.specs.Tests.{is_time_for, has_address, status_is, was_accepted, may_skip, may_ask, may_report}
use Rattle.lra_model.specs.Tests.{may_reply, may_close, may_cancel}
use Rattle.lra_model.specs.Words.{is_closing, is_cancelling}
use Rattle.lra_model.specs.Rules.{is_action}
use Rattle.lra_laws.proofs.Legal.{Allowed, entry_kept, start_kept, join_kept, leave_kept, close_kept, cancel_kept}
use Rattle.lra_laws.proofs.Legal.{skip_kept, ask_kept, reply_kept, report_kept, end_kept, renew_kept, action_fact}
use Rattle.lra_laws.proofs.Legal.{member_fact}
use Rattle.lra_laws.proofs.Tested.{both}

-- an entry
abbrev pub entry : ℕ → ℕ → Deed → Entry
entry by m d = record { by = by; moment = m; deed = d }

-- a history with one more entry
abbrev pub more : History → ℕ → ℕ → Deed → History
more J by m d = J ++ entry by m d ∷ []

-- the status of a member that may be asked this
abbrev pub ask_fits : AskKind → MemberStatus → Bool
ask_fits ask.Complete s = is_untouched s || is_completing s
ask_fits ask.Compensate s = is_untouched s || (is_completed s || is_compensating s)
ask_fits ask.Status s = is_completing s || is_compensating s
ask_fits ask.Forget s = true
ask_fits ask.After s = true

pub record AskTold (J : History) (n p : ℕ) (kind : AskKind) : Type 0 where
  pub number : n ≡ length (asks J) + 1
  pub there : is_among (members J) p ≡ true
  pub unasked : is_some (outstanding_ask J p) ≡ false
  pub fits : ask_fits kind (member_status J p) ≡ true

pub record ReplyTold (J : History) (n : ℕ) (x : Asked) : Type 0 where
  pub outstanding : is_outstanding J n ≡ true
  pub asked : ask_of J n ≡ Some x

pub record ReportTold (J : History) (p : ℕ) (o : Outcome) : Type 0 where
  pub there : is_among (members J) p ≡ true
  pub goes_on : (is_completing (member_status J p) || is_compensating (member_status J p)) ≡ true
  pub decisive : is_decisive o ≡ true

pub record SkipTold (J : History) (p : ℕ) : Type 0 where
  pub there : is_among (members J) p ≡ true
  pub untouched : is_untouched (member_status J p) ≡ true

pub record StartTold (J : History) (a : ℕ) (parent : Option ℕ) : Type 0 where
  pub number : a ≡ length (actions J) + 1
  pub parent_there : option_map_or (is_among (actions J)) parent true ≡ true

pub record JoinTold (J : History) (p a : ℕ) : Type 0 where
  pub number : p ≡ length (members J) + 1
  pub there : is_among (actions J) a ≡ true

abbrev pub Told : History → ℕ → Deed → Type 0
Told J by Enrol = by ≡ length (clerks J) + 1
Told J by (Start a parent limit) = StartTold J a parent
Told J by (Join p a uris) = JoinTold J p a
Told J by (Leave p) = is_among (members J) p ≡ true
Told J by (Close a cause) = is_among (actions J) a ≡ true
Told J by (Cancel a cause) = is_among (actions J) a ≡ true
Told J by (Skip p) = SkipTold J p
Told J by (Ask n p kind) = AskTold J n p kind
Told J by (Reply n o) = (x : Asked) × ReplyTold J n x
Told J by (Report p o) = ReportTold J p o
Told J by (End a s) = is_among (actions J) a ≡ true
Told J by Restart = Unit {0}
Told J by (Renew a limit) = is_among (actions J) a ≡ true

or_weaker : (a b c d : Bool) → ((a && b) || (c && d)) ≡ true → (a || c) ≡ true
or_weaker true b c d h = refl
or_weaker false b true d h = refl
or_weaker false b false d h = absurd cc

untouched : (f : Facts) (p : MemberFacts) → may_skip f p ≡ true → is_untouched p.status ≡ true
untouched f p h = third (status_is is_closing f p.action) (is_untouched p.status) (not p.addresses.complete)
    p.addresses.compensate h
  where
    third : (a b c d : Bool) → (a && b && c && d) ≡ true → b ≡ true
    third a true c d h = refl
    third true false c d h = absurd cc
    third false false c d h = absurd cc

unasked : (kind : AskKind) (f : Facts) (p : MemberFacts) → may_ask kind f p ≡ true → (p.is_asked ≡ false)
    × (is_time_for kind f p ≡ true)
unasked kind f p h = three p.is_asked (has_address kind p.addresses) (is_time_for kind f p) h
  where
    three : (a b c : Bool) → (not a && b && c) ≡ true → (a ≡ false) × (c ≡ true)
    three false true true h = (refl, refl)
    three false true false h = absurd cc
    three false false c h = absurd cc
    three true b c h = absurd cc

timely : (kind : AskKind) (f : Facts) (p : MemberFacts) → is_time_for kind f p ≡ true → ask_fits kind p.status ≡ true
timely ask.Complete f p h = (both (status_is is_closing f p.action) (is_untouched p.status || is_completing p.status)
    h).1
timely ask.Compensate f p h = regroup (is_untouched p.status) (is_completed p.status) (is_compensating p.status)
    ((both (status_is is_cancelling f p.action) (is_untouched p.status || is_completed p.status
    || is_compensating p.status) h).1)
  where
    regroup : (a b c : Bool) → (a || b || c) ≡ true → (a || (b || c)) ≡ true
    regroup true b c h = refl
    regroup false b c h = h
timely ask.Status f p h = or_weaker (is_completing p.status) (was_accepted p.completion) (is_compensating p.status)
    (was_accepted p.compensation) h
timely ask.Forget f p h = refl
timely ask.After f p h = refl

replied : (J : History) (n : ℕ) (o : Outcome) → may_reply (facts_of J) n o ≡ true → (x : Asked) × ReplyTold J n x
unfolding facts_of
replied J n o h = known (is_outstanding J n) (ask_of J n) refl refl h
  where
    known : (b : Bool) (a : Option Asked) → is_outstanding J n ≡ b → ask_of J n ≡ a
        → option_map_or (λ (kind : AskKind). outcome_suits kind o) (cond b (option_map (λ (x : Asked). x.kind) a) None)
        false ≡ true → (x : Asked) × ReplyTold J n x
    known true (Some x) e g k = (x, record { outstanding = e; asked = g })
    known true None e g k = absurd cc
    known false a e g k = absurd cc

parent_there : (J : History) (o : Option ℕ) → option_map_or (is_action (facts_of J)) o true ≡ true
    → option_map_or (is_among (actions J)) o true ≡ true
parent_there J None h = refl
parent_there J (Some b) h = (action_fact (λ (a : ActionFacts). true) J b h).0

pub told : (v : Version) (t : List ℕ → Bool) (J : History) (by m : ℕ) (d : Deed) → Allowed v t J (entry by m d)
    → Told J by d
unfolding facts_of
told v t J by m Enrol h = eqb-true by (length (clerks J) + 1) (entry_kept v t (facts_of J) (entry by m Enrol)
    h.unbroken).clerk
told v t J by m (Start a parent limit) h =
    let k = start_kept v t (facts_of J) m a parent limit (entry_kept v t (facts_of J)
    (entry by m (Start a parent limit)) h.unbroken).deed in
    record { number = k.number; parent_there = parent_there J parent k.parent_there }
told v t J by m (Join p a uris) h =
    let k = join_kept v t (facts_of J) m p a uris (entry_kept v t (facts_of J) (entry by m (Join p a uris))
    h.unbroken).deed in
    record { number = k.number; there = (action_fact (λ (a : ActionFacts). true) J a k.there).0 }
told v t J by m (Leave p) h =
    let k = leave_kept v t (facts_of J) m p (entry_kept v t (facts_of J) (entry by m (Leave p)) h.unbroken).deed in
    (member_fact (λ (x : MemberFacts). true) J p k.there).0
told v t J by m (Close a cause) h =
    let k = close_kept v t (facts_of J) m a cause (entry_kept v t (facts_of J) (entry by m (Close a cause))
    h.unbroken).deed in
    (action_fact (may_close cause (facts_of J)) J a k.may).0
told v t J by m (Cancel a cause) h =
    let k = cancel_kept v t (facts_of J) m a cause (entry_kept v t (facts_of J) (entry by m (Cancel a cause))
    h.unbroken).deed in
    (action_fact (may_cancel v m cause (facts_of J)) J a k.may).0
told v t J by m (Skip p) h =
    let k = skip_kept v t (facts_of J) m p (entry_kept v t (facts_of J) (entry by m (Skip p)) h.unbroken).deed in
    let f = member_fact (may_skip (facts_of J)) J p k.may in
    record { there = f.0; untouched = untouched (facts_of J) (member_facts J p) f.1 }
told v t J by m (Ask n p kind) h =
    let k = ask_kept v t (facts_of J) m n p kind (entry_kept v t (facts_of J) (entry by m (Ask n p kind))
    h.unbroken).deed in
    let f = member_fact (may_ask kind (facts_of J)) J p k.may in
    let u = unasked kind (facts_of J) (member_facts J p) f.1 in
    record { number = k.number; there = f.0; unasked = u.0; fits = timely kind (facts_of J) (member_facts J p) u.1 }
told v t J by m (Reply n o) h =
    let k = reply_kept v t (facts_of J) m n o (entry_kept v t (facts_of J) (entry by m (Reply n o)) h.unbroken).deed in
    replied J n o k.may
told v t J by m (Report p o) h =
    let k = report_kept v t (facts_of J) m p o (entry_kept v t (facts_of J) (entry by m (Report p o))
    h.unbroken).deed in
    let f = member_fact (may_report o) J p k.may in
    let b = both (is_completing (member_status J p) || is_compensating (member_status J p)) (is_decisive o) f.1 in
    record { there = f.0; goes_on = b.0; decisive = b.1 }
told v t J by m (End a s) h =
    let k = end_kept v t (facts_of J) m a s (entry_kept v t (facts_of J) (entry by m (End a s)) h.unbroken).deed in
    (action_fact (λ (x : ActionFacts). x.settled) J a k.settled).0
told v t J by m Restart h = tt
told v t J by m (Renew a limit) h =
    let k = renew_kept v t (facts_of J) m a limit (entry_kept v t (facts_of J) (entry by m (Renew a limit))
    h.unbroken).deed in
    (action_fact (λ (a : ActionFacts). true) J a k.there).0
