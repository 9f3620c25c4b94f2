-- Legal histories: induction along them, what the rules say that an entry keeps, and the numbers that they give.
use Rattle.std.proofs.Common.{◌≡◌, ℕ, zero, suc, ◌+◌, ◌<◌, ◌≤◌, Bool, true, false, List, [], ◌∷◌, ◌++◌, length, Option}
use Rattle.std.proofs.Common.{Some, None, refl, sym, ap, ◌∙◌, subst, append_assoc, append-nil, cond, arith, eqb-true}
use Rattle.std.proofs.Common.{leb-true, length-append}
use Rattle.std.proofs.lemmas.Bool.{eqb-false}
use Rattle.std.proofs.Math.Bool.{and-true, or-false}
use Rattle.std.specs.Prelude.{◌==◌, ◌&&◌, ◌||◌, is_some, is_none, option_to_list}
use Rattle.std.specs.Option.{option_map_or}
use Rattle.std.specs.List.{cons_option, list_all, range_with_len}
use Rattle.std.proofs.lemmas.List.Folds.{list_all-append}
use Rattle.lra_model.specs.declared.version.Version.{Version}
use Rattle.lra_model.specs.declared.status.ActionStatus.{ActionStatus}
use Rattle.lra_model.specs.declared.status.ActionStatus.TheVariants as action
use Rattle.lra_model.specs.declared.asks.AskKind.{AskKind}
use Rattle.lra_model.specs.declared.asks.Outcome.{Outcome}
use Rattle.lra_model.specs.declared.asks.Cause.{Cause}
use Rattle.lra_model.specs.declared.entry.Deed.{Deed}
use Rattle.lra_model.specs.declared.entry.Deed.TheVariants.{Enrol, Start, Join, Leave, Close, Cancel, Skip, Ask, Reply}
use Rattle.lra_model.specs.declared.entry.Deed.TheVariants.{Report, End, Renew}
use Rattle.lra_model.specs.declared.entry.Entry.{Entry}
use Rattle.lra_model.specs.Addresses.{Addresses}
use Rattle.lra_model.specs.Words.{is_active, same_status}
use Rattle.lra_model.specs.History.{History, Step, steps, first, read_deeds, enrolled_by, started_by, joined_by}
use Rattle.lra_model.specs.History.{asked_by, clerks, actions, members, asks, is_among}
use Rattle.lra_model.specs.Actions.{parent}
use Rattle.lra_model.specs.Facts.{ActionFacts, MemberFacts, Facts, action_facts, member_facts, facts_of}
use Rattle.lra_model.specs.Tests.{at_action, at_member, status_is, each_parent, is_moment, may_close, may_cancel}
use Rattle.lra_model.specs.Tests.{addresses_fit, may_skip, may_ask, may_reply, may_report}
use Rattle.lra_model.specs.Rules.{Ruling, has_deed, clerk_fits, is_action, is_member, is_here, deed_rules, rules_on}
use Rattle.lra_model.specs.Rules.{first_broken, broken, in_range, allows, is_legal}
use Rattle.lra_laws.proofs.Push.{any_push, step, steps_push, clerks_push, actions_push, members_push, asks_push}
use Rattle.lra_laws.proofs.Tested.{both, and_intro, none_from_test}

-- ---- induction from the end

-- what holds of no entries, and of one more wherever it holds, holds of every history
pub snoc_induction : (P : History → Type 0) → P [] → ((J : History) (e : Entry) → P J → P (J ++ e ∷ [])) → (J : History)
    → P J
snoc_induction P base more J = from [] J base
  where
    from : (past es : History) → P past → P (past ++ es)
    from past [] h = subst P (sym (append-nil past)) h
    from past (e ∷ es) h = subst P (append_assoc past (e ∷ []) es) (from (past ++ e ∷ []) es (more past e h))

-- one more entry is legal where those before it are and it is allowed after them
pub is_legal_push : (v : Version) (t : List ℕ → Bool) (J : History) (e : Entry) → is_legal v t (J ++ e ∷ [])
    ≡ (is_legal v t J && allows v t J e)
unfolding is_legal
is_legal_push v t J e =
    ap (list_all (λ (s : Step). allows v t s.past s.entry)) (steps_push J e)
    ∙ list_all-append (λ (s : Step). allows v t s.past s.entry) (steps J) (step J e ∷ [])
    ∙ ap (λ (b : Bool). list_all (λ (s : Step). allows v t s.past s.entry) (steps J) && b) (and-true (allows v t J e))

-- an entry that may come after a history: its numbers are in range, and it breaks no rule
pub record Allowed (v : Version) (t : List ℕ → Bool) (J : History) (e : Entry) : Type 0 where
  pub ranged : in_range e ≡ true
  pub unbroken : first_broken (rules_on v t (facts_of J) e) ≡ None

-- it may come exactly where allows says so
pub allowed : (v : Version) (t : List ℕ → Bool) (J : History) (e : Entry) → allows v t J e ≡ true → Allowed v t J e
unfolding broken
allowed v t J e h =
    let k = both (in_range e) (is_none (broken v t J e)) h in
    record { ranged = k.0; unbroken = none_from_test (broken v t J e) k.1 }

pub allows_from : (v : Version) (t : List ℕ → Bool) (J : History) (e : Entry) → Allowed v t J e → allows v t J e ≡ true
unfolding broken
allows_from v t J e h = and_intro (in_range e) (is_none (broken v t J e)) h.ranged (ap is_none h.unbroken)

-- a legal history without its last entry is legal, and that entry was allowed
pub legal_push : (v : Version) (t : List ℕ → Bool) (J : History) (e : Entry) → is_legal v t (J ++ e ∷ []) ≡ true
    → (is_legal v t J ≡ true) × Allowed v t J e
legal_push v t J e h =
    let k = both (is_legal v t J) (allows v t J e) (sym (is_legal_push v t J e) ∙ h) in
    (k.0, allowed v t J e k.1)

-- a legal history with one more entry that is allowed is legal
pub legal_more : (v : Version) (t : List ℕ → Bool) (J : History) (e : Entry) → is_legal v t J ≡ true → Allowed v t J e
    → is_legal v t (J ++ e ∷ []) ≡ true
legal_more v t J e h k = is_legal_push v t J e ∙ and_intro (is_legal v t J) (allows v t J e) h (allows_from v t J e k)

-- no entries are legal
pub legal_empty : (v : Version) (t : List ℕ → Bool) → is_legal v t [] ≡ true
unfolding is_legal steps
legal_empty v t = refl

-- what holds of no entries, and of one more allowed entry wherever it holds of a legal history, holds of every legal
-- history
pub legal_induction : (v : Version) (t : List ℕ → Bool) (P : History → Type 0) → P []
    → ((J : History) (e : Entry) → is_legal v t J ≡ true → Allowed v t J e → P J → P (J ++ e ∷ []))
    → (J : History) → is_legal v t J ≡ true → P J
legal_induction v t P base more J = snoc_induction (λ K. is_legal v t K ≡ true → P K) (λ _. base) step_on J
  where
    step_on : (K : History) (e : Entry) → (is_legal v t K ≡ true → P K) → is_legal v t (K ++ e ∷ []) ≡ true
        → P (K ++ e ∷ [])
    step_on K e h l = let k = legal_push v t K e l in more K e k.0 k.1 (h k.0)

-- what a legal history begins with is legal
pub legal_begins : (v : Version) (t : List ℕ → Bool) (J es : History) → is_legal v t (J ++ es) ≡ true → is_legal v t J
    ≡ true
legal_begins v t J es = snoc_induction (λ fs. is_legal v t (J ++ fs) ≡ true → is_legal v t J ≡ true)
    (λ h. sym (ap (is_legal v t) (append-nil J)) ∙ h) more es
  where
    more : (fs : History) (e : Entry) → (is_legal v t (J ++ fs) ≡ true → is_legal v t J ≡ true)
        → is_legal v t (J ++ (fs ++ e ∷ [])) ≡ true → is_legal v t J ≡ true
    more fs e rest h = rest (legal_push v t (J ++ fs) e (ap (is_legal v t) (append_assoc J fs (e ∷ [])) ∙ h)).0

-- ---- the rules that an entry keeps, by its deed

-- each of these rules is kept
abbrev pub AllKept : List Ruling → Type 0
AllKept [] = Unit {0}
AllKept ((r, b) ∷ rest) = (b ≡ true) × AllKept rest

-- where no rule is broken, each is kept; and the other way round
pub all_kept : (rules : List Ruling) → first_broken rules ≡ None → AllKept rules
all_kept [] h = tt
all_kept ((r, true) ∷ rest) h = (refl, all_kept rest h)
all_kept ((r, false) ∷ rest) h = absurd cc

pub none_broken : (rules : List Ruling) → AllKept rules → first_broken rules ≡ None
none_broken [] h = refl
none_broken ((r, true) ∷ rest) h = none_broken rest h.1
none_broken ((r, false) ∷ rest) h = absurd cc

-- what every entry keeps
pub record EntryKept (v : Version) (t : List ℕ → Bool) (f : Facts) (e : Entry) : Type 0 where
  pub known : has_deed v e.deed ≡ true
  pub clerk : clerk_fits f e.by e.deed ≡ true
  pub moment : f.moment ≤ e.moment
  pub deed : AllKept (deed_rules v t f e.moment e.deed)

pub entry_kept : (v : Version) (t : List ℕ → Bool) (f : Facts) (e : Entry) → first_broken (rules_on v t f e) ≡ None
    → EntryKept v t f e
entry_kept v t f e h =
    let k = all_kept (rules_on v t f e) h in
    record { known = k.0; clerk = k.1.0; moment = leb-true f.moment e.moment k.1.1.0; deed = k.1.1.1 }

-- what the rules say of each deed, where they are kept
pub record StartKept (f : Facts) (m a : ℕ) (parent : Option ℕ) (limit : ℕ) : Type 0 where
  pub number : a ≡ f.actions + 1
  pub parent_there : each_parent (is_action f) parent ≡ true
  pub parent_active : each_parent (status_is is_active f) parent ≡ true
  pub limit_fits : is_moment (m + limit) ≡ true

pub start_kept : (v : Version) (t : List ℕ → Bool) (f : Facts) (m a : ℕ) (parent : Option ℕ) (limit : ℕ)
    → AllKept (deed_rules v t f m (Start a parent limit)) → StartKept f m a parent limit
start_kept v t f m a parent limit k = record {
  number = eqb-true a (f.actions + 1) k.0;
  parent_there = k.1.0;
  parent_active = k.1.1.0;
  limit_fits = k.1.1.1.0;
}

pub record JoinKept (t : List ℕ → Bool) (f : Facts) (p a : ℕ) (uris : Addresses) : Type 0 where
  pub number : p ≡ f.members + 1
  pub there : is_action f a ≡ true
  pub active : status_is is_active f a ≡ true
  pub addresses : addresses_fit t uris ≡ true

pub join_kept : (v : Version) (t : List ℕ → Bool) (f : Facts) (m p a : ℕ) (uris : Addresses)
    → AllKept (deed_rules v t f m (Join p a uris)) → JoinKept t f p a uris
join_kept v t f m p a uris k = record {
  number = eqb-true p (f.members + 1) k.0;
  there = k.1.0;
  active = k.1.1.0;
  addresses = k.1.1.1.0;
}

pub record LeaveKept (f : Facts) (p : ℕ) : Type 0 where
  pub there : is_member f p ≡ true
  pub here : is_here f p ≡ true
  pub active : at_member (λ (x : MemberFacts). status_is is_active f x.action) f p ≡ true

pub leave_kept : (v : Version) (t : List ℕ → Bool) (f : Facts) (m p : ℕ) → AllKept (deed_rules v t f m (Leave p))
    → LeaveKept f p
leave_kept v t f m p k = record { there = k.0; here = k.1.0; active = k.1.1.0 }

pub record CloseKept (f : Facts) (a : ℕ) (cause : Cause) : Type 0 where
  pub there : is_action f a ≡ true
  pub may : at_action (may_close cause f) f a ≡ true

pub close_kept : (v : Version) (t : List ℕ → Bool) (f : Facts) (m a : ℕ) (cause : Cause)
    → AllKept (deed_rules v t f m (Close a cause)) → CloseKept f a cause
close_kept v t f m a cause k = record { there = k.0; may = k.1.0 }

pub record CancelKept (v : Version) (f : Facts) (m a : ℕ) (cause : Cause) : Type 0 where
  pub there : is_action f a ≡ true
  pub may : at_action (may_cancel v m cause f) f a ≡ true

pub cancel_kept : (v : Version) (t : List ℕ → Bool) (f : Facts) (m a : ℕ) (cause : Cause)
    → AllKept (deed_rules v t f m (Cancel a cause)) → CancelKept v f m a cause
cancel_kept v t f m a cause k = record { there = k.0; may = k.1.0 }

pub record SkipKept (f : Facts) (p : ℕ) : Type 0 where
  pub there : is_member f p ≡ true
  pub here : is_here f p ≡ true
  pub may : at_member (may_skip f) f p ≡ true

pub skip_kept : (v : Version) (t : List ℕ → Bool) (f : Facts) (m p : ℕ) → AllKept (deed_rules v t f m (Skip p))
    → SkipKept f p
skip_kept v t f m p k = record { there = k.0; here = k.1.0; may = k.1.1.0 }

pub record AskKept (f : Facts) (n p : ℕ) (kind : AskKind) : Type 0 where
  pub number : n ≡ f.asks + 1
  pub there : is_member f p ≡ true
  pub here : is_here f p ≡ true
  pub may : at_member (may_ask kind f) f p ≡ true

pub ask_kept : (v : Version) (t : List ℕ → Bool) (f : Facts) (m n p : ℕ) (kind : AskKind)
    → AllKept (deed_rules v t f m (Ask n p kind)) → AskKept f n p kind
ask_kept v t f m n p kind k = record {
  number = eqb-true n (f.asks + 1) k.0;
  there = k.1.0;
  here = k.1.1.0;
  may =
      k.1.1.1.0;
}

pub record ReplyKept (f : Facts) (n : ℕ) (o : Outcome) : Type 0 where
  pub may : may_reply f n o ≡ true

pub reply_kept : (v : Version) (t : List ℕ → Bool) (f : Facts) (m n : ℕ) (o : Outcome)
    → AllKept (deed_rules v t f m (Reply n o)) → ReplyKept f n o
reply_kept v t f m n o k = record { may = k.0 }

pub record ReportKept (f : Facts) (p : ℕ) (o : Outcome) : Type 0 where
  pub there : is_member f p ≡ true
  pub here : is_here f p ≡ true
  pub may : at_member (may_report o) f p ≡ true

pub report_kept : (v : Version) (t : List ℕ → Bool) (f : Facts) (m p : ℕ) (o : Outcome)
    → AllKept (deed_rules v t f m (Report p o)) → ReportKept f p o
report_kept v t f m p o k = record { there = k.0; here = k.1.0; may = k.1.1.0 }

pub record EndKept (f : Facts) (a : ℕ) (s : ActionStatus) : Type 0 where
  pub there : is_action f a ≡ true
  pub settled : at_action (λ (x : ActionFacts). x.settled) f a ≡ true
  pub right : at_action (λ (x : ActionFacts). same_status s x.right_end) f a ≡ true

pub end_kept : (v : Version) (t : List ℕ → Bool) (f : Facts) (m a : ℕ) (s : ActionStatus)
    → AllKept (deed_rules v t f m (End a s)) → EndKept f a s
end_kept v t f m a s k = record { there = k.0; settled = k.1.0; right = k.1.1.0 }

pub record RenewKept (f : Facts) (m a limit : ℕ) : Type 0 where
  pub there : is_action f a ≡ true
  pub active : status_is is_active f a ≡ true
  pub limit_fits : is_moment (m + limit) ≡ true

pub renew_kept : (v : Version) (t : List ℕ → Bool) (f : Facts) (m a limit : ℕ)
    → AllKept (deed_rules v t f m (Renew a limit)) → RenewKept f m a limit
renew_kept v t f m a limit k = record { there = k.0; active = k.1.0; limit_fits = k.1.1.0 }

-- ---- tests of facts, as words of the history

-- an action passes a test where it is there and its facts pass
pub action_fact : (test : ActionFacts → Bool) (J : History) (a : ℕ) → at_action test (facts_of J) a ≡ true
    → (is_among (actions J) a ≡ true) × (test (action_facts J a) ≡ true)
unfolding facts_of
action_fact test J a h = known (is_among (actions J) a) h
  where
    known : (b : Bool) → option_map_or test (cond b (Some (action_facts J a)) None) false ≡ true → (b ≡ true)
        × (test (action_facts J a) ≡ true)
    known true k = (refl, k)
    known false k = absurd cc

-- a member likewise
pub member_fact : (test : MemberFacts → Bool) (J : History) (p : ℕ) → at_member test (facts_of J) p ≡ true
    → (is_among (members J) p ≡ true) × (test (member_facts J p) ≡ true)
unfolding facts_of
member_fact test J p h = known (is_among (members J) p) h
  where
    known : (b : Bool) → option_map_or test (cond b (Some (member_facts J p)) None) false ≡ true → (b ≡ true)
        × (test (member_facts J p) ≡ true)
    known true k = (refl, k)
    known false k = absurd cc

-- the other way round
pub at_action_from : (test : ActionFacts → Bool) (J : History) (a : ℕ) → is_among (actions J) a ≡ true
    → test (action_facts J a) ≡ true → at_action test (facts_of J) a ≡ true
unfolding facts_of
at_action_from test J a h k = ap (λ (b : Bool). option_map_or test (cond b (Some (action_facts J a)) None) false) h ∙ k

pub at_member_from : (test : MemberFacts → Bool) (J : History) (p : ℕ) → is_among (members J) p ≡ true
    → test (member_facts J p) ≡ true → at_member test (facts_of J) p ≡ true
unfolding facts_of
at_member_from test J p h k = ap (λ (b : Bool). option_map_or test (cond b (Some (member_facts J p)) None) false) h ∙ k

-- ---- what is there

-- a number is among some and one more where it is among them, or is that one
pub among_push : (ns : List ℕ) (o : Option ℕ) (n : ℕ) → is_among (ns ++ option_to_list o) n
    ≡ (is_among ns n || option_map_or (λ m. m == n) o false)
among_push ns None n = ap (λ (ms : List ℕ). is_among ms n) (append-nil ns) ∙ sym (or-false (is_among ns n))
among_push ns (Some x) n = any_push (λ m. m == n) ns x

-- a word that the deeds of a number give is there exactly where the number is among those that the deeds give
pub first_is_there : {X : Type 0} (f : Deed → Option X) (g : Deed → Option ℕ) (n : ℕ)
    → ((d : Deed) → is_some (f d) ≡ option_map_or (λ m. m == n) (g d) false)
    → (J : History) → is_some (first (read_deeds f J)) ≡ is_among (read_deeds g J) n
first_is_there f g n alike [] = refl
first_is_there {X = X} f g n alike (e ∷ J) = one (f e.deed) (g e.deed) (alike e.deed) (first_is_there f g n alike J)
  where
    one : (o : Option X) (q : Option ℕ) → is_some o ≡ option_map_or (λ m. m == n) q false
        → is_some (first (read_deeds f J)) ≡ is_among (read_deeds g J) n
        → is_some (first (cons_option o (read_deeds f J))) ≡ is_among (cons_option q (read_deeds g J)) n
    one None None h rest = rest
    one None (Some x) h rest = rest ∙ ap (λ (b : Bool). b || is_among (read_deeds g J) n) h
    one (Some y) None h rest = absurd cc
    one (Some y) (Some x) h rest = ap (λ (b : Bool). b || is_among (read_deeds g J) n) h

-- ---- numbers

-- these numbers are 1, 2, 3 and so on, in order
abbrev pub IsNumbered : List ℕ → Type 0
IsNumbered ns = ns ≡ range_with_len 1 (length ns)

-- one number more is the next
pub range_more : (a n : ℕ) → range_with_len a (suc n) ≡ range_with_len a n ++ (a + n) ∷ []
range_more a zero = ap (λ (k : ℕ). k ∷ []) (let e : a ≡ a + 0 = omega arith in e)
range_more a (suc n) = ap (λ (ks : List ℕ). a ∷ ks)
    (range_more (a + 1) n ∙ ap (λ (k : ℕ). range_with_len (a + 1) n ++ k ∷ [])
    (let e : a + 1 + n ≡ a + suc n = omega arith in e))

-- numbers with the next one are numbered too
numbered_push : (ns : List ℕ) (o : Option ℕ) → ((x : ℕ) → o ≡ Some x → x ≡ length ns + 1) → IsNumbered ns
    → IsNumbered (ns ++ option_to_list o)
numbered_push ns None next h = append-nil ns ∙ h ∙ ap (λ (ms : List ℕ). range_with_len 1 (length ms))
    (sym (append-nil ns))
numbered_push ns (Some x) next h =
    ap (λ (ms : List ℕ). ms ++ x ∷ []) h
    ∙ ap (λ (k : ℕ). range_with_len 1 (length ns) ++ k ∷ [])
    (let n = next x refl in let e : x ≡ 1 + length ns = omega arith in e)
    ∙ sym (range_more 1 (length ns))
    ∙ ap (range_with_len 1) (let e : suc (length ns) ≡ length (ns ++ x ∷ []) = omega
    (arith, length-append ns (x ∷ [])) in e)

-- what is among n numbers from a on is at least a, and less than a + n; and the other way round
pub range_among : (a n k : ℕ) → is_among (range_with_len a n) k ≡ true → (a ≤ k) × (k < a + n)
range_among a zero k h = absurd cc
range_among a (suc n) k h = either (a == k) refl h (range_among (a + 1) n k)
  where
    either : (b : Bool) → (a == k) ≡ b → (b || is_among (range_with_len (a + 1) n) k) ≡ true
        → (is_among (range_with_len (a + 1) n) k ≡ true → (a + 1 ≤ k) × (k < a + 1 + n)) → (a ≤ k) × (k < a + suc n)
    either true e g rest = let q = eqb-true a k e in (omega arith, omega arith)
    either false e g rest = let r = rest g in (omega arith, omega arith)

pub range_there : (a n k : ℕ) → a ≤ k → k < a + n → is_among (range_with_len a n) k ≡ true
range_there a zero k h g = absurd (omega arith)
range_there a (suc n) k h g = either (a == k) refl (range_there (a + 1) n k)
  where
    either : (b : Bool) → (a == k) ≡ b → (a + 1 ≤ k → k < a + 1 + n → is_among (range_with_len (a + 1) n) k ≡ true)
        → (b || is_among (range_with_len (a + 1) n) k) ≡ true
    either true e rest = refl
    either false e rest = let ne = eqb-false a k e in rest (omega arith) (omega arith)

-- a number that is among numbered ones is at least 1 and at most their count
pub numbered_among : (ns : List ℕ) → IsNumbered ns → (n : ℕ) → is_among ns n ≡ true → (1 ≤ n) × (n ≤ length ns)
numbered_among ns h n k =
    let r = range_among 1 (length ns) n (ap (λ (ms : List ℕ). is_among ms n) (sym h) ∙ k) in
    (r.0, omega arith)

-- and the other way round
pub numbered_there : (ns : List ℕ) → IsNumbered ns → (n : ℕ) → 1 ≤ n → n ≤ length ns → is_among ns n ≡ true
numbered_there ns h n low high = ap (λ (ms : List ℕ). is_among ms n) h ∙ range_there 1 (length ns) n low (omega arith)

-- the next number is not among them
pub numbered_fresh : (ns : List ℕ) → IsNumbered ns → (n : ℕ) → n ≡ length ns + 1 → is_among ns n ≡ false
numbered_fresh ns h n e = decide (is_among ns n) refl
  where
    decide : (b : Bool) → is_among ns n ≡ b → b ≡ false
    decide false g = refl
    decide true g = let k = numbered_among ns h n g in absurd (omega arith)

-- what an allowed entry starts, joins, asks or enrols has the next number
pub started_number : (v : Version) (t : List ℕ → Bool) (J : History) (by m : ℕ) (d : Deed)
    → Allowed v t J (record { by = by; moment = m; deed = d }) → (x : ℕ) → started_by d ≡ Some x → x
    ≡ length (actions J) + 1
unfolding facts_of
started_number v t J by m (Start a parent limit) k x h =
    let e : a ≡ x = cc in
    let n = (start_kept v t (facts_of J) m a parent limit (entry_kept v t (facts_of J)
    (record { by = by; moment = m; deed = Start a parent limit }) k.unbroken).deed).number in
    sym e ∙ n
started_number v t J by m _ k x h = absurd cc

pub joined_number : (v : Version) (t : List ℕ → Bool) (J : History) (by m : ℕ) (d : Deed)
    → Allowed v t J (record { by = by; moment = m; deed = d }) → (x : ℕ) → joined_by d ≡ Some x → x ≡ length (members J)
    + 1
unfolding facts_of
joined_number v t J by m (Join p a uris) k x h =
    let e : p ≡ x = cc in
    let n = (join_kept v t (facts_of J) m p a uris (entry_kept v t (facts_of J)
    (record { by = by; moment = m; deed = Join p a uris }) k.unbroken).deed).number in
    sym e ∙ n
joined_number v t J by m _ k x h = absurd cc

pub asked_number : (v : Version) (t : List ℕ → Bool) (J : History) (by m : ℕ) (d : Deed)
    → Allowed v t J (record { by = by; moment = m; deed = d }) → (x : ℕ) → asked_by d ≡ Some x → x ≡ length (asks J) + 1
unfolding facts_of
asked_number v t J by m (Ask n p kind) k x h =
    let e : n ≡ x = cc in
    let q = (ask_kept v t (facts_of J) m n p kind (entry_kept v t (facts_of J)
    (record { by = by; moment = m; deed = Ask n p kind }) k.unbroken).deed).number in
    sym e ∙ q
asked_number v t J by m _ k x h = absurd cc

pub enrolled_number : (v : Version) (t : List ℕ → Bool) (J : History) (by m : ℕ) (d : Deed)
    → Allowed v t J (record { by = by; moment = m; deed = d }) → (x : ℕ)
    → enrolled_by (record { by = by; moment = m; deed = d }) ≡ Some x → x ≡ length (clerks J) + 1
unfolding facts_of
enrolled_number v t J by m Enrol k x h =
    let e : by ≡ x = cc in
    let q = (entry_kept v t (facts_of J) (record { by = by; moment = m; deed = Enrol }) k.unbroken).clerk in
    sym e ∙ eqb-true by (length (clerks J) + 1) q
enrolled_number v t J by m _ k x h = absurd cc

-- actions, members, asks and clerks of a legal history have the numbers from 1 on, in order
pub actions_numbered : (v : Version) (t : List ℕ → Bool) (J : History) → is_legal v t J ≡ true → IsNumbered (actions J)
unfolding actions
actions_numbered v t = legal_induction v t (λ J. IsNumbered (actions J)) refl
    (λ J e l k h. subst IsNumbered (sym (actions_push J e)) (numbered_push (actions J) (started_by e.deed)
    (started_number v t J e.by e.moment e.deed k) h))

pub members_numbered : (v : Version) (t : List ℕ → Bool) (J : History) → is_legal v t J ≡ true → IsNumbered (members J)
unfolding members
members_numbered v t = legal_induction v t (λ J. IsNumbered (members J)) refl
    (λ J e l k h. subst IsNumbered (sym (members_push J e)) (numbered_push (members J) (joined_by e.deed)
    (joined_number v t J e.by e.moment e.deed k) h))

pub asks_numbered : (v : Version) (t : List ℕ → Bool) (J : History) → is_legal v t J ≡ true → IsNumbered (asks J)
unfolding asks
asks_numbered v t = legal_induction v t (λ J. IsNumbered (asks J)) refl
    (λ J e l k h. subst IsNumbered (sym (asks_push J e)) (numbered_push (asks J) (asked_by e.deed)
    (asked_number v t J e.by e.moment e.deed k) h))

pub clerks_numbered : (v : Version) (t : List ℕ → Bool) (J : History) → is_legal v t J ≡ true → IsNumbered (clerks J)
unfolding clerks
clerks_numbered v t = legal_induction v t (λ J. IsNumbered (clerks J)) refl
    (λ J e l k h. subst IsNumbered (sym (clerks_push J e)) (numbered_push (clerks J) (enrolled_by e)
    (enrolled_number v t J e.by e.moment e.deed k) h))
