-- An entry leaves the wants and the deadlines of all that aren't listed as they were.
use Rattle.std.proofs.Common.{◌≡◌, ℕ, ◌+◌, ◌≤◌, arith, Bool, true, false, List, [], ◌∷◌, ◌++◌, length, Option, Some}
use Rattle.std.proofs.Common.{None, ◌⊎◌, inl, inr, refl, sym, ap, ◌∙◌, cond, append-nil, eqb-true}
use Rattle.std.proofs.Math.Bool.{or-false}
use Rattle.std.proofs.lemmas.Bool.{ltb-true, le-ltb}
use Rattle.std.specs.Prelude.{◌==◌, ◌&&◌, ◌||◌, nat_lt, is_some, unwrap_or, option_map, option_to_list}
use Rattle.std.specs.Option.{option_map_or, option_or}
use Rattle.std.specs.List.{cons_option, filter_map}
use Rattle.lra_model.specs.declared.version.Version.{Version}
use Rattle.lra_model.specs.declared.status.ActionStatus.{ActionStatus}
use Rattle.lra_model.specs.declared.status.ActionStatus.TheVariants as action
use Rattle.lra_model.specs.declared.asks.AskKind.{AskKind}
use Rattle.lra_model.specs.declared.asks.Cause.{Cause}
use Rattle.lra_model.specs.declared.asks.Direction.{Direction}
use Rattle.lra_model.specs.declared.entry.Deed.{Deed}
use Rattle.lra_model.specs.declared.entry.Deed.TheVariants.{Start, Join, Leave, Close, Cancel, Skip, Ask, Reply, Report}
use Rattle.lra_model.specs.declared.entry.Deed.TheVariants.{End, Restart, Renew}
use Rattle.lra_model.specs.Words.{when, same_kind, is_active, is_cancelling, has_ended, is_undecided}
use Rattle.lra_model.specs.History.{History, actions, started_by, members, joined_by, asks, is_among}
use Rattle.lra_model.specs.Actions.{parent, top, status_given, action_status, limit_given, limit_in_force, members_of}
use Rattle.lra_model.specs.Members.{Asked, ask_of, replied_at, action_of, is_outstanding, outstanding_ask}
use Rattle.lra_model.specs.Members.{ask_direction, members_under}
use Rattle.lra_model.specs.Ends.{action_is, top_has_ended}
use Rattle.lra_model.specs.Facts.{ActionFacts, MemberFacts, Facts, action_facts, member_facts, facts_of}
use Rattle.lra_model.specs.Tests.{status_is, parent_is, may_cancel}
use Rattle.lra_model.specs.Wants.{wanted, wants, stage_of, repeats}
use Rattle.lra_model.specs.Rules.{deed_rules, is_legal}
use Rattle.lra_laws.specs.Rows.{Standing, MemberRow, member_row, standing, void_at, void_asks, way_asked}
use Rattle.lra_laws.specs.Changes.{member_awaited, members_awaited, members_changed, actions_changed}
use Rattle.lra_laws.proofs.Push.{step, action_status_push, actions_push, members_push}
use Rattle.lra_laws.proofs.Endpoints.{repeat_of, repeats_push}
use Rattle.lra_laws.proofs.GoodLists.{among_here, among_there, among_filter}
use Rattle.lra_laws.proofs.GoodSpared.{close_active, cancel_case}
use Rattle.lra_laws.proofs.Legal.{Allowed, AllKept, at_action_from, entry_kept, close_kept, cancel_kept, action_fact}
use Rattle.lra_laws.proofs.Legal.{among_push, started_number, numbered_fresh}
use Rattle.lra_laws.proofs.Named.{state_is_lem, parent_stays}
use Rattle.lra_laws.proofs.Legal.{actions_numbered, asks_numbered, range_there}
use Rattle.lra_laws.proofs.Named.{member_there_push, action_of_there}
use Rattle.lra_laws.proofs.Legal.{legal_more}
use Rattle.lra_laws.proofs.Named.{members_of_lem}
use Rattle.lra_laws.proofs.RowLists.{eqb_self, eqb_flip, among_apart}
use Rattle.lra_laws.proofs.Told.{entry, more}
use Rattle.lra_laws.proofs.Tops.{top_stays, top_is_there, top_is_outermost, top_of_outermost}
use Rattle.lra_laws.proofs.MemberWords.{concerns, quiet_row, stand_quiet, void_push}
use Rattle.lra_laws.proofs.AskWords.{AsksListed, AsksStand, asks_listed, asks_stand, asked_of, stands_for, stands_yet}
use Rattle.lra_laws.proofs.AskWords.{is_asked_by, void_kept}
use Rattle.lra_laws.proofs.ActionWords.{status_kept, limit_kept}
use Rattle.lra_laws.proofs.WantedWay.{wanted_way}

-- two histories agree on what a member wants, if it is there, and on its repeats in that
pub record SameWants (J K : History) (p : ℕ) : Type 0 where
  pub there : is_among (members K) p ≡ is_among (members J) p
  pub want : is_among (members J) p ≡ true → wants K p ≡ wants J p
  pub repeats : is_among (members J) p ≡ true → (kind : AskKind) → wants J p ≡ Some kind
      → repeats K p (stage_of kind (ask_direction K p kind)) ≡ repeats J p (stage_of kind (ask_direction J p kind))

-- two histories agree on what an action's deadline goes by
pub record SameLimit (J K : History) (a : ℕ) : Type 0 where
  pub there : is_among (actions K) a ≡ is_among (actions J) a
  pub status : action_status K a ≡ action_status J a
  pub limit : limit_in_force K a ≡ limit_in_force J a

-- ---- what a want is read from

-- facts of one action
abbrev facts_with : Option ActionFacts → Facts
facts_with o = record {
  moment = 0;
  clerks = 0;
  actions = 0;
  members = 0;
  asks = 0;
  is_clerk = λ n. false;
  action = λ a. o;
  member = λ p. None;
  outstanding = λ n. None;
}

-- an action with what a want is read from alone
abbrev glance : ActionStatus → Bool → Option ℕ → ActionFacts
glance status ended parent = record {
  parent = parent;
  status = status;
  limit = record { length_of = 0; since = 0 };
  settled = false;
  right_end = status;
  top_has_ended = ended;
}

wanted_by_action : (f : Facts) (x : MemberFacts) (a : ActionFacts) → f.action x.action ≡ Some a → wanted f x
    ≡ wanted (facts_with (Some (glance a.status a.top_has_ended a.parent))) x
wanted_by_action f x a e = ap (λ (o : Option ActionFacts). wanted (facts_with o) x) e

wants_there : (J : History) (p : ℕ) → is_among (members J) p ≡ true → wants J p ≡ wanted (facts_of J) (member_facts J p)
unfolding wants facts_of
wants_there J p h = ap (λ (b : Bool). option_map_or (wanted (facts_of J)) (cond b (Some (member_facts J p)) None) None)
    h

action_there : (J : History) (a : ℕ) → is_among (actions J) a ≡ true → (facts_of J).action a ≡ Some (action_facts J a)
unfolding facts_of
action_there J a h = ap (λ (b : Bool). cond b (Some (action_facts J a)) None) h

-- what a member wants, by its facts and its action
wants_by : (J : History) (p : ℕ) → is_among (members J) p ≡ true → is_among (actions J) (action_of J p) ≡ true
    → wants J p ≡ wanted (facts_with
    (Some (glance (unwrap_or (action_status J (action_of J p)) action.Active) (top_has_ended J (action_of J p))
    (parent J (action_of J p))))) (member_facts J p)
wants_by J p h k = wants_there J p h ∙ wanted_by_action (facts_of J) (member_facts J p) (action_facts J (action_of J p))
    (action_there J (action_of J p) k)

-- ---- what an entry leaves alone

-- what a want is read from is the same in two histories
record Alike (J K : History) (p : ℕ) : Type 0 where
  row : member_row K p ≡ member_row J p
  asked : is_some (outstanding_ask K p) ≡ is_some (outstanding_ask J p)
  status : action_status K (action_of J p) ≡ action_status J (action_of J p)
  ended : top_has_ended K (action_of J p) ≡ top_has_ended J (action_of J p)
  parent : parent K (action_of J p) ≡ parent J (action_of J p)

facts_alike : (J K : History) (p : ℕ) → Alike J K p → member_facts K p ≡ member_facts J p
facts_alike J K p x = λ i. record {
  action = (x.row i).action;
  addresses = (x.row i).addresses;
  status = (x.row i).status;
  completion = (x.row i).completion;
  compensation = (x.row i).compensation;
  is_asked = x.asked i;
  has_forgotten = (x.row i).has_forgotten;
  was_told = (x.row i).was_told;
}

wants_alike : (v : Version) (t : List ℕ → Bool) (J K : History) (p : ℕ) → is_legal v t J ≡ true → is_legal v t K ≡ true
    → is_among (members J) p ≡ true → is_among (members K) p ≡ true → Alike J K p → wants K p ≡ wants J p
wants_alike v t J K p l k h g x =
    wants_by K p g (action_of_there v t K k p g)
    ∙ (λ i. wanted (facts_with
    (Some (glance (unwrap_or (action_status K (same i)) action.Active) (top_has_ended K (same i))
    (parent K (same i))))) (facts_alike J K p x i))
    ∙ (λ i. wanted (facts_with (Some (glance (unwrap_or (x.status i) action.Active) (x.ended i) (x.parent i))))
    (member_facts J p))
    ∙ sym (wants_by J p h (action_of_there v t J l p h))
  where
    same : action_of K p ≡ action_of J p
    same = ap (λ (r : MemberRow). r.action) x.row

-- ---- one that isn't listed

-- a number that isn't the one listed
apart : (q p : ℕ) → is_among (q ∷ []) p ≡ false → (q == p) ≡ false
apart q p h = sym (or-false (q == p)) ∙ h

-- an entry that lists it not doesn't concern a member
unconcerned : (J : History) (d : Deed) (p : ℕ) → is_among (members_changed J d) p ≡ false → concerns J d p ≡ false
unconcerned J (Join q a u) p h = apart q p h
unconcerned J (Leave q) p h = apart q p h
unconcerned J (Skip q) p h = apart q p h
unconcerned J (Ask n q kind) p h = apart q p h
unconcerned J (Report q o) p h = apart q p h
unconcerned J (Reply n o) p h = of_ask (ask_of J n) h
  where
    of_ask : (a : Option Asked) → is_among (option_map_or (λ (x : Asked). x.member ∷ []) a []) p ≡ false
        → option_map_or (λ (x : Asked). x.member == p) a false ≡ false
    of_ask None g = refl
    of_ask (Some x) g = apart x.member p g
unconcerned J d p h = refl

-- ---- asks that a restart makes void

-- what one of several numbers gives is among what they give
given_of : (f : ℕ → Option ℕ) (ns : List ℕ) (n p : ℕ) → is_among ns n ≡ true → f n ≡ Some p
    → is_among (filter_map f ns) p ≡ true
given_of f [] n p there gives = absurd cc
given_of f (m ∷ ns) n p there gives = either (m == n) refl there (λ h. given_of f ns n p h gives)
  where
    longer : (o : Option ℕ) → is_among (filter_map f ns) p ≡ true → is_among (cons_option o (filter_map f ns)) p ≡ true
    longer None h = h
    longer (Some k) h = among_there k (filter_map f ns) p h

    either : (b : Bool) → (m == n) ≡ b → (b || is_among ns n) ≡ true →
        (is_among ns n ≡ true → is_among (filter_map f ns) p ≡ true) → is_among (cons_option (f m) (filter_map f ns)) p
        ≡ true
    either true e h rest = ap (λ (o : Option ℕ). is_among (cons_option o (filter_map f ns)) p)
        (ap f (eqb-true m n e) ∙ gives) ∙ among_here p (filter_map f ns)
    either false e h rest = longer (f m) (rest h)

-- of one that isn't listed no ask is outstanding
unasked : (v : Version) (t : List ℕ → Bool) (J : History) (p : ℕ) → is_legal v t J ≡ true
    → is_among (members_awaited J) p ≡ false → is_some (outstanding_ask J p) ≡ false
unasked v t J p l h = is_asked_by J p list stand ∙ of_standing (standing J p) refl
  where
    list : AsksListed J
    list = asks_listed v t J l

    stand : AsksStand J
    stand = asks_stand v t J l

    -- the ask that stands with the member, where it isn't void
    there : (s : Standing) → standing J p ≡ Some s → nat_lt (void_asks J) s.number ≡ true → is_among (asks J) s.number
        ≡ true
    there s e g =
        ap (λ (ns : List ℕ). is_among ns s.number) (asks_numbered v t J l)
        ∙ range_there 1 (length (asks J)) s.number (let lower = ltb-true (void_asks J) s.number g in omega arith)
        (let upper = list.below s.number (asked_of p s) (stand.stands p s e) in omega arith)

    gives : (s : Standing) → standing J p ≡ Some s → nat_lt (void_asks J) s.number ≡ true → member_awaited J s.number
        ≡ Some p
    gives s e g =
        ap (λ (o : Option Asked). option_map_or (λ (x : Asked). when (is_outstanding J s.number) x.member) o None)
        (stand.stands p s e)
        ∙ ap (λ (b : Bool). when b p) (stand.outstanding s.number ∙ ap (stands_yet J s.number) (stand.stands p s e)
        ∙ (λ i. g i && stands_for (e i) s.number) ∙ eqb_self s.number)

    of_standing : (o : Option Standing) → standing J p ≡ o → option_map_or
        (λ (s : Standing). nat_lt (void_asks J) s.number) o false ≡ false
    of_standing None e = refl
    of_standing (Some s) e = decide (nat_lt (void_asks J) s.number) refl
      where
        decide : (b : Bool) → nat_lt (void_asks J) s.number ≡ b → b ≡ false
        decide false g = refl
        decide true g = sym (given_of (member_awaited J) (asks J) s.number p (there s e g) (gives s e g)) ∙ h

-- after a restart none is outstanding at all
none_asked : (v : Version) (t : List ℕ → Bool) (J : History) (by m p : ℕ) → is_legal v t J ≡ true
    → is_legal v t (more J by m Restart) ≡ true → is_some (outstanding_ask (more J by m Restart) p) ≡ false
none_asked v t J by m p l k =
    is_asked_by (more J by m Restart) p (asks_listed v t (more J by m Restart) k)
    (asks_stand v t (more J by m Restart) k)
    ∙ (λ i. option_map_or (λ (s : Standing). nat_lt (void_push J (entry by m Restart) i) s.number)
    (stand_quiet J by m Restart p refl i) false)
    ∙ of_standing (standing J p) refl
  where
    of_standing : (o : Option Standing) → standing J p ≡ o → option_map_or
        (λ (s : Standing). nat_lt (length (asks J)) s.number) o false ≡ false
    of_standing None e = refl
    of_standing (Some s) e = le-ltb (length (asks J)) s.number ((asks_listed v t J l).below s.number (asked_of p s)
        ((asks_stand v t J l).stands p s e))

-- so whether an ask is outstanding stays, of one that isn't listed
asked_kept : (v : Version) (t : List ℕ → Bool) (J : History) (by m : ℕ) (d : Deed) (p : ℕ) → is_legal v t J ≡ true
    → is_legal v t (more J by m d) ≡ true → is_among (members_changed J d) p ≡ false
    → is_some (outstanding_ask (more J by m d) p) ≡ is_some (outstanding_ask J p)
asked_kept v t J by m d p l k h = by_deed d h k
  where
    still : (d : Deed) → is_among (members_changed J d) p ≡ false → is_legal v t (more J by m d) ≡ true
        → void_at (step J (entry by m d)) ≡ None → is_some (outstanding_ask (more J by m d) p)
        ≡ is_some (outstanding_ask J p)
    still d h k same =
        is_asked_by (more J by m d) p (asks_listed v t (more J by m d) k) (asks_stand v t (more J by m d) k)
        ∙ (λ i. option_map_or (λ (s : Standing). nat_lt (void_kept J by m d same i) s.number)
        (stand_quiet J by m d p (unconcerned J d p h) i) false)
        ∙ sym (is_asked_by J p (asks_listed v t J l) (asks_stand v t J l))

    by_deed : (d : Deed) → is_among (members_changed J d) p ≡ false → is_legal v t (more J by m d) ≡ true
        → is_some (outstanding_ask (more J by m d) p) ≡ is_some (outstanding_ask J p)
    by_deed Restart h k = none_asked v t J by m p l k ∙ sym (unasked v t J p l h)
    by_deed d h k = still d h k refl

-- no void ask is outstanding
pub void_unasked : (v : Version) (t : List ℕ → Bool) (J : History) (n : ℕ) → is_legal v t J ≡ true → n ≤ void_asks J
    → member_awaited J n ≡ None
void_unasked v t J n l h = of_ask (ask_of J n) refl
  where
    of_ask : (o : Option Asked) → ask_of J n ≡ o → option_map_or (λ (x : Asked). when (is_outstanding J n) x.member) o
        None ≡ None
    of_ask None e = refl
    of_ask (Some x) e =
        ap (λ (b : Bool). when b x.member)
        ((asks_stand v t J l).outstanding n ∙ ap (stands_yet J n) e ∙ ap
        (λ (b : Bool). b && stands_for (standing J x.member) n) (le-ltb (void_asks J) n h))

-- ---- actions whose status it changes

-- the members of an outermost action and of all below it
pub under_lem : (J : History) (c p : ℕ) → is_among (members_under J c) p
    ≡ (is_among (members J) p && (top J (action_of J p) == c))
unfolding members_under
under_lem J c p = among_filter (λ q. top J (action_of J q) == c) (members J) p

-- a test of two parts, the first of which holds, that fails
second_fails : (a b c : Bool) → c ≡ (a && b) → a ≡ true → c ≡ false → b ≡ false
second_fails true b c e g h = sym e ∙ h
second_fails false b c e g h = absurd cc

-- an entry that lists a member not leaves its action as it is
unturned : (v : Version) (t : List ℕ → Bool) (J : History) (by m : ℕ) (d : Deed) (p : ℕ) → is_legal v t J ≡ true
    → Allowed v t J (entry by m d) → is_among (members J) p ≡ true → is_among (members_changed J d) p ≡ false
    → status_given (action_of J p) d ≡ None
unturned v t J by m d p l k g h = by_deed d h (started_number v t J by m d k)
  where
    other : (c : ℕ) → is_among (members_of J c) p ≡ false → (c == action_of J p) ≡ false
    other c n = eqb_flip (action_of J p) c (second_fails (is_among (members J) p) (action_of J p == c)
        (is_among (members_of J c) p) (members_of_lem v t J l c p) g n)

    below : (c : ℕ) → parent J c ≡ None → is_among (members_under J c) p ≡ false → (b : Bool) → (c == action_of J p) ≡ b
        → b ≡ false
    below c none n false e = refl
    below c none n true e =
        let same : c ≡ action_of J p = eqb-true c (action_of J p) e in
        let top_same : top J (action_of J p) ≡ c = ap (top J) (sym same) ∙ top_of_outermost v t J l c none in
        sym (eqb_self c) ∙ ap (λ (x : ℕ). x == c) (sym top_same) ∙ second_fails (is_among (members J) p)
        (top J (action_of J p) == c) (is_among (members_under J c) p) (under_lem J c p) g n

    ends : (c : ℕ) (o : Option ℕ) → parent J c ≡ o → is_among (cond (is_some o) (members_of J c) (members_under J c)) p
        ≡ false → (c == action_of J p) ≡ false
    ends c (Some b) e n = other c n
    ends c None e n = below c e n (c == action_of J p) refl

    by_deed : (d : Deed) → is_among (members_changed J d) p ≡ false → ((x : ℕ) → started_by d ≡ Some x → x
        ≡ length (actions J) + 1) → status_given (action_of J p) d ≡ None
    by_deed (Start c above limit) n new =
        ap (λ (b : Bool). when b action.Active) (among_apart (actions J) (action_of J p) c (action_of_there v t J l p g)
        (numbered_fresh (actions J) (actions_numbered v t J l) c (new c refl)))
    by_deed (Close c cause) n new = ap (λ (b : Bool). when b action.Closing) (other c n)
    by_deed (Cancel c cause) n new = ap (λ (b : Bool). when b action.Cancelling) (other c n)
    by_deed (End c s) n new = ap (λ (b : Bool). when b s) (ends c (parent J c) refl n)
    by_deed _ n new = refl

-- the status of the outermost action above a member doesn't change, or it has ended neither before nor after
Unended : History → Deed → ℕ → Type 0
Unended J d t = (status_given t d ≡ None) ⊎ ((option_map_or has_ended (status_given t d) false ≡ false)
    × (action_is has_ended J t ≡ false))

active_unended : (J : History) (a : ℕ) → action_is is_active J a ≡ true → action_is has_ended J a ≡ false
active_unended J a = one (action_status J a)
  where
    of_status : (s : ActionStatus) → is_active s ≡ true → has_ended s ≡ false
    of_status action.Active h = refl
    of_status _ h = absurd cc

    one : (o : Option ActionStatus) → option_map_or is_active o false ≡ true → option_map_or has_ended o false ≡ false
    one None h = absurd cc
    one (Some s) h = of_status s h

unended : (v : Version) (t : List ℕ → Bool) (J : History) (by m : ℕ) (d : Deed) (p : ℕ) → is_legal v t J ≡ true
    → Allowed v t J (entry by m d) → is_among (members J) p ≡ true → is_among (members_changed J d) p ≡ false
    → Unended J d (top J (action_of J p))
unfolding Unended
unended v t J by m d p l k g h = by_deed d h (started_number v t J by m d k)
    (entry_kept v t (facts_of J) (entry by m d) k.unbroken).deed
  where
    outer : ℕ
    outer = top J (action_of J p)

    alone : parent J outer ≡ None
    alone = top_is_outermost v t J l (action_of J p)

    -- an action whose status an entry changes from Active
    from_active : (c : ℕ) (now : ActionStatus) (b : Bool) → (c == outer) ≡ b → has_ended now ≡ false
        → ((c == outer) ≡ true → action_is is_active J outer ≡ true)
        → (when (c == outer) now ≡ None) ⊎ ((option_map_or has_ended (when (c == outer) now) false ≡ false)
        × (action_is has_ended J outer ≡ false))
    from_active c now false e goes active = inl (ap (λ (b : Bool). when b now) e)
    from_active c now true e goes active = inr (
      ap (λ (b : Bool). option_map_or has_ended (when b now) false) e
          ∙ goes,
      active_unended J outer (active e),
    )

    active_at : (c : ℕ) → status_is is_active (facts_of J) c ≡ true → (c == outer) ≡ true → action_is is_active J outer
        ≡ true
    active_at c h e = ap (action_is is_active J) (sym (eqb-true c outer e)) ∙ sym (state_is_lem v t J l is_active c) ∙ h

    no_parent : (c : ℕ) (test : ActionStatus → Bool) → (c == outer) ≡ true
        → parent_is test (facts_of J) (action_facts J c) ≡ true → ⊥
    no_parent c test e h =
        let x : false ≡ true = sym (ap (λ (o : Option ℕ). option_map_or (status_is test (facts_of J)) o false)
        (ap (parent J) (eqb-true c outer e) ∙ alone)) ∙ h in
        (cc)

    cancelled : (c : ℕ) (cause : Cause) → AllKept (deed_rules v t (facts_of J) m (Cancel c cause)) → (c == outer) ≡ true
        → action_is is_active J outer ≡ true
    cancelled c cause r e =
        let fact = action_fact (may_cancel v m cause (facts_of J)) J c (cancel_kept v t (facts_of J) m c cause r).may in
        by_case (cancel_case v m cause (facts_of J) (action_facts J c) fact.1) fact.0
      where
        by_case : (is_active (action_facts J c).status ≡ true) ⊎ (parent_is is_active (facts_of J) (action_facts J c)
            ≡ true) ⊎ (parent_is is_cancelling (facts_of J) (action_facts J c) ≡ true)
            → is_among (actions J) c ≡ true → action_is is_active J outer ≡ true
        by_case (inl x) there = active_at c (at_action_from (λ (y : ActionFacts). is_active y.status) J c there x) e
        by_case (inr (inl x)) there = absurd (no_parent c is_active e x)
        by_case (inr (inr x)) there = absurd (no_parent c is_cancelling e x)

    ended : (c : ℕ) (s : ActionStatus) (o : Option ℕ) → parent J c ≡ o
        → is_among (cond (is_some o) (members_of J c) (members_under J c)) p ≡ false → (b : Bool) → (c == outer) ≡ b
        → when b s ≡ None
    ended c s o e n false i = refl
    ended c s (Some b) e n true i = absurd
        (let x : Some b ≡ None = sym e ∙ ap (parent J) (eqb-true c outer i) ∙ alone in cc)
    ended c s None e n true i =
        let x : (outer == c) ≡ false = second_fails (is_among (members J) p) (outer == c)
        (is_among (members_under J c) p) (under_lem J c p) g n in
        let y : (outer == c) ≡ true = ap (λ (z : ℕ). outer == z) (eqb-true c outer i) ∙ eqb_self outer in
        absurd (cc)

    by_deed : (d : Deed) → is_among (members_changed J d) p ≡ false → ((x : ℕ) → started_by d ≡ Some x → x
        ≡ length (actions J) + 1) → AllKept (deed_rules v t (facts_of J) m d)
        → (status_given outer d ≡ None) ⊎ ((option_map_or has_ended (status_given outer d) false ≡ false)
        × (action_is has_ended J outer ≡ false))
    by_deed (Start c above limit) n new r =
        inl (ap (λ (b : Bool). when b action.Active) (among_apart (actions J) outer c
        (top_is_there v t J l (action_of J p) (action_of_there v t J l p g))
        (numbered_fresh (actions J) (actions_numbered v t J l) c (new c refl))))
    by_deed (Close c cause) n new r = from_active c action.Closing (c == outer) refl refl
        (active_at c (close_active (facts_of J) c cause (close_kept v t (facts_of J) m c cause r).may))
    by_deed (Cancel c cause) n new r = from_active c action.Cancelling (c == outer) refl refl (cancelled c cause r)
    by_deed (End c s) n new r = inl (ended c s (parent J c) refl n (c == outer) refl)
    by_deed _ n new r = inl refl

-- so whether it has ended stays
ended_still : (v : Version) (t : List ℕ → Bool) (J : History) (by m : ℕ) (d : Deed) (a : ℕ) → is_legal v t J ≡ true
    → is_among (actions J) a ≡ true → Unended J d (top J a) → top_has_ended (more J by m d) a ≡ top_has_ended J a
unfolding Unended top_has_ended
ended_still v t J by m d a l h u = ap (action_is has_ended (more J by m d)) (top_stays v t J (entry by m d) l a h)
    ∙ either u
  where
    combined : (o s : Option ActionStatus) → option_map_or has_ended o false ≡ false → option_map_or has_ended s false
        ≡ false → option_map_or has_ended (option_or o s) false ≡ option_map_or has_ended s false
    combined None s x y = refl
    combined (Some z) s x y = x ∙ sym y

    either : (status_given (top J a) d ≡ None) ⊎ ((option_map_or has_ended (status_given (top J a) d) false ≡ false)
        × (action_is has_ended J (top J a) ≡ false)) → action_is has_ended (more J by m d) (top J a)
        ≡ action_is has_ended J (top J a)
    either (inl none) = ap (λ (o : Option ActionStatus). option_map_or has_ended o false)
        (status_kept J by m d (top J a) none)
    either (inr x) = ap (λ (o : Option ActionStatus). option_map_or has_ended o false)
        (action_status_push J (entry by m d) (top J a)) ∙ combined (status_given (top J a) d)
        (action_status J (top J a)) x.0 x.1

-- ---- one more entry

repeats_kept : (J : History) (by m : ℕ) (d : Deed) (p : ℕ) (stage : AskKind) → concerns J d p ≡ false
    → repeats (more J by m d) p stage ≡ repeats J p stage
repeats_kept J by m d p stage h =
    repeats_push J (entry by m d) p stage
    ∙ ap (λ (o : Option ℕ). repeats J p stage ++ option_to_list o) (none d h)
    ∙ append-nil (repeats J p stage)
  where
    none : (d : Deed) → concerns J d p ≡ false → option_map_or (repeat_of p stage) (replied_at (step J (entry by m d)))
        None ≡ None
    none (Reply n o) g = of_ask (ask_of J n) g
      where
        of_ask : (a : Option Asked) → option_map_or (λ (x : Asked). x.member == p) a false ≡ false
            → option_map_or (repeat_of p stage) (option_map (λ (x : Asked). record { to = x; outcome = o; moment = m })
            a) None ≡ None
        of_ask None e = refl
        of_ask (Some x) e = ap (λ (b : Bool). when (b && same_kind (stage_of x.kind x.direction) stage
            && is_undecided o) m) e
    none _ g = refl

-- the wants of a member that isn't listed stay
pub wants_kept : (v : Version) (t : List ℕ → Bool) (J : History) (by m : ℕ) (d : Deed) (p : ℕ) → is_legal v t J ≡ true
    → Allowed v t J (entry by m d) → is_among (members_changed J d) p ≡ false → SameWants J (more J by m d) p
wants_kept v t J by m d p l k h = record {
  there = members_push_at d h;
  want = want;
  repeats = λ g kind w.
      repeats_kept J by m d p (stage_of kind (ask_direction K p kind)) quiet
      ∙ ap (λ (way : Direction). repeats J p (stage_of kind way))
      (wanted_way K p kind (want g ∙ w) ∙ ap (λ (r : MemberRow). way_asked kind r.status) (quiet_row J by m d p quiet)
      ∙ sym (wanted_way J p kind w));
}
  where
    K : History
    K = more J by m d

    later : is_legal v t K ≡ true
    later = legal_more v t J (entry by m d) l k

    quiet : concerns J d p ≡ false
    quiet = unconcerned J d p h

    members_push_at : (d : Deed) → is_among (members_changed J d) p ≡ false → is_among (members (more J by m d)) p
        ≡ is_among (members J) p
    members_push_at d n = ap (λ (ns : List ℕ). is_among ns p) (members_push J (entry by m d))
        ∙ among_push (members J) (joined_by d) p ∙ ap (λ (b : Bool). is_among (members J) p || b) (not_joined d n)
        ∙ or-false (is_among (members J) p)
      where
        not_joined : (d : Deed) → is_among (members_changed J d) p ≡ false
            → option_map_or (λ q. q == p) (joined_by d) false ≡ false
        not_joined (Join q a uris) i = apart q p i
        not_joined _ i = refl

    want : is_among (members J) p ≡ true → wants K p ≡ wants J p
    want g = wants_alike v t J K p l later g (member_there_push J (entry by m d) p g) (record {
      row = quiet_row J by m d p quiet;
      asked = asked_kept v t J by m d p l later h;
      status = status_kept J by m d (action_of J p) (unturned v t J by m d p l k g h);
      ended = ended_still v t J by m d (action_of J p) l there (unended v t J by m d p l k g h);
      parent = parent_stays J (entry by m d) (action_of J p) there;
    })
      where
        there : is_among (actions J) (action_of J p) ≡ true
        there = action_of_there v t J l p g

-- what the deadline of an action that isn't listed goes by stays
pub limits_kept : (J : History) (by m : ℕ) (d : Deed) (a : ℕ) → is_among (actions_changed d) a ≡ false
    → SameLimit J (more J by m d) a
limits_kept J by m d a h = record {
  there = ap (λ (ns : List ℕ). is_among ns a) (actions_push J (entry by m d)) ∙ among_push (actions J) (started_by d) a
      ∙ ap (λ (b : Bool). is_among (actions J) a || b) (not_started d h) ∙ or-false (is_among (actions J) a);
  status = status_kept J by m d a (not_turned d h);
  limit = limit_kept J by m d a (not_renewed d h);
}
  where
    not_started : (d : Deed) → is_among (actions_changed d) a ≡ false → option_map_or (λ c. c == a) (started_by d) false
        ≡ false
    not_started (Start c above limit) i = apart c a i
    not_started _ i = refl

    not_turned : (d : Deed) → is_among (actions_changed d) a ≡ false → status_given a d ≡ None
    not_turned (Start c above limit) i = ap (λ (b : Bool). when b action.Active) (apart c a i)
    not_turned (Close c cause) i = ap (λ (b : Bool). when b action.Closing) (apart c a i)
    not_turned (Cancel c cause) i = ap (λ (b : Bool). when b action.Cancelling) (apart c a i)
    not_turned (End c s) i = ap (λ (b : Bool). when b s) (apart c a i)
    not_turned _ i = refl

    not_renewed : (d : Deed) → is_among (actions_changed d) a ≡ false → limit_given a (entry by m d) ≡ None
    not_renewed (Start c above limit) i = ap (λ (b : Bool). when b (record { length_of = limit; since = m }))
        (apart c a i)
    not_renewed (Renew c limit) i = ap (λ (b : Bool). when b (record { length_of = limit; since = m })) (apart c a i)
    not_renewed _ i = refl
