-- The rows of the actions after one more entry.
use Rattle.std.proofs.Common.{◌≡◌, ℕ, ◌+◌, Bool, true, false, List, length, map, Option, Some, None, refl, sym, ap, ◌∙◌}
use Rattle.std.proofs.Common.{cond, arith}
use Rattle.std.specs.Prelude.{◌==◌, ◌&&◌, is_some, unwrap_or, count_by}
use Rattle.std.specs.Option.{option_map_or, option_or}
use Rattle.lra_model.specs.declared.status.ActionStatus.{ActionStatus}
use Rattle.lra_model.specs.declared.status.ActionStatus.TheVariants as action
use Rattle.lra_model.specs.declared.status.MemberStatus.{MemberStatus}
use Rattle.lra_model.specs.declared.entry.Deed.{Deed}
use Rattle.lra_model.specs.declared.entry.Deed.TheVariants.{Join, Renew}
use Rattle.lra_model.specs.declared.version.Version.{Version}
use Rattle.lra_model.specs.Addresses as texts
use Rattle.lra_model.specs.Words.{when, has_failed}
use Rattle.lra_model.specs.History.{History, actions, started_by, members, joined_by, is_among}
use Rattle.lra_model.specs.Actions as words
use Rattle.lra_model.specs.Actions.{Limit, parent_given, parent, top, status_given, action_status, limit_given}
use Rattle.lra_model.specs.Actions.{limit_in_force}
use Rattle.lra_model.specs.Members.{action_of}
use Rattle.lra_model.specs.Ends.{action_is}
use Rattle.lra_model.specs.Rules.{is_legal}
use Rattle.lra_laws.proofs.Push.{action_status_push, limit_push, members_push}
use Rattle.lra_laws.proofs.Legal.{Allowed, legal_more, numbered_fresh, actions_numbered, members_numbered}
use Rattle.lra_laws.proofs.Named.{status_is_there, parent_stays, parent_there, action_of_there}
use Rattle.lra_laws.specs.Rows.{MemberRow, ActionRow, member_row, action_row, count_staying, count_children, counts_as}
use Rattle.lra_laws.specs.Rows.{is_left_to_complete, is_left_to_compensate, is_uncompleted, is_uncompensated}
use Rattle.lra_laws.specs.Rows.{is_unended, is_uncancelled, recount, one, with_member, with_new_member, with_child}
use Rattle.lra_laws.specs.Rows.{change_row, new_member}
use Rattle.lra_laws.proofs.RowLists.{eqb_self, among_apart, map_within, count_within, count_push, counted_anew}
use Rattle.lra_laws.proofs.RowLists.{rows_changed}
use Rattle.lra_laws.proofs.Told.{entry, more}
use Rattle.lra_laws.proofs.MemberWords.{concerns, quiet_row}
use Rattle.lra_laws.proofs.MemberRows.{members_stay, joined_row}
use Rattle.lra_laws.proofs.Tops.{top_stays}
use Rattle.lra_laws.proofs.ActionWords.{counts_in, staying_count, is_parent, children_count, status_kept, limit_kept}
use Rattle.lra_laws.proofs.ActionWords.{actions_stay}

-- a row, by its parts
pub row_is : (K : History) (a : ℕ) (r : ActionRow) → parent K a ≡ r.parent → top K a ≡ r.top
    → unwrap_or (action_status K a) action.Active ≡ r.status → (limit_in_force K a) ≡ r.limit
    → count_staying is_left_to_complete K a ≡ r.completing → count_staying is_left_to_compensate K a ≡ r.compensating
    → count_staying is_uncompleted K a ≡ r.uncompleted → count_staying is_uncompensated K a ≡ r.uncompensated
    → count_children is_unended K a ≡ r.unended → count_children is_uncancelled K a ≡ r.uncancelled
    → count_children has_failed K a ≡ r.failed → action_row K a ≡ r
row_is K a r p t s l c d e f x y z = λ i. record {
  parent = p i;
  top = t i;
  status = s i;
  limit = l i;
  completing = c i;
  compensating = d i;
  uncompleted = e i;
  uncompensated = f i;
  unended = x i;
  uncancelled = y i;
  failed = z i;
}

recount_same : (n : ℕ) → recount false false n ≡ n
recount_same n = omega arith

-- ---- counts that stay

pub staying_still : (v : Version) (t : List ℕ → Bool) (J : History) (by m : ℕ) (d : Deed) → is_legal v t J ≡ true
    → Allowed v t J (entry by m d) → joined_by d ≡ None → ((p : ℕ) → concerns J d p ≡ false)
    → (test : MemberStatus → Bool) (a : ℕ) → count_staying test (more J by m d) a ≡ count_staying test J a
staying_still v t J by m d l k none quiet test a =
    staying_count v t (more J by m d) (legal_more v t J (entry by m d) l k) test a
    ∙ ap (count_by (λ p. counts_in test a (member_row (more J by m d) p))) (members_stay J by m d none)
    ∙ count_within (λ p. counts_in test a (member_row (more J by m d) p)) (λ p. counts_in test a (member_row J p))
    (members J) (λ p h. ap (counts_in test a) (quiet_row J by m d p (quiet p)))
    ∙ sym (staying_count v t J l test a)

nested_still : (v : Version) (t : List ℕ → Bool) (J : History) (by m : ℕ) (d : Deed) → is_legal v t J ≡ true
    → Allowed v t J (entry by m d) → started_by d ≡ None → ((a : ℕ) → status_given a d ≡ None)
    → (test : ActionStatus → Bool) (a : ℕ) → count_children test (more J by m d) a ≡ count_children test J a
nested_still v t J by m d l k none no_turn test a =
    children_count v t (more J by m d) (legal_more v t J (entry by m d) l k) test a
    ∙ ap (count_by (λ c. is_parent a (parent (more J by m d) c) && action_is test (more J by m d) c))
    (actions_stay J by m d none)
    ∙ count_within (λ c. is_parent a (parent (more J by m d) c) && action_is test (more J by m d) c)
    (λ c. is_parent a (parent J c) && action_is test J c) (actions J)
    (λ c h i. is_parent a (parent_stays J (entry by m d) c h i) && option_map_or test
    (status_kept J by m d c (no_turn c) i) false)
    ∙ sym (children_count v t J l test a)

-- ---- an entry that changes no action's status and concerns no member

pub still_row : (v : Version) (t : List ℕ → Bool) (J : History) (by m : ℕ) (d : Deed) → is_legal v t J ≡ true
    → Allowed v t J (entry by m d) → joined_by d ≡ None → started_by d ≡ None → ((p : ℕ) → concerns J d p ≡ false)
    → ((a : ℕ) → status_given a d ≡ None)
    → (a : ℕ) → is_among (actions J) a ≡ true → (lim : Limit) → (limit_in_force (more J by m d) a) ≡ lim
    → action_row (more J by m d) a ≡ record (action_row J a) { limit = lim }
still_row v t J by m d l k no_join no_start quiet no_turn a h lim g =
    row_is (more J by m d) a (record (action_row J a) { limit = lim })
    (parent_stays J (entry by m d) a h) (top_stays v t J (entry by m d) l a h)
    (ap (λ (o : Option ActionStatus). unwrap_or o action.Active) (status_kept J by m d a (no_turn a))) g
    (staying is_left_to_complete) (staying is_left_to_compensate) (staying is_uncompleted) (staying is_uncompensated)
    (nested is_unended) (nested is_uncancelled) (nested has_failed)
  where
    staying : (test : MemberStatus → Bool) → count_staying test (more J by m d) a ≡ count_staying test J a
    staying test = staying_still v t J by m d l k no_join quiet test a

    nested : (test : ActionStatus → Bool) → count_children test (more J by m d) a ≡ count_children test J a
    nested test = nested_still v t J by m d l k no_start no_turn test a

-- no row changes
pub actions_still : (v : Version) (t : List ℕ → Bool) (J : History) (by m : ℕ) (d : Deed) → is_legal v t J ≡ true
    → Allowed v t J (entry by m d) → joined_by d ≡ None → started_by d ≡ None → ((p : ℕ) → concerns J d p ≡ false)
    → ((a : ℕ) → status_given a d ≡ None)
    → ((a : ℕ) → limit_given a (entry by m d) ≡ None) → map (action_row (more J by m d)) (actions (more J by m d))
    ≡ map (action_row J) (actions J)
actions_still v t J by m d l k no_join no_start quiet no_turn no_limit =
    ap (map (action_row (more J by m d))) (actions_stay J by m d no_start)
    ∙ map_within (action_row (more J by m d)) (action_row J) (actions J)
    (λ a h. still_row v t J by m d l k no_join no_start quiet no_turn a h ((limit_in_force J a))
    ((limit_kept J by m d a (no_limit a))))

-- a limit is renewed
pub actions_renewed : (v : Version) (t : List ℕ → Bool) (J : History) (by m c limit : ℕ) → is_legal v t J ≡ true
    → Allowed v t J (entry by m (Renew c limit)) → is_among (actions J) c ≡ true
    → map (action_row (more J by m (Renew c limit))) (actions (more J by m (Renew c limit)))
    ≡ change_row (λ (r : ActionRow). record r { limit = record { length_of = limit; since = m } }) c
    (map (action_row J) (actions J))
actions_renewed v t J by m c limit l k there =
    ap (map (action_row (more J by m d))) (actions_stay J by m d refl)
    ∙ rows_changed (λ (r : ActionRow). record r { limit = record { length_of = limit; since = m } }) (action_row J)
    (action_row (more J by m d)) (actions J) c (actions_numbered v t J l) there
    (λ q h x. still_row v t J by m d l k refl refl (λ p. refl) (λ b. refl) q h ((limit_in_force J q))
    ((limit_push J (entry by m d) q ∙ ap (λ (b : Bool). unwrap_or (when b new) (limit_in_force J q)) x)))
    (still_row v t J by m d l k refl refl (λ p. refl) (λ b. refl) c there (record { length_of = limit; since = m })
    ((limit_push J (entry by m d) c ∙ ap (λ (b : Bool). unwrap_or (when b new) (limit_in_force J c)) (eqb_self c))))
  where
    d : Deed
    d = Renew c limit

    new : words.Limit
    new = record { length_of = limit; since = m }

-- ---- an entry that concerns one member

staying_of_one : (v : Version) (t : List ℕ → Bool) (J : History) (by m : ℕ) (d : Deed) (p : ℕ)
    (f : MemberRow → MemberRow) → is_legal v t J ≡ true → Allowed v t J (entry by m d) → joined_by d ≡ None
    → is_among (members J) p ≡ true → ((q : ℕ) → (p == q) ≡ false → concerns J d q ≡ false)
    → member_row (more J by m d) p ≡ f (member_row J p) → (test : MemberStatus → Bool) (a : ℕ)
    → count_staying test (more J by m d) a ≡ recount (counts_in test a (member_row J p))
    (counts_in test a (f (member_row J p))) (count_staying test J a)
staying_of_one v t J by m d p f l k none there quiet here test a =
    staying_count v t (more J by m d) (legal_more v t J (entry by m d) l k) test a
    ∙ ap (count_by (λ q. counts_in test a (member_row (more J by m d) q))) (members_stay J by m d none)
    ∙ counted_anew (λ q. counts_in test a (member_row J q)) (λ q. counts_in test a (member_row (more J by m d) q))
    (members J) p (members_numbered v t J l) there (λ q h x. ap (counts_in test a)
    (quiet_row J by m d q (quiet q x)))
    ∙ sym (ap (recount (counts_in test a (member_row J p)) (counts_in test a (member_row (more J by m d) p)))
    (staying_count v t J l test a))
    ∙ ap (λ (r : MemberRow). recount (counts_in test a (member_row J p)) (counts_in test a r) (count_staying test J a))
    here

-- its action counts anew, and the others stay
member_of_row : (v : Version) (t : List ℕ → Bool) (J : History) (by m : ℕ) (d : Deed) (p : ℕ)
    (f : MemberRow → MemberRow) → is_legal v t J ≡ true → Allowed v t J (entry by m d) → joined_by d ≡ None
    → started_by d ≡ None
    → is_among (members J) p ≡ true → ((q : ℕ) → (p == q) ≡ false → concerns J d q ≡ false)
    → ((a : ℕ) → status_given a d ≡ None) → ((a : ℕ) → limit_given a (entry by m d) ≡ None)
    → member_row (more J by m d) p ≡ f (member_row J p) → (f (member_row J p)).action ≡ (member_row J p).action
    → (a : ℕ) → is_among (actions J) a ≡ true → (b : Bool) → (action_of J p == a) ≡ b → action_row (more J by m d) a
    ≡ cond b (with_member (member_row J p) (f (member_row J p)) (action_row J a)) (action_row J a)
member_of_row v t J by m d p f l k no_join no_start there quiet no_turn no_limit here same a h = by_test
  where
    staying : (test : MemberStatus → Bool) (b : Bool) → (action_of J p == a) ≡ b → count_staying test (more J by m d) a
        ≡ recount (b && counts_as test (member_row J p)) (b && counts_as test (f (member_row J p)))
        (count_staying test J a)
    staying test b e =
        staying_of_one v t J by m d p f l k no_join there quiet here test a
        ∙ (λ i. recount (e i && counts_as test (member_row J p)) (((same i) == a)
        && counts_as test (f (member_row J p))) (count_staying test J a))
        ∙ ap (λ (c : Bool). recount (b && counts_as test (member_row J p)) (c && counts_as test (f (member_row J p)))
        (count_staying test J a)) e

    nested : (test : ActionStatus → Bool) → count_children test (more J by m d) a ≡ count_children test J a
    nested test = nested_still v t J by m d l k no_start no_turn test a

    out : (test : MemberStatus → Bool) → (action_of J p == a) ≡ false → count_staying test (more J by m d) a
        ≡ count_staying test J a
    out test e = staying test false e ∙ recount_same (count_staying test J a)

    by_test : (b : Bool) → (action_of J p == a) ≡ b → action_row (more J by m d) a
        ≡ cond b (with_member (member_row J p) (f (member_row J p)) (action_row J a)) (action_row J a)
    by_test true e =
        row_is (more J by m d) a (with_member (member_row J p) (f (member_row J p)) (action_row J a))
        (parent_stays J (entry by m d) a h) (top_stays v t J (entry by m d) l a h)
        (ap (λ (o : Option ActionStatus). unwrap_or o action.Active) (status_kept J by m d a (no_turn a)))
        ((limit_kept J by m d a (no_limit a)))
        (staying is_left_to_complete true e) (staying is_left_to_compensate true e) (staying is_uncompleted true e)
        (staying is_uncompensated true e)
        (nested is_unended) (nested is_uncancelled) (nested has_failed)
    by_test false e =
        row_is (more J by m d) a (action_row J a)
        (parent_stays J (entry by m d) a h) (top_stays v t J (entry by m d) l a h)
        (ap (λ (o : Option ActionStatus). unwrap_or o action.Active) (status_kept J by m d a (no_turn a)))
        ((limit_kept J by m d a (no_limit a)))
        (out is_left_to_complete e) (out is_left_to_compensate e) (out is_uncompleted e) (out is_uncompensated e)
        (nested is_unended) (nested is_uncancelled) (nested has_failed)

pub actions_of_one : (v : Version) (t : List ℕ → Bool) (J : History) (by m : ℕ) (d : Deed) (p : ℕ)
    (f : MemberRow → MemberRow) → is_legal v t J ≡ true → Allowed v t J (entry by m d) → joined_by d ≡ None
    → started_by d ≡ None
    → is_among (members J) p ≡ true → ((q : ℕ) → (p == q) ≡ false → concerns J d q ≡ false)
    → ((a : ℕ) → status_given a d ≡ None) → ((a : ℕ) → limit_given a (entry by m d) ≡ None)
    → member_row (more J by m d) p ≡ f (member_row J p) → (f (member_row J p)).action ≡ (member_row J p).action
    → map (action_row (more J by m d)) (actions (more J by m d)) ≡ change_row
    (with_member (member_row J p) (f (member_row J p))) (action_of J p) (map (action_row J) (actions J))
actions_of_one v t J by m d p f l k no_join no_start there quiet no_turn no_limit here same =
    ap (map (action_row (more J by m d))) (actions_stay J by m d no_start)
    ∙ rows_changed (with_member (member_row J p) (f (member_row J p))) (action_row J) (action_row (more J by m d))
    (actions J) (action_of J p) (actions_numbered v t J l) (action_of_there v t J l p there)
    (λ q h x. member_of_row v t J by m d p f l k no_join no_start there quiet no_turn no_limit here same q h false x)
    (member_of_row v t J by m d p f l k no_join no_start there quiet no_turn no_limit here same (action_of J p)
    (action_of_there v t J l p there) true (eqb_self (action_of J p)))

-- ---- an entry with which a member joins

joined_to_row : (v : Version) (t : List ℕ → Bool) (J : History) (by m p c : ℕ) (u : texts.Addresses) → is_legal v t J
    ≡ true → Allowed v t J (entry by m (Join p c u)) → p ≡ length (members J) + 1
    → (a : ℕ) → is_among (actions J) a ≡ true → (b : Bool) → (c == a) ≡ b → action_row (more J by m (Join p c u)) a
    ≡ cond b (with_new_member (new_member c u) (action_row J a)) (action_row J a)
joined_to_row v t J by m p c u l k number a h = by_test
  where
    d : Deed
    d = Join p c u

    fresh : is_among (members J) p ≡ false
    fresh = numbered_fresh (members J) (members_numbered v t J l) p number

    staying : (test : MemberStatus → Bool) → count_staying test (more J by m (Join p c u)) a ≡ count_staying test J a
        + one ((c == a) && counts_as test (new_member c u))
    staying test =
        staying_count v t (more J by m (Join p c u)) (legal_more v t J (entry by m (Join p c u)) l k) test a
        ∙ ap (count_by (λ q. counts_in test a (member_row (more J by m (Join p c u)) q)))
        (members_push J (entry by m (Join p c u)))
        ∙ count_push (λ q. counts_in test a (member_row (more J by m (Join p c u)) q)) (members J) p
        ∙ ap (λ (r : MemberRow). count_by (λ q. counts_in test a (member_row (more J by m (Join p c u)) q)) (members J)
        + one (counts_in test a r)) (joined_row v t J by m p c u l fresh)
        ∙ ap (λ (n : ℕ). n + one ((c == a) && counts_as test (new_member c u)))
        (count_within (λ q. counts_in test a (member_row (more J by m (Join p c u)) q))
        (λ q. counts_in test a (member_row J q)) (members J) (λ q x. ap (counts_in test a)
        (quiet_row J by m (Join p c u) q (among_apart (members J) q p x fresh)))
        ∙ sym (staying_count v t J l test a))

    nested : (test : ActionStatus → Bool) → count_children test (more J by m (Join p c u)) a ≡ count_children test J a
    nested test = nested_still v t J by m (Join p c u) l k refl (λ b. refl) test a

    into : (test : MemberStatus → Bool) → (c == a) ≡ true → count_staying test (more J by m (Join p c u)) a
        ≡ count_staying test J a + one (counts_as test (new_member c u))
    into test e = staying test ∙ ap (λ (b : Bool). count_staying test J a + one (b && counts_as test (new_member c u)))
        e

    out : (test : MemberStatus → Bool) → (c == a) ≡ false → count_staying test (more J by m (Join p c u)) a
        ≡ count_staying test J a
    out test e = staying test ∙ ap (λ (b : Bool). count_staying test J a + one (b && counts_as test (new_member c u))) e
        ∙ none (count_staying test J a)
      where
        none : (n : ℕ) → n + 0 ≡ n
        none n = omega arith

    by_test : (b : Bool) → (c == a) ≡ b → action_row (more J by m (Join p c u)) a
        ≡ cond b (with_new_member (new_member c u) (action_row J a)) (action_row J a)
    by_test true e =
        row_is (more J by m (Join p c u)) a (with_new_member (new_member c u) (action_row J a))
        (parent_stays J (entry by m (Join p c u)) a h) (top_stays v t J (entry by m (Join p c u)) l a h)
        (ap (λ (o : Option ActionStatus). unwrap_or o action.Active) (status_kept J by m (Join p c u) a refl))
        ((limit_kept J by m (Join p c u) a refl))
        (into is_left_to_complete e) (into is_left_to_compensate e) (into is_uncompleted e) (into is_uncompensated e)
        (nested is_unended) (nested is_uncancelled) (nested has_failed)
    by_test false e =
        row_is (more J by m (Join p c u)) a (action_row J a)
        (parent_stays J (entry by m (Join p c u)) a h) (top_stays v t J (entry by m (Join p c u)) l a h)
        (ap (λ (o : Option ActionStatus). unwrap_or o action.Active) (status_kept J by m (Join p c u) a refl))
        ((limit_kept J by m (Join p c u) a refl))
        (out is_left_to_complete e) (out is_left_to_compensate e) (out is_uncompleted e) (out is_uncompensated e)
        (nested is_unended) (nested is_uncancelled) (nested has_failed)

pub actions_joined : (v : Version) (t : List ℕ → Bool) (J : History) (by m p c : ℕ) (u : texts.Addresses)
    → is_legal v t J ≡ true → Allowed v t J (entry by m (Join p c u)) → p ≡ length (members J) + 1
    → is_among (actions J) c ≡ true
    → map (action_row (more J by m (Join p c u))) (actions (more J by m (Join p c u)))
    ≡ change_row (with_new_member (new_member c u)) c (map (action_row J) (actions J))
actions_joined v t J by m p c u l k number there =
    ap (map (action_row (more J by m (Join p c u)))) (actions_stay J by m (Join p c u) refl)
    ∙ rows_changed (with_new_member (new_member c u)) (action_row J) (action_row (more J by m (Join p c u))) (actions J)
    c (actions_numbered v t J l) there
    (λ q h x. joined_to_row v t J by m p c u l k number q h false x)
    (joined_to_row v t J by m p c u l k number c there true (eqb_self c))

-- ---- an entry that changes an action's status

-- each action has a status
has_status : (v : Version) (t : List ℕ → Bool) (J : History) → is_legal v t J ≡ true → (a : ℕ) → is_among (actions J) a
    ≡ true → action_status J a ≡ Some (unwrap_or (action_status J a) action.Active)
has_status v t J l a h = known (action_status J a) (status_is_there v t J l a ∙ h)
  where
    known : (o : Option ActionStatus) → is_some o ≡ true → o ≡ Some (unwrap_or o action.Active)
    known (Some s) g = refl
    known None g = absurd cc

-- an entry that changes the status of an action, and does nothing else
pub record Turns (J : History) (by m : ℕ) (d : Deed) (c : ℕ) (now : ActionStatus) : Type 0 where
  pub no_join : joined_by d ≡ None
  pub no_start : started_by d ≡ None
  pub quiet : (p : ℕ) → concerns J d p ≡ false
  pub turn : (a : ℕ) → status_given a d ≡ when (c == a) now
  pub no_limit : (a : ℕ) → limit_given a (entry by m d) ≡ None
  pub there : is_among (actions J) c ≡ true

turned_status : (J : History) (by m : ℕ) (d : Deed) (c : ℕ) (now : ActionStatus) → Turns J by m d c now
    → (a : ℕ) (b : Bool) → (c == a) ≡ b → action_status (more J by m d) a ≡ option_or (when b now) (action_status J a)
turned_status J by m d c now x a b e = action_status_push J (entry by m d) a
    ∙ ap (λ (o : Option ActionStatus). option_or o (action_status J a)) (x.turn a ∙ ap (λ (y : Bool). when y now) e)

turned_nested : (v : Version) (t : List ℕ → Bool) (J : History) (by m : ℕ) (d : Deed) (c : ℕ) (now : ActionStatus)
    → is_legal v t J ≡ true → Allowed v t J (entry by m d) → Turns J by m d c now
    → (test : ActionStatus → Bool) (a : ℕ) (b : Bool) → is_parent a (parent J c) ≡ b
    → count_children test (more J by m d) a ≡ recount (b && test (unwrap_or (action_status J c) action.Active))
    (b && test now) (count_children test J a)
turned_nested v t J by m d c now l k x test a b e =
    children_count v t (more J by m d) (legal_more v t J (entry by m d) l k) test a
    ∙ ap (count_by (λ q. is_parent a (parent (more J by m d) q) && action_is test (more J by m d) q))
    (actions_stay J by m d x.no_start)
    ∙ counted_anew (λ q. is_parent a (parent J q) && action_is test J q)
    (λ q. is_parent a (parent (more J by m d) q) && action_is test (more J by m d) q) (actions J) c
    (actions_numbered v t J l) x.there
    (λ q h y i. is_parent a (parent_stays J (entry by m d) q h i) && option_map_or test
    (turned_status J by m d c now x q false y i) false)
    ∙ sym (ap (recount (is_parent a (parent J c) && action_is test J c)
    (is_parent a (parent (more J by m d) c) && action_is test (more J by m d) c)) (children_count v t J l test a))
    ∙ (λ i. recount (e i && option_map_or test (has_status v t J l c x.there i) false)
    (is_parent a (parent_stays J (entry by m d) c x.there i) && option_map_or test
    (turned_status J by m d c now x c true (eqb_self c) i) false) (count_children test J a))
    ∙ ap (λ (y : Bool). recount (b && test (unwrap_or (action_status J c) action.Active)) (y && test now)
    (count_children test J a)) e

-- the row but for its counts
abbrev turned_alone : History → ℕ → ActionStatus → ℕ → ActionRow
turned_alone J c now a = cond (c == a) (record (action_row J a) { status = now }) (action_row J a)

turned_row : (v : Version) (t : List ℕ → Bool) (J : History) (by m : ℕ) (d : Deed) (c : ℕ) (now : ActionStatus)
    → is_legal v t J ≡ true → Allowed v t J (entry by m d) → Turns J by m d c now
    → (a : ℕ) → is_among (actions J) a ≡ true → (b : Bool) → is_parent a (parent J c) ≡ b
    → action_row (more J by m d) a ≡ cond b (with_child (unwrap_or (action_status J c) action.Active) now
    (turned_alone J c now a)) (turned_alone J c now a)
turned_row v t J by m d c now l k x a h b e = by_test (c == a) refl b e
  where
    staying : (test : MemberStatus → Bool) → count_staying test (more J by m d) a ≡ count_staying test J a
    staying test = staying_still v t J by m d l k x.no_join x.quiet test a

    limit : (limit_in_force (more J by m d) a) ≡ (limit_in_force J a)
    limit = (limit_kept J by m d a (x.no_limit a))

    status : (y : Bool) → (c == a) ≡ y → unwrap_or (action_status (more J by m d) a) action.Active
        ≡ unwrap_or (option_or (when y now) (action_status J a)) action.Active
    status y g = ap (λ (o : Option ActionStatus). unwrap_or o action.Active) (turned_status J by m d c now x a y g)

    counted : (test : ActionStatus → Bool) → is_parent a (parent J c) ≡ true → count_children test (more J by m d) a
        ≡ recount (test (unwrap_or (action_status J c) action.Active)) (test now) (count_children test J a)
    counted test g = turned_nested v t J by m d c now l k x test a true g

    same : (test : ActionStatus → Bool) → is_parent a (parent J c) ≡ false → count_children test (more J by m d) a
        ≡ count_children test J a
    same test g = turned_nested v t J by m d c now l k x test a false g ∙ recount_same (count_children test J a)

    by_test : (y : Bool) → (c == a) ≡ y → (z : Bool) → is_parent a (parent J c) ≡ z
        → action_row (more J by m d) a ≡ cond z (with_child (unwrap_or (action_status J c) action.Active) now
        (cond y (record (action_row J a) { status = now }) (action_row J a)))
        (cond y (record (action_row J a) { status = now }) (action_row J a))
    by_test true f true g = row_is (more J by m d) a (with_child (unwrap_or (action_status J c) action.Active) now
        (record (action_row J a) { status = now }))
        (parent_stays J (entry by m d) a h) (top_stays v t J (entry by m d) l a h) (status true f) limit
        (staying is_left_to_complete) (staying is_left_to_compensate) (staying is_uncompleted)
        (staying is_uncompensated) (counted is_unended g) (counted is_uncancelled g) (counted has_failed g)
    by_test true f false g = row_is (more J by m d) a (record (action_row J a) { status = now })
        (parent_stays J (entry by m d) a h) (top_stays v t J (entry by m d) l a h) (status true f) limit
        (staying is_left_to_complete) (staying is_left_to_compensate) (staying is_uncompleted)
        (staying is_uncompensated) (same is_unended g) (same is_uncancelled g) (same has_failed g)
    by_test false f true g = row_is (more J by m d) a (with_child (unwrap_or (action_status J c) action.Active) now
        (action_row J a))
        (parent_stays J (entry by m d) a h) (top_stays v t J (entry by m d) l a h) (status false f) limit
        (staying is_left_to_complete) (staying is_left_to_compensate) (staying is_uncompleted)
        (staying is_uncompensated) (counted is_unended g) (counted is_uncancelled g) (counted has_failed g)
    by_test false f false g = row_is (more J by m d) a (action_row J a)
        (parent_stays J (entry by m d) a h) (top_stays v t J (entry by m d) l a h) (status false f) limit
        (staying is_left_to_complete) (staying is_left_to_compensate) (staying is_uncompleted)
        (staying is_uncompensated) (same is_unended g) (same is_uncancelled g) (same has_failed g)

-- its status changes, and its parent counts anew
pub actions_turned : (v : Version) (t : List ℕ → Bool) (J : History) (by m : ℕ) (d : Deed) (c : ℕ) (now : ActionStatus)
    → is_legal v t J ≡ true → Allowed v t J (entry by m d) → Turns J by m d c now
    → map (action_row (more J by m d)) (actions (more J by m d))
    ≡ option_map_or (λ b. change_row (with_child (unwrap_or (action_status J c) action.Active) now) b
    (change_row (λ (r : ActionRow). record r { status = now }) c (map (action_row J) (actions J)))) (parent J c)
    (change_row (λ (r : ActionRow). record r { status = now }) c (map (action_row J) (actions J)))
actions_turned v t J by m d c now l k x = ap (map (action_row (more J by m d))) (actions_stay J by m d x.no_start)
    ∙ above (parent J c) refl
  where
    alone : map (turned_alone J c now) (actions J) ≡ change_row (λ (r : ActionRow). record r { status = now }) c
        (map (action_row J) (actions J))
    alone = rows_changed (λ (r : ActionRow). record r { status = now }) (action_row J) (turned_alone J c now)
        (actions J) c (actions_numbered v t J l) x.there
        (λ q h e. ap (λ (b : Bool). cond b (record (action_row J q) { status = now }) (action_row J q)) e)
        (ap (λ (b : Bool). cond b (record (action_row J c) { status = now }) (action_row J c)) (eqb_self c))

    above : (o : Option ℕ) → parent J c ≡ o → map (action_row (more J by m d)) (actions J)
        ≡ option_map_or (λ b. change_row (with_child (unwrap_or (action_status J c) action.Active) now) b
        (change_row (λ (r : ActionRow). record r { status = now }) c (map (action_row J) (actions J)))) o
        (change_row (λ (r : ActionRow). record r { status = now }) c (map (action_row J) (actions J)))
    above None e = map_within (action_row (more J by m d)) (turned_alone J c now) (actions J)
        (λ a h. turned_row v t J by m d c now l k x a h false (ap (is_parent a) e)) ∙ alone
    above (Some b) e =
        rows_changed (with_child (unwrap_or (action_status J c) action.Active) now) (turned_alone J c now)
        (action_row (more J by m d)) (actions J) b (actions_numbered v t J l) (parent_there v t J l c b e).parent
        (λ a h y. turned_row v t J by m d c now l k x a h false (ap (is_parent a) e ∙ y))
        (turned_row v t J by m d c now l k x b (parent_there v t J l c b e).parent true
        (ap (is_parent b) e ∙ eqb_self b))
        ∙ ap (change_row (with_child (unwrap_or (action_status J c) action.Active) now) b) alone
