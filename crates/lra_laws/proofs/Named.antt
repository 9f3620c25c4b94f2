-- In a legal history what its entries name is there: actions, members, and what an action has for its parent.
use Rattle.std.proofs.Common.{◌≡◌, ℕ, ◌+◌, ◌<◌, Bool, true, false, List, [], ◌∷◌, ◌++◌, Option}
use Rattle.std.proofs.Common.{Some, None, refl, sym, ap, ◌∙◌, cond, arith, eqb-true}
use Rattle.std.proofs.Common.{eq-eqb, ne_eqb}
use Rattle.std.proofs.Math.Bool.{or-false, or-true}
use Rattle.std.specs.Prelude.{◌==◌, ◌&&◌, ◌||◌, is_some, unwrap_or, option_to_list}
use Rattle.std.specs.Option.{option_or, option_map_or}
use Rattle.std.specs.List.{list_any}
use Rattle.lra_model.specs.declared.version.Version.{Version}
use Rattle.lra_model.specs.declared.status.ActionStatus.{ActionStatus}
use Rattle.lra_model.specs.declared.status.ActionStatus.TheVariants as action
use Rattle.lra_model.specs.declared.asks.AskKind.{AskKind}
use Rattle.lra_model.specs.declared.entry.Deed.{Deed}
use Rattle.lra_model.specs.declared.entry.Deed.TheVariants.{Start, Join, Leave, Close, Cancel, Skip, Ask}
use Rattle.lra_model.specs.declared.entry.Deed.TheVariants.{Report, End, Renew}
use Rattle.lra_model.specs.declared.entry.Entry.{Entry}
use Rattle.lra_model.specs.Words.{when, same_kind}
use Rattle.lra_model.specs.History.{History, first, read_deeds, started_by, joined_by}
use Rattle.lra_model.specs.History.{actions, members, is_among}
use Rattle.lra_model.specs.Actions.{parent_given, parent, status_given, action_status, child_given, children}
use Rattle.lra_model.specs.Actions.{member_given, members_of}
use Rattle.lra_model.specs.Members.{action_given, action_of, no_addresses, addresses_given, addresses_of, is_leave_of}
use Rattle.lra_model.specs.Members.{has_left, is_ask_for, was_asked}
use Rattle.lra_model.specs.Ends.{action_is}
use Rattle.lra_model.specs.Facts.{ActionFacts, MemberFacts, action_facts, facts_of}
use Rattle.lra_model.specs.Tests.{status_is, each_parent}
use Rattle.lra_model.specs.Rules.{is_action, is_member, deed_rules}
use Rattle.lra_model.specs.Rules.{is_legal}
use Rattle.lra_laws.proofs.Push.{any_push, actions_push, members_push}
use Rattle.lra_laws.proofs.Push.{action_status_push, parent_push, children_push, members_of_push, action_of_push}
use Rattle.lra_laws.proofs.Push.{addresses_of_push}
use Rattle.lra_laws.proofs.Tested.{both}
use Rattle.lra_laws.proofs.Legal.{AllKept, Allowed, StartKept, action_fact, actions_numbered, among_push, ask_kept}
use Rattle.lra_laws.proofs.Legal.{cancel_kept, close_kept, end_kept, entry_kept, first_is_there, join_kept}
use Rattle.lra_laws.proofs.Legal.{joined_number, leave_kept, legal_induction, member_fact, members_numbered}
use Rattle.lra_laws.proofs.Legal.{numbered_among, renew_kept, report_kept, skip_kept, start_kept, started_number}

-- an action that is there stays there
pub action_there_push : (J : History) (e : Entry) (a : ℕ) → is_among (actions J) a ≡ true
    → is_among (actions (J ++ e ∷ [])) a ≡ true
action_there_push J e a h =
    ap (λ (ns : List ℕ). is_among ns a) (actions_push J e) ∙ among_push (actions J) (started_by e.deed) a
    ∙ ap (λ (b : Bool). b || option_map_or (λ m. m == a) (started_by e.deed) false) h

pub member_there_push : (J : History) (e : Entry) (p : ℕ) → is_among (members J) p ≡ true
    → is_among (members (J ++ e ∷ [])) p ≡ true
member_there_push J e p h =
    ap (λ (ns : List ℕ). is_among ns p) (members_push J e) ∙ among_push (members J) (joined_by e.deed) p
    ∙ ap (λ (b : Bool). b || option_map_or (λ m. m == p) (joined_by e.deed) false) h

some_when : {X : Type 0} (b : Bool) (x : X) → is_some (when b x) ≡ b
some_when true x = refl
some_when false x = refl

-- an action has a Start exactly where it is there
start_is_there : (a : ℕ) (J : History) → is_some (first (read_deeds (parent_given a) J)) ≡ is_among (actions J) a
unfolding actions
start_is_there a J = first_is_there (parent_given a) started_by a alike J
  where
    alike : (d : Deed) → is_some (parent_given a d) ≡ option_map_or (λ m. m == a) (started_by d) false
    alike (Start b parent limit) = some_when (b == a) parent
    alike _ = refl

-- a member has a Join exactly where it is there
join_is_there : (p : ℕ) (J : History) → is_some (first (read_deeds (action_given p) J)) ≡ is_among (members J) p
unfolding members
join_is_there p J = first_is_there (action_given p) joined_by p alike J
  where
    alike : (d : Deed) → is_some (action_given p d) ≡ option_map_or (λ m. m == p) (joined_by d) false
    alike (Join q a uris) = some_when (q == p) a
    alike _ = refl

-- and has addresses then
addresses_are_there : (p : ℕ) (J : History) → is_some (first (read_deeds (addresses_given p) J))
    ≡ is_among (members J) p
unfolding members
addresses_are_there p J = first_is_there (addresses_given p) joined_by p alike J
  where
    alike : (d : Deed) → is_some (addresses_given p d) ≡ option_map_or (λ m. m == p) (joined_by d) false
    alike (Join q a uris) = some_when (q == p) uris
    alike _ = refl

-- the first that is there stays
kept_first : {X : Type 0} (o n : Option X) (x : X) → is_some o ≡ true → unwrap_or (option_or o n) x ≡ unwrap_or o x
kept_first (Some y) n x h = refl
kept_first None n x h = absurd cc

-- where none is there, the new one is the first
new_first : {X : Type 0} (o n : Option X) (x : X) → is_some o ≡ false → unwrap_or (option_or o n) x ≡ unwrap_or n x
new_first None n x h = refl
new_first (Some y) n x h = absurd cc

-- where none is there, the word has its default
no_first : {X : Type 0} (o : Option X) (x : X) → is_some o ≡ false → unwrap_or o x ≡ x
no_first None x h = refl
no_first (Some y) x h = absurd cc

-- the parent of an action that is there stays
pub parent_stays : (J : History) (e : Entry) (a : ℕ) → is_among (actions J) a ≡ true → parent (J ++ e ∷ []) a
    ≡ parent J a
unfolding parent
parent_stays J e a h = parent_push J e a ∙ kept_first (first (read_deeds (parent_given a) J)) (parent_given a e.deed)
    None (start_is_there a J ∙ h)

-- the parent of a new action is what its Start says
pub parent_of_new : (J : History) (e : Entry) (a : ℕ) → is_among (actions J) a ≡ false → parent (J ++ e ∷ []) a
    ≡ unwrap_or (parent_given a e.deed) None
unfolding parent
parent_of_new J e a h = parent_push J e a ∙ new_first (first (read_deeds (parent_given a) J)) (parent_given a e.deed)
    None (start_is_there a J ∙ h)

-- an action that isn't there has no parent
pub parent_of_none : (J : History) (a : ℕ) → is_among (actions J) a ≡ false → parent J a ≡ None
unfolding parent
parent_of_none J a h = no_first (first (read_deeds (parent_given a) J)) None (start_is_there a J ∙ h)

-- the action and the addresses of a member that is there stay
pub action_of_stays : (J : History) (e : Entry) (p : ℕ) → is_among (members J) p ≡ true → action_of (J ++ e ∷ []) p
    ≡ action_of J p
unfolding action_of
action_of_stays J e p h = action_of_push J e p ∙ kept_first (first (read_deeds (action_given p) J))
    (action_given p e.deed) 0 (join_is_there p J ∙ h)

-- those of a new member are what its Join says
pub action_of_new : (J : History) (e : Entry) (p : ℕ) → is_among (members J) p ≡ false → action_of (J ++ e ∷ []) p
    ≡ unwrap_or (action_given p e.deed) 0
unfolding action_of
action_of_new J e p h = action_of_push J e p ∙ new_first (first (read_deeds (action_given p) J)) (action_given p e.deed)
    0 (join_is_there p J ∙ h)

pub addresses_stay : (J : History) (e : Entry) (p : ℕ) → is_among (members J) p ≡ true → addresses_of (J ++ e ∷ []) p
    ≡ addresses_of J p
unfolding addresses_of
addresses_stay J e p h = addresses_of_push J e p ∙ kept_first (first (read_deeds (addresses_given p) J))
    (addresses_given p e.deed) no_addresses (addresses_are_there p J ∙ h)

pub addresses_of_new : (J : History) (e : Entry) (p : ℕ) → is_among (members J) p ≡ false → addresses_of (J ++ e ∷ []) p
    ≡ unwrap_or (addresses_given p e.deed) no_addresses
unfolding addresses_of
addresses_of_new J e p h = addresses_of_push J e p ∙ new_first (first (read_deeds (addresses_given p) J))
    (addresses_given p e.deed) no_addresses (addresses_are_there p J ∙ h)

-- the action that an allowed entry closes, cancels or ends is there
turned_is_there : (v : Version) (t : List ℕ → Bool) (J : History) (by m : ℕ) (d : Deed)
    → Allowed v t J (record { by = by; moment = m; deed = d }) → (a : ℕ) (s : Option ActionStatus) → is_some s
    ≡ is_among (actions J) a
    → is_some (option_or (status_given a d) s) ≡ (is_among (actions J) a
    || option_map_or (λ x. x == a) (started_by d) false)
turned_is_there v t J by m d k a s h = by_deed d k
  where
    started : (b : Bool) (x : ActionStatus) → is_some (option_or (when b x) s) ≡ (is_among (actions J) a || b)
    started true x = sym (or-true (is_among (actions J) a))
    started false x = h ∙ sym (or-false (is_among (actions J) a))

    turned : (b : ℕ) (x : ActionStatus) → is_among (actions J) b ≡ true → is_some (option_or (when (b == a) x) s)
        ≡ (is_among (actions J) a || false)
    turned b x g = one (b == a) refl
      where
        one : (c : Bool) → (b == a) ≡ c → is_some (option_or (when c x) s) ≡ (is_among (actions J) a || false)
        one true e = sym (or-false (is_among (actions J) a) ∙ ap (λ (n : ℕ). is_among (actions J) n)
            (sym (eqb-true b a e)) ∙ g)
        one false e = h ∙ sym (or-false (is_among (actions J) a))

    rules : (d : Deed) → Allowed v t J (record { by = by; moment = m; deed = d })
        → AllKept (deed_rules v t (facts_of J) m d)
    rules d k = (entry_kept v t (facts_of J) (record { by = by; moment = m; deed = d }) k.unbroken).deed

    by_deed : (d : Deed) → Allowed v t J (record { by = by; moment = m; deed = d })
        → is_some (option_or (status_given a d) s) ≡ (is_among (actions J) a
        || option_map_or (λ x. x == a) (started_by d) false)
    by_deed (Start b parent limit) k = started (b == a) action.Active
    by_deed (Close b cause) k = turned b action.Closing (action_fact (λ (x : ActionFacts). true) J b
        (close_kept v t (facts_of J) m b cause (rules (Close b cause) k)).there).0
    by_deed (Cancel b cause) k = turned b action.Cancelling (action_fact (λ (x : ActionFacts). true) J b
        (cancel_kept v t (facts_of J) m b cause (rules (Cancel b cause) k)).there).0
    by_deed (End b x) k = turned b x (action_fact (λ (y : ActionFacts). true) J b
        (end_kept v t (facts_of J) m b x (rules (End b x) k)).there).0
    by_deed _ k = h ∙ sym (or-false (is_among (actions J) a))

-- an action has a status exactly where it is there
pub status_is_there : (v : Version) (t : List ℕ → Bool) (J : History) → is_legal v t J ≡ true → (a : ℕ)
    → is_some (action_status J a) ≡ is_among (actions J) a
unfolding action_status actions
status_is_there v t = legal_induction v t (λ J. (a : ℕ) → is_some (action_status J a) ≡ is_among (actions J) a)
    (λ a. refl)
    (λ J e l k h a.
    ap (λ (s : Option ActionStatus). is_some s) (action_status_push J e a)
    ∙ turned_is_there v t J e.by e.moment e.deed k a (action_status J a) (h a)
    ∙ sym (ap (λ (ns : List ℕ). is_among ns a) (actions_push J e) ∙ among_push (actions J) (started_by e.deed) a))

-- in a legal history, the test of a status by the facts is that of the history
pub state_is_lem : (v : Version) (t : List ℕ → Bool) (J : History) → is_legal v t J ≡ true
    → (test : ActionStatus → Bool) (a : ℕ) → status_is test (facts_of J) a ≡ action_is test J a
unfolding facts_of
state_is_lem v t J l test a = both_ways (is_among (actions J) a) (action_status J a) (status_is_there v t J l a)
  where
    both_ways : (b : Bool) (o : Option ActionStatus) → is_some o ≡ b
        → option_map_or (λ (x : ActionFacts). test x.status)
        (cond b (Some (record (action_facts J a) { status = unwrap_or o action.Active })) None) false
        ≡ option_map_or test o false
    both_ways true (Some s) h = refl
    both_ways true None h = absurd cc
    both_ways false (Some s) h = absurd cc
    both_ways false None h = refl

-- what an entry starts is there after it
pub started_there : (J : History) (e : Entry) (a : ℕ) → started_by e.deed ≡ Some a → is_among (actions (J ++ e ∷ [])) a
    ≡ true
started_there J e a h =
    ap (λ (ns : List ℕ). is_among ns a) (actions_push J e) ∙ among_push (actions J) (started_by e.deed) a
    ∙ ap (λ (o : Option ℕ). is_among (actions J) a || option_map_or (λ m. m == a) o false) h
    ∙ ap (λ (b : Bool). is_among (actions J) a || b) (eq-eqb a a refl) ∙ or-true (is_among (actions J) a)

pub joined_there : (J : History) (e : Entry) (p : ℕ) → joined_by e.deed ≡ Some p → is_among (members (J ++ e ∷ [])) p
    ≡ true
joined_there J e p h =
    ap (λ (ns : List ℕ). is_among ns p) (members_push J e) ∙ among_push (members J) (joined_by e.deed) p
    ∙ ap (λ (o : Option ℕ). is_among (members J) p || option_map_or (λ m. m == p) o false) h
    ∙ ap (λ (b : Bool). is_among (members J) p || b) (eq-eqb p p refl) ∙ or-true (is_among (members J) p)

-- an action's parent: both are there, and the parent's number is less
pub record ParentThere (J : History) (a b : ℕ) : Type 0 where
  pub child : is_among (actions J) a ≡ true
  pub parent : is_among (actions J) b ≡ true
  pub less : b < a

parent_there_push : (v : Version) (t : List ℕ → Bool) (J : History) (by m : ℕ) (d : Deed) → is_legal v t J ≡ true
    → Allowed v t J (record { by = by; moment = m; deed = d })
    → (a b : ℕ) → unwrap_or (parent_given a d) None ≡ Some b → ParentThere
    (J ++ record { by = by; moment = m; deed = d } ∷ []) a b
unfolding facts_of
parent_there_push v t J by m (Start c parent limit) l k a b h = of_start (c == a) refl h
  where
    e : Entry
    e = record { by = by; moment = m; deed = Start c parent limit }

    rules : StartKept (facts_of J) m c parent limit
    rules = start_kept v t (facts_of J) m c parent limit (entry_kept v t (facts_of J) e k.unbroken).deed

    of_start : (x : Bool) → (c == a) ≡ x → unwrap_or (when x parent) None ≡ Some b → ParentThere (J ++ e ∷ []) a b
    of_start true g i =
        let same : c ≡ a = eqb-true c a g in
        let test = ap (λ (o : Option ℕ). each_parent (is_action (facts_of J)) o) (sym i) ∙ rules.parent_there in
        let there = (action_fact (λ (x : ActionFacts). true) J b test).0 in
        let bound = numbered_among (actions J) (actions_numbered v t J l) b there in
        let number = rules.number in
        record {
          child = started_there J e a (ap (λ (n : ℕ). Some n) same);
          parent = action_there_push J e b there;
          less = omega arith;
        }
    of_start false g i = absurd cc
parent_there_push v t J by m _ l k a b h = absurd cc

pub parent_there : (v : Version) (t : List ℕ → Bool) (J : History) → is_legal v t J ≡ true → (a b : ℕ) → parent J a
    ≡ Some b → ParentThere J a b
unfolding parent
parent_there v t = legal_induction v t (λ J. (a b : ℕ) → parent J a ≡ Some b → ParentThere J a b) (λ a b h. absurd cc)
    push
  where
    push : (J : History) (e : Entry) → is_legal v t J ≡ true → Allowed v t J e
        → ((a b : ℕ) → parent J a ≡ Some b → ParentThere J a b) → (a b : ℕ) → parent (J ++ e ∷ []) a ≡ Some b
        → ParentThere (J ++ e ∷ []) a b
    push J e l k ih a b h = decide (is_among (actions J) a) refl
      where
        decide : (x : Bool) → is_among (actions J) a ≡ x → ParentThere (J ++ e ∷ []) a b
        decide true g =
            let old = ih a b (sym (parent_stays J e a g) ∙ h) in
            record {
              child = action_there_push J e a old.child;
              parent = action_there_push J e b old.parent;
              less =
                  old.less;
            }
        decide false g = parent_there_push v t J e.by e.moment e.deed l k a b (sym (parent_of_new J e a g) ∙ h)

-- the actions nested directly in an action are those whose parent it is
pub children_lem : (v : Version) (t : List ℕ → Bool) (J : History) → is_legal v t J ≡ true → (a c : ℕ)
    → is_among (children J a) c ≡ option_map_or (λ b. b == a) (parent J c) false
unfolding children parent
children_lem v t = legal_induction v t (λ J. (a c : ℕ) → is_among (children J a) c
    ≡ option_map_or (λ b. b == a) (parent J c) false) (λ a c. refl) push
  where
    push : (J : History) (e : Entry) → is_legal v t J ≡ true → Allowed v t J e
        → ((a c : ℕ) → is_among (children J a) c ≡ option_map_or (λ b. b == a) (parent J c) false)
        → (a c : ℕ) → is_among (children (J ++ e ∷ []) a) c ≡ option_map_or (λ b. b == a) (parent (J ++ e ∷ []) c) false
    push J e l k ih a c = ap (λ (ns : List ℕ). is_among ns c) (children_push J e a)
        ∙ among_push (children J a) (child_given a e.deed) c ∙ decide (is_among (actions J) c) refl
      where
        fresh : is_among (actions J) c ≡ true → (x : ℕ) → started_by e.deed ≡ Some x → (x == c) ≡ false
        fresh g x h =
            let n = started_number v t J e.by e.moment e.deed k x h in
            let b = numbered_among (actions J) (actions_numbered v t J l) c g in
            ne_eqb x c (λ (i : x ≡ c). let z : ⊥ = omega arith in z)

        not_new : (d : Deed) → ((x : ℕ) → started_by d ≡ Some x → (x == c) ≡ false)
            → option_map_or (λ m. m == c) (child_given a d) false ≡ false
        not_new (Start b (Some p) limit) h = one (p == a)
          where
            one : (x : Bool) → option_map_or (λ m. m == c) (when x b) false ≡ false
            one true = h b refl
            one false = refl
        not_new (Start b None limit) h = refl
        not_new _ h = refl

        new : (d : Deed) → option_map_or (λ m. m == c) (child_given a d) false
            ≡ option_map_or (λ b. b == a) (unwrap_or (parent_given c d) None) false
        new (Start b (Some p) limit) = one (p == a) refl (b == c) refl
          where
            one : (x : Bool) → (p == a) ≡ x → (y : Bool) → (b == c) ≡ y → option_map_or (λ m. m == c) (when x b) false
                ≡ option_map_or (λ b. b == a) (unwrap_or (when y (Some p)) None) false
            one true g true h = h ∙ sym g
            one true g false h = h
            one false g true h = sym g
            one false g false h = refl
        new (Start b None limit) = one (b == c)
          where
            one : (y : Bool) → false ≡ option_map_or (λ b. b == a) (unwrap_or (when y None) None) false
            one true = refl
            one false = refl
        new _ = refl

        decide : (x : Bool) → is_among (actions J) c ≡ x → (is_among (children J a) c
            || option_map_or (λ m. m == c) (child_given a e.deed) false)
            ≡ option_map_or (λ b. b == a) (parent (J ++ e ∷ []) c) false
        decide true g =
            ap (λ (b : Bool). is_among (children J a) c || b) (not_new e.deed (fresh g))
            ∙ or-false (is_among (children J a) c) ∙ ih a c
            ∙ ap (λ (o : Option ℕ). option_map_or (λ b. b == a) o false) (sym (parent_stays J e c g))
        decide false g =
            ap (λ (b : Bool). b || option_map_or (λ m. m == c) (child_given a e.deed) false)
            (ih a c ∙ ap (λ (o : Option ℕ). option_map_or (λ b. b == a) o false) (parent_of_none J c g))
            ∙ new e.deed ∙ ap (λ (o : Option ℕ). option_map_or (λ b. b == a) o false) (sym (parent_of_new J e c g))

-- the members of an action are those that joined it
pub members_of_lem : (v : Version) (t : List ℕ → Bool) (J : History) → is_legal v t J ≡ true → (a p : ℕ)
    → is_among (members_of J a) p ≡ (is_among (members J) p && (action_of J p == a))
unfolding members_of members action_of
members_of_lem v t = legal_induction v t (λ J. (a p : ℕ) → is_among (members_of J a) p
    ≡ (is_among (members J) p && (action_of J p == a))) (λ a p. refl) push
  where
    push : (J : History) (e : Entry) → is_legal v t J ≡ true → Allowed v t J e
        → ((a p : ℕ) → is_among (members_of J a) p ≡ (is_among (members J) p && (action_of J p == a)))
        → (a p : ℕ) → is_among (members_of (J ++ e ∷ []) a) p ≡ (is_among (members (J ++ e ∷ [])) p
        && (action_of (J ++ e ∷ []) p == a))
    push J e l k ih a p = ap (λ (ns : List ℕ). is_among ns p) (members_of_push J e a)
        ∙ among_push (members_of J a) (member_given a e.deed) p ∙ decide (is_among (members J) p) refl
      where
        after : is_among (members (J ++ e ∷ [])) p ≡ (is_among (members J) p
            || option_map_or (λ m. m == p) (joined_by e.deed) false)
        after = ap (λ (ns : List ℕ). is_among ns p) (members_push J e) ∙ among_push (members J) (joined_by e.deed) p

        fresh : is_among (members J) p ≡ true → (x : ℕ) → joined_by e.deed ≡ Some x → (x == p) ≡ false
        fresh g x h =
            let n = joined_number v t J e.by e.moment e.deed k x h in
            let b = numbered_among (members J) (members_numbered v t J l) p g in
            ne_eqb x p (λ (i : x ≡ p). let z : ⊥ = omega arith in z)

        not_new : (d : Deed) → ((x : ℕ) → joined_by d ≡ Some x → (x == p) ≡ false)
            → option_map_or (λ m. m == p) (member_given a d) false ≡ false
        not_new (Join q b uris) h = one (b == a)
          where
            one : (x : Bool) → option_map_or (λ m. m == p) (when x q) false ≡ false
            one true = h q refl
            one false = refl
        not_new _ h = refl

        new : (d : Deed) → option_map_or (λ m. m == p) (member_given a d) false
            ≡ (option_map_or (λ m. m == p) (joined_by d) false && (unwrap_or (action_given p d) 0 == a))
        new (Join q b uris) = one (b == a) refl (q == p) refl
          where
            one : (x : Bool) → (b == a) ≡ x → (y : Bool) → (q == p) ≡ y → option_map_or (λ m. m == p) (when x q) false
                ≡ (y && (unwrap_or (when y b) 0 == a))
            one true g true h = h ∙ sym g
            one true g false h = h
            one false g true h = sym g
            one false g false h = refl
        new _ = refl

        decide : (x : Bool) → is_among (members J) p ≡ x → (is_among (members_of J a) p
            || option_map_or (λ m. m == p) (member_given a e.deed) false)
            ≡ (is_among (members (J ++ e ∷ [])) p && (action_of (J ++ e ∷ []) p == a))
        decide true g =
            ap (λ (b : Bool). is_among (members_of J a) p || b) (not_new e.deed (fresh g))
            ∙ or-false (is_among (members_of J a) p) ∙ ih a p
            ∙ ap (λ (b : Bool). b && (action_of J p == a)) (g ∙ sym (member_there_push J e p g))
            ∙ ap (λ (n : ℕ). is_among (members (J ++ e ∷ [])) p && (n == a)) (sym (action_of_stays J e p g))
        decide false g =
            ap (λ (b : Bool). b || option_map_or (λ m. m == p) (member_given a e.deed) false)
            (ih a p ∙ ap (λ (b : Bool). b && (action_of J p == a)) g)
            ∙ new e.deed ∙ ap (λ (b : Bool). b && (unwrap_or (action_given p e.deed) 0 == a))
            (sym (after ∙ ap (λ (b : Bool). b || option_map_or (λ m. m == p) (joined_by e.deed) false) g))
            ∙ ap (λ (n : ℕ). is_among (members (J ++ e ∷ [])) p && (n == a)) (sym (action_of_new J e p g))

-- an action nested in another has it for its parent
pub child_of : (v : Version) (t : List ℕ → Bool) (J : History) → is_legal v t J ≡ true → (a c : ℕ)
    → is_among (children J a) c ≡ true → parent J c ≡ Some a
child_of v t J l a c h = one (parent J c) (sym (children_lem v t J l a c) ∙ h)
  where
    one : (o : Option ℕ) → option_map_or (λ b. b == a) o false ≡ true → o ≡ Some a
    one None g = absurd cc
    one (Some b) g = ap (λ (n : ℕ). Some n) (eqb-true b a g)

-- and the other way round
pub child_from : (v : Version) (t : List ℕ → Bool) (J : History) → is_legal v t J ≡ true → (a c : ℕ) → parent J c
    ≡ Some a → is_among (children J a) c ≡ true
child_from v t J l a c h = children_lem v t J l a c ∙ ap (λ (o : Option ℕ). option_map_or (λ b. b == a) o false) h
    ∙ eq-eqb a a refl

-- a member of an action is there, and joined it
pub member_action : (v : Version) (t : List ℕ → Bool) (J : History) → is_legal v t J ≡ true → (a p : ℕ)
    → is_among (members_of J a) p ≡ true → (is_among (members J) p ≡ true) × (action_of J p ≡ a)
member_action v t J l a p h = let k = both (is_among (members J) p) (action_of J p == a)
    (sym (members_of_lem v t J l a p) ∙ h) in (k.0, eqb-true (action_of J p) a k.1)

-- and the other way round
pub member_from : (v : Version) (t : List ℕ → Bool) (J : History) → is_legal v t J ≡ true → (p : ℕ)
    → is_among (members J) p ≡ true → is_among (members_of J (action_of J p)) p ≡ true
member_from v t J l p h = members_of_lem v t J l (action_of J p) p ∙ ap
    (λ (b : Bool). b && (action_of J p == action_of J p)) h ∙ eq-eqb (action_of J p) (action_of J p) refl

-- the actions that a deed names, but for one that it starts
abbrev pub actions_named : Deed → List ℕ
actions_named (Start a parent limit) = option_to_list parent
actions_named (Join p a uris) = a ∷ []
actions_named (Close a cause) = a ∷ []
actions_named (Cancel a cause) = a ∷ []
actions_named (End a s) = a ∷ []
actions_named (Renew a limit) = a ∷ []
actions_named _ = []

-- the members that a deed names, but for one that joins
abbrev pub members_named : Deed → List ℕ
members_named (Leave p) = p ∷ []
members_named (Skip p) = p ∷ []
members_named (Ask n p kind) = p ∷ []
members_named (Report p o) = p ∷ []
members_named _ = []

-- an allowed entry names actions that are there
pub actions_named_there : (v : Version) (t : List ℕ → Bool) (J : History) (by m : ℕ) (d : Deed)
    → Allowed v t J (record { by = by; moment = m; deed = d }) → (a : ℕ) → is_among (actions_named d) a ≡ true
    → is_among (actions J) a ≡ true
actions_named_there v t J by m d k a h = by_deed d (entry_kept v t (facts_of J)
    (record { by = by; moment = m; deed = d }) k.unbroken).deed h
  where
    one : (b : ℕ) → is_action (facts_of J) b ≡ true → ((b == a) || false) ≡ true → is_among (actions J) a ≡ true
    one b g i = ap (λ (n : ℕ). is_among (actions J) n) (sym (eqb-true b a (sym (or-false (b == a)) ∙ i)))
        ∙ (action_fact (λ (x : ActionFacts). true) J b g).0

    of_parent : (parent : Option ℕ) → each_parent (is_action (facts_of J)) parent ≡ true
        → is_among (option_to_list parent) a ≡ true → is_among (actions J) a ≡ true
    of_parent None g i = absurd cc
    of_parent (Some b) g i = one b g i

    by_deed : (d : Deed) → AllKept (deed_rules v t (facts_of J) m d) → is_among (actions_named d) a ≡ true
        → is_among (actions J) a ≡ true
    by_deed (Start b parent limit) r i = of_parent parent (start_kept v t (facts_of J) m b parent limit r).parent_there
        i
    by_deed (Join p b uris) r i = one b (join_kept v t (facts_of J) m p b uris r).there i
    by_deed (Close b cause) r i = one b (close_kept v t (facts_of J) m b cause r).there i
    by_deed (Cancel b cause) r i = one b (cancel_kept v t (facts_of J) m b cause r).there i
    by_deed (End b s) r i = one b (end_kept v t (facts_of J) m b s r).there i
    by_deed (Renew b limit) r i = one b (renew_kept v t (facts_of J) m b limit r).there i
    by_deed _ r i = absurd cc

-- an allowed entry names members that are there
pub members_named_there : (v : Version) (t : List ℕ → Bool) (J : History) (by m : ℕ) (d : Deed)
    → Allowed v t J (record { by = by; moment = m; deed = d }) → (p : ℕ) → is_among (members_named d) p ≡ true
    → is_among (members J) p ≡ true
members_named_there v t J by m d k p h = by_deed d (entry_kept v t (facts_of J)
    (record { by = by; moment = m; deed = d }) k.unbroken).deed h
  where
    one : (q : ℕ) → is_member (facts_of J) q ≡ true → ((q == p) || false) ≡ true → is_among (members J) p ≡ true
    one q g i = ap (λ (n : ℕ). is_among (members J) n) (sym (eqb-true q p (sym (or-false (q == p)) ∙ i)))
        ∙ (member_fact (λ (x : MemberFacts). true) J q g).0

    by_deed : (d : Deed) → AllKept (deed_rules v t (facts_of J) m d) → is_among (members_named d) p ≡ true
        → is_among (members J) p ≡ true
    by_deed (Leave q) r i = one q (leave_kept v t (facts_of J) m q r).there i
    by_deed (Skip q) r i = one q (skip_kept v t (facts_of J) m q r).there i
    by_deed (Ask n q kind) r i = one q (ask_kept v t (facts_of J) m n q kind r).there i
    by_deed (Report q o) r i = one q (report_kept v t (facts_of J) m q o r).there i
    by_deed _ r i = absurd cc

-- the action that a member joined is there
pub action_of_there : (v : Version) (t : List ℕ → Bool) (J : History) → is_legal v t J ≡ true → (p : ℕ)
    → is_among (members J) p ≡ true → is_among (actions J) (action_of J p) ≡ true
unfolding members
action_of_there v t = legal_induction v t (λ J. (p : ℕ) → is_among (members J) p ≡ true
    → is_among (actions J) (action_of J p) ≡ true) (λ p h. absurd cc) push
  where
    push : (J : History) (e : Entry) → is_legal v t J ≡ true → Allowed v t J e
        → ((p : ℕ) → is_among (members J) p ≡ true → is_among (actions J) (action_of J p) ≡ true)
        → (p : ℕ) → is_among (members (J ++ e ∷ [])) p ≡ true → is_among (actions (J ++ e ∷ []))
        (action_of (J ++ e ∷ []) p) ≡ true
    push J e l k ih p h = decide (is_among (members J) p) refl
      where
        after : is_among (members (J ++ e ∷ [])) p ≡ (is_among (members J) p
            || option_map_or (λ m. m == p) (joined_by e.deed) false)
        after = ap (λ (ns : List ℕ). is_among ns p) (members_push J e) ∙ among_push (members J) (joined_by e.deed) p

        new : (d : Deed) → ((a : ℕ) → is_among (actions_named d) a ≡ true → is_among (actions J) a ≡ true)
            → option_map_or (λ m. m == p) (joined_by d) false ≡ true → is_among (actions J)
            (unwrap_or (action_given p d) 0) ≡ true
        new (Join q a uris) there g = one (q == p) g
          where
            one : (y : Bool) → y ≡ true → is_among (actions J) (unwrap_or (when y a) 0) ≡ true
            one true i = there a (ap (λ (b : Bool). b || false) (eq-eqb a a refl))
            one false i = absurd cc
        new _ there g = absurd cc

        decide : (x : Bool) → is_among (members J) p ≡ x → is_among (actions (J ++ e ∷ [])) (action_of (J ++ e ∷ []) p)
            ≡ true
        decide true g = ap (λ (n : ℕ). is_among (actions (J ++ e ∷ [])) n) (action_of_stays J e p g)
            ∙ action_there_push J e (action_of J p) (ih p g)
        decide false g =
            ap (λ (n : ℕ). is_among (actions (J ++ e ∷ [])) n) (action_of_new J e p g)
            ∙ action_there_push J e (unwrap_or (action_given p e.deed) 0)
            (new e.deed (actions_named_there v t J e.by e.moment e.deed k)
            (ap (λ (b : Bool). b || option_map_or (λ m. m == p) (joined_by e.deed) false) (sym g) ∙ sym after ∙ h))

-- a member that some deed names is there
pub member_named_there : (v : Version) (t : List ℕ → Bool) (p : ℕ) (test : Deed → Bool)
    → ((d : Deed) → test d ≡ true → is_among (members_named d) p ≡ true)
    → (J : History) → is_legal v t J ≡ true → list_any (λ (e : Entry). test e.deed) J ≡ true → is_among (members J) p
    ≡ true
member_named_there v t p test named = legal_induction v t (λ J. list_any (λ (e : Entry). test e.deed) J ≡ true
    → is_among (members J) p ≡ true) (λ h. absurd cc) push
  where
    push : (J : History) (e : Entry) → is_legal v t J ≡ true → Allowed v t J e
        → (list_any (λ (x : Entry). test x.deed) J ≡ true → is_among (members J) p ≡ true)
        → list_any (λ (x : Entry). test x.deed) (J ++ e ∷ []) ≡ true → is_among (members (J ++ e ∷ [])) p ≡ true
    push J e l k ih h = member_there_push J e p (either (list_any (λ (x : Entry). test x.deed) J) ih
        (sym (any_push (λ (x : Entry). test x.deed) J e) ∙ h))
      where
        either : (b : Bool) → (b ≡ true → is_among (members J) p ≡ true) → (b || test e.deed) ≡ true
            → is_among (members J) p ≡ true
        either true g i = g refl
        either false g i = members_named_there v t J e.by e.moment e.deed k p (named e.deed i)

-- a member that was asked, or has left, is there
pub was_asked_there : (v : Version) (t : List ℕ → Bool) (J : History) → is_legal v t J ≡ true → (p : ℕ) (kind : AskKind)
    → was_asked J p kind ≡ true → is_among (members J) p ≡ true
unfolding was_asked
was_asked_there v t J l p kind h = member_named_there v t p (is_ask_for p kind) named J l h
  where
    named : (d : Deed) → is_ask_for p kind d ≡ true → is_among (members_named d) p ≡ true
    named (Ask n q asked) g = ap (λ (b : Bool). b || false) (both (q == p) (same_kind asked kind) g).0
    named _ g = absurd cc

pub has_left_there : (v : Version) (t : List ℕ → Bool) (J : History) → is_legal v t J ≡ true → (p : ℕ) → has_left J p
    ≡ true → is_among (members J) p ≡ true
unfolding has_left
has_left_there v t J l p h = member_named_there v t p (is_leave_of p) named J l h
  where
    named : (d : Deed) → is_leave_of p d ≡ true → is_among (members_named d) p ≡ true
    named (Leave q) g = ap (λ (b : Bool). b || false) g
    named _ g = absurd cc
