-- The words of an action after one more entry, and its counts as counts over rows.
use Rattle.std.proofs.Common.{◌≡◌, ℕ, ◌+◌, Bool, true, false, List, [], ◌∷◌, ◌++◌, length, Option, Some, None, refl}
use Rattle.std.proofs.Common.{sym, ap, ◌∙◌, cond, append-nil}
use Rattle.std.specs.Prelude.{◌==◌, ◌&&◌, not, is_some, unwrap_or, option_to_list, filter, count_by}
use Rattle.std.specs.Option.{option_map_or, option_or}
use Rattle.std.proofs.lemmas.List.Elements.{filter-append}
use Rattle.lra_model.specs.declared.status.ActionStatus.{ActionStatus}
use Rattle.lra_model.specs.declared.status.MemberStatus.{MemberStatus}
use Rattle.lra_model.specs.declared.entry.Deed.{Deed}
use Rattle.lra_model.specs.declared.entry.Deed.TheVariants.{Start, Join}
use Rattle.lra_model.specs.declared.entry.Entry.{Entry}
use Rattle.lra_model.specs.declared.version.Version.{Version}
use Rattle.lra_model.specs.Words.{when, has_gone}
use Rattle.lra_model.specs.History.{History, actions, started_by, members, joined_by, is_among}
use Rattle.lra_model.specs.Actions.{Limit, parent_given, parent, status_given, action_status, limit_given}
use Rattle.lra_model.specs.Actions.{limit_in_force, child_given, children, member_given, members_of}
use Rattle.lra_model.specs.Members.{action_given, action_of, addresses_of, has_left, stays, member_status}
use Rattle.lra_model.specs.Ends.{staying, action_is}
use Rattle.lra_model.specs.Rules.{is_legal}
use Rattle.lra_laws.proofs.Push.{actions_push, action_status_push, limit_push, children_push, members_push}
use Rattle.lra_laws.proofs.Push.{members_of_push}
use Rattle.lra_laws.proofs.GoodLists.{filter_same}
use Rattle.lra_laws.proofs.Legal.{legal_induction, Allowed, numbered_fresh, actions_numbered, members_numbered}
use Rattle.lra_laws.proofs.Legal.{started_number, joined_number}
use Rattle.lra_laws.proofs.Named.{parent_stays, parent_of_new, action_of_stays}
use Rattle.lra_laws.proofs.Named.{action_of_new}
use Rattle.lra_laws.specs.Rows.{MemberRow, member_row, count_staying, count_children, counts_as}
use Rattle.lra_laws.proofs.RowLists.{eqb_self, count_filter, count_within}
use Rattle.lra_laws.proofs.Told.{entry, more}
use Rattle.lra_laws.proofs.MemberWords.{status_is}
use Rattle.lra_laws.proofs.StatusCases.{gone_is_left}

-- ---- members of an action

-- the members of an action, by the action that each joined
pub members_by : (v : Version) (t : List ℕ → Bool) (J : History) → is_legal v t J ≡ true → (a : ℕ) → members_of J a
    ≡ filter (λ q. action_of J q == a) (members J)
unfolding members_of members
members_by v t = legal_induction v t (λ J. (a : ℕ) → members_of J a ≡ filter (λ q. action_of J q == a) (members J))
    (λ a. refl) push
  where
    push : (J : History) (e : Entry) → is_legal v t J ≡ true → Allowed v t J e
        → ((a : ℕ) → members_of J a ≡ filter (λ q. action_of J q == a) (members J))
        → (a : ℕ) → members_of (J ++ e ∷ []) a ≡ filter (λ q. action_of (J ++ e ∷ []) q == a) (members (J ++ e ∷ []))
    push J e l k ih a =
        members_of_push J e a ∙ ap (λ (ns : List ℕ). ns ++ option_to_list (member_given a e.deed)) (ih a ∙ same)
        ∙ ap (λ (ns : List ℕ). filter (λ q. action_of (J ++ e ∷ []) q == a) (members J) ++ ns)
        (new e.deed (λ p h. joined_number v t J e.by e.moment e.deed k p h) (λ p h. action_of_new J e p h))
        ∙ sym (ap (filter (λ q. action_of (J ++ e ∷ []) q == a)) (members_push J e)
        ∙ filter-append (λ q. action_of (J ++ e ∷ []) q == a) (members J) (option_to_list (joined_by e.deed)))
      where
        same : filter (λ q. action_of J q == a) (members J) ≡ filter (λ q. action_of (J ++ e ∷ []) q == a) (members J)
        same = filter_same (λ q. action_of J q == a) (λ q. action_of (J ++ e ∷ []) q == a) (members J)
            (λ q h. ap (λ (b : ℕ). b == a) (sym (action_of_stays J e q h)))

        new : (d : Deed) → ((p : ℕ) → joined_by d ≡ Some p → p ≡ length (members J) + 1)
            → ((p : ℕ) → is_among (members J) p ≡ false → action_of (J ++ e ∷ []) p ≡ unwrap_or (action_given p d) 0)
            → option_to_list (member_given a d) ≡ filter (λ q. action_of (J ++ e ∷ []) q == a)
            (option_to_list (joined_by d))
        new (Join p b u) number given =
            let it : action_of (J ++ e ∷ []) p ≡ b = given p (numbered_fresh (members J) (members_numbered v t J l) p
            (number p refl)) ∙ ap (λ (x : Bool). unwrap_or (when x b) 0) (eqb_self p) in
            one (b == a) ∙ ap (λ (c : ℕ). cond (c == a) (p ∷ []) []) (sym it)
          where
            one : (x : Bool) → option_to_list (when x p) ≡ cond x (p ∷ []) []
            one true = refl
            one false = refl
        new _ number given = refl

-- whether a row counts for an action
abbrev pub counts_in : (MemberStatus → Bool) → ℕ → MemberRow → Bool
counts_in test a r = (r.action == a) && counts_as test r

-- how many staying members pass, over the rows of all members
pub staying_count : (v : Version) (t : List ℕ → Bool) (J : History) → is_legal v t J ≡ true
    → (test : MemberStatus → Bool) (a : ℕ) → count_staying test J a ≡ count_by (λ p. counts_in test a (member_row J p))
    (members J)
unfolding count_staying staying stays
staying_count v t J l test a =
    count_filter (λ p. is_some (addresses_of J p).compensate && not (has_left J p)) (λ p. test (member_status J p))
    (members_of J a)
    ∙ ap (count_by (λ p. (is_some (addresses_of J p).compensate && not (has_left J p)) && test (member_status J p)))
    (members_by v t J l a)
    ∙ count_filter (λ q. action_of J q == a) (λ p. (is_some (addresses_of J p).compensate && not (has_left J p))
    && test (member_status J p)) (members J)
    ∙ count_within (λ p. (action_of J p == a) && ((is_some (addresses_of J p).compensate && not (has_left J p))
    && test (member_status J p))) (λ p. counts_in test a (member_row J p)) (members J)
    (λ p h. ap (λ (b : Bool). (action_of J p == a) && b) (here p))
  where
    gone : (p : ℕ) → has_gone (member_status J p) ≡ has_left J p
    gone p = ap has_gone (status_is J p) ∙ gone_is_left _ _ _ _ _

    here : (p : ℕ) → ((is_some (addresses_of J p).compensate && not (has_left J p)) && test (member_status J p))
        ≡ counts_as test (member_row J p)
    here p = ap (λ (b : Bool). (is_some (addresses_of J p).compensate && not b) && test (member_status J p))
        (sym (gone p))

-- ---- nested actions

abbrev pub is_parent : ℕ → Option ℕ → Bool
is_parent a o = option_map_or (λ b. b == a) o false

pub children_by : (v : Version) (t : List ℕ → Bool) (J : History) → is_legal v t J ≡ true → (a : ℕ) → children J a
    ≡ filter (λ c. is_parent a (parent J c)) (actions J)
unfolding children actions
children_by v t = legal_induction v t (λ J. (a : ℕ) → children J a ≡ filter (λ c. is_parent a (parent J c)) (actions J))
    (λ a. refl) push
  where
    push : (J : History) (e : Entry) → is_legal v t J ≡ true → Allowed v t J e
        → ((a : ℕ) → children J a ≡ filter (λ c. is_parent a (parent J c)) (actions J))
        → (a : ℕ) → children (J ++ e ∷ []) a ≡ filter (λ c. is_parent a (parent (J ++ e ∷ []) c))
        (actions (J ++ e ∷ []))
    push J e l k ih a =
        children_push J e a ∙ ap (λ (ns : List ℕ). ns ++ option_to_list (child_given a e.deed)) (ih a ∙ same)
        ∙ ap (λ (ns : List ℕ). filter (λ c. is_parent a (parent (J ++ e ∷ []) c)) (actions J) ++ ns)
        (new e.deed (λ p h. started_number v t J e.by e.moment e.deed k p h) (λ p h. parent_of_new J e p h))
        ∙ sym (ap (filter (λ c. is_parent a (parent (J ++ e ∷ []) c))) (actions_push J e)
        ∙ filter-append (λ c. is_parent a (parent (J ++ e ∷ []) c)) (actions J)
        (option_to_list (started_by e.deed)))
      where
        same : filter (λ c. is_parent a (parent J c)) (actions J) ≡ filter (λ c. is_parent a (parent (J ++ e ∷ []) c))
            (actions J)
        same = filter_same (λ c. is_parent a (parent J c)) (λ c. is_parent a (parent (J ++ e ∷ []) c)) (actions J)
            (λ c h. ap (is_parent a) (sym (parent_stays J e c h)))

        new : (d : Deed) → ((c : ℕ) → started_by d ≡ Some c → c ≡ length (actions J) + 1)
            → ((c : ℕ) → is_among (actions J) c ≡ false → parent (J ++ e ∷ []) c ≡ unwrap_or (parent_given c d) None)
            → option_to_list (child_given a d) ≡ filter (λ c. is_parent a (parent (J ++ e ∷ []) c))
            (option_to_list (started_by d))
        new (Start c above limit) number given =
            let it : parent (J ++ e ∷ []) c ≡ above = given c (numbered_fresh (actions J) (actions_numbered v t J l) c
            (number c refl)) ∙ ap (λ (x : Bool). unwrap_or (when x above) None) (eqb_self c) in
            of_parent above ∙ ap (λ (o : Option ℕ). cond (is_parent a o) (c ∷ []) []) (sym it)
          where
            of_parent : (o : Option ℕ) → option_to_list (child_given a (Start c o limit))
                ≡ cond (is_parent a o) (c ∷ []) []
            of_parent None = refl
            of_parent (Some b) = one (b == a)
              where
                one : (x : Bool) → option_to_list (when x c) ≡ cond x (c ∷ []) []
                one true = refl
                one false = refl
        new _ number given = refl

-- how many nested actions pass, over all actions
pub children_count : (v : Version) (t : List ℕ → Bool) (J : History) → is_legal v t J ≡ true
    → (test : ActionStatus → Bool) (a : ℕ) → count_children test J a ≡ count_by
    (λ c. is_parent a (parent J c) && action_is test J c) (actions J)
unfolding count_children
children_count v t J l test a = ap (count_by (action_is test J)) (children_by v t J l a)
    ∙ count_filter (λ c. is_parent a (parent J c)) (action_is test J) (actions J)

-- ---- status and limit

pub status_kept : (J : History) (by m : ℕ) (d : Deed) (a : ℕ) → status_given a d ≡ None
    → action_status (more J by m d) a ≡ action_status J a
status_kept J by m d a h = action_status_push J (entry by m d) a ∙ ap (λ (o : Option ActionStatus). option_or o
    (action_status J a)) h

pub limit_kept : (J : History) (by m : ℕ) (d : Deed) (a : ℕ) → limit_given a (entry by m d) ≡ None
    → limit_in_force (more J by m d) a ≡ limit_in_force J a
limit_kept J by m d a h = limit_push J (entry by m d) a ∙ ap (λ (o : Option Limit). unwrap_or o (limit_in_force J a)) h

pub actions_stay : (J : History) (by m : ℕ) (d : Deed) → started_by d ≡ None → actions (more J by m d) ≡ actions J
actions_stay J by m d h = actions_push J (entry by m d) ∙ ap (λ (o : Option ℕ). actions J ++ option_to_list o) h
    ∙ append-nil (actions J)
