-- Where the actions stand after one more entry.
use Rattle.std.proofs.Common.{◌≡◌, ℕ, suc, Bool, true, false, List, [], ◌∷◌, ◌++◌, map, Option, Some, None, refl, sym}
use Rattle.std.proofs.Common.{ap, ◌∙◌, append-nil}
use Rattle.std.specs.Prelude.{◌==◌, cond, filter, option_to_list, unwrap_or}
use Rattle.std.specs.Option.{option_map_or}
use Rattle.std.proofs.lemmas.List.Elements.{filter-append}
use Rattle.lra_model.specs.declared.entry.Deed.{Deed}
use Rattle.lra_model.specs.declared.entry.Deed.TheVariants.{Start, Join}
use Rattle.lra_model.specs.declared.entry.Entry.{Entry}
use Rattle.lra_model.specs.declared.version.Version.{Version}
use Rattle.lra_model.specs.Addresses.{Addresses}
use Rattle.lra_model.specs.Words.{when}
use Rattle.lra_model.specs.History.{History, actions, started_by, members, joined_by, is_among}
use Rattle.lra_model.specs.Actions.{parent, top, child_given, children, member_given, members_of, depth}
use Rattle.lra_model.specs.Members.{action_given, action_of, members_under}
use Rattle.lra_model.specs.Rules.{is_legal}
use Rattle.lra_laws.specs.Rows.{ActionRow, action_row, state_of, change_row}
use Rattle.lra_laws.specs.Snapshots.{Nesting, nesting_of, with_child_number, with_member_number, with_number_under}
use Rattle.lra_laws.specs.Snapshots.{top_at}
use Rattle.lra_laws.specs.Snapshots.{new_depth, new_nesting, nests_after}
use Rattle.lra_laws.proofs.Push.{actions_push, children_push, members_push, members_of_push}
use Rattle.lra_laws.proofs.GoodLists.{filter_same}
use Rattle.lra_laws.proofs.Legal.{Allowed, legal_more, IsNumbered, numbered_fresh, actions_numbered, members_numbered}
use Rattle.lra_laws.proofs.Named.{parent_of_new, parent_there, action_of_stays, action_of_new, action_of_there}
use Rattle.lra_laws.proofs.RowLists.{eqb_self, eqb_flip, among_apart, map_within, row_there, rows_changed, rows_more}
use Rattle.lra_laws.proofs.Told.{entry, more, StartTold, JoinTold, Told}
use Rattle.lra_laws.proofs.ActionWords.{members_by, children_by, is_parent, actions_stay}
use Rattle.lra_laws.proofs.Tops.{top_stays, top_is_there, depth_stays, depth_by_parent}

-- the children and the members of an action after an entry
children_after : (J : History) (by m : ℕ) (d : Deed) (a : ℕ) (o : Option ℕ) → child_given a d ≡ o
    → children (more J by m d) a ≡ children J a ++ option_to_list o
children_after J by m d a o h = children_push J (entry by m d) a ∙ ap (λ (x : Option ℕ). children J a
    ++ option_to_list x) h

members_after : (J : History) (by m : ℕ) (d : Deed) (a : ℕ) (o : Option ℕ) → member_given a d ≡ o
    → members_of (more J by m d) a ≡ members_of J a ++ option_to_list o
members_after J by m d a o h = members_of_push J (entry by m d) a ∙ ap
    (λ (x : Option ℕ). members_of J a ++ option_to_list x) h

-- the members of all that stand in an action, after an entry: that of one that joins is there
abbrev under_given : History → ℕ → Deed → Option ℕ
under_given J t (Join p a uris) = when (top J a == t) p
under_given J t _ = None

under_after : (v : Version) (t : List ℕ → Bool) (J : History) (by m : ℕ) (d : Deed) (a : ℕ) (o : Option ℕ)
    → is_legal v t J ≡ true → Told J by d → under_given J a d ≡ o → members_under (more J by m d) a ≡ members_under J a
    ++ option_to_list o
unfolding members_under
under_after v t J by m d a o l x h =
    ap (filter new) (members_push J e)
    ∙ filter-append new (members J) (option_to_list (joined_by d))
    ∙ ap (λ (ns : List ℕ). ns ++ filter new (option_to_list (joined_by d))) (filter_same new old (members J) same)
    ∙ ap (λ (ns : List ℕ). filter old (members J) ++ ns) (of_deed d x (λ p g. action_of_new J e p g)
    ∙ ap (λ (q : Option ℕ). option_to_list q) h)
  where
    e : Entry
    e = entry by m d

    K : History
    K = more J by m d

    old : ℕ → Bool
    old p = top J (action_of J p) == a

    new : ℕ → Bool
    new p = top K (action_of K p) == a

    same : (p : ℕ) → is_among (members J) p ≡ true → new p ≡ old p
    same p g = ap (λ (b : ℕ). top K b == a) (action_of_stays J e p g) ∙ ap (λ (b : ℕ). b == a)
        (top_stays v t J e l (action_of J p) (action_of_there v t J l p g))

    one : (b : Bool) (p : ℕ) → cond b (p ∷ []) [] ≡ option_to_list (when b p)
    one true p = refl
    one false p = refl

    of_deed : (d : Deed) → Told J by d → ((p : ℕ) → is_among (members J) p ≡ false → action_of K p
        ≡ unwrap_or (action_given p d) 0) → filter new (option_to_list (joined_by d))
        ≡ option_to_list (under_given J a d)
    of_deed (Join p b uris) x given =
        let it : action_of K p ≡ b = given p (numbered_fresh (members J) (members_numbered v t J l) p x.number)
        ∙ ap (λ (y : Bool). unwrap_or (when y b) 0) (eqb_self p) in
        ap (λ (y : Bool). cond y (p ∷ []) []) (ap (λ (c : ℕ). top K c == a) it
        ∙ ap (λ (c : ℕ). c == a) (top_stays v t J e l b x.there)) ∙ one (top J b == a) p
    of_deed _ x given = refl

-- an action that gets neither
nest_still : (v : Version) (t : List ℕ → Bool) (J : History) (by m : ℕ) (d : Deed) (a : ℕ) → is_legal v t J ≡ true
    → Told J by d → is_among (actions J) a ≡ true → child_given a d ≡ None → member_given a d ≡ None → under_given J a d
    ≡ None → nesting_of (more J by m d) a ≡ nesting_of J a
nest_still v t J by m d a l x h no_child no_member no_under = λ i. record {
  depth = depth_stays v t J (entry by m d) l a h i;
  children = (children_after J by m d a None no_child ∙ append-nil (children J a)) i;
  members = (members_after J by m d a None no_member ∙ append-nil (members_of J a)) i;
  under = (under_after v t J by m d a None l x no_under ∙ append-nil (members_under J a)) i;
}

nests_still : (v : Version) (t : List ℕ → Bool) (J : History) (by m : ℕ) (d : Deed) → is_legal v t J ≡ true
    → Told J by d → started_by d ≡ None → ((a : ℕ) → child_given a d ≡ None) → ((a : ℕ) → member_given a d ≡ None)
    → ((a : ℕ) → under_given J a d ≡ None)
    → map (nesting_of (more J by m d)) (actions (more J by m d)) ≡ map (nesting_of J) (actions J)
nests_still v t J by m d l x no_start no_child no_member no_under =
    ap (map (nesting_of (more J by m d))) (actions_stay J by m d no_start)
    ∙ map_within (nesting_of (more J by m d)) (nesting_of J) (actions J)
    (λ a h. nest_still v t J by m d a l x h (no_child a)
    (no_member a) (no_under a))

-- one that joins: its number goes to its action, and to the outermost one above that
nests_joined : (v : Version) (t : List ℕ → Bool) (J : History) (by m p c : ℕ) (uris : Addresses) → is_legal v t J ≡ true
    → JoinTold J p c
    → map (nesting_of (more J by m (Join p c uris))) (actions (more J by m (Join p c uris)))
    ≡ change_row (with_number_under p) (top_at (state_of J) c) (change_row (with_member_number p) c
    (map (nesting_of J) (actions J)))
nests_joined v t J by m p c uris l x =
    ap (map (nesting_of K)) (actions_stay J by m (Join p c uris) refl)
    ∙ rows_changed (with_number_under p) joined (nesting_of K) (actions J) (top J c) numbered
    (top_is_there v t J l c x.there) (λ a h e. stood a None (ap (λ (b : Bool). when b p) e)
    ∙ ap (λ (ns : List ℕ). record (joined a) { under = ns }) (append-nil (members_under J a)))
    (stood (top J c) (Some p) (ap (λ (b : Bool). when b p) (eqb_self (top J c))))
    ∙ ap (change_row (with_number_under p) (top J c)) (rows_changed (with_member_number p) (nesting_of J) joined
    (actions J) c numbered x.there (λ a h e. gone_in a h None (ap (λ (b : Bool). when b p) e)
    ∙ ap (λ (ns : List ℕ). record (nesting_of J a) { members = ns }) (append-nil (members_of J a)))
    (gone_in c x.there (Some p) (ap (λ (b : Bool). when b p) (eqb_self c))))
    ∙ sym (ap (λ (o : Option ActionRow). change_row (with_number_under p) (option_map_or (λ (r : ActionRow). r.top) o 0)
    (change_row (with_member_number p) c (map (nesting_of J) (actions J))))
    (row_there (action_row J) (actions J) c numbered x.there))
  where
    K : History
    K = more J by m (Join p c uris)

    numbered : IsNumbered (actions J)
    numbered = actions_numbered v t J l

    -- the number has gone to the action alone
    joined : ℕ → Nesting
    joined a = record (nesting_of K a) { under = members_under J a }

    gone_in : (a : ℕ) → is_among (actions J) a ≡ true → (o : Option ℕ) → when (c == a) p ≡ o → joined a
        ≡ record (nesting_of J a) { members = members_of J a ++ option_to_list o }
    gone_in a h o e = λ i. record {
      depth = depth_stays v t J (entry by m (Join p c uris)) l a h i;
      children = (children_after J by m (Join p c uris) a None refl ∙ append-nil (children J a)) i;
      members = members_after J by m (Join p c uris) a o e i;
      under = members_under J a;
    }

    stood : (a : ℕ) (o : Option ℕ) → when (top J c == a) p ≡ o → nesting_of K a
        ≡ record (joined a) { under = members_under J a ++ option_to_list o }
    stood a o e = λ i. record (joined a) { under = under_after v t J by m (Join p c uris) a o l x e i }

filter_none : (f : ℕ → Bool) (ns : List ℕ) → ((n : ℕ) → is_among ns n ≡ true → f n ≡ false) → filter f ns ≡ []
filter_none f ns h = filter_same f (λ n. false) ns h ∙ none ns
  where
    none : (ns : List ℕ) → filter (λ n. false) ns ≡ []
    none [] = refl
    none (n ∷ ns) = none ns

-- an action that isn't there has neither
pub nothing_in : (v : Version) (t : List ℕ → Bool) (J : History) (c : ℕ) → is_legal v t J ≡ true
    → is_among (actions J) c ≡ false → (children J c ≡ []) × (members_of J c ≡ []) × (members_under J c ≡ [])
unfolding members_under
nothing_in v t J c l fresh = (
  children_by v t J l c ∙ filter_none (λ b. is_parent c (parent J b)) (actions J)
      (λ b h. of_parent b (parent J b) refl),
  members_by v t J l c ∙ filter_none (λ p. action_of J p == c) (members J)
      (λ p h. eqb_flip c (action_of J p) (among_apart (actions J) (action_of J p) c (action_of_there v t J l p h)
      fresh)),
  filter_none (λ p. top J (action_of J p) == c) (members J) (λ p h. eqb_flip c (top J (action_of J p))
      (among_apart (actions J) (top J (action_of J p)) c (top_is_there v t J l (action_of J p)
      (action_of_there v t J l p h)) fresh)),
)
  where
    of_parent : (b : ℕ) (o : Option ℕ) → parent J b ≡ o → is_parent c o ≡ false
    of_parent b None e = refl
    of_parent b (Some a) e = eqb_flip c a (among_apart (actions J) a c (parent_there v t J l b a e).parent fresh)

nests_started : (v : Version) (t : List ℕ → Bool) (J : History) (by m c : ℕ) (above : Option ℕ) (limit : ℕ)
    → is_legal v t J ≡ true → Allowed v t J (entry by m (Start c above limit)) → StartTold J c above
    → map (nesting_of (more J by m (Start c above limit))) (actions (more J by m (Start c above limit)))
    ≡ nests_after (state_of J) (Start c above limit) (map (nesting_of J) (actions J))
nests_started v t J by m c above limit l k told =
    ap (map (nesting_of K)) (actions_push J (entry by m (Start c above limit)))
    ∙ rows_more (nesting_of K) (actions J) c
    ∙ (λ i. rows above told.parent_there (λ a. refl) i ++ new_row i ∷ [])
  where
    K : History
    K = more J by m (Start c above limit)

    fresh : is_among (actions J) c ≡ false
    fresh = numbered_fresh (actions J) (actions_numbered v t J l) c told.number

    -- an action that was there
    old : (a : ℕ) (o : Option ℕ) → is_among (actions J) a ≡ true → child_given a (Start c above limit) ≡ o
        → nesting_of K a
        ≡ record (nesting_of J a) { children = children J a ++ option_to_list o }
    old a o h e = λ i. record {
      depth = depth_stays v t J (entry by m (Start c above limit)) l a h i;
      children = children_after J by m (Start c above limit) a o e i;
      members = (members_after J by m (Start c above limit) a None refl ∙ append-nil (members_of J a)) i;
      under = (under_after v t J by m (Start c above limit) a None l told refl ∙ append-nil (members_under J a)) i;
    }

    same : (a : ℕ) → is_among (actions J) a ≡ true → child_given a (Start c above limit) ≡ None → nesting_of K a
        ≡ nesting_of J a
    same a h e = nest_still v t J by m (Start c above limit) a l told h e refl refl

    rows : (o : Option ℕ) → option_map_or (is_among (actions J)) o true ≡ true
        → ((a : ℕ) → child_given a (Start c above limit) ≡ child_given a (Start c o limit))
        → map (nesting_of K) (actions J) ≡ option_map_or (λ b. change_row (with_child_number c) b
        (map (nesting_of J) (actions J))) o (map (nesting_of J) (actions J))
    rows None there given = map_within (nesting_of K) (nesting_of J) (actions J) (λ a h. same a h (given a))
    rows (Some b) there given =
        rows_changed (with_child_number c) (nesting_of J) (nesting_of K) (actions J) b (actions_numbered v t J l) there
        (λ a h e. same a h (given a ∙ ap (λ (x : Bool). when x c) e))
        (old b (Some c) there (given b ∙ ap (λ (x : Bool). when x c) (eqb_self b)))

    up : parent K c ≡ above
    up = parent_of_new J (entry by m (Start c above limit)) c fresh ∙ ap (λ (b : Bool). unwrap_or (when b above) None)
        (eqb_self c)

    deep : (o : Option ℕ) → option_map_or (is_among (actions J)) o true ≡ true
        → option_map_or (λ b. suc (depth K b)) o 1 ≡ new_depth (map (nesting_of J) (actions J)) o
    deep None h = refl
    deep (Some b) h =
        ap (λ (x : ℕ). suc x) (depth_stays v t J (entry by m (Start c above limit)) l b h)
        ∙ sym (ap (λ (o : Option Nesting). option_map_or (λ (n : Nesting). suc n.depth) o 1)
        (row_there (nesting_of J) (actions J) b (actions_numbered v t J l) h))

    outside : (o : Option ℕ) → option_map_or (is_among (actions J)) o true ≡ true → child_given c (Start c o limit)
        ≡ None
    outside None h = refl
    outside (Some b) h = ap (λ (x : Bool). when x c) (eqb_flip c b (among_apart (actions J) b c h fresh))

    empty : (children J c ≡ []) × (members_of J c ≡ []) × (members_under J c ≡ [])
    empty = nothing_in v t J c l fresh

    new_row : nesting_of K c ≡ new_nesting (new_depth (map (nesting_of J) (actions J)) above)
    new_row = λ i. record {
      depth = (depth_by_parent v t K (legal_more v t J (entry by m (Start c above limit)) l k) c
          ∙ ap (λ (o : Option ℕ). option_map_or (λ b. suc (depth K b)) o 1) up ∙ deep above told.parent_there) i;
      children = (children_after J by m (Start c above limit) c None (outside above told.parent_there)
          ∙ append-nil (children J c) ∙ empty.0) i;
      members = (members_after J by m (Start c above limit) c None refl ∙ append-nil (members_of J c) ∙ empty.1) i;
      under = (under_after v t J by m (Start c above limit) c None l told refl ∙ append-nil (members_under J c)
          ∙ empty.2) i;
    }

pub nests_push : (v : Version) (t : List ℕ → Bool) (J : History) (by m : ℕ) (d : Deed) → is_legal v t J ≡ true
    → Allowed v t J (entry by m d) → Told J by d
    → map (nesting_of (more J by m d)) (actions (more J by m d))
    ≡ nests_after (state_of J) d (map (nesting_of J) (actions J))
nests_push v t J by m (Start c above limit) l k x = nests_started v t J by m c above limit l k x
nests_push v t J by m (Join p a uris) l k x = nests_joined v t J by m p a uris l x
nests_push v t J by m d l k x = nests_still v t J by m d l x refl (λ a. refl) (λ a. refl) (λ a. refl)
