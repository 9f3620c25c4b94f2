-- An entry and all that settles after it leave the wants and the deadlines of all that aren't listed by the history
-- before them as they were.
use Rattle.std.proofs.Common.{◌≡◌, ℕ, zero, suc, Bool, true, false, List, [], ◌∷◌, ◌++◌, Option, Some, None, refl, sym}
use Rattle.std.proofs.Common.{ap, ◌∙◌, subst, cond, append-nil, append_assoc}
use Rattle.std.specs.Prelude.{◌==◌, ◌&&◌, ◌||◌, is_some}
use Rattle.std.specs.Option.{option_map_or}
use Rattle.std.proofs.lemmas.List.Folds.{list_any-append}
use Rattle.lra_model.specs.declared.version.Version.{Version}
use Rattle.lra_model.specs.declared.entry.Deed.{Deed}
use Rattle.lra_model.specs.declared.entry.Deed.TheVariants.{Close, Cancel, Skip, End}
use Rattle.lra_model.specs.declared.entry.Entry.{Entry}
use Rattle.lra_model.specs.History.{History, actions, members, is_among}
use Rattle.lra_model.specs.Actions.{parent, top, members_of}
use Rattle.lra_model.specs.Members.{action_of, members_under}
use Rattle.lra_model.specs.Settling.{is_settling, next_settling, settling_within, most_settling, with_settling}
use Rattle.lra_model.specs.Rules.{is_legal}
use Rattle.lra_laws.specs.Changes.{members_changed, actions_changed, members_changed_by, actions_changed_by}
use Rattle.lra_laws.proofs.Changes.{SameWants, SameLimit, wants_kept, limits_kept, under_lem}
use Rattle.lra_laws.proofs.Legal.{Allowed}
use Rattle.lra_laws.proofs.Named.{action_there_push, parent_stays, action_of_stays, action_of_there}
use Rattle.lra_laws.proofs.Named.{members_of_lem}
use Rattle.lra_laws.proofs.Rests.{next_settles}
use Rattle.lra_laws.proofs.RowLists.{eqb_flip, among_apart}
use Rattle.lra_laws.proofs.Settled.{settling_allowed}
use Rattle.lra_laws.proofs.Told.{entry, more}
use Rattle.lra_laws.proofs.Tops.{top_is_there, top_stays}
use Rattle.lra_laws.proofs.Writes.{MayWrite, may_go_on}

-- ---- one after another

-- what stays twice stays
wants_twice : (J K L : History) (p : ℕ) → SameWants J K p → SameWants K L p → SameWants J L p
wants_twice J K L p x y = record {
  there = y.there ∙ x.there;
  want = λ h. y.want (x.there ∙ h) ∙ x.want h;
  repeats = λ h kind w. y.repeats (x.there ∙ h) kind (x.want h ∙ w) ∙ x.repeats h kind w;
}

wants_same : (J : History) (p : ℕ) → SameWants J J p
wants_same J p = record { there = refl; want = λ h. refl; repeats = λ h kind w. refl }

limit_twice : (J K L : History) (a : ℕ) → SameLimit J K a → SameLimit K L a → SameLimit J L a
limit_twice J K L a x y = record { there = y.there ∙ x.there; status = y.status ∙ x.status; limit = y.limit ∙ x.limit }

limit_same : (J : History) (a : ℕ) → SameLimit J J a
limit_same J a = record { there = refl; status = refl; limit = refl }

-- what is in neither of two lists
in_neither : (ns ms : List ℕ) (n : ℕ) → is_among (ns ++ ms) n ≡ false → (is_among ns n ≡ false)
    × (is_among ms n ≡ false)
in_neither ns ms n h = both_fail (is_among ns n) (is_among ms n) (sym (list_any-append (λ m. m == n) ns ms) ∙ h)
  where
    both_fail : (a b : Bool) → (a || b) ≡ false → (a ≡ false) × (b ≡ false)
    both_fail false false g = (refl, refl)
    both_fail false true g = absurd cc
    both_fail true b g = absurd cc

-- ---- lists by an older history

-- a later history in which no one joined under that number, and what was there stands where it stood
record Later (J K : History) (p : ℕ) : Type 0 where
  there : is_among (members K) p ≡ is_among (members J) p
  joined : is_among (members J) p ≡ true → action_of K p ≡ action_of J p
  started : (a : ℕ) → is_among (actions J) a ≡ true → is_among (actions K) a ≡ true
  parent : (a : ℕ) → is_among (actions J) a ≡ true → parent K a ≡ parent J a
  top : (a : ℕ) → is_among (actions J) a ≡ true → top K a ≡ top J a

-- two tests of what is there
same_where : (x y a b : Bool) → x ≡ y → (y ≡ true → a ≡ b) → (x && a) ≡ (y && b)
same_where true true a b e f = f refl
same_where false false a b e f = refl
same_where true false a b e f = absurd cc
same_where false true a b e f = absurd cc

members_as : (v : Version) (t : List ℕ → Bool) (J K : History) (p c : ℕ) → is_legal v t J ≡ true → is_legal v t K ≡ true
    → Later J K p → is_among (members_of K c) p ≡ is_among (members_of J c) p
members_as v t J K p c l k x =
    members_of_lem v t K k c p
    ∙ same_where (is_among (members K) p) (is_among (members J) p) (action_of K p == c) (action_of J p == c) x.there
    (λ h. ap (λ (b : ℕ). b == c) (x.joined h))
    ∙ sym (members_of_lem v t J l c p)

under_as : (v : Version) (t : List ℕ → Bool) (J K : History) (p c : ℕ) → is_legal v t J ≡ true → Later J K p
    → is_among (members_under K c) p ≡ is_among (members_under J c) p
under_as v t J K p c l x =
    under_lem K c p
    ∙ same_where (is_among (members K) p) (is_among (members J) p) (top K (action_of K p) == c)
    (top J (action_of J p) == c) x.there
    (λ h. ap (λ (b : ℕ). top K b == c) (x.joined h) ∙ ap (λ (b : ℕ). b == c)
    (x.top (action_of J p) (action_of_there v t J l p h)))
    ∙ sym (under_lem J c p)

-- nobody stands in an action that isn't there
none_in : (v : Version) (t : List ℕ → Bool) (J : History) (p c : ℕ) → is_legal v t J ≡ true → is_among (actions J) c
    ≡ false → (is_among (members_of J c) p ≡ false) × (is_among (members_under J c) p ≡ false)
none_in v t J p c l h = (
  members_of_lem v t J l c p ∙ never (is_among (members J) p) (action_of J p == c)
      (λ g. out (action_of J p) (action_of_there v t J l p g)),
  under_lem J c p ∙ never (is_among (members J) p) (top J (action_of J p) == c)
      (λ g. out (top J (action_of J p)) (top_is_there v t J l (action_of J p) (action_of_there v t J l p g))),
)
  where
    out : (a : ℕ) → is_among (actions J) a ≡ true → (a == c) ≡ false
    out a g = eqb_flip c a (among_apart (actions J) a c g h)

    never : (x y : Bool) → (x ≡ true → y ≡ false) → (x && y) ≡ false
    never true y f = f refl
    never false y f = refl

-- a settling deed lists by a later history none but those that it lists by the older one
still_out : (v : Version) (t : List ℕ → Bool) (J K : History) (d : Deed) (p : ℕ) → is_legal v t J ≡ true
    → is_legal v t K ≡ true → Later J K p → is_settling d ≡ true → is_among (members_changed J d) p ≡ false
    → is_among (members_changed K d) p ≡ false
still_out v t J K d p l k x s h = by_deed d s h
  where
    ends : (c : ℕ) (b : Bool) → is_among (actions J) c ≡ b → is_among (cond (is_some (parent J c)) (members_of J c)
        (members_under J c)) p ≡ false → is_among (cond (is_some (parent K c)) (members_of K c) (members_under K c)) p
        ≡ false
    ends c true e g = ap (λ (o : Option ℕ). is_among (cond (is_some o) (members_of K c) (members_under K c)) p)
        (x.parent c e) ∙ either (parent J c) g
      where
        either : (o : Option ℕ) → is_among (cond (is_some o) (members_of J c) (members_under J c)) p ≡ false
            → is_among (cond (is_some o) (members_of K c) (members_under K c)) p ≡ false
        either (Some b) i = members_as v t J K p c l k x ∙ i
        either None i = under_as v t J K p c l x ∙ i
    ends c false e g = let none = none_in v t J p c l e in
        either (parent K c) (members_as v t J K p c l k x ∙ none.0) (under_as v t J K p c l x ∙ none.1)
      where
        either : (o : Option ℕ) → is_among (members_of K c) p ≡ false → is_among (members_under K c) p ≡ false
            → is_among (cond (is_some o) (members_of K c) (members_under K c)) p ≡ false
        either (Some b) i j = i
        either None i j = j

    by_deed : (d : Deed) → is_settling d ≡ true → is_among (members_changed J d) p ≡ false
        → is_among (members_changed K d) p ≡ false
    by_deed (Close c cause) s g = members_as v t J K p c l k x ∙ g
    by_deed (Cancel c cause) s g = members_as v t J K p c l k x ∙ g
    by_deed (Skip q) s g = g
    by_deed (End c status) s g = ends c (is_among (actions J) c) refl g
    by_deed _ s g = absurd cc

later_same : (J : History) (p : ℕ) → Later J J p
later_same J p = record {
  there = refl;
  joined = λ h. refl;
  started = λ a h. h;
  parent = λ a h. refl;
  top =
      λ a h. refl;
}

later_more : (v : Version) (t : List ℕ → Bool) (J K : History) (by m : ℕ) (d : Deed) (p : ℕ) → is_legal v t K ≡ true
    → Allowed v t K (entry by m d) → is_among (members_changed K d) p ≡ false → Later J K p → Later J (more K by m d) p
later_more v t J K by m d p l k h x = record {
  there = (wants_kept v t K by m d p l k h).there ∙ x.there;
  joined = λ g. action_of_stays K (entry by m d) p (x.there ∙ g) ∙ x.joined g;
  started = λ a g. action_there_push K (entry by m d) a (x.started a g);
  parent = λ a g. parent_stays K (entry by m d) a (x.started a g) ∙ x.parent a g;
  top = λ a g. top_stays v t K (entry by m d) l a (x.started a g) ∙ x.top a g;
}

-- ---- all that settles

-- an entry, and those that follow it
then : (J : History) (by m : ℕ) (d : Deed) (es : List Entry) → J ++ (entry by m d ∷ es) ≡ more J by m d ++ es
then J by m d es = sym (append_assoc J (entry by m d ∷ []) es)

settling_wants : (v : Version) (t : List ℕ → Bool) (J : History) (p : ℕ) → is_legal v t J ≡ true
    → (n by m : ℕ) (K : History) → MayWrite v t K by m → Later J K p
    → is_among (members_changed_by J (settling_within n by m K)) p ≡ false
    → SameWants K (K ++ settling_within n by m K) p
settling_wants v t J p l zero by m K w x h = subst (λ (L : History). SameWants K L p) (sym (append-nil K))
    (wants_same K p)
settling_wants v t J p l (suc n) by m K w x h = next (next_settling K) refl (settling_wants v t J p l n by m) h
  where
    next : (o : Option Deed) → next_settling K ≡ o
        → ((L : History) → MayWrite v t L by m → Later J L p → is_among
        (members_changed_by J (settling_within n by m L)) p ≡ false → SameWants L (L ++ settling_within n by m L) p)
        → is_among (members_changed_by J (option_map_or (λ (d : Deed). entry by m d
        ∷ settling_within n by m (more K by m d)) o [])) p ≡ false
        → SameWants K (K ++ option_map_or (λ (d : Deed). entry by m d ∷ settling_within n by m (more K by m d)) o []) p
    next None g rest i = subst (λ (L : History). SameWants K L p) (sym (append-nil K)) (wants_same K p)
    next (Some d) g rest i =
        let allowed = settling_allowed v t K by m d w g in
        let both = in_neither (members_changed J d) (members_changed_by J (settling_within n by m (more K by m d))) p
        i in
        let out = still_out v t J K d p l w.legal x (next_settles K d g) both.0 in
        subst (λ (L : History). SameWants K L p) (sym (then K by m d (settling_within n by m (more K by m d))))
        (wants_twice K (more K by m d) (more K by m d ++ settling_within n by m (more K by m d)) p
        (wants_kept v t K by m d p w.legal allowed out)
        (rest (more K by m d) (may_go_on v t K by m d w.legal allowed)
        (later_more v t J K by m d p w.legal allowed out x) both.1))

-- what an entry and all that settles after it leave alone
pub block_wants : (v : Version) (t : List ℕ → Bool) (J : History) (e : Entry) (p : ℕ) → is_legal v t J ≡ true
    → Allowed v t J e → is_among (members_changed_by J (with_settling J e)) p ≡ false
    → SameWants J (J ++ with_settling J e) p
block_wants v t J e p l k h =
    let both = in_neither (members_changed J e.deed) (members_changed_by J
    (settling_within (most_settling K) e.by e.moment K)) p h in
    subst (λ (L : History). SameWants J L p)
    (sym (then J e.by e.moment e.deed (settling_within (most_settling K) e.by e.moment K)))
    (wants_twice J K (K ++ settling_within (most_settling K) e.by e.moment K) p
    (wants_kept v t J e.by e.moment e.deed p l k both.0)
    (settling_wants v t J p l (most_settling K) e.by e.moment K (may_go_on v t J e.by e.moment e.deed l k)
    (later_more v t J J e.by e.moment e.deed p l k both.0 (later_same J p)) both.1))
  where
    K : History
    K = J ++ e ∷ []

-- the deadlines that any entries leave alone
pub block_limits : (J : History) (es : List Entry) (a : ℕ) → is_among (actions_changed_by es) a ≡ false
    → SameLimit J (J ++ es) a
block_limits J [] a h = subst (λ (L : History). SameLimit J L a) (sym (append-nil J)) (limit_same J a)
block_limits J (e ∷ es) a h =
    let both = in_neither (actions_changed e.deed) (actions_changed_by es) a h in
    subst (λ (L : History). SameLimit J L a) (sym (then J e.by e.moment e.deed es))
    (limit_twice J (J ++ e ∷ []) ((J ++ e ∷ []) ++ es) a (limits_kept J e.by e.moment e.deed a both.0)
    (block_limits (J ++ e ∷ []) es a both.1))
