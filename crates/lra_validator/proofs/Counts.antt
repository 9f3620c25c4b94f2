-- What settles a history adds no clerk, no action and no member.
use Rattle.std.proofs.Common.{◌≡◌, ℕ, zero, suc, Bool, true, false, List, [], ◌∷◌, ◌++◌, Option, Some, None, refl, sym}
use Rattle.std.proofs.Common.{ap, ◌∙◌, subst, append_assoc, append-nil, cond}
use Rattle.std.specs.Prelude.{option_map, option_to_list}
use Rattle.std.specs.Option.{option_or, option_map_or}
use Rattle.std.specs.List.{filter_map, cons_option, find}
use Rattle.lra_model.specs.declared.asks.Cause.TheVariants as cause
use Rattle.lra_model.specs.declared.entry.Deed.{Deed}
use Rattle.lra_model.specs.declared.entry.Deed.TheVariants.{Close, Cancel, Skip, End}
use Rattle.lra_model.specs.declared.entry.Entry.{Entry}
use Rattle.lra_model.specs.History.{History, first, last, enrolled_by, started_by, joined_by, asked_by, clerks, actions}
use Rattle.lra_model.specs.History.{members, asks}
use Rattle.lra_model.specs.Ends.{is_settled, right_end}
use Rattle.lra_model.specs.Facts.{facts_of}
use Rattle.lra_model.specs.Tests.{at_action, may_close_with_parent, may_cancel_with_parent}
use Rattle.lra_model.specs.Settling.{is_settling, may_be_skipped, by_parent, next_settling, settling_within}
use Rattle.lra_laws.proofs.Push.{clerks_push, actions_push, members_push, asks_push}

-- the same clerks, actions and members
pub record SameCounts (J K : History) : Type 0 where
  pub clerks : clerks K ≡ clerks J
  pub actions : actions K ≡ actions J
  pub members : members K ≡ members J

-- an entry that adds none
pub record AddsNone (e : Entry) : Type 0 where
  pub clerk : enrolled_by e ≡ None
  pub action : started_by e.deed ≡ None
  pub member : joined_by e.deed ≡ None

pub adds_none : (e : Entry) → enrolled_by e ≡ None → started_by e.deed ≡ None → joined_by e.deed ≡ None → AddsNone e
adds_none e a b d = record { clerk = a; action = b; member = d }

nothing_more : (ns : List ℕ) (o : Option ℕ) → o ≡ None → ns ++ option_to_list o ≡ ns
nothing_more ns None h = append-nil ns
nothing_more ns (Some n) h = absurd cc

pub push_same : (J : History) (e : Entry) → AddsNone e → SameCounts J (J ++ e ∷ [])
push_same J e h = record {
  clerks = clerks_push J e ∙ nothing_more (clerks J) (enrolled_by e) h.clerk;
  actions = actions_push J e ∙ nothing_more (actions J) (started_by e.deed) h.action;
  members = members_push J e ∙ nothing_more (members J) (joined_by e.deed) h.member;
}

settling_adds_none : (by m : ℕ) (d : Deed) → is_settling d ≡ true → AddsNone (record { by = by; moment = m; deed = d })
settling_adds_none by m (Close a cause.Parent) h = record { clerk = refl; action = refl; member = refl }
settling_adds_none by m (Cancel a cause.Parent) h = record { clerk = refl; action = refl; member = refl }
settling_adds_none by m (Skip p) h = record { clerk = refl; action = refl; member = refl }
settling_adds_none by m (End a status) h = record { clerk = refl; action = refl; member = refl }
settling_adds_none by m _ h = absurd cc

-- what comes next settles
next_settles : (J : History) (d : Deed) → next_settling J ≡ Some d → is_settling d ≡ true
unfolding next_settling
next_settles J d h =
    ap (λ (o : Option Deed). option_map_or is_settling o true) (sym h)
    ∙ either (option_map Skip (find (may_be_skipped J) (members J))) _ (skips (find (may_be_skipped J) (members J)))
    (either (first (filter_map (by_parent J) (actions J))) _ (turns (actions J))
    (ends (last (filter_map (λ a. cond (is_settled J a) (Some a) None) (actions J)))))
  where
    either : (o n : Option Deed) → option_map_or is_settling o true ≡ true → option_map_or is_settling n true ≡ true
        → option_map_or is_settling (option_or o n) true ≡ true
    either None n f g = g
    either (Some x) n f g = f

    skips : (o : Option ℕ) → option_map_or is_settling (option_map Skip o) true ≡ true
    skips None = refl
    skips (Some p) = refl

    ends : (o : Option ℕ) → option_map_or is_settling (option_map (λ a. End a (right_end J a)) o) true ≡ true
    ends None = refl
    ends (Some a) = refl

    turned : (close cancel : Bool) (a : ℕ) → option_map_or is_settling
        (cond close (Some (Close a cause.Parent)) (cond cancel (Some (Cancel a cause.Parent)) None)) true ≡ true
    turned true cancel a = refl
    turned false true a = refl
    turned false false a = refl

    one : (o : Option Deed) (ds : List Deed) → option_map_or is_settling o true ≡ true
        → option_map_or is_settling (first ds) true ≡ true → option_map_or is_settling (first (cons_option o ds)) true
        ≡ true
    one None ds f g = g
    one (Some x) ds f g = f

    turns : (ns : List ℕ) → option_map_or is_settling (first (filter_map (by_parent J) ns)) true ≡ true
    turns [] = refl
    turns (n ∷ ns) = one (by_parent J n) (filter_map (by_parent J) ns)
        (turned (at_action (may_close_with_parent (facts_of J)) (facts_of J) n)
        (at_action (may_cancel_with_parent (facts_of J)) (facts_of J) n) n) (turns ns)

-- what every entry that settles keeps, all that settle a history keep
pub settling_keeps : (P : History → Type 0) → ((K : History) (by m : ℕ) (d : Deed) → is_settling d ≡ true → P K
    → P (K ++ record { by = by; moment = m; deed = d } ∷ [])) → (n by m : ℕ) (J : History) → P J
    → P (J ++ settling_within n by m J)
settling_keeps P step zero by m J h = subst P (sym (append-nil J)) h
settling_keeps P step (suc n) by m J h = next (next_settling J) refl (λ K. settling_keeps P step n by m K)
  where
    next : (o : Option Deed) → next_settling J ≡ o → ((K : History) → P K → P (K ++ settling_within n by m K))
        → P (J ++ option_map_or (λ (d : Deed). (let e : Entry = record { by = by; moment = m; deed = d } in e)
        ∷ settling_within n by m (J ++ (let e : Entry = record { by = by; moment = m; deed = d } in e) ∷ [])) o [])
    next None g rest = subst P (sym (append-nil J)) h
    next (Some d) g rest =
        let e : Entry = record { by = by; moment = m; deed = d } in
        subst P (append_assoc J (e ∷ []) (settling_within n by m (J ++ e ∷ [])))
        (rest (J ++ e ∷ []) (step J by m d (next_settles J d g) h))

same_on : (J K L : History) → SameCounts J K → SameCounts K L → SameCounts J L
same_on J K L h k = record {
  clerks = k.clerks ∙ h.clerks;
  actions = k.actions ∙ h.actions;
  members = k.members
      ∙ h.members;
}

-- they add no clerk, no action and no member
pub settling_same : (n by m : ℕ) (J : History) → SameCounts J (J ++ settling_within n by m J)
settling_same n by m J =
    settling_keeps (SameCounts J) (λ K b t d s h. same_on J K _ h (push_same K _ (settling_adds_none b t d s))) n by m J
    (record { clerks = refl; actions = refl; members = refl })

-- and no ask
pub settling_asks : (n by m : ℕ) (J : History) → asks (J ++ settling_within n by m J) ≡ asks J
settling_asks n by m J = settling_keeps (λ K. asks K ≡ asks J) (λ K b t d s h. asks_push K _
    ∙ nothing_more (asks K) (asked_by d) (asks_none d s) ∙ h) n by m J refl
  where
    asks_none : (d : Deed) → is_settling d ≡ true → asked_by d ≡ None
    asks_none (Close a cause.Parent) h = refl
    asks_none (Cancel a cause.Parent) h = refl
    asks_none (Skip p) h = refl
    asks_none (End a status) h = refl
    asks_none _ h = absurd cc
