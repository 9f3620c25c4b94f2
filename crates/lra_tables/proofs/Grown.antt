-- After one more entry, and after it is undone, the indexed sets are right but for what its deed concerns.
use Rattle.std.proofs.Common.{◌≡◌, ◌≢◌, ℕ, zero, suc, ◌+◌, ◌-◌, inl, inr, Bool, true, false, List, [], ◌∷◌, ◌++◌}
use Rattle.std.proofs.Common.{length, Option, Some, None, refl, sym, ap, ◌∙◌, subst, arith, length-append, append-nil}
use Rattle.std.proofs.lemmas.Bool.{eqb-false, lt-ltb, cases_lt}
use Rattle.std.proofs.lemmas.List.{length-map, length-take-le, get_or-take, get_or_past}
use Rattle.std.specs.Prelude.{is_some, nat_lt, option_to_list}
use Rattle.lra_model.specs.declared.version.Version.{Version}
use Rattle.lra_model.specs.declared.entry.Deed.{Deed}
use Rattle.lra_model.specs.declared.entry.Deed.TheVariants.{Start, Join}
use Rattle.lra_model.specs.declared.entry.Entry.{Entry}
use Rattle.lra_model.specs.History.{History, actions, members, started_by, joined_by, is_among}
use Rattle.lra_model.specs.Rules.{is_legal, allows}
use Rattle.lra_laws.specs.Rows.{State, action_row, member_row, state_of}
use Rattle.lra_laws.specs.inner.Concerned.{members_concerned, actions_concerned}
use Rattle.lra_laws.specs.Settles.{may_skip_by, turn_by, end_by}
use Rattle.lra_laws.proofs.Push.{actions_push, members_push}
use Rattle.lra_laws.proofs.Legal.{allowed}
use Rattle.lra_laws.proofs.GoodLists.{among_here}
use Rattle.lra_laws.proofs.RowLists.{among_apart}
use Rattle.lra_laws.proofs.Tested.{and_intro}
use Rattle.lra_laws.proofs.Told.{more, Told, told}
use Rattle.lra_laws.proofs.SettlesStay.{Stays, Stays-sym}
use Rattle.lra_laws.proofs.SettlesPush.{settles_push, members_concerned_push, actions_concerned_push}
use Rattle.lra_tables.specs.inner.IndexedSet.{Marking, mark_at}
use Rattle.lra_tables.proofs.Read.{mark_at-push_other}
use Rattle.lra_rows.specs.Steps.{without_last}
use Rattle.lra_tables.specs.declared.settling_index.SettlingIndex.{SettlingIndex}
use Rattle.lra_tables.specs.inner.SettlingIndex.{MarkedBut, pushed, grown, popped, shrunk, has_numbers}

-- a set that was right stays right but for some numbers
kept : (before after : ℕ → Bool) (marked : List Bool) (ns : List ℕ) → ((n : ℕ) → is_among [] n ≡ false
    → mark_at marked n ≡ before n) → ((n : ℕ) → is_among ns n ≡ false → after n ≡ before n)
    → (n : ℕ) → is_among ns n ≡ false → mark_at marked n ≡ after n
kept before after marked ns is stays n g = is n refl ∙ sym (stays n g)

-- so it does with one more number among those
kept_pushed : (before after : ℕ → Bool) (m : Marking) (ns : List ℕ) → ((n : ℕ) → is_among [] n ≡ false
    → mark_at m.marked n ≡ before n) → ((n : ℕ) → is_among ns n ≡ false → after n ≡ before n)
    → is_among ns (suc (length m.marked)) ≡ true → (n : ℕ) → is_among ns n ≡ false → mark_at (pushed m).marked n
    ≡ after n
kept_pushed before after m ns is stays new n g =
    let other : n ≢ suc (length m.marked) = eqb-false n (suc (length m.marked))
    (among_apart ns (suc (length m.marked)) n new g) in
    mark_at-push_other m.marked false n other ∙ is n refl ∙ sym (stays n g)

-- and with the last number less, where it is among those
kept_popped : (before after : ℕ → Bool) (m : Marking) (ns : List ℕ) → ((n : ℕ) → is_among [] n ≡ false
    → mark_at m.marked n ≡ before n) → ((n : ℕ) → is_among ns n ≡ false → after n ≡ before n)
    → is_among ns (length m.marked) ≡ true → (n : ℕ) → is_among ns n ≡ false → mark_at (popped m).marked n ≡ after n
kept_popped before after m ns is stays last n g =
    let other : n ≢ length m.marked = eqb-false n (length m.marked) (among_apart ns (length m.marked) n last g) in
    mark_at-without_last m.marked n other ∙ is n refl ∙ sym (stays n g)
  where
    mark_at-without_last : (marked : List Bool) (n : ℕ) → n ≢ length marked → mark_at (without_last marked) n
        ≡ mark_at marked n
    mark_at-without_last marked zero other = refl
    mark_at-without_last marked (suc k) other = elim (cases_lt k (length marked - 1)) [
      | inl inside ↦ get_or-take (length marked - 1) marked k false inside
      | inr past ↦ get_or_past (without_last marked) k false
          (let l = length-take-le (length marked - 1) marked (omega arith) in omega arith)
          ∙ sym (get_or_past marked k false (omega arith))
    ]

length-pushed : (m : Marking) → length (pushed m).marked ≡ suc (length m.marked)
length-pushed m = length-append m.marked (false ∷ []) ∙ omega arith

length-popped : (m : Marking) → length (popped m).marked ≡ length m.marked - 1
length-popped m = length-take-le (length m.marked - 1) m.marked (omega arith)

-- ---- sets of two states

module _ (s t : State) (r : SettlingIndex) (ps xs : List ℕ) (h : MarkedBut s r [] []) (k : Stays s t ps xs) where
  still : length t.members ≡ length s.members → length t.actions ≡ length s.actions → MarkedBut t r ps xs
  still same_members same_actions = record {
    sized = record {
      least_skip = h.sized.least_skip;
      least_turn = h.sized.least_turn;
      greatest_end = h.sized.greatest_end;
      skips = h.sized.skips ∙ sym same_members;
      turns = h.sized.turns ∙ sym same_actions;
      ends = h.sized.ends ∙ sym same_actions;
    };
    skips = kept (may_skip_by s) (may_skip_by t) r.skips.marked ps h.skips k.skips;
    turns = kept (λ a. is_some (turn_by s a)) (λ a. is_some (turn_by t a)) r.turns.marked xs h.turns k.turns;
    ends = kept (λ a. is_some (end_by s a)) (λ a. is_some (end_by t a)) r.ends.marked xs h.ends k.ends;
  }

  -- one more action
  action_pushed : length t.members ≡ length s.members → length t.actions ≡ suc (length s.actions)
      → is_among xs (length t.actions) ≡ true → MarkedBut t (record r { turns = pushed r.turns; ends = pushed r.ends })
      ps xs
  action_pushed same_members more there =
      let turns = length-pushed r.turns in
      let ends = length-pushed r.ends in
      let many_turns = h.sized.turns in
      let many_ends = h.sized.ends in
      record {
        sized = record {
          least_skip = h.sized.least_skip;
          least_turn = h.sized.least_turn;
          greatest_end = h.sized.greatest_end;
          skips = h.sized.skips ∙ sym same_members;
          turns = omega arith;
          ends = omega arith;
        };
        skips = kept (may_skip_by s) (may_skip_by t) r.skips.marked ps h.skips k.skips;
        turns = kept_pushed (λ a. is_some (turn_by s a)) (λ a. is_some (turn_by t a)) r.turns xs h.turns k.turns
            (ap (is_among xs) (omega arith) ∙ there);
        ends = kept_pushed (λ a. is_some (end_by s a)) (λ a. is_some (end_by t a)) r.ends xs h.ends k.ends
            (ap (is_among xs) (omega arith) ∙ there);
      }

  -- one more member
  member_pushed : length t.actions ≡ length s.actions → length t.members ≡ suc (length s.members)
      → is_among ps (length t.members) ≡ true → MarkedBut t (record r { skips = pushed r.skips }) ps xs
  member_pushed same_actions more there =
      let skips = length-pushed r.skips in
      let many = h.sized.skips in
      record {
        sized = record {
          least_skip = h.sized.least_skip;
          least_turn = h.sized.least_turn;
          greatest_end = h.sized.greatest_end;
          skips = omega arith;
          turns = h.sized.turns ∙ sym same_actions;
          ends = h.sized.ends ∙ sym same_actions;
        };
        skips = kept_pushed (may_skip_by s) (may_skip_by t) r.skips ps h.skips k.skips
            (ap (is_among ps) (omega arith) ∙ there);
        turns = kept (λ a. is_some (turn_by s a)) (λ a. is_some (turn_by t a)) r.turns.marked xs h.turns k.turns;
        ends = kept (λ a. is_some (end_by s a)) (λ a. is_some (end_by t a)) r.ends.marked xs h.ends k.ends;
      }

  -- one action less
  action_popped : length t.members ≡ length s.members → length s.actions ≡ suc (length t.actions)
      → is_among xs (length s.actions) ≡ true → MarkedBut t (record r { turns = popped r.turns; ends = popped r.ends })
      ps xs
  action_popped same_members less there =
      let turns = length-popped r.turns in
      let ends = length-popped r.ends in
      let many_turns = h.sized.turns in
      let many_ends = h.sized.ends in
      record {
        sized = record {
          least_skip = h.sized.least_skip;
          least_turn = h.sized.least_turn;
          greatest_end = h.sized.greatest_end;
          skips = h.sized.skips ∙ sym same_members;
          turns = omega arith;
          ends = omega arith;
        };
        skips = kept (may_skip_by s) (may_skip_by t) r.skips.marked ps h.skips k.skips;
        turns = kept_popped (λ a. is_some (turn_by s a)) (λ a. is_some (turn_by t a)) r.turns xs h.turns k.turns
            (ap (is_among xs) (omega arith) ∙ there);
        ends = kept_popped (λ a. is_some (end_by s a)) (λ a. is_some (end_by t a)) r.ends xs h.ends k.ends
            (ap (is_among xs) (omega arith) ∙ there);
      }

  -- one member less
  member_popped : length t.actions ≡ length s.actions → length s.members ≡ suc (length t.members)
      → is_among ps (length s.members) ≡ true → MarkedBut t (record r { skips = popped r.skips }) ps xs
  member_popped same_actions less there =
      let skips = length-popped r.skips in
      let many = h.sized.skips in
      record {
        sized = record {
          least_skip = h.sized.least_skip;
          least_turn = h.sized.least_turn;
          greatest_end = h.sized.greatest_end;
          skips = omega arith;
          turns = h.sized.turns ∙ sym same_actions;
          ends = h.sized.ends ∙ sym same_actions;
        };
        skips = kept_popped (may_skip_by s) (may_skip_by t) r.skips ps h.skips k.skips
            (ap (is_among ps) (omega arith) ∙ there);
        turns = kept (λ a. is_some (turn_by s a)) (λ a. is_some (turn_by t a)) r.turns.marked xs h.turns k.turns;
        ends = kept (λ a. is_some (end_by s a)) (λ a. is_some (end_by t a)) r.ends.marked xs h.ends k.ends;
      }

-- ---- a history with one more entry

module _ (J : History) (by m : ℕ) where
  many_actions : (d : Deed) (o : Option ℕ) → started_by d ≡ o → length (state_of (more J by m d)).actions
      ≡ length (actions J ++ option_to_list o)
  many_actions d o e = length-map (actions (more J by m d)) (action_row (more J by m d)) ∙ ap length (actions_push J _)
      ∙ ap (λ (q : Option ℕ). length (actions J ++ option_to_list q)) e

  many_members : (d : Deed) (o : Option ℕ) → joined_by d ≡ o → length (state_of (more J by m d)).members
      ≡ length (members J ++ option_to_list o)
  many_members d o e = length-map (members (more J by m d)) (member_row (more J by m d)) ∙ ap length (members_push J _)
      ∙ ap (λ (q : Option ℕ). length (members J ++ option_to_list q)) e

  same_actions : (d : Deed) → started_by d ≡ None → length (state_of (more J by m d)).actions
      ≡ length (state_of J).actions
  same_actions d e = many_actions d None e ∙ ap length (append-nil (actions J))
      ∙ sym (length-map (actions J) (action_row J))

  same_members : (d : Deed) → joined_by d ≡ None → length (state_of (more J by m d)).members
      ≡ length (state_of J).members
  same_members d e = many_members d None e ∙ ap length (append-nil (members J))
      ∙ sym (length-map (members J) (member_row J))

  one_more_action : (c : ℕ) (d : Deed) → started_by d ≡ Some c → length (state_of (more J by m d)).actions
      ≡ suc (length (state_of J).actions)
  one_more_action c d e = let n = many_actions d (Some c) e in let o = length-map (actions J) (action_row J) in
      let l = length-append (actions J) (c ∷ []) in omega arith

  one_more_member : (p : ℕ) (d : Deed) → joined_by d ≡ Some p → length (state_of (more J by m d)).members
      ≡ suc (length (state_of J).members)
  one_more_member p d e = let n = many_members d (Some p) e in let o = length-map (members J) (member_row J) in
      let l = length-append (members J) (p ∷ []) in omega arith

  action_number : (c : ℕ) (d : Deed) (xs : List ℕ) → started_by d ≡ Some c → c ≡ length (actions J) + 1
      → is_among (c ∷ xs) (length (state_of (more J by m d)).actions) ≡ true
  action_number c d xs e number =
      let n = one_more_action c d e in
      let o = length-map (actions J) (action_row J) in
      let is : length (state_of (more J by m d)).actions ≡ c = omega arith in
      ap (is_among (c ∷ xs)) is ∙ among_here c xs

  member_number : (p : ℕ) (d : Deed) → joined_by d ≡ Some p → p ≡ length (members J) + 1
      → is_among (p ∷ []) (length (state_of (more J by m d)).members) ≡ true
  member_number p d e number =
      let n = one_more_member p d e in
      let o = length-map (members J) (member_row J) in
      let is : length (state_of (more J by m d)).members ≡ p = omega arith in
      ap (is_among (p ∷ [])) is ∙ among_here p []

  grown_by : (d : Deed) (r : SettlingIndex) → Told J by d → MarkedBut (state_of J) r [] []
      → Stays (state_of J) (state_of (more J by m d)) (members_concerned J d) (actions_concerned J d)
      → MarkedBut (state_of (more J by m d)) (grown d r) (members_concerned J d) (actions_concerned J d)
  grown_by (Start c above limit) r x h k =
      let d : Deed = Start c above limit in
      action_pushed (state_of J) (state_of (more J by m d)) r [] (c ∷ option_to_list above) h k (same_members d refl)
      (one_more_action c d refl) (action_number c d (option_to_list above) refl x.number)
  grown_by (Join p a uris) r x h k =
      let d : Deed = Join p a uris in
      member_pushed (state_of J) (state_of (more J by m d)) r (p ∷ []) (a ∷ []) h k (same_actions d refl)
      (one_more_member p d refl) (member_number p d refl x.number)
  grown_by d r x h k = still (state_of J) (state_of (more J by m d)) r (members_concerned J d) (actions_concerned J d) h
      k (same_members d refl) (same_actions d refl)

  shrunk_by : (d : Deed) (r : SettlingIndex) → Told J by d → MarkedBut (state_of (more J by m d)) r [] []
      → Stays (state_of (more J by m d)) (state_of J) (members_concerned J d) (actions_concerned J d)
      → MarkedBut (state_of J) (shrunk d r) (members_concerned J d) (actions_concerned J d)
  shrunk_by (Start c above limit) r x h k =
      let d : Deed = Start c above limit in
      action_popped (state_of (more J by m d)) (state_of J) r [] (c ∷ option_to_list above) h k
      (sym (same_members d refl)) (one_more_action c d refl) (action_number c d (option_to_list above) refl
      x.number)
  shrunk_by (Join p a uris) r x h k =
      let d : Deed = Join p a uris in
      member_popped (state_of (more J by m d)) (state_of J) r (p ∷ []) (a ∷ []) h k (sym (same_actions d refl))
      (one_more_member p d refl) (member_number p d refl x.number)
  shrunk_by d r x h k = still (state_of (more J by m d)) (state_of J) r (members_concerned J d) (actions_concerned J d)
      h k (sym (same_members d refl)) (sym (same_actions d refl))

  numbers_by : (d : Deed) (r : SettlingIndex) → MarkedBut (state_of (more J by m d)) r [] [] → has_numbers d r ≡ true
  numbers_by (Start c above limit) r h =
      let n = one_more_action c (Start c above limit) refl in
      and_intro (nat_lt 0 (length r.turns.marked)) (nat_lt 0 (length r.ends.marked))
      (lt-ltb 0 (length r.turns.marked) (let k = h.sized.turns in omega arith))
      (lt-ltb 0 (length r.ends.marked) (let k = h.sized.ends in omega arith))
  numbers_by (Join p a uris) r h =
      let n = one_more_member p (Join p a uris) refl in
      lt-ltb 0 (length r.skips.marked) (let k = h.sized.skips in omega arith)
  numbers_by d r h = refl

module _ (v : Version) (t : List ℕ → Bool) (J : History) (e : Entry) (r : SettlingIndex) (l : is_legal v t J ≡ true)
    (k : allows v t J e ≡ true) where
  is_told : Told J e.by e.deed
  is_told = told v t J e.by e.moment e.deed (allowed v t J e k)

  -- the sets after an entry that is allowed
  pub grown_marked : MarkedBut (state_of J) r [] [] → MarkedBut (state_of (J ++ e ∷ [])) (grown e.deed r)
      (members_concerned (J ++ e ∷ []) e.deed) (actions_concerned (J ++ e ∷ []) e.deed)
  grown_marked h =
      subst (λ (ps : List ℕ). MarkedBut (state_of (J ++ e ∷ [])) (grown e.deed r) ps
      (actions_concerned (J ++ e ∷ []) e.deed)) (sym (members_concerned_push v t J l e.by e.moment e.deed is_told))
      (subst (λ (xs : List ℕ). MarkedBut (state_of (J ++ e ∷ [])) (grown e.deed r) (members_concerned J e.deed) xs)
      (sym (actions_concerned_push v t J l e.by e.moment e.deed is_told))
      (grown_by J e.by e.moment e.deed r is_told h (settles_push v t J e l k)))

  -- the sets after it was undone
  pub shrunk_marked : MarkedBut (state_of (J ++ e ∷ [])) r [] [] → MarkedBut (state_of J) (shrunk e.deed r)
      (members_concerned J e.deed) (actions_concerned J e.deed)
  shrunk_marked h = shrunk_by J e.by e.moment e.deed r is_told h (Stays-sym (state_of J) (state_of (J ++ e ∷ []))
      (members_concerned J e.deed) (actions_concerned J e.deed) (settles_push v t J e l k))

  -- what it brought has a number
  pub numbers_there : MarkedBut (state_of (J ++ e ∷ [])) r [] [] → has_numbers e.deed r ≡ true
  numbers_there h = numbers_by J e.by e.moment e.deed r h
