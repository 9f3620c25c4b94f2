-- What may settle next after one more entry: the same but for the members and actions that its deed concerns.
use Rattle.std.proofs.Common.{◌≡◌, ◌≢◌, ℕ, suc, ◌+◌, Bool, true, false, List, [], ◌∷◌, ◌++◌, length, map, Option, Some}
use Rattle.std.proofs.Common.{None, refl, sym, ap, ◌∙◌, subst, arith, append-nil, eq-eqb}
use Rattle.std.proofs.lemmas.Bool.{eqb-false}
use Rattle.std.proofs.lemmas.List.{length-map}
use Rattle.std.specs.Prelude.{◌==◌, ◌&&◌, ◌||◌, option_to_list}
use Rattle.std.specs.Option.{option_or, option_map_or}
use Rattle.lra_model.specs.declared.version.Version.{Version}
use Rattle.lra_model.specs.declared.status.ActionStatus.{ActionStatus}
use Rattle.lra_model.specs.declared.status.ActionStatus.TheVariants as action
use Rattle.lra_model.specs.declared.status.MemberStatus.TheVariants as member
use Rattle.lra_model.specs.declared.entry.Deed.{Deed}
use Rattle.lra_model.specs.declared.entry.Deed.TheVariants.{Enrol, Start, Join, Leave, Close, Cancel, Skip, Ask, Reply}
use Rattle.lra_model.specs.declared.entry.Deed.TheVariants.{Report, End, Restart, Renew}
use Rattle.lra_model.specs.declared.entry.Entry.{Entry}
use Rattle.lra_model.specs.declared.asks.Outcome.{Outcome}
use Rattle.lra_model.specs.Addresses.{Addresses}
use Rattle.lra_model.specs.Words.{when}
use Rattle.lra_model.specs.History.{History, actions, members, asks, is_among}
use Rattle.lra_model.specs.Actions.{parent, children, members_of, child_given, member_given}
use Rattle.lra_model.specs.Members.{Asked, asked_at, ask_of, action_of}
use Rattle.lra_model.specs.Rules.{is_legal, allows}
use Rattle.lra_laws.specs.Rows.{State, MemberRow, ActionRow, state_of, action_row, member_row, row_at, change_member}
use Rattle.lra_laws.specs.Rows.{change_status, with_ask, with_reply, with_report, with_skip, new_member, new_action}
use Rattle.lra_laws.specs.Rows.{new_top, after_deed}
use Rattle.lra_laws.specs.Snapshots.{StateSnapshot, asks_made, state_after}
use Rattle.lra_laws.specs.inner.Concerned.{members_concerned, actions_concerned, around}
use Rattle.lra_laws.proofs.GoodLists.{among_filter}
use Rattle.lra_laws.proofs.Push.{step, children_push, members_of_push, ask_of_push}
use Rattle.lra_laws.proofs.Legal.{allowed, actions_numbered, members_numbered, numbered_fresh}
use Rattle.lra_laws.proofs.Named.{parent_stays}
use Rattle.lra_laws.proofs.Named.{parent_there, action_of_stays, action_of_there, children_lem}
use Rattle.lra_laws.proofs.RowLists.{row_there, row_absent}
use Rattle.lra_laws.proofs.ActionWords.{members_by}
use Rattle.lra_laws.proofs.Told.{entry, more, StartTold, JoinTold, Told, told}
use Rattle.lra_laws.proofs.AskWords.{asks_listed}
use Rattle.lra_laws.proofs.AskList.{ask_at}
use Rattle.lra_laws.proofs.SnapshotPush.{snapshot_push}
use Rattle.lra_laws.proofs.SettlesStay.{Stays, Stays-trans, rows_stay, member_stays, limit_stays, join_stays}
use Rattle.lra_laws.proofs.SettlesStay.{status_stays, start_stays}

-- ---- what is not among numbers

neither : (a b : Bool) → (a || b) ≡ false → (a ≡ false) × (b ≡ false)
neither false b h = (refl, h)
neither true b h = absurd cc

not_first : (n : ℕ) (ns : List ℕ) (m : ℕ) → is_among (n ∷ ns) m ≡ false → m ≢ n
not_first n ns m h e = eqb-false n m (neither (n == m) (is_among ns m) h).0 (sym e)

not_rest : (n : ℕ) (ns : List ℕ) (m : ℕ) → is_among (n ∷ ns) m ≡ false → is_among ns m ≡ false
not_rest n ns m h = (neither (n == m) (is_among ns m) h).1

not_before : (ns ms : List ℕ) (m : ℕ) → is_among (ns ++ ms) m ≡ false → (is_among ns m ≡ false)
    × (is_among ms m ≡ false)
not_before [] ms m h = (refl, h)
not_before (n ∷ ns) ms m h =
    let rest = not_before ns ms m (not_rest n (ns ++ ms) m h) in
    (either (n == m) (is_among ns m) (neither (n == m) (is_among (ns ++ ms) m) h).0 rest.0, rest.1)
  where
    either : (a b : Bool) → a ≡ false → b ≡ false → (a || b) ≡ false
    either a b e g = ap (λ (x : Bool). x || b) e ∙ g

not_listed : (o : Option ℕ) (n m : ℕ) → is_among (option_to_list o) m ≡ false → o ≡ Some n → m ≢ n
not_listed None n m h e k = absurd cc
not_listed (Some b) n m h e k = let g : b ≡ n = cc in not_first b [] m h (k ∙ sym g)

-- ---- rows of a history

module _ (v : Version) (t : List ℕ → Bool) (J : History) (l : is_legal v t J ≡ true) where
  member_is : (p : ℕ) (r : MemberRow) → row_at (map (member_row J) (members J)) p ≡ Some r
      → (is_among (members J) p ≡ true) × (r ≡ member_row J p)
  member_is p r e = known (is_among (members J) p) refl
    where
      known : (b : Bool) → is_among (members J) p ≡ b → (is_among (members J) p ≡ true) × (r ≡ member_row J p)
      known true g = let there = row_there (member_row J) (members J) p (members_numbered v t J l) g in (g, cc)
      known false g = let absent = row_absent (member_row J) (members J) p (members_numbered v t J l) g in absurd cc

  action_is : (a : ℕ) (r : ActionRow) → row_at (map (action_row J) (actions J)) a ≡ Some r
      → (is_among (actions J) a ≡ true) × (r ≡ action_row J a)
  action_is a r e = known (is_among (actions J) a) refl
    where
      known : (b : Bool) → is_among (actions J) a ≡ b → (is_among (actions J) a ≡ true) × (r ≡ action_row J a)
      known true g = let there = row_there (action_row J) (actions J) a (actions_numbered v t J l) g in (g, cc)
      known false g = let absent = row_absent (action_row J) (actions J) a (actions_numbered v t J l) g in absurd cc

  -- the members of an action
  not_of : (a p : ℕ) (r : MemberRow) → row_at (map (member_row J) (members J)) p ≡ Some r → is_among (members_of J a) p
      ≡ false → r.action ≢ a
  not_of a p r e g h =
      let is = member_is p r e in
      let test : (action_of J p == a) ≡ true = eq-eqb (action_of J p) a
      (ap (λ (x : MemberRow). x.action) (sym is.1) ∙ h) in
      let both : is_among (members_of J a) p ≡ true = ap (λ (ns : List ℕ). is_among ns p) (members_by v t J l a)
      ∙ among_filter (λ q. action_of J q == a) (members J) p ∙ ap (λ (b : Bool). b && (action_of J p == a)) is.0
      ∙ test in
      absurd cc

  -- the actions nested in an action
  not_in : (a x : ℕ) (r : ActionRow) (b : ℕ) → row_at (map (action_row J) (actions J)) x ≡ Some r
      → is_among (children J a) x ≡ false → r.parent ≡ Some b → b ≢ a
  not_in a x r b e g h k =
      let is = action_is x r e in
      let up : parent J x ≡ Some b = ap (λ (y : ActionRow). y.parent) (sym is.1) ∙ h in
      let child : is_among (children J a) x ≡ true = children_lem v t J l a x
      ∙ ap (λ (o : Option ℕ). option_map_or (λ b. b == a) o false) up ∙ eq-eqb b a k in
      absurd cc

  -- the state at a moment
  abbrev at : ℕ → State
  at m = record (state_of J) { moment = m }

  moved : (m : ℕ) (u : State) (ps xs : List ℕ) → Stays (at m) u ps xs → Stays (state_of J) u ps xs
  moved m u ps xs h = Stays-trans (state_of J) (at m) u ps xs (rows_stay (state_of J) (at m) ps xs refl refl) h

  -- an action's status changes
  around_stays : (now : ActionStatus) (a m : ℕ) → Stays (state_of J) (change_status now a (at m)) (members_of J a)
      (around J a)
  around_stays now a m =
      moved m (change_status now a (at m)) (members_of J a) (around J a)
      (status_stays now a (at m) (members_of J a) (around J a)
      (λ p r e g. not_of a p r e g)
      (λ x g. not_first a (option_to_list (parent J a) ++ children J a) x g)
      (λ x r b e g h. not_in a x r b e (others x g).1 h)
      (λ r b e h x g. not_listed (parent J a) b x (others x g).0 (ap (λ (y : ActionRow). y.parent)
      (sym (action_is a r e).1) ∙ h)))
    where
      others : (x : ℕ) → is_among (around J a) x ≡ false → (is_among (option_to_list (parent J a)) x ≡ false)
          × (is_among (children J a) x ≡ false)
      others x g = not_before (option_to_list (parent J a)) (children J a) x
          (not_rest a (option_to_list (parent J a) ++ children J a) x g)

  -- a member's row changes
  one_stays : (f : MemberRow → MemberRow) (p m asked : ℕ) → Stays (state_of J)
      (change_member f p (record (at m) { asks = asked })) (p ∷ []) (action_of J p ∷ [])
  one_stays f p m asked =
      let s : State = record (at m) { asks = asked } in
      Stays-trans (state_of J) s (change_member f p s) (p ∷ []) (action_of J p ∷ [])
      (rows_stay (state_of J) s (p ∷ []) (action_of J p ∷ []) refl refl)
      (member_stays f p s (p ∷ []) (action_of J p ∷ []) (λ q g. not_first p [] q g)
      (λ r e a g h. not_first (action_of J p) [] a g (h ∙ ap (λ (x : MemberRow). x.action) (member_is p r e).1)))

  new_action_number : (c : ℕ) → c ≡ length (actions J) + 1 → suc (length (map (action_row J) (actions J))) ≡ c
  new_action_number c e = let size = length-map (actions J) (action_row J) in omega arith

  new_member_number : (p : ℕ) → p ≡ length (members J) + 1 → suc (length (map (member_row J) (members J))) ≡ p
  new_member_number p e = let size = length-map (members J) (member_row J) in omega arith

  -- an action starts
  started_stays : (m c : ℕ) (above : Option ℕ) (limit : ℕ) → StartTold J c above
      → Stays (state_of J) (after_deed m (Start c above limit) (at m)) [] (c ∷ option_to_list above)
  started_stays m c above limit x =
      moved m (after_deed m (Start c above limit) (at m)) [] (c ∷ option_to_list above)
      (start_stays (new_action c above (new_top (at m) c above) limit m) above (at m) [] (c ∷ option_to_list above)
      (λ p r e h. let is = member_is p r e in
      absent r.action (ap (λ (y : MemberRow). is_among (actions J) y.action) is.1 ∙ action_of_there v t J l p is.0)
      (h ∙ number))
      (λ a g h. not_first c (option_to_list above) a g (h ∙ number))
      (λ a r b e h k. let is = action_is a r e in
      absent b (parent_there v t J l a b (ap (λ (y : ActionRow). y.parent) (sym is.1) ∙ h)).parent (k ∙ number))
      (λ b e a g. not_listed above b a (not_rest c (option_to_list above) a g) e))
    where
      number : suc (length (map (action_row J) (actions J))) ≡ c
      number = new_action_number c x.number

      absent : (a : ℕ) → is_among (actions J) a ≡ true → a ≢ c
      absent a g h =
          let fresh = numbered_fresh (actions J) (actions_numbered v t J l) c x.number in
          let same : is_among (actions J) a ≡ is_among (actions J) c = ap (is_among (actions J)) h in
          absurd cc

  -- a member joins
  joined_stays : (m p a : ℕ) (uris : Addresses) → JoinTold J p a → Stays (state_of J)
      (after_deed m (Join p a uris) (at m)) (p ∷ []) (a ∷ [])
  joined_stays m p a uris x =
      moved m (after_deed m (Join p a uris) (at m)) (p ∷ []) (a ∷ [])
      (join_stays (new_member a uris) a (at m) (p ∷ []) (a ∷ []) (λ q g h. not_first p [] q g
      (h ∙ new_member_number p x.number)) (λ b g. not_first a [] b g))

  -- a member answers
  replied_stays : (m n : ℕ) (o : Outcome) (x : Asked) → ask_of J n ≡ Some x
      → Stays (state_of J) (state_after m (asks_made J) (Reply n o) (at m)) (members_concerned J (Reply n o))
      (actions_concerned J (Reply n o))
  replied_stays m n o x e =
      subst (λ (q : Option Asked). Stays (state_of J)
      (option_map_or (λ (y : Asked). change_member (with_reply o) y.member (at m)) q (at m))
      (members_concerned J (Reply n o)) (actions_concerned J (Reply n o))) (sym (ask_at v t J l n ∙ e))
      (subst (λ (q : Option Asked). Stays (state_of J) (change_member (with_reply o) x.member (at m))
      (option_map_or (λ (y : Asked). y.member ∷ []) q []) (option_map_or (λ (y : Asked). action_of J y.member ∷ [])
      q [])) (sym e)
      (one_stays (with_reply o) x.member m (length (asks J))))

  after_stays : (by m : ℕ) (d : Deed) → Told J by d → Stays (state_of J) (state_after m (asks_made J) d (at m))
      (members_concerned J d) (actions_concerned J d)
  after_stays by m Enrol x = rows_stay (state_of J) (after_deed m Enrol (at m)) [] [] refl refl
  after_stays by m (Start c above limit) x = started_stays m c above limit x
  after_stays by m (Join p a uris) x = joined_stays m p a uris x
  after_stays by m (Leave p) x = one_stays (λ (r : MemberRow). record r { status = member.Left }) p m (length (asks J))
  after_stays by m (Close a cause) x = around_stays action.Closing a m
  after_stays by m (Cancel a cause) x = around_stays action.Cancelling a m
  after_stays by m (Skip p) x = one_stays with_skip p m (length (asks J))
  after_stays by m (Ask n p kind) x = one_stays (with_ask n kind) p m (length (asks J) + 1)
  after_stays by m (Reply n o) x = replied_stays m n o x.0 x.1.asked
  after_stays by m (Report p o) x = one_stays (with_report o) p m (length (asks J))
  after_stays by m (End a status) x = around_stays status a m
  after_stays by m Restart x = rows_stay (state_of J) (after_deed m Restart (at m)) [] [] refl refl
  after_stays by m (Renew a limit) x = moved m (after_deed m (Renew a limit) (at m)) [] []
      (limit_stays (λ (r : ActionRow). record r { limit = record { length_of = limit; since = m } }) a (at m) [] []
      (λ r. refl) (λ r. refl))

-- what a deed may change is all that it concerns
pub settles_push : (v : Version) (t : List ℕ → Bool) (J : History) (e : Entry) → is_legal v t J ≡ true → allows v t J e
    ≡ true → Stays (state_of J) (state_of (J ++ e ∷ [])) (members_concerned J e.deed) (actions_concerned J e.deed)
settles_push v t J e l k =
    subst (λ (s : State). Stays (state_of J) s (members_concerned J e.deed) (actions_concerned J e.deed))
    (ap (λ (s : StateSnapshot). s.state) (sym (snapshot_push v t J e l k)))
    (after_stays v t J l e.by e.moment e.deed (told v t J e.by e.moment e.deed (allowed v t J e k)))

-- ---- what a deed concerns, before and after it

module _ (v : Version) (t : List ℕ → Bool) (J : History) (l : is_legal v t J ≡ true) where
  around_push : (e : Entry) (a : ℕ) → is_among (actions J) a ≡ true → child_given a e.deed ≡ None
      → around (J ++ e ∷ []) a ≡ around J a
  around_push e a there childless =
      ap (λ (o : Option ℕ). a ∷ (option_to_list o ++ children (J ++ e ∷ []) a)) (parent_stays J e a there)
      ∙ ap (λ (ns : List ℕ). a ∷ (option_to_list (parent J a) ++ ns)) (children_push J e a
      ∙ ap (λ (o : Option ℕ). children J a ++ option_to_list o) childless ∙ append-nil (children J a))

  members_of_same : (e : Entry) (a : ℕ) → member_given a e.deed ≡ None → members_of (J ++ e ∷ []) a ≡ members_of J a
  members_of_same e a none = members_of_push J e a ∙ ap (λ (o : Option ℕ). members_of J a ++ option_to_list o) none
      ∙ append-nil (members_of J a)

  one_push : (e : Entry) (p : ℕ) → is_among (members J) p ≡ true
      → (let xs : List ℕ = action_of (J ++ e ∷ []) p ∷ [] in xs) ≡ action_of J p ∷ []
  one_push e p there = ap (λ (a : ℕ). let xs : List ℕ = a ∷ [] in xs) (action_of_stays J e p there)

  asked_push : (e : Entry) (n : ℕ) (x : Asked) → ask_of J n ≡ Some x → ask_of (J ++ e ∷ []) n ≡ Some x
  asked_push e n x h = ask_of_push J e n ∙ ap (λ (o : Option Asked). option_or o
      (option_map_or (λ (a : Asked). when (a.number == n) a) (asked_at (step J e)) None)) h

  pub members_concerned_push : (by m : ℕ) (d : Deed) → Told J by d → members_concerned (more J by m d) d
      ≡ members_concerned J d
  members_concerned_push by m (Close a cause) x = members_of_same (entry by m (Close a cause)) a refl
  members_concerned_push by m (Cancel a cause) x = members_of_same (entry by m (Cancel a cause)) a refl
  members_concerned_push by m (End a status) x = members_of_same (entry by m (End a status)) a refl
  members_concerned_push by m (Reply n o) x =
      let now = asked_push (entry by m (Reply n o)) n x.0 x.1.asked in
      ap (λ (q : Option Asked). option_map_or (λ (y : Asked). y.member ∷ []) q []) (now ∙ sym x.1.asked)
  members_concerned_push by m _ x = refl

  pub actions_concerned_push : (by m : ℕ) (d : Deed) → Told J by d → actions_concerned (more J by m d) d
      ≡ actions_concerned J d
  actions_concerned_push by m (Leave p) x = one_push (entry by m (Leave p)) p x
  actions_concerned_push by m (Close a cause) x = around_push (entry by m (Close a cause)) a x refl
  actions_concerned_push by m (Cancel a cause) x = around_push (entry by m (Cancel a cause)) a x refl
  actions_concerned_push by m (Skip p) x = one_push (entry by m (Skip p)) p x.there
  actions_concerned_push by m (Ask n p kind) x = one_push (entry by m (Ask n p kind)) p x.there
  actions_concerned_push by m (Reply n o) x =
      let now = asked_push (entry by m (Reply n o)) n x.0 x.1.asked in
      ap (λ (q : Option Asked). option_map_or (λ (y : Asked). action_of (more J by m (Reply n o)) y.member ∷ []) q [])
      now
      ∙ one_push (entry by m (Reply n o)) x.0.member ((asks_listed v t J l).there n x.0 x.1.asked)
      ∙ sym (ap (λ (q : Option Asked). option_map_or (λ (y : Asked). action_of J y.member ∷ []) q []) x.1.asked)
  actions_concerned_push by m (Report p o) x = one_push (entry by m (Report p o)) p x.there
  actions_concerned_push by m (End a status) x = around_push (entry by m (End a status)) a x refl
  actions_concerned_push by m _ x = refl
