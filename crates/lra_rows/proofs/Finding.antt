-- What a snapshot has of a number is what is found of the history.
use Rattle.std.proofs.Common.{◌≡◌, ℕ, Bool, true, false, List, [], map, Option, Some, None, refl, sym, ap, ◌∙◌, cond}
use Rattle.std.proofs.Common.{◌∷◌, length, ne_eqb, arith}
use Rattle.std.specs.Prelude.{◌&&◌, nat_lt, is_some, option_map, unwrap_or}
use Rattle.std.specs.Option.{option_map_or, option_and_then}
use Rattle.std.specs.List.{last_or}
use Rattle.lra_model.specs.declared.status.ActionStatus.{ActionStatus}
use Rattle.lra_model.specs.declared.status.MemberStatus.{MemberStatus}
use Rattle.lra_model.specs.declared.entry.Deed.TheVariants.{End}
use Rattle.lra_model.specs.declared.asks.AskKind.TheVariants as ask
use Rattle.lra_model.specs.declared.asks.Direction.{Direction}
use Rattle.lra_model.specs.declared.asks.Direction.TheVariants as direction
use Rattle.lra_model.specs.declared.version.Version.{Version}
use Rattle.lra_model.specs.History.{History, actions, members, is_among, last}
use Rattle.lra_model.specs.Actions.{action_status, children, members_of}
use Rattle.lra_model.specs.Members.{Asked, ask_of, is_outstanding, outstanding_ask, ask_direction, member_status}
use Rattle.lra_model.specs.Members.{members_under}
use Rattle.lra_model.specs.declared.asks.AskKind.{AskKind}
use Rattle.lra_model.specs.Words.{when, is_compensating}
use Rattle.lra_model.specs.Facts.{Facts}
use Rattle.lra_model.specs.Ends.{settles, is_settled, right_end}
use Rattle.lra_model.specs.Wants.{wants, wanted, stage_of, repeats, repeat_count, last_repeat}
use Rattle.lra_model.specs.Rules.{is_legal}
use Rattle.lra_laws.specs.Rows as laws
use Rattle.lra_laws.specs.Rows.{way_asked, row_at, stands_as, action_row, member_row, void_asks, standing, state_of}
use Rattle.lra_laws.specs.inner.RowFacts.{facts_by, member_by}
use Rattle.lra_laws.specs.Snapshots.{Repeats, repeats_in, no_repeats, Nesting, Endpoint, nesting_of, endpoint_of}
use Rattle.lra_laws.specs.Snapshots.{snapshot_of}
use Rattle.lra_laws.proofs.Legal.{actions_numbered, members_numbered}
use Rattle.lra_laws.proofs.Named.{status_is_there}
use Rattle.lra_laws.proofs.RowLists.{row_there, row_absent}
use Rattle.lra_laws.specs.Settles.{end_by}
use Rattle.lra_laws.proofs.SettlesNext.{end_agrees}
use Rattle.lra_laws.proofs.Agree.{agree}
use Rattle.lra_laws.proofs.WantedWay.{wanted_way}
use Rattle.lra_laws.proofs.AskWords.{asks_listed, asks_stand, outstanding_by, stands_yet}
use Rattle.lra_laws.proofs.AskList.{ask_at}
use Rattle.lra_laws.proofs.Nests.{nothing_in}
use Rattle.lra_rows.specs.declared.found.ActionRow.{ActionRow}
use Rattle.lra_rows.specs.declared.found.MemberRow.{MemberRow}
use Rattle.lra_rows.specs.declared.found.AskRow.{AskRow}
use Rattle.lra_rows.specs.Found.{found_action, found_member, found_addresses, found_ask, found_end}
use Rattle.lra_rows.specs.inner.Held.{repeats_at, held_repeats, last_of, held_action, held_member, held_addresses}
use Rattle.lra_rows.specs.inner.Held.{held_standing, held_ask, held_children, held_members, held_under}

pub action_held : (v : Version) (t : List ℕ → Bool) (J : History) → is_legal v t J ≡ true → (a : ℕ)
    → held_action (snapshot_of J) a ≡ found_action J a
action_held v t J l a = decide (is_among (actions J) a) refl
  where
    row : laws.ActionRow → Nesting → ActionRow
    row r x = record {
      parent = r.parent;
      limit = r.limit.length_of;
      since = r.limit.since;
      depth = x.depth;
      status =
          r.status;
    }

    decide : (b : Bool) → is_among (actions J) a ≡ b → held_action (snapshot_of J) a
        ≡ cond b (Some (row (action_row J a) (nesting_of J a))) None
    decide true e =
        ap (option_and_then (λ (r : laws.ActionRow). option_map (row r) (row_at (map (nesting_of J) (actions J)) a)))
        (row_there (action_row J) (actions J) a (actions_numbered v t J l) e)
        ∙ ap (option_map (row (action_row J a))) (row_there (nesting_of J) (actions J) a (actions_numbered v t J l) e)
    decide false e =
        ap (option_and_then (λ (r : laws.ActionRow). option_map (row r) (row_at (map (nesting_of J) (actions J)) a)))
        (row_absent (action_row J) (actions J) a (actions_numbered v t J l) e)

pub ask_held : (v : Version) (t : List ℕ → Bool) (J : History) → is_legal v t J ≡ true → (n : ℕ)
    → held_ask (snapshot_of J) n ≡ found_ask J n
ask_held v t J l n = ap (option_map (row (held_standing (snapshot_of J) n))) (ask_at v t J l n) ∙ known (ask_of J n)
    refl
  where
    row : (ℕ → Bool) → Asked → AskRow
    row out x = record { member = x.member; kind = x.kind; direction = x.direction; outstanding = out x.member }

    stands : (x : Asked) → ask_of J n ≡ Some x → held_standing (snapshot_of J) n x.member ≡ is_outstanding J n
    stands x e =
        ap (λ (o : Option laws.MemberRow). nat_lt (void_asks J) n && option_map_or (stands_as n) o false)
        (row_there (member_row J) (members J) x.member (members_numbered v t J l)
        ((asks_listed v t J l).there n x e))
        ∙ sym ((asks_stand v t J l).outstanding n ∙ ap (stands_yet J n) e)

    known : (o : Option Asked) → ask_of J n ≡ o → option_map (row (held_standing (snapshot_of J) n)) o
        ≡ option_map (row (λ p. is_outstanding J n)) o
    known None e = refl
    known (Some x) e = λ i. Some
        (record { member = x.member; kind = x.kind; direction = x.direction; outstanding = stands x e i })

nest_held : (v : Version) (t : List ℕ → Bool) (J : History) → is_legal v t J ≡ true → (read : Nesting → List ℕ) (a : ℕ)
    → (is_among (actions J) a ≡ false → read (nesting_of J a) ≡ []) → option_map_or read
    (row_at (map (nesting_of J) (actions J)) a) [] ≡ read (nesting_of J a)
nest_held v t J l read a none = decide (is_among (actions J) a) refl
  where
    decide : (b : Bool) → is_among (actions J) a ≡ b → option_map_or read (row_at (map (nesting_of J) (actions J)) a) []
        ≡ read (nesting_of J a)
    decide true e = ap (λ (o : Option Nesting). option_map_or read o []) (row_there (nesting_of J) (actions J) a
        (actions_numbered v t J l) e)
    decide false e = ap (λ (o : Option Nesting). option_map_or read o [])
        (row_absent (nesting_of J) (actions J) a (actions_numbered v t J l) e) ∙ sym (none e)

pub children_held : (v : Version) (t : List ℕ → Bool) (J : History) → is_legal v t J ≡ true → (a : ℕ)
    → held_children (snapshot_of J) a ≡ children J a
children_held v t J l a = nest_held v t J l (λ (x : Nesting). x.children) a (λ e. (nothing_in v t J a l e).0)

pub members_held : (v : Version) (t : List ℕ → Bool) (J : History) → is_legal v t J ≡ true → (a : ℕ)
    → held_members (snapshot_of J) a ≡ members_of J a
members_held v t J l a = nest_held v t J l (λ (x : Nesting). x.members) a (λ e. (nothing_in v t J a l e).1)

pub under_held : (v : Version) (t : List ℕ → Bool) (J : History) → is_legal v t J ≡ true → (a : ℕ)
    → held_under (snapshot_of J) a ≡ members_under J a
under_held v t J l a = nest_held v t J l (λ (x : Nesting). x.under) a (λ e. (nothing_in v t J a l e).2)

-- what a member wants, by its row
want_held : (v : Version) (t : List ℕ → Bool) (J : History) → is_legal v t J ≡ true → (p : ℕ) → is_among (members J) p
    ≡ true → wanted (facts_by (state_of J)) (member_by (state_of J) (member_row J p)) ≡ wants J p
unfolding wants
want_held v t J l p e =
    sym (ap (λ (f : Facts). option_map_or (wanted f) (f.member p) None) (sym (agree v t J l))
    ∙ ap (λ (o : Option laws.MemberRow). option_map_or (wanted (facts_by (state_of J)))
    (option_map (member_by (state_of J)) o) None) (row_there (member_row J) (members J) p (members_numbered v t J l)
    e))

-- the last of a list is there unless it is empty
last_is : (ms : List ℕ) → last_of (record { count = length ms; last = unwrap_or (last ms) 0 }) ≡ last ms
last_is [] = refl
last_is (m ∷ ms) = ap (λ (b : Bool). cond b None (Some (unwrap_or (last (m ∷ ms)) 0)))
    (ne_eqb (length (m ∷ ms)) 0 (λ e. omega arith)) ∙ some m ms
  where
    some : (x : ℕ) (xs : List ℕ) → Some (unwrap_or (last_or (Some x) xs) 0) ≡ last_or (Some x) xs
    some x [] = refl
    some x (y ∷ ys) = some y ys

-- the stage of an ask is one that repeats are kept of
stage_held : (J : History) (p : ℕ) (kind : AskKind) (s : MemberStatus)
    → repeats_at (stage_of kind (way_asked kind s)) (endpoint_of J p)
    ≡ repeats_in J p (stage_of kind (way_asked kind s))
stage_held J p ask.Complete s = refl
stage_held J p ask.Compensate s = refl
stage_held J p ask.Forget s = refl
stage_held J p ask.After s = refl
stage_held J p ask.Status s = of_way (is_compensating s)
  where
    of_way : (b : Bool) → repeats_at (stage_of ask.Status (cond b direction.Compensation direction.Completion))
        (endpoint_of J p) ≡ repeats_in J p (stage_of ask.Status (cond b direction.Compensation direction.Completion))
    of_way true = refl
    of_way false = refl

-- the repeats of what is wanted
abbrev found_repeats : History → ℕ → Option AskKind → Repeats
found_repeats J p o = option_map_or (λ (kind : AskKind). repeats_in J p (stage_of kind (ask_direction J p kind))) o
    no_repeats

repeats_held : (v : Version) (t : List ℕ → Bool) (J : History) → is_legal v t J ≡ true → (p : ℕ)
    → is_among (members J) p ≡ true → held_repeats (snapshot_of J) p (member_row J p) ≡ found_repeats J p (wants J p)
repeats_held v t J l p e =
    ap (λ (o : Option AskKind). option_map_or held o no_repeats) (want_held v t J l p e) ∙ of_want (wants J p) refl
  where
    held : AskKind → Repeats
    held kind = option_map_or (repeats_at (stage_of kind (way_asked kind (member_status J p))))
        (row_at (map (endpoint_of J) (members J)) p) no_repeats

    of_want : (o : Option AskKind) → wants J p ≡ o → option_map_or held o no_repeats ≡ found_repeats J p o
    of_want None h = refl
    of_want (Some kind) h =
        ap (λ (o : Option Endpoint). option_map_or (repeats_at (stage_of kind (way_asked kind (member_status J p)))) o
        no_repeats) (row_there (endpoint_of J) (members J) p (members_numbered v t J l) e)
        ∙ stage_held J p kind (member_status J p)
        ∙ ap (λ (w : Direction). repeats_in J p (stage_of kind w)) (sym (wanted_way J p kind h))

count_found : (J : History) (p : ℕ) (o : Option AskKind) → (found_repeats J p o).count
    ≡ option_map_or (λ (kind : AskKind). repeat_count J p (stage_of kind (ask_direction J p kind))) o 0
count_found J p None = refl
count_found J p (Some kind) = refl

last_found : (J : History) (p : ℕ) (o : Option AskKind) → last_of (found_repeats J p o)
    ≡ option_and_then (λ (kind : AskKind). last_repeat J p (stage_of kind (ask_direction J p kind))) o
last_found J p None = refl
last_found J p (Some kind) = last_is (repeats J p (stage_of kind (ask_direction J p kind)))

pub member_held : (v : Version) (t : List ℕ → Bool) (J : History) → is_legal v t J ≡ true → (p : ℕ)
    → held_member (snapshot_of J) p ≡ found_member J p
member_held v t J l p = decide (is_among (members J) p) refl
  where
    row : Option ℕ → Option AskKind → ℕ → Option ℕ → laws.MemberRow → MemberRow
    row out want k last r = record {
      action = r.action;
      status = r.status;
      completion = r.completed_as;
      compensation =
          r.compensated_as;
      outstanding = out;
      want = want;
      k = k;
      last = last;
    }

    held : laws.MemberRow → MemberRow
    held r =
        row (option_map_or (λ (x : laws.Standing). when (nat_lt (void_asks J) x.number) x.number) r.asked None)
        (wanted (facts_by (state_of J)) (member_by (state_of J) r))
        (held_repeats (snapshot_of J) p r).count (last_of (held_repeats (snapshot_of J) p r)) r

    decide : (b : Bool) → is_among (members J) p ≡ b → held_member (snapshot_of J) p
        ≡ cond b (Some (row (outstanding_ask J p) (wants J p)
        (option_map_or (λ (kind : AskKind). repeat_count J p (stage_of kind (ask_direction J p kind))) (wants J p) 0)
        (option_and_then (λ (kind : AskKind). last_repeat J p (stage_of kind (ask_direction J p kind))) (wants J p))
        (member_row J p))) None
    decide true e =
        ap (option_map held) (row_there (member_row J) (members J) p (members_numbered v t J l) e)
        ∙ (λ i. Some (row (out i) (want_held v t J l p e i)
        ((ap (λ (x : Repeats). x.count) (repeats_held v t J l p e) ∙ count_found J p (wants J p)) i)
        ((ap last_of (repeats_held v t J l p e) ∙ last_found J p (wants J p)) i) (member_row J p)))
      where
        out : option_map_or (λ (x : laws.Standing). when (nat_lt (void_asks J) x.number) x.number) (standing J p) None
            ≡ outstanding_ask J p
        out = sym (outstanding_by J p (asks_listed v t J l) (asks_stand v t J l))
    decide false e = ap (option_map held) (row_absent (member_row J) (members J) p (members_numbered v t J l) e)

pub addresses_held : (v : Version) (t : List ℕ → Bool) (J : History) → is_legal v t J ≡ true → (p : ℕ)
    → held_addresses (snapshot_of J) p ≡ found_addresses J p
addresses_held v t J l p = decide (is_among (members J) p) refl
  where
    decide : (b : Bool) → is_among (members J) p ≡ b → held_addresses (snapshot_of J) p
        ≡ cond b (Some (endpoint_of J p).addresses) None
    decide true e = ap (option_map (λ (c : Endpoint). c.addresses)) (row_there (endpoint_of J) (members J) p
        (members_numbered v t J l) e)
    decide false e = ap (option_map (λ (c : Endpoint). c.addresses)) (row_absent (endpoint_of J) (members J) p
        (members_numbered v t J l) e)

-- an action that isn't there may not end
pub end_held : (v : Version) (t : List ℕ → Bool) (J : History) → is_legal v t J ≡ true → (a : ℕ) → end_by (state_of J) a
    ≡ found_end J a
unfolding is_settled
end_held v t J l a = end_agrees v t J l a ∙ decide (is_among (actions J) a) (action_status J a) refl
    (status_is_there v t J l a)
  where
    decide : (b : Bool) (o : Option ActionStatus) → action_status J a ≡ o → is_some (action_status J a) ≡ b
        → cond b (cond (settles (action_status J a) J a) (Some (End a (right_end J a))) None) None
        ≡ cond (settles (action_status J a) J a) (Some (End a (right_end J a))) None
    decide true o e h = refl
    decide false None e h =
        sym (ap (λ (q : Option ActionStatus). cond (settles q J a) (Some (End a (right_end J a))) None) e)
    decide false (Some s) e h = let k = ap is_some e in absurd cc
