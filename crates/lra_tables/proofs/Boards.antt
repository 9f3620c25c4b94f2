-- What the indexed sets say, and that they stay right as entries are applied and undone.
use Rattle.std.proofs.Common.{◌≡◌, ℕ, ◌+◌, ◌-◌, ◌≤◌, Bool, true, false, [], ◌∷◌, ◌++◌, Option, Some, None, refl, sym}
use Rattle.std.proofs.Common.{ap, ◌∙◌, subst, arith}
use Rattle.std.proofs.lemmas.Bool.{ltb-true, lt-ltb}
use Rattle.std.specs.Prelude.{is_some, option_map, nat_lt, IfSome, IfNone}
use Rattle.std.specs.Option.{option_or, option_and_then}
use Rattle.lra_model.specs.declared.entry.Deed.{Deed}
use Rattle.lra_model.specs.declared.entry.Deed.TheVariants.{Start, Join, Skip}
use Rattle.lra_model.specs.declared.entry.Entry.{Entry}
use Rattle.lra_model.specs.History.{History}
use Rattle.lra_model.specs.Settling.{next_settling}
use Rattle.lra_model.specs.Rules.{allows}
use Rattle.lra_laws.specs.Rows.{State, state_of}
use Rattle.lra_laws.specs.Snapshots.{StateSnapshot, StandsFor, Follows, snapshot_after}
use Rattle.lra_laws.specs.inner.Concerned.{members_concerned, actions_concerned}
use Rattle.lra_laws.specs.Settles.{may_skip_by, turn_by, end_by}
use Rattle.lra_laws.proofs.SnapshotPush.{StandsFor-push}
use Rattle.lra_laws.proofs.Tested.{both, and_intro}
use Rattle.lra_laws.proofs.SettlesNext.{IsLeast, IsGreatest, next_is}
use Rattle.lra_tables.specs.declared.indexed_set.Order.TheVariants.{LeastFirst, GreatestFirst}
use Rattle.lra_tables.specs.inner.IndexedSet.{Marking, mark_at, IsNoLater, IsFirstMarked, NoneMarked}
use Rattle.lra_rows.specs.Rowed as rows
use Rattle.lra_rows.specs.Rowed.{Rowed}
use Rattle.lra_rows.specs.Steps.{Step, taken_back}
use Rattle.lra_tables.specs.inner.Boarded.{Boarded, has_room, marks_take, uncarried}
use Rattle.lra_tables.specs.declared.settling_index.SettlingIndex.{SettlingIndex}
use Rattle.lra_tables.specs.inner.SettlingIndex.{MarkedBut, takes, grown, shrunk, has_numbers}
use Rattle.lra_tables.proofs.Grown.{grown_marked, shrunk_marked, numbers_there}

-- ---- what settles next

least : (test : ℕ → Bool) (m : Marking) → m.order ≡ LeastFirst → ((n : ℕ) → false ≡ false → mark_at m.marked n ≡ test n)
    → (o : Option ℕ) → IfSome o (IsFirstMarked m.order m.marked) → IfNone o (NoneMarked m.marked) → IsLeast test o
least test m order is None some none = λ n. sym (is n refl) ∙ none n
least test m order is (Some k) some none = (
  sym (is k refl) ∙ some.is_marked,
  λ n h. subst (λ o. IsNoLater o k n) order (some.first n (is n refl ∙ h)),
)

greatest : (test : ℕ → Bool) (m : Marking) → m.order ≡ GreatestFirst →
    ((n : ℕ) → false ≡ false → mark_at m.marked n ≡ test n) → (o : Option ℕ) → IfSome o (IsFirstMarked m.order m.marked)
    → IfNone o (NoneMarked m.marked) → IsGreatest test o
greatest test m order is None some none = λ n. sym (is n refl) ∙ none n
greatest test m order is (Some k) some none = (
  sym (is k refl) ∙ some.is_marked,
  λ n h. subst (λ o. IsNoLater o k n) order (some.first n (is n refl ∙ h)),
)

-- what the first of a set is
pub record IsFirst (m : Marking) (o : Option ℕ) : Type 0 where
  pub some : IfSome o (IsFirstMarked m.order m.marked)
  pub none : IfNone o (NoneMarked m.marked)

pub next_by_marks : (s : State) (r : SettlingIndex) (snapshot : StateSnapshot) (J : History) (h : StandsFor snapshot J)
    → s ≡ snapshot.state
    → MarkedBut s r [] [] → (skip turn over : Option ℕ) → IsFirst r.skips skip → IsFirst r.turns turn
    → IsFirst r.ends over
    → option_or (option_map Skip skip) (option_or (option_and_then (turn_by s) turn) (option_and_then (end_by s) over))
    ≡ next_settling J
next_by_marks s r snapshot J h same marked skip turn over first_skip first_turn first_end =
    ap (λ (u : State). option_or (option_map Skip skip) (option_or (option_and_then (turn_by u) turn)
    (option_and_then (end_by u) over))) is
    ∙ next_is h.version h.is_address J h.legal skip turn over
    (least (may_skip_by (state_of J)) r.skips now.sized.least_skip now.skips skip first_skip.some first_skip.none)
    (least (λ a. is_some (turn_by (state_of J) a)) r.turns now.sized.least_turn now.turns turn first_turn.some
    first_turn.none)
    (greatest (λ a. is_some (end_by (state_of J) a)) r.ends now.sized.greatest_end now.ends over first_end.some
    first_end.none)
  where
    is : s ≡ state_of J
    is = same ∙ ap (λ (x : StateSnapshot). x.state) h.snapshot

    now : MarkedBut (state_of J) r [] []
    now = subst (λ (u : State). MarkedBut u r [] []) is marked

-- ---- room

still_more : (a b : ℕ) → a ≤ b → nat_lt 0 a ≡ true → nat_lt 0 b ≡ true
still_more a b less h = lt-ltb 0 b (let k = ltb-true 0 a h in omega arith)

marks_still_take : (d : Deed) (b c : Boarded) → b.skips ≤ c.skips → b.turns ≤ c.turns → b.ends ≤ c.ends → marks_take d b
    ≡ true → marks_take d c ≡ true
marks_still_take (Start a parent limit) b c skips turns ends h =
    let k = both (nat_lt 0 b.turns) (nat_lt 0 b.ends) h in
    and_intro (nat_lt 0 c.turns) (nat_lt 0 c.ends) (still_more b.turns c.turns turns k.0)
    (still_more b.ends c.ends ends k.1)
marks_still_take (Join p a uris) b c skips turns ends h = still_more b.skips c.skips skips h
marks_still_take d b c skips turns ends h = refl

-- more room holds what less did
pub still_has_room : (e : Entry) (b c : Boarded) → (rows.has_room e b.rows ≡ true → rows.has_room e c.rows ≡ true)
    → b.skips ≤ c.skips → b.turns ≤ c.turns → b.ends ≤ c.ends → has_room e b ≡ true → has_room e c ≡ true
still_has_room e b c more skips turns ends h =
    let k = both (rows.has_room e b.rows) (marks_take e.deed b) h in
    and_intro (rows.has_room e c.rows) (marks_take e.deed c) (more k.0)
    (marks_still_take e.deed b c skips turns ends k.1)

-- the indexed sets take what the room of a settling state says
takes_is : (d : Deed) (r : SettlingIndex) (x : Rowed)
    → marks_take d (record { rows = x; skips = r.skips.room; turns = r.turns.room; ends = r.ends.room }) ≡ takes d r
takes_is (Start a parent limit) r x = refl
takes_is (Join p a uris) r x = refl
takes_is d r x = refl

pub takes_deed : (e : Entry) (x : Rowed) (r : SettlingIndex) → has_room e (record
    { rows = x; skips = r.skips.room; turns = r.turns.room; ends = r.ends.room }) ≡ true → takes e.deed r ≡ true
takes_deed e x r h = sym (takes_is e.deed r x) ∙ (both (rows.has_room e x)
    (marks_take e.deed (record { rows = x; skips = r.skips.room; turns = r.turns.room; ends = r.ends.room })) h).1

-- ---- an entry is applied

pub carried_marks : (s u : StateSnapshot) (J : History) (e : Entry) (r after : SettlingIndex) (h : StandsFor s J)
    → allows h.version h.is_address J e ≡ true → StandsFor u (J ++ e ∷ []) → MarkedBut s.state r [] [] → after
    ≡ grown e.deed r
    → MarkedBut u.state after (members_concerned (J ++ e ∷ []) e.deed) (actions_concerned (J ++ e ∷ []) e.deed)
carried_marks s u J e r after h allowed k marked is =
    let ps = members_concerned (J ++ e ∷ []) e.deed in
    let xs = actions_concerned (J ++ e ∷ []) e.deed in
    subst (λ (x : SettlingIndex). MarkedBut u.state x ps xs) (sym is)
    (subst (λ (x : StateSnapshot). MarkedBut x.state (grown e.deed r) ps xs) (sym k.snapshot)
    (grown_marked h.version h.is_address J e r h.legal allowed
    (subst (λ (x : StateSnapshot). MarkedBut x.state r [] []) h.snapshot
    marked)))

-- ---- an entry is undone

after_it : (s u : StateSnapshot) (e : Entry) (r : SettlingIndex) (f : Follows s e) → u ≡ snapshot_after e s
    → MarkedBut u.state r [] []
    → MarkedBut (state_of (f.history ++ e ∷ [])) r [] []
after_it s u e r f same marked = subst (λ (x : StateSnapshot). MarkedBut x.state r [] [])
    (same ∙ (StandsFor-push s f.history e f.stands f.allowed).snapshot) marked

pub taken_marks : (s u : StateSnapshot) (e : Entry) (r after : SettlingIndex) (f : Follows s e) → u ≡ snapshot_after e s
    → MarkedBut u.state r [] [] → after ≡ shrunk e.deed r → MarkedBut s.state after (members_concerned f.history e.deed)
    (actions_concerned f.history e.deed)
taken_marks s u e r after f same marked is =
    let ps = members_concerned f.history e.deed in
    let xs = actions_concerned f.history e.deed in
    subst (λ (x : SettlingIndex). MarkedBut s.state x ps xs) (sym is)
    (subst (λ (x : StateSnapshot). MarkedBut x.state (shrunk e.deed r) ps xs) (sym f.stands.snapshot)
    (shrunk_marked f.stands.version f.stands.is_address f.history e r f.stands.legal f.allowed
    (after_it s u e r f same marked)))

pub taken_numbers : (s u : StateSnapshot) (e : Entry) (r : SettlingIndex) (f : Follows s e) → u ≡ snapshot_after e s
    → MarkedBut u.state r [] [] → has_numbers e.deed r ≡ true
taken_numbers s u e r f same marked = numbers_there f.stands.version f.stands.is_address f.history e r f.stands.legal
    f.allowed (after_it s u e r f same marked)

-- ---- the room that an entry takes is given back

one_back : (n : ℕ) → nat_lt 0 n ≡ true → (n - 1) + 1 ≡ n
one_back n h = let k = ltb-true 0 n h in omega arith

pub room_back : (by m : ℕ) (d : Deed) (k : Step) (x : Rowed) (r : SettlingIndex) → takes d r ≡ true
    → uncarried (record { by = by; moment = m; deed = d }) k
    (record {
      rows = x;
      skips = (grown d r).skips.room;
      turns = (grown d r).turns.room;
      ends =
          (grown d r).ends.room;
    })
    ≡ record { rows = taken_back k x; skips = r.skips.room; turns = r.turns.room; ends = r.ends.room }
room_back by m (Start a parent limit) k x r h =
    let room = both (nat_lt 0 r.turns.room) (nat_lt 0 r.ends.room) h in
    λ i. record {
      rows = taken_back k x;
      skips = r.skips.room;
      turns = one_back r.turns.room room.0 i;
      ends =
          one_back r.ends.room room.1 i;
    }
room_back by m (Join p a uris) k x r h = λ i. record {
  rows = taken_back k x;
  skips = one_back r.skips.room h i;
  turns =
      r.turns.room;
  ends = r.ends.room;
}
room_back by m d k x r h = refl
