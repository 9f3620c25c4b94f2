-- The depths and lists of the actions, with the room that there is for one more entry.
use Rattle.std.proofs.Common.{◌≡◌, inl, inr, ℕ, zero, suc, ◌≤◌, ◌-◌, ◌^◌, Bool, true, false, List, [], ◌∷◌, ◌++◌}
use Rattle.std.proofs.Common.{length, take, map, Option, Some, None, refl, sym, ap, ◌∙◌, IfSome, slice_get, slice_set}
use Rattle.std.specs.Prelude.{nat_lt, cond, option_map}
use Rattle.std.specs.Option.{option_map_or}
use Rattle.std.proofs.lemmas.Bool.{cases_eq}
use Rattle.std.proofs.lemmas.List.{map-set, take-map, length-map}
use Rattle.std.proofs.lemmas.Option.{slice_get-map}
use Rattle.lra_model.specs.declared.entry.Deed.{Deed}
use Rattle.lra_model.specs.declared.entry.Deed.TheVariants.{Start, Join, Ask, Reply}
use Rattle.lra_model.specs.declared.entry.Entry.{Entry}
use Rattle.lra_model.specs.Words.{is_undecided}
use Rattle.lra_model.specs.Members.{Asked}
use Rattle.lra_laws.specs.Rows.{row_at, change_row}
use Rattle.lra_laws.specs.Snapshots.{Nesting, with_child_number, with_member_number, with_number_under, new_nesting}
use Rattle.lra_laws.specs.Snapshots.{top_at}
use Rattle.lra_laws.proofs.Tested.{both, and_intro}
use Rattle.lra_rows.specs.Rowed.{NestCapacity, no_capacity, Rowed, takes_one, takes_child, takes_under, is_ready_at}
use Rattle.lra_rows.specs.Rowed.{deed_has_room, has_room}
use Rattle.lra_rows.specs.Steps.{without_last}
use Rattle.lra_rows.specs.declared.nesting.Listed.{Listed}
use Rattle.lra_rows.specs.declared.nesting.Listed.TheVariants as listed
use Rattle.lra_rows.specs.inner.Nested.{Nested, nestings_in, capacities_in, has_place, has_place_at, nest_with}
use Rattle.lra_rows.specs.inner.Nested.{with_number, nest_without, without_number}
use Rattle.lra_rows.specs.inner.Room.{Keeps}
use Rattle.lra_rows.specs.inner.Counts.{DeepTo}
use Rattle.lra_states.proofs.Replacing.{slice_get-set_same, slice_get-set_other}

-- ---- rows of which a part is read

pub row_at-map : {R S : Type 0} (f : R → S) (rows : List R) (n : ℕ) → row_at (map f rows) n
    ≡ option_map f (row_at rows n)
row_at-map f rows zero = refl
row_at-map f rows (suc n) = slice_get-map f rows n

pub map-change_row : {R S : Type 0} (f : R → S) (g : R → R) (h : S → S) → ((r : R) → f (g r) ≡ h (f r))
    → (n : ℕ) (rows : List R) → map f (change_row g n rows) ≡ change_row h n (map f rows)
map-change_row f g h e zero rows = refl
map-change_row {R = R} {S = S} f g h e (suc n) rows = rw (slice_get-map f rows n) (of_row (slice_get rows n))
  where
    of_row : (o : Option R) → map f (option_map_or (λ r. slice_set rows n (g r)) o rows)
        ≡ option_map_or (λ s. slice_set (map f rows) n (h s)) (option_map f o) (map f rows)
    of_row None = refl
    of_row (Some r) = map-set f rows n (g r) ∙ ap (slice_set (map f rows) n) (e r)

-- a row that another stands in for, of which the same is read
pub map-same : {R S : Type 0} (f : R → S) (rows : List R) (k : ℕ) (x n : R) → slice_get rows k ≡ Some x → f n ≡ f x
    → map f (slice_set rows k n) ≡ map f rows
map-same f [] k x n there e = cc
map-same f (y ∷ rows) zero x n there e = ap (λ s. s ∷ map f rows) (e ∙ ap f (sym (some there)))
  where
    some : Some y ≡ Some x → y ≡ x
    some h = cc
map-same f (y ∷ rows) (suc k) x n there e = ap (λ ss. f y ∷ ss) (map-same f rows k x n there e)

-- a change that changes nothing
pub change_none : {R : Type 0} (a : ℕ) (rows : List R) → change_row (λ r. r) a rows ≡ rows
change_none zero rows = refl
change_none (suc k) rows = at k rows
  where
    at : {R : Type 0} (k : ℕ) (rows : List R) → option_map_or (λ r. slice_set rows k r) (slice_get rows k) rows ≡ rows
    at k [] = refl
    at zero (x ∷ rows) = refl
    at {R = R} (suc k) (x ∷ rows) = of_get (slice_get rows k) (at k rows)
      where
        of_get : (o : Option R) → option_map_or (λ r. slice_set rows k r) o rows ≡ rows
            → option_map_or (λ r. x ∷ slice_set rows k r) o (x ∷ rows) ≡ x ∷ rows
        of_get None h = refl
        of_get (Some r) h = ap (λ rs. x ∷ rs) h

-- ---- lists with a place

-- a number goes to a list
pub nestings-with : (l : Listed) (number a : ℕ) (rows : List Nested)
    → nestings_in (change_row (with_number l number) a rows)
    ≡ change_row (nest_with l number) a (nestings_in rows)
nestings-with l number a rows = map-change_row (λ (n : Nested). n.nesting) (with_number l number) (nest_with l number)
    (λ n. refl) a rows

pub capacities-with : (l : Listed) (number a : ℕ) (rows : List Nested)
    → capacities_in (change_row (with_number l number) a rows) ≡ capacities_in rows
capacities-with l number a rows = map-change_row (λ (n : Nested). n.capacity) (with_number l number) (λ c. c)
    (λ n. refl) a rows ∙ change_none a (capacities_in rows)

-- a place of a list stays where no list of the row that changes loses its own
pub place_kept : (rows : List Nested) (k : ℕ) (x n : Nested) → slice_get rows k ≡ Some x
    → ((l : Listed) → has_place l x ≡ true → has_place l n ≡ true) → (l : Listed) (a : ℕ) → has_place_at l a rows ≡ true
    → has_place_at l a (slice_set rows k n) ≡ true
place_kept rows k x n there kept l zero h = refl
place_kept rows k x n there kept l (suc j) h =
    elim (cases_eq j k) [
      | inl same ↦ rw (same, slice_get-set_same rows k x n there) (kept l (rw (same, there) at h))
      | inr apart ↦ rw (slice_get-set_other rows k j n apart) h
    ]

-- a row that has one where it stands
pub place_there : (rows : List Nested) (k : ℕ) (x n : Nested) (l : Listed) → slice_get rows k ≡ Some x → has_place l n
    ≡ true → has_place_at l (suc k) (slice_set rows k n) ≡ true
place_there rows k x n l there h = rw (slice_get-set_same rows k x n there) h

pub place_none : (rows : List Nested) (k : ℕ) (x : Nested) (l : Listed) → slice_get rows k ≡ Some x → has_place l x
    ≡ false → has_place_at l (suc k) rows ≡ false
place_none rows k x l there h = rw there h

pub place_past : (rows : List Nested) (k : ℕ) (l : Listed) → slice_get rows k ≡ None → has_place_at l (suc k) rows
    ≡ true
place_past rows k l there = rw there refl

-- how deep an action is nested is bounded, where each is
pub depth_bounded : (n : ℕ) (rows : List Nested) (a : ℕ) (x : Nested) → row_at rows a ≡ Some x
    → IfSome (row_at (nestings_in rows) a) (DeepTo n) → x.nesting.depth ≤ n
depth_bounded n rows a x there h = (rw (row_at-map (λ (y : Nested). y.nesting) rows a, there) at h)

-- whether a list takes one more, where the actions' lists and what these hold are read apart
abbrev pub apart : (Nesting → List ℕ) → (NestCapacity → ℕ) → List Nested → ℕ → Bool
apart list capacity rows a = option_map_or (λ (n : Nesting). option_map_or
    (λ (c : NestCapacity). takes_one (list n) (capacity c)) (row_at (capacities_in rows) a) true)
    (row_at (nestings_in rows) a) true

places : (list : Nesting → List ℕ) (capacity : NestCapacity → ℕ) (rows : List Nested) (a : ℕ)
    → apart list capacity rows a
    ≡ option_map_or (λ (n : Nested). takes_one (list n.nesting) (capacity n.capacity)) (row_at rows a) true
places list capacity rows a =
    ap (λ (o : Option Nesting). option_map_or (λ (n : Nesting). option_map_or
    (λ (c : NestCapacity). takes_one (list n) (capacity c)) (row_at (capacities_in rows) a) true) o true)
    (row_at-map (λ (n : Nested). n.nesting) rows a)
    ∙ ap (λ (p : Option NestCapacity). option_map_or (λ (n : Nesting). option_map_or
    (λ (c : NestCapacity). takes_one (list n) (capacity c)) p true)
    (option_map (λ (n : Nested). n.nesting) (row_at rows a)) true) (row_at-map (λ (n : Nested). n.capacity) rows a)
    ∙ of_row (row_at rows a)
  where
    of_row : (o : Option Nested) → option_map_or (λ (n : Nesting). option_map_or
        (λ (c : NestCapacity). takes_one (list n) (capacity c)) (option_map (λ (n : Nested). n.capacity) o) true)
        (option_map (λ (n : Nested). n.nesting) o) true ≡ option_map_or (λ (n : Nested). takes_one (list n.nesting)
        (capacity n.capacity)) o true
    of_row None = refl
    of_row (Some n) = refl

pub child_place : (rows : List Nested) (a : ℕ) → apart (λ (n : Nesting). n.children) (λ (c : NestCapacity). c.children)
    rows a ≡ has_place_at listed.Children a rows
child_place rows a = places (λ (n : Nesting). n.children) (λ (c : NestCapacity). c.children) rows a

pub member_place : (rows : List Nested) (a : ℕ) → apart (λ (n : Nesting). n.members) (λ (c : NestCapacity). c.members)
    rows
    a ≡ has_place_at listed.Members a rows
member_place rows a = places (λ (n : Nesting). n.members) (λ (c : NestCapacity). c.members) rows a

pub under_place : (rows : List Nested) (a : ℕ) → apart (λ (n : Nesting). n.under) (λ (c : NestCapacity). c.under) rows a
    ≡ has_place_at listed.Under a rows
under_place rows a = places (λ (n : Nesting). n.under) (λ (c : NestCapacity). c.under) rows a

-- the lists of the actions take what they took
abbrev pub KeepsPlaces : List Nested → List Nested → Type 0
KeepsPlaces rows more = (l : Listed) (a : ℕ) → has_place_at l a rows ≡ true → has_place_at l a more ≡ true

pub children_kept : (rows more : List Nested) → KeepsPlaces rows more → (a : ℕ)
    → apart (λ (n : Nesting). n.children) (λ (c : NestCapacity). c.children) rows a ≡ true
    → apart (λ (n : Nesting). n.children) (λ (c : NestCapacity). c.children) more a ≡ true
children_kept rows more kept a h = child_place more a ∙ kept listed.Children a (sym (child_place rows a) ∙ h)

pub members_kept : (rows more : List Nested) → KeepsPlaces rows more → (a : ℕ)
    → apart (λ (n : Nesting). n.members) (λ (c : NestCapacity). c.members) rows a ≡ true
    → apart (λ (n : Nesting). n.members) (λ (c : NestCapacity). c.members) more a ≡ true
members_kept rows more kept a h = member_place more a ∙ kept listed.Members a (sym (member_place rows a) ∙ h)

pub under_kept : (rows more : List Nested) → KeepsPlaces rows more → (a : ℕ)
    → apart (λ (n : Nesting). n.under) (λ (c : NestCapacity). c.under) rows a ≡ true
    → apart (λ (n : Nesting). n.under) (λ (c : NestCapacity). c.under) more a ≡ true
under_kept rows more kept a h = under_place more a ∙ kept listed.Under a (sym (under_place rows a) ∙ h)

-- a place that isn't there wasn't there
pub fails_before : (rows more : List Nested) → KeepsPlaces rows more → (l : Listed) (a : ℕ) → has_place_at l a more
    ≡ false → has_place_at l a rows ≡ false
fails_before rows more kept l a h = decide (has_place_at l a rows) refl
  where
    decide : (b : Bool) → has_place_at l a rows ≡ b → has_place_at l a rows ≡ false
    decide false e = e
    decide true e = let k = kept l a e in absurd cc

-- the list of a parent takes a child
pub parent_place : (rows : List Nested) (parent : Option ℕ) → option_map_or
    (apart (λ (n : Nesting). n.children) (λ (c : NestCapacity). c.children) rows) parent true ≡ true
    → option_map_or (λ b. has_place_at listed.Children b rows) parent true ≡ true
parent_place rows None h = refl
parent_place rows (Some b) h = sym (child_place rows b) ∙ h

-- a list of depths and lists takes one more just where that of the rows does
pub takes_nest : (rows : List Nested) (n : ℕ) → takes_one (nestings_in rows) n ≡ takes_one rows n
takes_nest rows n = ap (λ k. nat_lt k n) (length-map rows (λ (x : Nested). x.nesting))

-- ---- an action that starts

pub map-more : {R S : Type 0} (f : R → S) (rows : List R) (r : R) → map f (rows ++ r ∷ []) ≡ map f rows ++ f r ∷ []
map-more f [] r = refl
map-more f (x ∷ rows) r = ap (λ ss. f x ∷ ss) (map-more f rows r)

pub nests_started : (c depth : ℕ) (parent : Option ℕ) (rows : List Nested)
    → nestings_in (option_map_or (λ b. change_row (with_number listed.Children c) b rows) parent rows
    ++ record { nesting = new_nesting depth; capacity = no_capacity } ∷ [])
    ≡ option_map_or (λ b. change_row (with_child_number c) b (nestings_in rows)) parent (nestings_in rows)
    ++ new_nesting depth ∷ []
nests_started c depth None rows = map-more (λ (x : Nested). x.nesting) rows
    (record { nesting = new_nesting depth; capacity = no_capacity })
nests_started c depth (Some b) rows =
    map-more (λ (x : Nested). x.nesting) (change_row (with_number listed.Children c) b rows)
    (record { nesting = new_nesting depth; capacity = no_capacity })
    ∙ ap (λ (ns : List Nesting). ns ++ new_nesting depth ∷ []) (nestings-with listed.Children c b rows)

pub capacities_started : (c depth : ℕ) (parent : Option ℕ) (rows : List Nested)
    → capacities_in (option_map_or (λ b. change_row (with_number listed.Children c) b rows) parent rows
    ++ record { nesting = new_nesting depth; capacity = no_capacity } ∷ []) ≡ capacities_in rows ++ no_capacity ∷ []
capacities_started c depth None rows = map-more (λ (x : Nested). x.capacity) rows
    (record { nesting = new_nesting depth; capacity = no_capacity })
capacities_started c depth (Some b) rows =
    map-more (λ (x : Nested). x.capacity) (change_row (with_number listed.Children c) b rows)
    (record { nesting = new_nesting depth; capacity = no_capacity })
    ∙ ap (λ (cs : List NestCapacity). cs ++ no_capacity ∷ []) (capacities-with listed.Children c b rows)

-- ---- a member that joins

pub nests_joined : (p a t : ℕ) (rows : List Nested) → nestings_in (change_row (with_number listed.Under p) t
    (change_row (with_number listed.Members p) a rows)) ≡ change_row (with_number_under p) t
    (change_row (with_member_number p) a (nestings_in rows))
nests_joined p a t rows = nestings-with listed.Under p t (change_row (with_number listed.Members p) a rows)
    ∙ ap (change_row (with_number_under p) t) (nestings-with listed.Members p a rows)

pub capacities_joined : (p a t : ℕ) (rows : List Nested) → capacities_in
    (change_row (with_number listed.Under p) t (change_row (with_number listed.Members p) a rows)) ≡ capacities_in rows
capacities_joined p a t rows = capacities-with listed.Under p t (change_row (with_number listed.Members p) a rows)
    ∙ capacities-with listed.Members p a rows

-- ---- one less

pub map-without_last : {R S : Type 0} (f : R → S) (rows : List R) → map f (without_last rows)
    ≡ without_last (map f rows)
map-without_last f rows = sym (take-map f (length rows - 1) rows) ∙ ap (λ n. take (n - 1) (map f rows))
    (sym (length-map rows f))

pub nestings-without : (l : Listed) (a : ℕ) (rows : List Nested) → nestings_in (change_row (without_number l) a rows)
    ≡ change_row (nest_without l) a (nestings_in rows)
nestings-without l a rows = map-change_row (λ (n : Nested). n.nesting) (without_number l) (nest_without l) (λ n. refl) a
    rows

pub capacities-without : (l : Listed) (a : ℕ) (rows : List Nested) → capacities_in
    (change_row (without_number l) a rows) ≡ capacities_in rows
capacities-without l a rows = map-change_row (λ (n : Nested). n.capacity) (without_number l) (λ c. c) (λ n. refl) a rows
    ∙ change_none a (capacities_in rows)

-- ---- room for a deed

-- the new rows have room for what the old had room for
pub room_kept : (old new : Rowed) → new.snapshot ≡ old.snapshot → Keeps old new → (d : Deed) → deed_has_room d old
    ≡ true
    → deed_has_room d new ≡ true
room_kept old new same k (Start a parent limit) h =
    let x = both _ _ h in let y = both _ _ x.0 in
    and_intro _ _ (and_intro _ _ (k.actions y.0) (k.nestings y.1)) (of_parent parent x.1)
  where
    of_parent : (o : Option ℕ) → option_map_or (takes_child old) o true ≡ true → option_map_or (takes_child new) o true
        ≡ true
    of_parent None h = refl
    of_parent (Some b) h = k.children b h
room_kept old new same k (Join p a uris) h =
    let x = both _ _ h in let y = both _ _ x.0 in let z = both _ _ y.0 in
    and_intro _ _ (and_intro _ _ (and_intro _ _ (k.members z.0) (k.endpoints z.1)) (k.numbers a y.1))
    (ap (λ s. takes_under new (top_at s.state a)) same ∙ k.under _ x.1)
room_kept old new same k (Ask n p kind) h = let x = both _ _ h in and_intro _ _ (k.asks x.0) x.1
room_kept old new same k (Reply n o) h = of_outcome (is_undecided o) h
  where
    of_ask : (x : Option Asked) → option_map_or (λ (x : Asked). is_ready_at old.capacity.ready x.member) x true ≡ true
        → option_map_or (λ (x : Asked). is_ready_at new.capacity.ready x.member) x true ≡ true
    of_ask None g = refl
    of_ask (Some x) g = k.ready x.member g

    of_outcome : (b : Bool) → cond b (option_map_or (λ (x : Asked). is_ready_at old.capacity.ready x.member)
        (row_at old.snapshot.asks n) true) true ≡ true
        → cond b (option_map_or (λ (x : Asked). is_ready_at new.capacity.ready x.member) (row_at new.snapshot.asks n)
        true)
        true ≡ true
    of_outcome false g = refl
    of_outcome true g = ap (λ s. option_map_or (λ (x : Asked). is_ready_at new.capacity.ready x.member)
        (row_at s.asks n) true) same ∙ of_ask (row_at old.snapshot.asks n) g
room_kept old new same k d h = refl

-- so for an entry, where there are as many entries as before
pub entry_kept : (old new : Rowed) → new.snapshot ≡ old.snapshot → Keeps old new → (e : Entry) → has_room e old ≡ true
    → has_room e new ≡ true
entry_kept old new same k e h = let x = both _ _ h in
    and_intro _ _ (ap (λ s. nat_lt s.entries (2 ^ 63)) same ∙ x.0) (room_kept old new same k e.deed x.1)
