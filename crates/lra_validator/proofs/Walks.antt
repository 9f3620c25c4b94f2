-- What a query returns along rows, from a place on.
use Rattle.std.proofs.Common.{◌≡◌, ℕ, zero, suc, ◌+◌, ◌-◌, ◌≤◌, ◌<◌, Bool, true, false, List, [], ◌∷◌, length, take}
use Rattle.std.proofs.Common.{drop, Option, Some, None, refl, sym, ap, ◌∙◌, cond, min, arith}
use Rattle.std.proofs.lemmas.List.{drop_all}
use Rattle.std.proofs.lemmas.Option.{slice_get_past}
use Rattle.std.specs.Prelude.{not, is_some, unwrap_or, slice_get, filter}
use Rattle.std.specs.Option.{option_map_or}
use Rattle.std.specs.List.{find, position_or_len}
use Rattle.lra_model.specs.declared.status.ActionStatus.{ActionStatus}
use Rattle.lra_model.specs.declared.version.Version.{Version}
use Rattle.lra_model.specs.Words.{when}
use Rattle.lra_model.specs.History.{History}
use Rattle.lra_model.specs.Rules.{is_legal}
use Rattle.lra_laws.specs.Snapshots.{StateSnapshot, StandsFor}
use Rattle.lra_commands.specs.declared.limits.Limits.{Limits}
use Rattle.lra_commands.specs.declared.query.Blocker.{Blocker}
use Rattle.lra_commands.specs.declared.query.Listing.{Listing}
use Rattle.lra_commands.specs.declared.query.Row.{Row}
use Rattle.lra_commands.specs.declared.query.QueryResult.{QueryResult}
use Rattle.lra_commands.specs.declared.query.QueryResult.TheVariants as known
use Rattle.lra_commands.specs.Queries.{most_rows, first_from, holds_end, rows_of, awaited_from, belongs, rows_along}
use Rattle.lra_commands.specs.Queries.{row_from}
use Rattle.lra_validator.specs.declared.walk.Walk.{Walk}
use Rattle.lra_validator.specs.declared.walk.Walk.TheVariants as walk
use Rattle.lra_validator.specs.inner.Blocker.{held, found_rows}
use Rattle.lra_validator.specs.inner.Listed.{count_listed, look_listed}
use Rattle.lra_validator.specs.inner.Told.{told_at}
use Rattle.lra_validator.specs.inner.Walks.{first_some, count_rows, look, last_of, none_told, IsTold}
use Rattle.lra_validator.proofs.Awaits.{held_is, rows_are}
use Rattle.lra_validator.proofs.Listings.{gone, row_is, count_is}

-- ---- place by place

-- something is returned of the first place
told_here : (f : ℕ → Option QueryResult) (none : QueryResult) (at n : ℕ) → is_some (f at) ≡ true
    → first_some f none at (suc n)
    ≡ unwrap_or (f at) none
unfolding first_some
told_here f none at n h = by (f at) h
  where
    by : (o : Option QueryResult) → is_some o ≡ true → unwrap_or o (first_some f none (at + 1) n) ≡ unwrap_or o none
    by None h = absurd cc
    by (Some x) h = refl

-- nothing is returned of it
told_later : (f : ℕ → Option QueryResult) (none : QueryResult) (at n : ℕ) → is_some (f at) ≡ false
    → first_some f none at (suc n)
    ≡ first_some f none (at + 1) n
unfolding first_some
told_later f none at n h = by (f at) h
  where
    by : (o : Option QueryResult) → is_some o ≡ false → unwrap_or o (first_some f none (at + 1) n)
        ≡ first_some f none (at + 1) n
    by None h = refl
    by (Some x) h = absurd cc

-- nothing is returned from there on
none_past : (f : ℕ → Option QueryResult) (none : QueryResult) (at n : ℕ) → ((k : ℕ) → at ≤ k → f k ≡ None)
    → first_some f none at n
    ≡ none
unfolding first_some
none_past f none at zero h = refl
none_past f none at (suc n) h = ap (λ (o : Option QueryResult). unwrap_or o (first_some f none (at + 1) n))
    (h at (omega arith)) ∙ none_past f none (at + 1) n (λ k g. h k (omega (arith, g)))

-- ---- along a list

drop_there : {X : Type 0} (xs : List X) (i : ℕ) (x : X) → slice_get xs i ≡ Some x → drop i xs ≡ x ∷ drop (i + 1) xs
drop_there [] i x h = absurd cc
drop_there (y ∷ ys) zero x h = let e : y ≡ x = cc in ap (λ z. z ∷ ys) e
drop_there (y ∷ ys) (suc i) x h = let e : suc (i + 1) ≡ suc i + 1 = omega arith in
    drop_there ys i x h ∙ ap (λ k. x ∷ drop k (y ∷ ys)) e

-- what is returned of a list of rows, the first of which is at a place
abbrev seen : {X : Type 0} → (X → Bool) → (ℕ → X → QueryResult) → QueryResult → ℕ → List X → QueryResult
seen test told none at xs = option_map_or (told (at + position_or_len test xs)) (find test xs) none

-- what is returned place by place is what is returned of the list
told_along : {X : Type 0} (test : X → Bool) (told : ℕ → X → QueryResult) (none : QueryResult) (xs : List X) (n at : ℕ)
    → first_some (λ k. told_at test told k (slice_get xs k)) none at n ≡ seen test told none at (take n (drop at xs))
unfolding first_some
told_along test told none xs zero at = refl
told_along {X = X} test told none xs (suc n) at = one (slice_get xs at) refl (told_along test told none xs n (at + 1))
  where
    rest : List X
    rest = take n (drop (at + 1) xs)

    later : QueryResult
    later = first_some (λ k. told_at test told k (slice_get xs k)) none (at + 1) n

    two : (b : Bool) (x : X) → later ≡ seen test told none (at + 1) rest
        → unwrap_or (when b (told at x)) later
        ≡ option_map_or (told (at + cond (not b) (1 + position_or_len test rest) 0))
        (cond b (Some x) (find test rest)) none
    two true x h = let e : at ≡ at + 0 = omega arith in ap (λ m. told m x) e
    two false x h = let e : (at + 1) + position_or_len test rest ≡ at + (1 + position_or_len test rest) = omega arith in
        h ∙ ap (λ m. option_map_or (told m) (find test rest) none) e

    one : (o : Option X) → slice_get xs at ≡ o → later ≡ seen test told none (at + 1) rest
        → unwrap_or (told_at test told at (slice_get xs at)) later ≡ seen test told none at (take (suc n) (drop at xs))
    one None g h =
        none_past (λ k. told_at test told k (slice_get xs k)) none at (suc n)
        (λ k l. ap (told_at test told k) (slice_get_past xs k (let m = gone xs at g in omega (arith, l, m))))
        ∙ sym (ap (λ ys. seen test told none at (take (suc n) ys)) (drop_all at xs (gone xs at g)))
    one (Some x) g h = ap (λ o. unwrap_or (told_at test told at o) later) g ∙ two (test x) x h
        ∙ sym (ap (λ ys. seen test told none at (take (suc n) ys)) (drop_there xs at x g))

-- ---- along a walk

past_rows : (m : Limits) (v : Version) (t : List ℕ → Bool) (J : History) → is_legal v t J ≡ true → (w : Walk) (k : ℕ)
    → count_rows J w ≤ k → look m J w k ≡ None
past_rows m v t J l (walk.Awaited a status) k h = ap (told_at (held status J) known.Awaits k)
    (slice_get_past (found_rows J a) k h)
past_rows m v t J l (walk.Listed x) k h =
    ap (told_at (belongs x) known.Row k)
    (row_is m v t J l x k ∙ slice_get_past (rows_along m J x) k (let e = count_is m J x in omega (arith, h, e)))

-- all rows were looked at
pub none_left : (l : Limits) (s : StateSnapshot) (J : History) → StandsFor s J
    → (w : Walk) (none : QueryResult) (place n : ℕ)
    → min (place + most_rows) (count_rows J w) ≤ place + n → first_some (look l J w) none (place + n) (most_rows - n)
    ≡ none
unfolding first_some
none_left l s J k w none place n e = by (most_rows - n) refl
  where
    by : (m : ℕ) → most_rows - n ≡ m → first_some (look l J w) none (place + n) m ≡ none
    by zero g = refl
    by (suc m) g = none_past (look l J w) none (place + n) (suc m) (λ i h. past_rows l k.version k.is_address J k.legal
        w i (omega (arith, e, g, h)))

-- something is returned of the next row, or nothing
pub told_next : (l : Limits) (J : History) (w : Walk) (none : QueryResult) (place n : ℕ) (told : Option QueryResult)
    → n < most_rows
    → told ≡ look l J w (place + n) → is_some told ≡ true
    → first_some (look l J w) none (place + n) (most_rows - n) ≡ unwrap_or told none
told_next l J w none place n told lt g h =
    let e : most_rows - n ≡ suc (most_rows - (n + 1)) = omega (arith, lt) in
    ap (first_some (look l J w) none (place + n)) e ∙ told_here (look l J w) none (place + n) (most_rows - (n + 1))
    (ap is_some (sym g) ∙ h) ∙ ap (λ o. unwrap_or o none) (sym g)

pub passed_over : (l : Limits) (J : History) (w : Walk) (none : QueryResult) (place n : ℕ) (told : Option QueryResult)
    → n
    < most_rows → told ≡ look l J w (place + n) → is_some told ≡ false
    → first_some (look l J w) none (place + n) (most_rows - n) ≡ first_some (look l J w) none (place + (n + 1))
    (most_rows - (n + 1))
passed_over l J w none place n told lt g h =
    let e : most_rows - n ≡ suc (most_rows - (n + 1)) = omega (arith, lt) in
    let f : (place + n) + 1 ≡ place + (n + 1) = omega arith in
    ap (first_some (look l J w) none (place + n)) e ∙ told_later (look l J w) none (place + n) (most_rows - (n + 1))
    (ap is_some (sym g) ∙ h) ∙ ap (λ m. first_some (look l J w) none m (most_rows - (n + 1))) f

-- ---- what is returned of the history

awaited_found : (m : Limits) (v : Version) (t : List ℕ → Bool) (J : History) → is_legal v t J ≡ true
    → (a place : ℕ) (status : ActionStatus)
    → first_some (look m J (walk.Awaited a status)) (none_told known.AwaitsNothing (length (found_rows J a)) place)
    place most_rows
    ≡ first_some (λ k. told_at (holds_end status J) known.Awaits k (slice_get (rows_of J a) k))
    (none_told known.AwaitsNothing (length (rows_of J a)) place) place most_rows
awaited_found m v t J l a place status = λ i.
    first_some (λ k. told_at (λ (row : Blocker). held_is v t J l status row i) known.Awaits k
    (slice_get (rows_are v t J l a i) k)) (none_told known.AwaitsNothing (length (rows_are v t J l a i)) place)
    place most_rows

row_found : (m : Limits) (v : Version) (t : List ℕ → Bool) (J : History) → is_legal v t J ≡ true
    → (x : Listing) (place : ℕ)
    → first_some (look m J (walk.Listed x)) (none_told known.NoMore (count_listed J x) place) place most_rows
    ≡ first_some (λ k. told_at (belongs x) known.Row k (slice_get (rows_along m J x) k))
    (none_told known.NoMore (length (rows_along m J x)) place) place most_rows
row_found m v t J l x place = λ i. first_some (λ k. told_at (belongs x) known.Row k (row_is m v t J l x k i))
    (none_told known.NoMore (count_is m J x i) place) place most_rows

pub walk_told : (l : Limits) (s : StateSnapshot) (J : History) → StandsFor s J
    → (w : Walk) (place : ℕ) (k : QueryResult) → k
    ≡ first_some (look l J w) (none_told (last_of w) (count_rows J w) place) place most_rows → IsTold l J w place k
unfolding awaited_from row_from
walk_told l s J h (walk.Awaited a status) place k e = λ g.
    e ∙ awaited_found l h.version h.is_address J h.legal a place status
    ∙ told_along (holds_end status J) known.Awaits (none_told known.AwaitsNothing (length (rows_of J a)) place)
    (rows_of J a) most_rows place
    ∙ ap (λ (x : ActionStatus). first_from (holds_end x J) known.Awaits known.AwaitsNothing (rows_of J a) place) g
walk_told l s J h (walk.Listed x) place k e =
    e ∙ row_found l h.version h.is_address J h.legal x place ∙ told_along (belongs x) known.Row
    (none_told known.NoMore (length (rows_along l J x)) place) (rows_along l J x) most_rows place

-- ---- how many there are

-- how many of a list's next so many pass
abbrev pub left_to_count : {X : Type 0} → (X → Bool) → List X → ℕ → ℕ → ℕ
left_to_count test xs at n = length (filter test (take n (drop at xs)))

counted_here : {X : Type 0} (test : X → Bool) (told : ℕ → X → QueryResult) (xs : List X) (at n : ℕ)
    → cond (is_some (told_at test told at (slice_get xs at))) 1 0 + left_to_count test xs (at + 1) n
    ≡ left_to_count test xs at (suc n)
counted_here {X = X} test told xs at n = one (slice_get xs at) refl
  where
    rest : List X
    rest = take n (drop (at + 1) xs)

    two : (b : Bool) (x : X) → cond (is_some (when b (told at x))) 1 0 + length (filter test rest)
        ≡ length (cond b (x ∷ filter test rest) (filter test rest))
    two true x = omega arith
    two false x = omega arith

    one : (o : Option X) → slice_get xs at ≡ o → cond (is_some (told_at test told at (slice_get xs at))) 1 0
        + left_to_count test xs (at + 1) n ≡ left_to_count test xs at (suc n)
    one None g =
        let here : length xs ≤ at = gone xs at g in
        ap (λ (o : Option X). cond (is_some (told_at test told at o)) 1 0 + left_to_count test xs (at + 1) n) g
        ∙ ap (λ ys. 0 + length (filter test (take n ys))) (drop_all (at + 1) xs (omega (arith, here)))
        ∙ none n
        ∙ sym (ap (λ ys. length (filter test (take (suc n) ys))) (drop_all at xs here))
      where
        none : (m : ℕ) → 0 + length (filter test (take m [])) ≡ 0
        none zero = refl
        none (suc m) = refl
    one (Some x) g =
        ap (λ (o : Option X). cond (is_some (told_at test told at o)) 1 0 + left_to_count test xs (at + 1) n) g
        ∙ two (test x) x
        ∙ sym (ap (λ ys. length (filter test (take (suc n) ys))) (drop_there xs at x g))

-- how many of a listing's rows are still to be counted, of those looked at from a place on, where so many were
abbrev pub left_of : Limits → History → Listing → ℕ → ℕ → ℕ
left_of l J x place n = left_to_count (belongs x) (rows_along l J x) (place + n) (most_rows - n)

-- the next row is counted, or isn't one that belongs to the listing
pub counted_next : (l : Limits) (s : StateSnapshot) (J : History) → StandsFor s J
    → (x : Listing) (place n : ℕ) (told : Option QueryResult) → n < most_rows → told ≡ look_listed l J x (place + n)
    → cond (is_some told) 1 0 + left_of l J x place (n + 1) ≡ left_of l J x place n
counted_next l s J h x place n told lt e =
    let more : most_rows - n ≡ suc (most_rows - (n + 1)) = omega (arith, lt) in
    let on : place + (n + 1) ≡ (place + n) + 1 = omega arith in
    ap (λ (o : Option QueryResult). cond (is_some o) 1 0 + left_of l J x place (n + 1))
    (e ∙ ap (told_at (belongs x) known.Row (place + n)) (row_is l h.version h.is_address J h.legal x (place + n)))
    ∙ ap (λ at. cond (is_some (told_at (belongs x) known.Row (place + n) (slice_get (rows_along l J x) (place + n)))) 1
    0 + left_to_count (belongs x) (rows_along l J x) at (most_rows - (n + 1))) on
    ∙ counted_here (belongs x) known.Row (rows_along l J x) (place + n) (most_rows - (n + 1))
    ∙ ap (left_to_count (belongs x) (rows_along l J x) (place + n)) (sym more)

-- all that are looked at were counted
pub counted_all : (l : Limits) (J : History) (x : Listing) (place n : ℕ) → min (place + most_rows) (count_listed J x)
    ≤ place + n → left_of l J x place n ≡ 0
counted_all l J x place n e = by (most_rows - n) refl
  where
    by : (m : ℕ) → most_rows - n ≡ m → left_to_count (belongs x) (rows_along l J x) (place + n) m ≡ 0
    by zero g = refl
    by (suc m) g =
        let is = count_is l J x in
        ap (λ rs. length (filter (belongs x) (take (suc m) rs))) (drop_all (place + n) (rows_along l J x)
        (omega (arith, e, g, is)))
