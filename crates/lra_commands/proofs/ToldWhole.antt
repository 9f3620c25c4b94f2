-- A listing that is asked for again and again, from place to place.
use Rattle.std.proofs.Common.{◌≡◌, ℕ, zero, suc, ◌+◌, ◌≤◌, ◌<◌, Bool, true, false, List, [], ◌∷◌, length, take, drop}
use Rattle.std.proofs.Common.{Option, Some, None, refl, sym, ap, ◌∙◌, cond, arith, drop-drop}
use Rattle.std.proofs.lemmas.Bool.{ltb-false}
use Rattle.std.proofs.lemmas.List.{drop_all}
use Rattle.std.specs.Prelude.{filter, nat_lt, not}
use Rattle.std.specs.Option.{option_map_or}
use Rattle.std.specs.List.{find, position_or_len}
use Rattle.lra_model.specs.Words.{when}
use Rattle.lra_model.specs.History.{History}
use Rattle.lra_commands.specs.declared.limits.Limits.{Limits}
use Rattle.lra_commands.specs.declared.query.Listing.{Listing}
use Rattle.lra_commands.specs.declared.query.Row.{Row}
use Rattle.lra_commands.specs.declared.query.QueryResult.TheVariants as known
use Rattle.lra_commands.specs.Queries.{most_rows, looked_at, none_told, belongs, rows_along, row_from, rows_after}
use Rattle.lra_commands.specs.Queries.{told_on, next_of, count_from, counted_after, counted_on, ListingsAreToldWhole}
use Rattle.lra_commands.specs.Queries.{ListingsAreCountedWhole}

-- ---- of the first so many of a list

-- none of them passes
none_passes : {X : Type 0} (test : X → Bool) (m : ℕ) (xs : List X) → find test (take m xs) ≡ None → filter test xs
    ≡ filter test (drop m xs)
none_passes test zero xs h = refl
none_passes test (suc m) [] h = refl
none_passes test (suc m) (x ∷ xs) h = by (test x) h (none_passes test m xs)
  where
    by : (b : Bool) → cond b (Some x) (find test (take m xs)) ≡ None →
        (find test (take m xs) ≡ None → filter test xs ≡ filter test (drop m xs))
        → cond b (x ∷ filter test xs) (filter test xs) ≡ filter test (drop m xs)
    by true g rest = absurd cc
    by false g rest = rest g

-- one does
one_passes : {X : Type 0} (test : X → Bool) (m : ℕ) (xs : List X) (y : X) → find test (take m xs) ≡ Some y
    → filter test xs ≡ y ∷ filter test (drop (position_or_len test (take m xs) + 1) xs)
one_passes test zero xs y h = absurd cc
one_passes test (suc m) [] y h = absurd cc
one_passes {X = X} test (suc m) (x ∷ xs) y h = by (test x) h (one_passes test m xs y)
  where
    place : ℕ
    place = position_or_len test (take m xs)

    by : (b : Bool) → cond b (Some x) (find test (take m xs)) ≡ Some y
        → (find test (take m xs) ≡ Some y → filter test xs ≡ y ∷ filter test (drop (place + 1) xs))
        → cond b (x ∷ filter test xs) (filter test xs) ≡ y ∷ filter test
        (drop (cond (not b) (1 + place) 0 + 1) (x ∷ xs))
    by true g rest = let e : x ≡ y = cc in ap (λ z. z ∷ filter test xs) e
    by false g rest = let e : suc (place + 1) ≡ (1 + place) + 1 = omega arith in
        rest g ∙ ap (λ k. y ∷ filter test (drop k (x ∷ xs))) e

-- ---- from place to place

told_from : (l : Limits) (J : History) (x : Listing) (n place : ℕ) → length (rows_along l J x) < place + n
    → told_on n l J x place ≡ filter (belongs x) (drop place (rows_along l J x))
unfolding row_from
told_from l J x zero place h = sym (ap (filter (belongs x)) (drop_all place (rows_along l J x) (omega (arith, h))))
told_from l J x (suc n) place h = one (find (belongs x) (looked_at rows place)) refl
    (λ p g. told_from l J x n p (omega (arith, h, g)))
  where
    rows : List Row
    rows = rows_along l J x

    test : Row → Bool
    test = belongs x

    at : ℕ
    at = position_or_len test (looked_at rows place)

    on : ℕ → List Row
    on = told_on n l J x

    past : (b : Bool) → nat_lt (place + most_rows) (length rows) ≡ b →
        ((p : ℕ) → place + 1 ≤ p → on p ≡ filter test (drop p rows))
        → rows_after on (cond b (known.Further (place + most_rows)) known.NoMore)
        ≡ filter test (drop (place + most_rows) rows)
    past true g rest = rest (place + most_rows) (omega arith)
    past false g rest = sym
        (ap (filter test) (drop_all (place + most_rows) rows (ltb-false (place + most_rows) (length rows) g)))

    one : (o : Option Row) → find test (looked_at rows place) ≡ o → ((p : ℕ) → place + 1 ≤ p → on p
        ≡ filter test (drop p rows))
        → rows_after on (option_map_or (known.Row (place + at)) (find test (looked_at rows place))
        (none_told known.NoMore rows place)) ≡ filter test (drop place rows)
    one None g rest =
        ap (λ (o : Option Row). rows_after on (option_map_or (known.Row (place + at)) o
        (none_told known.NoMore rows place))) g
        ∙ past (nat_lt (place + most_rows) (length rows)) refl rest
        ∙ ap (filter test) (sym (drop-drop most_rows place rows)) ∙ sym (none_passes test most_rows (drop place rows) g)
    one (Some r) g rest =
        let e : place + at + 1 ≡ place + (at + 1) = omega arith in
        ap (λ (o : Option Row). rows_after on (option_map_or (known.Row (place + at)) o
        (none_told known.NoMore rows place))) g
        ∙ ap (λ (rs : List Row). r ∷ rs) (rest (place + at + 1) (omega arith) ∙ ap (λ k. filter test (drop k rows)) e
        ∙ ap (filter test) (sym (drop-drop (at + 1) place rows)))
        ∙ sym (one_passes test most_rows (drop place rows) r g)

pub listings_are_told_whole : ListingsAreToldWhole
listings_are_told_whole l J x n h = told_from l J x n 0 (let e : 0 + n ≡ n = omega arith in omega (arith, h, e))

-- ---- counted from place to place

-- of a list, those among the first so many that pass and those after them
counted_in_two : {X : Type 0} (test : X → Bool) (m : ℕ) (xs : List X) → length (filter test (take m xs))
    + length (filter test (drop m xs)) ≡ length (filter test xs)
counted_in_two test zero xs = omega arith
counted_in_two test (suc m) [] = refl
counted_in_two test (suc m) (x ∷ xs) = by (test x) (counted_in_two test m xs)
  where
    by : (b : Bool) → length (filter test (take m xs)) + length (filter test (drop m xs)) ≡ length (filter test xs)
        → length (cond b (x ∷ filter test (take m xs)) (filter test (take m xs))) + length (filter test (drop m xs))
        ≡ length (cond b (x ∷ filter test xs) (filter test xs))
    by true e = omega (arith, e)
    by false e = e

counted_from : (l : Limits) (J : History) (x : Listing) (n place : ℕ) → length (rows_along l J x) < place + n
    → counted_on n l J x place ≡ length (filter (belongs x) (drop place (rows_along l J x)))
unfolding count_from
counted_from l J x zero place h = sym (ap (λ rs. length (filter (belongs x) rs))
    (drop_all place (rows_along l J x) (omega (arith, h))))
counted_from l J x (suc n) place h = by (nat_lt (place + most_rows) (length rows)) refl
    (counted_from l J x n (place + most_rows) (omega (arith, h)))
  where
    rows : List Row
    rows = rows_along l J x

    count : ℕ
    count = length (filter (belongs x) (looked_at rows place))

    whole : count + length (filter (belongs x) (drop (place + most_rows) rows))
        ≡ length (filter (belongs x) (drop place rows))
    whole = ap (λ rs. count + length (filter (belongs x) rs)) (sym (drop-drop most_rows place rows))
        ∙ counted_in_two (belongs x) most_rows (drop place rows)

    by : (b : Bool) → nat_lt (place + most_rows) (length rows) ≡ b → counted_on n l J x (place + most_rows)
        ≡ length (filter (belongs x) (drop (place + most_rows) rows))
        → counted_after (counted_on n l J x) (known.Counted count (when b (place + most_rows)))
        ≡ length (filter (belongs x) (drop place rows))
    by true g rest = ap (λ k. count + k) rest ∙ whole
    by false g rest =
        let none : length (filter (belongs x) (drop (place + most_rows) rows))
        ≡ 0 = ap (λ rs. length (filter (belongs x) rs)) (drop_all (place + most_rows) rows
        (ltb-false (place + most_rows) (length rows) g)) in
        omega (arith, none, whole)

pub listings_are_counted_whole : ListingsAreCountedWhole
listings_are_counted_whole l J x n h = counted_from l J x n 0 (let e : 0 + n ≡ n = omega arith in omega (arith, h, e))
