-- The list of the asks that were made: each stands at the place of its number.
use Rattle.std.proofs.Common.{◌≡◌, ℕ, zero, suc, ◌+◌, ◌<◌, Bool, true, List, [], ◌∷◌, ◌++◌, length, map, Option, Some}
use Rattle.std.proofs.Common.{None, refl, sym, ap, ◌∙◌, cond, arith, ne_eqb, eq-eqb, append-nil}
use Rattle.std.proofs.lemmas.List.{length-map, map-append}
use Rattle.std.specs.Prelude.{◌==◌, option_to_list, slice_get}
use Rattle.std.specs.Option.{option_map_or}
use Rattle.std.specs.List.{filter_map, find, range_with_len}
use Rattle.lra_model.specs.declared.asks.AskKind.{AskKind}
use Rattle.lra_model.specs.declared.entry.Deed.{Deed}
use Rattle.lra_model.specs.declared.entry.Deed.TheVariants.{Ask}
use Rattle.lra_model.specs.declared.entry.Entry.{Entry}
use Rattle.lra_model.specs.declared.version.Version.{Version}
use Rattle.lra_model.specs.History.{History, steps, asks, asked_by, members}
use Rattle.lra_model.specs.Members.{Asked, asked_at, ask_of}
use Rattle.lra_model.specs.Rules.{is_legal}
use Rattle.lra_laws.specs.Rows.{MemberRow, member_row, state_of, row_at, way_asked}
use Rattle.lra_laws.specs.Snapshots.{asks_made, asks_after}
use Rattle.lra_laws.proofs.Push.{step, steps_push, read_push, asks_push}
use Rattle.lra_laws.proofs.Legal.{snoc_induction, asks_numbered, members_numbered}
use Rattle.lra_laws.proofs.RowLists.{row_there}
use Rattle.lra_laws.proofs.Told.{entry, more, AskTold, Told}
use Rattle.lra_laws.proofs.MemberDeeds.{ask_way}

pub asks_made_push : (J : History) (e : Entry) → asks_made (J ++ e ∷ []) ≡ asks_made J
    ++ option_to_list (asked_at (step J e))
unfolding asks_made
asks_made_push J e = ap (filter_map asked_at) (steps_push J e) ∙ read_push asked_at (steps J) (step J e)

-- the numbers of a list of asks
abbrev numbers : List Asked → List ℕ
numbers xs = map (λ (x : Asked). x.number) xs

-- the list has their numbers
numbers_are : (J : History) → numbers (asks_made J) ≡ asks J
unfolding asks_made steps asks
numbers_are = snoc_induction (λ J. numbers (asks_made J) ≡ asks J) refl push
  where
    one : (J : History) (by m : ℕ) (d : Deed) → numbers (option_to_list (asked_at (step J (entry by m d))))
        ≡ option_to_list (asked_by d)
    one J by m (Ask n p kind) = refl
    one J by m _ = refl

    push : (J : History) (e : Entry) → numbers (asks_made J) ≡ asks J → numbers (asks_made (J ++ e ∷ []))
        ≡ asks (J ++ e ∷ [])
    push J e h =
        ap numbers (asks_made_push J e)
        ∙ map-append (λ (x : Asked). x.number) (asks_made J) (option_to_list (asked_at (step J e)))
        ∙ (λ i. h i ++ one J e.by e.moment e.deed i)
        ∙ sym (asks_push J e)

-- the first is numbered a, and the rest on from there
first_number : (x : Asked) (xs : List Asked) (a : ℕ) → numbers (x ∷ xs) ≡ range_with_len a (suc (length xs)) → x.number
    ≡ a
first_number x xs a h = cc

numbers_after : (x : Asked) (xs : List Asked) (a : ℕ) → numbers (x ∷ xs) ≡ range_with_len a (suc (length xs))
    → numbers xs ≡ range_with_len (a + 1) (length xs)
numbers_after x xs a h = cc

-- one is found at the place of its number, where they are numbered on from a
find_place : (xs : List Asked) (a i n : ℕ) → numbers xs ≡ range_with_len a (length xs) → n ≡ a + i
    → find (λ (x : Asked). x.number == n) xs ≡ slice_get xs i
find_place [] a i n h e = refl
find_place (x ∷ xs) a i n h e = at i e (first_number x xs a h) (λ j g. find_place xs (a + 1) j n
    (numbers_after x xs a h) g)
  where
    found : Bool → Option Asked
    found b = cond b (Some x) (find (λ (y : Asked). y.number == n) xs)

    at : (i : ℕ) → n ≡ a + i → x.number ≡ a → ((j : ℕ) → n ≡ (a + 1) + j → find (λ (y : Asked). y.number == n) xs
        ≡ slice_get xs j) → found (x.number == n) ≡ slice_get (x ∷ xs) i
    at zero g f rest = ap found (eq-eqb x.number n (omega arith))
    at (suc j) g f rest = ap found (ne_eqb x.number n (λ z. omega arith)) ∙ rest j (omega arith)

-- and none before that
find_below : (xs : List Asked) (a n : ℕ) → numbers xs ≡ range_with_len a (length xs) → n < a
    → find (λ (x : Asked). x.number == n) xs ≡ None
find_below [] a n h e = refl
find_below (x ∷ xs) a n h e = ap found (ne_eqb x.number n (λ z. let f = first_number x xs a h in omega arith))
    ∙ find_below xs (a + 1) n (numbers_after x xs a h) (omega arith)
  where
    found : Bool → Option Asked
    found b = cond b (Some x) (find (λ (y : Asked). y.number == n) xs)

pub ask_at : (v : Version) (t : List ℕ → Bool) (J : History) → is_legal v t J ≡ true → (n : ℕ) → row_at (asks_made J) n
    ≡ ask_of J n
unfolding asks_made ask_of
ask_at v t J l n = at n
  where
    list : List Asked
    list = filter_map asked_at (steps J)

    numbered : numbers list ≡ range_with_len 1 (length list)
    numbered = numbers_are J ∙ asks_numbered v t J l ∙ ap (range_with_len 1)
        (sym (ap length (numbers_are J)) ∙ length-map list (λ (x : Asked). x.number))

    at : (n : ℕ) → row_at list n ≡ find (λ (x : Asked). x.number == n) list
    at zero = sym (find_below list 1 0 numbered (omega arith))
    at (suc i) = sym (find_place list 1 i (suc i) numbered (omega arith))

-- there are as many as were made
pub asks_count : (J : History) → length (asks_made J) ≡ length (asks J)
asks_count J = sym (length-map (asks_made J) (λ (x : Asked). x.number)) ∙ ap length (numbers_are J)

-- an ask, by the row of its member
ask_made : (v : Version) (t : List ℕ → Bool) (J : History) (by m n p : ℕ) (kind : AskKind) → is_legal v t J ≡ true
    → AskTold J n p kind → asks_made (more J by m (Ask n p kind)) ≡ asks_after (state_of J) (Ask n p kind) (asks_made J)
ask_made v t J by m n p kind l told =
    asks_made_push J (entry by m (Ask n p kind))
    ∙ (λ i. asks_made J ++ record { number = n; member = p; kind = kind; direction = ask_way J p kind told.fits i }
    ∷ [])
    ∙ sym (ap (λ (o : Option MemberRow). asks_made J ++ option_map_or (λ (r : MemberRow).
    record { number = n; member = p; kind = kind; direction = way_asked kind r.status } ∷ []) o [])
    (row_there (member_row J) (members J) p (members_numbered v t J l) told.there))

pub asks_push_by : (v : Version) (t : List ℕ → Bool) (J : History) (by m : ℕ) (d : Deed) → is_legal v t J ≡ true
    → Told J by d → asks_made (more J by m d) ≡ asks_after (state_of J) d (asks_made J)
asks_push_by v t J by m (Ask n p kind) l x = ask_made v t J by m n p kind l x
asks_push_by v t J by m d l x = asks_made_push J (entry by m d) ∙ append-nil (asks_made J)
