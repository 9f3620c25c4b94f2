-- The place of the row that an ask stands in, by the index.
use Rattle.std.proofs.Common.{◌≡◌, ℕ, zero, suc, ◌+◌, ◌<◌, ◌≤◌, Bool, true, false, ◌&&◌, not, cond, List, [], ◌∷◌, ◌++◌}
use Rattle.std.proofs.Common.{Option, Some, None, refl, sym, ◌∙◌, ap, subst, ◌⊎◌, inl, inr, slice_get, slice_set, eqb}
use Rattle.std.proofs.Common.{arith}
use Rattle.std.specs.Option.{option_map_or}
use Rattle.std.specs.List.{find}
use Rattle.std.proofs.lemmas.Option.{same_Some, none-some}
use Rattle.std.proofs.lemmas.Bool.{lt-ltb, cases_eq, eqb-true, eq-eqb, ne_eqb}
use Rattle.lra_laws.specs.Rows.{ActionRow, MemberRow, recount, counts_as, is_left_to_complete, is_left_to_compensate}
use Rattle.lra_laws.specs.Rows.{is_uncompleted, is_uncompensated}
use Rattle.lra_model.specs.Words.{has_gone}
use Rattle.lra_model.specs.declared.status.MemberStatus.{MemberStatus}
use Rattle.lra_laws.specs.Rows.{Standing}
use Rattle.lra_laws.specs.Rows.{State, change_row, stands_as, place_of, change_member, with_member, with_reply}
use Rattle.lra_laws.specs.Rows.{with_reply_to}
use Rattle.lra_laws.specs.inner.RowFacts.{member_asked}
use Rattle.lra_laws.specs.Rows.{row_at}
use Rattle.lra_model.specs.declared.asks.Outcome.{Outcome}
use Rattle.lra_states.specs.inner.Changes.{with_row}
use Rattle.lra_states.proofs.Replacing.{row_at-with_row_same, row_at-with_row_other}
use Rattle.lra_course_rows.specs.inner.Holders.{Holds, IsIndex}

abbrev after : ℕ → ℕ
after zero = zero
after (suc k) = suc (suc k)

-- the first row that an ask stands in is at its place
pub row_at-place_of : (n : ℕ) (rows : List MemberRow) → row_at rows (place_of n rows) ≡ find (stands_as n) rows
row_at-place_of n [] = refl
row_at-place_of n (r ∷ rows) =
    elim (stands_as n r) as (λ b. row_at (r ∷ rows) (cond b 1 (after (place_of n rows)))
    ≡ cond b (Some r) (find (stands_as n) rows)) [
      | true ↦ refl
      | false ↦ later (place_of n rows) (row_at-place_of n rows)
    ]
  where
    later : (k : ℕ) → row_at rows k ≡ find (stands_as n) rows → row_at (r ∷ rows) (after k) ≡ find (stands_as n) rows
    later zero e = e
    later (suc k) e = e

later_holds : (n : ℕ) (r : MemberRow) (rows : List MemberRow) (k : ℕ) → Holds rows n k → Holds (r ∷ rows) n (after k)
later_holds n r rows zero h = h
later_holds n r rows (suc k) h = h

in_rest : (n : ℕ) (r : MemberRow) (rows : List MemberRow) (p : ℕ) {X : Type 0} → ((q : ℕ) → Holds rows n (suc q) → X)
    → Holds (r ∷ rows) n (suc p) → stands_as n r ≡ false → X
in_rest n r rows zero below g e = cc
in_rest n r rows (suc q) below g e = below q g

-- where an ask stands in some row, it stands at its place
pub Holds-place_of : (n : ℕ) (rows : List MemberRow) (p : ℕ) → Holds rows n p → Holds rows n (place_of n rows)
Holds-place_of n rows zero h = cc
Holds-place_of n [] (suc p) h = cc
Holds-place_of n (r ∷ rows) (suc p) h =
    elim (stands_as n r) as (λ b. stands_as n r ≡ b → Holds (r ∷ rows) n (cond b 1 (after (place_of n rows)))) [
      | true ↦ λ e. e
      | false ↦ λ e. later_holds n r rows (place_of n rows) (in_rest n r rows p (λ q. Holds-place_of n rows (suc q)) h
          e)
    ] refl

-- an ask stands in no row, or at its place
pub found_or_not : (n : ℕ) (rows : List MemberRow) → (find (stands_as n) rows ≡ None) ⊎ Holds rows n (place_of n rows)
found_or_not n [] = inl refl
found_or_not n (r ∷ rows) =
    elim (stands_as n r) as (λ b. stands_as n r ≡ b → (cond b (Some r) (find (stands_as n) rows) ≡ None)
    ⊎ Holds (r ∷ rows) n (cond b 1 (after (place_of n rows)))) [
      | true ↦ λ e. inr e
      | false ↦ λ e. elim (found_or_not n rows) [
        | inl none ↦ inl none
        | inr h ↦ inr
            (later_holds n r rows (place_of n rows) h)
      ]
    ] refl

-- what the index has of an ask is its place
pub place_of-held : {asks : ℕ} {rows : List MemberRow} {f : ℕ → Option ℕ} → IsIndex asks rows f → (n p : ℕ) → f n
    ≡ Some p → place_of n rows ≡ p
place_of-held {rows = rows} ok n p e =
    same_Some (place_of n rows) p (sym (ok.all n (place_of n rows) (Holds-place_of n rows p (ok.found n p e))) ∙ e)

-- what the index finds is the first row that the ask stands in
pub find-held : {asks : ℕ} {rows : List MemberRow} {f : ℕ → Option ℕ} → IsIndex asks rows f → (n p : ℕ) → f n ≡ Some p
    → find (stands_as n) rows ≡ row_at rows p
find-held {rows = rows} ok n p e = sym (row_at-place_of n rows) ∙ ap (row_at rows) (place_of-held ok n p e)

-- an ask that isn't in the index stands in no row
pub find-free : {asks : ℕ} {rows : List MemberRow} {f : ℕ → Option ℕ} → IsIndex asks rows f → (n : ℕ) → f n ≡ None
    → find (stands_as n) rows ≡ None
find-free {rows = rows} ok n e =
    elim (found_or_not n rows) [
      | inl none ↦ none
      | inr held ↦ absurd (none-some (place_of n rows) (sym e ∙ ok.all n (place_of n rows) held))
    ]

pub place_of-free : {asks : ℕ} {rows : List MemberRow} {f : ℕ → Option ℕ} → IsIndex asks rows f → (n : ℕ) → f n ≡ None
    → row_at rows (place_of n rows) ≡ None
place_of-free {rows = rows} ok n e = row_at-place_of n rows ∙ find-free ok n e

-- the member that an outstanding ask was made of, by the index
pub member_asked-held : (s : State) {f : ℕ → Option ℕ} → IsIndex s.asks s.members f → (n p : ℕ) → s.void < n → f n
    ≡ Some p → row_at s.members p ≡ member_asked s n
member_asked-held s ok n p later e = rw (lt-ltb s.void n later) (sym (find-held ok n p e))

pub member_asked-free : (s : State) {f : ℕ → Option ℕ} → IsIndex s.asks s.members f → (n : ℕ) → s.void < n → f n ≡ None
    → None ≡ member_asked s n
member_asked-free s ok n later e = rw (lt-ltb s.void n later) (sym (find-free ok n e))

-- ---- rows that are replaced

-- a change of a row that is there puts another in its place
pub change_row-there : {R : Type 0} (f : R → R) (n : ℕ) (rows : List R) (r : R) → row_at rows n ≡ Some r
    → change_row f n rows ≡ with_row n (f r) rows
change_row-there f zero rows r e = refl
change_row-there f (suc n) rows r e = rw e refl

-- where there is no row, none changes
pub change_row-absent : {R : Type 0} (f : R → R) (n : ℕ) (rows : List R) → row_at rows n ≡ None → change_row f n rows
    ≡ rows
change_row-absent f zero rows e = refl
change_row-absent f (suc n) rows e = rw e refl

-- where a change leaves each row as it is, it leaves all
pub change_row-same : {R : Type 0} (f : R → R) (n : ℕ) (rows : List R) → ((r : R) → f r ≡ r) → change_row f n rows
    ≡ rows
change_row-same f zero rows h = refl
change_row-same {R} f (suc n) rows h = at n rows (slice_get rows n) refl
  where
    own : (k : ℕ) (xs : List R) (r : R) → slice_get xs k ≡ Some r → slice_set xs k r ≡ xs
    own k [] r e = cc
    own zero (x ∷ xs) r e = ap (λ y. y ∷ xs) (sym (same_Some x r e))
    own (suc k) (x ∷ xs) r e = ap (λ ys. x ∷ ys) (own k xs r e)

    at : (k : ℕ) (xs : List R) (o : Option R) → slice_get xs k ≡ o → option_map_or (λ r. slice_set xs k (f r)) o xs ≡ xs
    at k xs None e = refl
    at k xs (Some r) e = ap (slice_set xs k) (h r) ∙ own k xs r e

recount-same : (b : Bool) (n : ℕ) → recount b b n ≡ n
recount-same true n = omega arith
recount-same false n = omega arith

-- a member that counts as before leaves its action as it is
pub with_member-same : (before now : MemberRow) → before.status ≡ now.status → before.addresses.compensate
    ≡ now.addresses.compensate → (r : ActionRow) → with_member before now r ≡ r
with_member-same before now status address r = λ i. record r {
  completing = part is_left_to_complete r.completing i;
  compensating = part is_left_to_compensate r.compensating i;
  uncompleted = part is_uncompleted r.uncompleted i;
  uncompensated = part is_uncompensated r.uncompensated i;
}
  where
    same : (test : MemberStatus → Bool) → counts_as test before ≡ counts_as test now
    same test = λ i. address i && not (has_gone (status i)) && test (status i)

    part : (test : MemberStatus → Bool) (n : ℕ) → recount (counts_as test before) (counts_as test now) n ≡ n
    part test n = ap (λ b. recount b (counts_as test now) n) (same test) ∙ recount-same (counts_as test now) n

-- a row that is pushed is behind all others
pub row_at-push : {R : Type 0} (rows : List R) (r : R) (m : ℕ) → (row_at (rows ++ r ∷ []) m ≡ row_at rows m)
    ⊎ (row_at (rows ++ r ∷ []) m ≡ Some r)
row_at-push rows r zero = inl refl
row_at-push rows r (suc m) = among rows m
  where
    among : (xs : List _) (k : ℕ) → (slice_get (xs ++ r ∷ []) k ≡ slice_get xs k)
        ⊎ (slice_get (xs ++ r ∷ []) k ≡ Some r)
    among [] zero = inr refl
    among [] (suc k) = inl refl
    among (x ∷ xs) zero = inl refl
    among (x ∷ xs) (suc k) = among xs k

-- those that were there stay
pub row_at-push_there : {R : Type 0} (rows : List R) (r x : R) (m : ℕ) → row_at rows m ≡ Some x
    → row_at (rows ++ r ∷ []) m ≡ Some x
row_at-push_there rows r x zero e = e
row_at-push_there rows r x (suc m) e = among rows m e
  where
    among : (xs : List _) (k : ℕ) → slice_get xs k ≡ Some x → slice_get (xs ++ r ∷ []) k ≡ Some x
    among [] k f = cc
    among (y ∷ xs) zero f = f
    among (y ∷ xs) (suc k) f = among xs k f

-- ---- the index after a change

-- what a change of one member's row asks of the index
pub record Follows (asks' : ℕ) (p : ℕ) (before now : MemberRow) (f g : ℕ → Option ℕ) : Type 0 where
  pub at : (m : ℕ) → g m ≡ cond (stands_as m now) (Some p) (cond (stands_as m before) None (f m))
  pub free : (m q : ℕ) → stands_as m now ≡ true → f m ≡ Some q → q ≡ p
  pub made : (m : ℕ) → stands_as m now ≡ true → m ≤ asks'

bool_cases : (b : Bool) → (b ≡ true) ⊎ (b ≡ false)
bool_cases true = inl refl
bool_cases false = inr refl

pub IsIndex-changed : (asks asks' : ℕ) (rows : List MemberRow) (p : ℕ) (before now : MemberRow) (f g : ℕ → Option ℕ)
    → IsIndex asks rows f → asks ≤ asks' → row_at rows p ≡ Some before → Follows asks' p before now f g
    → IsIndex asks' (with_row p now rows) g
IsIndex-changed asks asks' rows p before now f g ok more there step = record {
  found = λ m q e. elim (bool_cases (stands_as m now)) [
    | inl is_now ↦ let same : p ≡ q = same_Some p q (sym (at_now m is_now) ∙ e) in
        subst (λ (k : ℕ). Holds (with_row p now rows) m k) same
        (rw (row_at-with_row_same p rows before now there) is_now)
    | inr not_now ↦ elim (bool_cases (stands_as m before)) [
      | inl was_before ↦ absurd (none-some q (sym (at_before m not_now was_before) ∙ e))
      | inr not_before ↦ elsewhere m q not_before (ok.found m q (sym (at_rest m not_now not_before) ∙ e))
    ]
  ];
  all = λ m q h. elim (cases_eq q p) [
    | inl same ↦ at_now m (rw (row_at-with_row_same p rows before now there) at
        (subst (λ (k : ℕ). Holds (with_row p now rows) m k) same h)) ∙ ap Some (sym same)
    | inr apart ↦ let held : Holds rows m q = (rw (row_at-with_row_other p rows now q apart) at h) in
        elim (bool_cases (stands_as m now)) [
          | inl is_now ↦ absurd (apart (step.free m q is_now (ok.all m q held)))
          | inr not_now ↦ elim (bool_cases (stands_as m before)) [
            | inl was_before ↦ absurd (apart (same_Some q p (sym (ok.all m q held) ∙ ok.all m p (rw there was_before))))
            | inr not_before ↦ at_rest m not_now not_before ∙ ok.all m q held
          ]
        ]
  ];
  made = λ m q e. elim (bool_cases (stands_as m now)) [
    | inl is_now ↦ step.made m is_now
    | inr not_now ↦ elim (bool_cases (stands_as m before)) [
      | inl was_before ↦ absurd (none-some q (sym (at_before m not_now was_before) ∙ e))
      | inr not_before ↦ let old : m ≤ asks = ok.made m q (sym (at_rest m not_now not_before) ∙ e) in omega arith
    ]
  ];
}
  where
    at_now : (m : ℕ) → stands_as m now ≡ true → g m ≡ Some p
    at_now m is_now = rw is_now at (step.at m)

    at_before : (m : ℕ) → stands_as m now ≡ false → stands_as m before ≡ true → g m ≡ None
    at_before m not_now was_before = rw was_before at (rw not_now at (step.at m))

    at_rest : (m : ℕ) → stands_as m now ≡ false → stands_as m before ≡ false → g m ≡ f m
    at_rest m not_now not_before = rw not_before at (rw not_now at (step.at m))

    elsewhere : (m q : ℕ) → stands_as m before ≡ false → Holds rows m q → Holds (with_row p now rows) m q
    elsewhere m q not_before h = elim (cases_eq q p) [
      | inl same ↦ let held : stands_as m before ≡ true = (rw there at (subst (λ (k : ℕ). Holds rows m k) same h)) in cc
      | inr apart ↦ rw (row_at-with_row_other p rows now q apart) h
    ]

stands_as-one : (r : MemberRow) (n m : ℕ) → stands_as n r ≡ true → stands_as m r ≡ eqb n m
stands_as-one r n m e = by_asked r.asked e
  where
    by_asked : (o : Option Standing) → option_map_or (λ (x : Standing). eqb x.number n) o false ≡ true
        → option_map_or (λ (x : Standing). eqb x.number m) o false ≡ eqb n m
    by_asked None h = cc
    by_asked (Some x) h = ap (λ (k : ℕ). eqb k m) (eqb-true x.number n h)

-- a row with the same ask
pub IsIndex-kept : (asks : ℕ) (rows : List MemberRow) (p : ℕ) (before now : MemberRow) (f : ℕ → Option ℕ)
    → IsIndex asks rows f → row_at rows p ≡ Some before → now.asked ≡ before.asked
    → IsIndex asks (with_row p now rows) f
IsIndex-kept asks rows p before now f ok there same = IsIndex-changed asks asks rows p before now f f ok (omega arith)
    there (record {
      at = λ m. rw (same_test m) (by_test m (stands_as m before) refl);
      free = λ m q is_now e. same_Some q p (sym e ∙ held m (sym (same_test m) ∙ is_now));
      made = λ m is_now. ok.made m p (held m (sym (same_test m) ∙ is_now));
    })
  where
    same_test : (m : ℕ) → stands_as m now ≡ stands_as m before
    same_test m = ap (λ (o : Option Standing). option_map_or (λ (x : Standing). eqb x.number m) o false) same

    held : (m : ℕ) → stands_as m before ≡ true → f m ≡ Some p
    held m e = ok.all m p (rw there e)

    by_test : (m : ℕ) (b : Bool) → stands_as m before ≡ b → f m ≡ cond b (Some p) (cond b None (f m))
    by_test m true e = held m e
    by_test m false e = refl

-- a row whose ask has a reply
pub IsIndex-answered : (asks : ℕ) (rows : List MemberRow) (n p : ℕ) (before now : MemberRow) (f g : ℕ → Option ℕ)
    → IsIndex asks rows f → f n ≡ Some p → row_at rows p ≡ Some before → now.asked ≡ None
    → ((q : ℕ) → g q ≡ cond (eqb n q) None (f q)) → IsIndex asks (with_row p now rows) g
IsIndex-answered asks rows n p before now f g ok at_n there none_now to =
    IsIndex-changed asks asks rows p before now f g ok (omega arith) there (record {
      at = λ m. rw (unasked m, stands_as-one before n m held) (to m);
      free = λ m q is_now e. absurd (let no : stands_as m now ≡ false = unasked m in cc);
      made = λ m is_now. absurd (let no : stands_as m now ≡ false = unasked m in cc);
    })
  where
    unasked : (m : ℕ) → stands_as m now ≡ false
    unasked m = ap (λ (o : Option Standing). option_map_or (λ (x : Standing). eqb x.number m) o false) none_now

    held : stands_as n before ≡ true
    held = rw there at (ok.found n p at_n)

-- a row that is asked
pub IsIndex-asked : (asks : ℕ) (rows : List MemberRow) (n p : ℕ) (x : Standing) (before now : MemberRow)
    (f g : ℕ → Option ℕ)
    → IsIndex asks rows f → row_at rows p ≡ Some before → now.asked ≡ Some x → x.number ≡ n → n ≡ asks + 1
    → ((q : ℕ) → g q ≡ cond (stands_as q before) None (cond (eqb n q) (Some p) (f q)))
    → IsIndex n (with_row p now rows) g
IsIndex-asked asks rows n p x before now f g ok there asked numbered next to =
    IsIndex-changed asks n rows p before now f g ok (omega arith) there (record {
      at = λ m. elim (cases_eq n m) [
        | inl same ↦ let e : stands_as m before ≡ false = not_before m same in
            let h : eqb n m ≡ true = eq-eqb n m same in
            to m ∙ rw (test m, h, e) refl
        | inr apart ↦ let h : eqb n m ≡ false = ne_eqb n m apart in to m ∙ rw (test m, h) refl
      ];
      free = λ m q is_now e. absurd (fresh m q (eqb-true n m (sym (test m) ∙ is_now)) e);
      made = λ m is_now. let same : n ≡ m = eqb-true n m (sym (test m) ∙ is_now) in omega arith;
    })
  where
    test : (m : ℕ) → stands_as m now ≡ eqb n m
    test m = ap (λ (o : Option Standing). option_map_or (λ (y : Standing). eqb y.number m) o false) asked
        ∙ ap (λ (k : ℕ). eqb k m) numbered

    fresh : (m q : ℕ) → n ≡ m → f m ≡ Some q → ⊥
    fresh m q same e = let most : m ≤ asks = ok.made m q e in omega arith

    not_before : (m : ℕ) → n ≡ m → stands_as m before ≡ false
    not_before m same = elim (bool_cases (stands_as m before)) [
      | inl was ↦ absurd
          (fresh m p same (ok.all m p (rw there was)))
      | inr wasn ↦ wasn
    ]

-- a row that is pushed, without an ask
pub IsIndex-pushed : (asks : ℕ) (rows : List MemberRow) (r : MemberRow) (f : ℕ → Option ℕ) → IsIndex asks rows f
    → r.asked ≡ None → IsIndex asks (rows ++ r ∷ []) f
IsIndex-pushed asks rows r f ok unasked = record {
  found = λ m q e. still m q (row_at rows q) refl (ok.found m q e);
  all = λ m q h. elim (row_at-push rows r q) [
    | inl old ↦ ok.all m q (rw old at h)
    | inr new ↦ absurd (let none : stands_as m r ≡ false = ap
        (λ (o : Option Standing). option_map_or (λ (x : Standing). eqb x.number m) o false) unasked in
        let some : stands_as m r ≡ true = (rw new at h) in cc)
  ];
  made = ok.made;
}
  where
    still : (m q : ℕ) (o : Option MemberRow) → row_at rows q ≡ o → Holds rows m q → Holds (rows ++ r ∷ []) m q
    still m q None e h = absurd (let g : false ≡ true = (rw e at h) in cc)
    still m q (Some x) e h = rw (row_at-push_there rows r x q e) (rw e at h)

-- ---- a member that changes

pub change_member-absent : (f : MemberRow → MemberRow) (p : ℕ) (s : State) → row_at s.members p ≡ None
    → change_member f p s ≡ s
change_member-absent f p s e = rw e refl

pub change_member-there : (f : MemberRow → MemberRow) (p : ℕ) (s : State) (r : MemberRow) → row_at s.members p ≡ Some r
    → change_member f p s ≡ record s {
      members = with_row p (f r) s.members;
      actions =
          change_row (with_member r (f r)) r.action s.actions;
    }
change_member-there f p s r e = rw e (rw (change_row-there f p s.members r e) refl)

-- a member that replies, found by the index
pub change_member-held : (g : MemberRow → MemberRow) (n p : ℕ) (s : State) (r : MemberRow) {f : ℕ → Option ℕ}
    → IsIndex s.asks s.members f → f n ≡ Some p → row_at s.members p ≡ Some r
    → change_member g (place_of n s.members) s ≡ record s {
      members = with_row p (g r) s.members;
      actions =
          change_row (with_member r (g r)) r.action s.actions;
    }
change_member-held g n p s r ok held e = ap (λ (k : ℕ). change_member g k s) (place_of-held ok n p held)
    ∙ change_member-there g p s r e

pub with_reply-asked : (o : Outcome) (r : MemberRow) → (with_reply o r).asked ≡ None
with_reply-asked o r = by_asked r.asked refl
  where
    by_asked : (a : Option Standing) → r.asked ≡ a → (option_map_or (λ (x : Standing). with_reply_to x o r) a r).asked
        ≡ None
    by_asked None e = e
    by_asked (Some x) e = refl

-- a change of a row that is there, behind which another is pushed
pub change_row-pushed : {R : Type 0} (f : R → R) (n : ℕ) (rows : List R) (r y : R) → row_at rows n ≡ Some r
    → with_row n (f r) (rows ++ y ∷ []) ≡ change_row f n rows ++ y ∷ []
change_row-pushed f zero rows r y e = refl
change_row-pushed f (suc n) rows r y e = rw (row_at-push_there rows y r (suc n) e, e) (set-push rows n (f r) r e)
  where
    set-push : (xs : List _) (k : ℕ) (x z : _) → slice_get xs k ≡ Some z → slice_set (xs ++ y ∷ []) k x
        ≡ slice_set xs k x ++ y ∷ []
    set-push [] k x z h = cc
    set-push (w ∷ xs) zero x z h = refl
    set-push (w ∷ xs) (suc k) x z h = ap (λ ys. w ∷ ys) (set-push xs k x z h)
