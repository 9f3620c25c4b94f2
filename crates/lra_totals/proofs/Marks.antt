-- Each action's least member that failed, marked member by member up the parents.
use Rattle.std.proofs.Common.{◌≡◌, ℕ, zero, suc, ◌+◌, ◌<◌, ◌≤◌, Bool, true, false, List, [], ◌∷◌, length, drop, get_or}
use Rattle.std.proofs.Common.{Option, Some, None, refl, sym, ap, ◌∙◌, cond, arith, ◌⊎◌, inl, inr, subst, replicate}
use Rattle.std.proofs.Common.{true≢false}
use Rattle.std.specs.Prelude.{◌==◌, ◌&&◌, ◌||◌, nat_lt, is_some, unwrap_or, option_map, slice_get, slice_set}
use Rattle.std.specs.Option.{option_map_or, option_or}
use Rattle.std.specs.List.{cons_option}
use Rattle.std.proofs.lemmas.Bool.{cases_eq, cases_lt, eqb-true, eq-eqb, ne_eqb, ltb-true, ltb-false}
use Rattle.std.proofs.lemmas.Option.{same_Some, none-some, slice_get-get_or, slice_get_past}
use Rattle.std.proofs.lemmas.Iterator.Adapters.{option_map_id}
use Rattle.std.proofs.lemmas.List.{drop_more, drop_all}
use Rattle.lra_model.specs.Words.{has_failed}
use Rattle.lra_laws.specs.Rows.{ActionRow}
use Rattle.lra_laws.specs.Rows.{MemberRow}
use Rattle.lra_totals.specs.declared.totals.FailedEnd.{FailedEnd}
use Rattle.lra_laws.specs.Rows.{State, change_row}
use Rattle.lra_laws.specs.Rows.{row_at}
use Rattle.lra_totals.specs.Totals.{is_within_by, has_failed_here, number_of_first, least_failed_by, failed_ends_from}
use Rattle.lra_laws.proofs.RowChanges.{row_at-change_other}
use Rattle.lra_states.proofs.Replacing.{slice_get-set_same}

-- a place with the member where the test holds and none is there yet
abbrev pub marked : ℕ → Bool → Option ℕ → Option ℕ
marked m b o = cond b (option_or o (Some m)) o

-- the places with the member at a number, where none is there yet
abbrev pub mark_at : ℕ → ℕ → List (Option ℕ) → List (Option ℕ)
mark_at m a places = change_row (λ o. option_or o (Some m)) a places

marked-twice : (m : ℕ) (b c : Bool) (o : Option ℕ) → marked m c (marked m b o) ≡ marked m (b || c) o
marked-twice m true true (Some p) = refl
marked-twice m true true None = refl
marked-twice m true false o = refl
marked-twice m false c o = refl

map-twice : {X Y Z : Type 0} (f : Y → Z) (g : X → Y) (o : Option X) → option_map f (option_map g o)
    ≡ option_map (λ x. f (g x)) o
map-twice f g None = refl
map-twice f g (Some x) = refl

map-same : {X Y : Type 0} (f g : X → Y) → ((x : X) → f x ≡ g x) → (o : Option X) → option_map f o ≡ option_map g o
map-same f g h o = λ i. option_map (λ x. h x i) o

row_at-change_here : {R : Type 0} (f : R → R) (n : ℕ) (rows : List R) → row_at (change_row f n rows) n
    ≡ option_map f (row_at rows n)
row_at-change_here f zero rows = refl
row_at-change_here {R = R} f (suc n) rows = known (slice_get rows n) refl
  where
    known : (o : Option R) → slice_get rows n ≡ o → slice_get (option_map_or (λ r. slice_set rows n (f r)) o rows) n
        ≡ option_map f o
    known None e = e
    known (Some x) e = slice_get-set_same rows n x (f x) e

row_at-mark : (m a t : ℕ) (places : List (Option ℕ)) → row_at (mark_at m a places) t
    ≡ option_map (marked m (a == t)) (row_at places t)
row_at-mark m a t places = elim (cases_eq a t) [
  | inl same ↦
      ap (row_at (mark_at m a places)) (sym same)
      ∙ row_at-change_here (λ o. option_or o (Some m)) a places
      ∙ sym (ap (λ (b : Bool). option_map (marked m b) (row_at places t)) (eq-eqb a t same)
      ∙ ap (λ (x : ℕ). option_map (marked m true) (row_at places x)) (sym same))
  | inr apart ↦
      row_at-change_other (λ o. option_or o (Some m)) a places t (λ h. apart (sym h))
      ∙ sym (option_map_id (row_at places t))
      ∙ sym (ap (λ (b : Bool). option_map (marked m b) (row_at places t)) (ne_eqb a t apart))
]

-- a mark, and then what is left to do
mark-then : (m a t : ℕ) (places : List (Option ℕ)) (c : Bool) → option_map (marked m c) (row_at (mark_at m a places) t)
    ≡ option_map (marked m ((a == t) || c)) (row_at places t)
mark-then m a t places c =
    ap (option_map (marked m c)) (row_at-mark m a t places)
    ∙ map-twice (marked m c) (marked m (a == t)) (row_at places t)
    ∙ map-same (λ o. marked m c (marked m (a == t) o)) (marked m ((a == t) || c)) (λ o. marked-twice m (a == t) c o)
    (row_at places t)

abbrev pub parent_by : List ActionRow → ℕ → Option ℕ
parent_by rows a = option_map_or (λ (r : ActionRow). r.parent) (row_at rows a) None

-- what is left of a walk of so many steps from an action up, is what there was to do
pub record IsLeft (m : ℕ) (rows : List ActionRow) (done steps action : ℕ) (start : List (Option ℕ)) (above : ℕ)
    (places : List (Option ℕ)) : Type 0 where
  pub left : ℕ
  pub sum : done + left ≡ steps
  pub rest : (t : ℕ) → option_map (marked m (is_within_by left rows t above)) (row_at places t)
      ≡ option_map (marked m (is_within_by steps rows t action)) (row_at start t)

pub IsLeft-start : (m : ℕ) (rows : List ActionRow) (steps action : ℕ) (start : List (Option ℕ))
    → IsLeft m rows 0 steps action start action start
IsLeft-start m rows steps action start = record { left = steps; sum = omega arith; rest = λ t. refl }

pub IsLeft-up : (m : ℕ) (rows : List ActionRow) (done steps action : ℕ) (start : List (Option ℕ)) (above parent : ℕ)
    (places : List (Option ℕ)) → IsLeft m rows done steps action start above places
    → done < steps → parent_by rows above ≡ Some parent → IsLeft m rows (done + 1) steps action start parent
    (mark_at m above places)
IsLeft-up m rows done steps action start above parent places l h e = go l.left l.sum l.rest
  where
    go : (n : ℕ) → done + n ≡ steps → ((t : ℕ) → option_map (marked m (is_within_by n rows t above)) (row_at places t)
        ≡ option_map (marked m (is_within_by steps rows t action)) (row_at start t))
        → IsLeft m rows (done + 1) steps action start parent (mark_at m above places)
    go zero s r = absurd (omega arith)
    go (suc n) s r = record {
      left = n;
      sum = omega arith;
      rest = λ t. mark-then m above t places (is_within_by n rows t parent)
          ∙ sym (ap (λ (o : Option ℕ). option_map (marked m ((above == t)
          || option_map_or (is_within_by n rows t) o false)) (row_at places t)) e) ∙ r t;
    }

pub IsLeft-top : (m : ℕ) (rows : List ActionRow) (done steps action : ℕ) (start : List (Option ℕ)) (above : ℕ)
    (places : List (Option ℕ)) → IsLeft m rows done steps action start above places
    → done < steps → parent_by rows above ≡ None → (t : ℕ) → row_at (mark_at m above places) t
    ≡ option_map (marked m (is_within_by steps rows t action)) (row_at start t)
IsLeft-top m rows done steps action start above places l h e t = go l.left l.sum l.rest
  where
    go : (n : ℕ) → done + n ≡ steps → ((u : ℕ) → option_map (marked m (is_within_by n rows u above)) (row_at places u)
        ≡ option_map (marked m (is_within_by steps rows u action)) (row_at start u))
        → row_at (mark_at m above places) t ≡ option_map (marked m (is_within_by steps rows t action)) (row_at start t)
    go zero s r = absurd (omega arith)
    go (suc n) s r =
        sym (option_map_id (row_at (mark_at m above places) t)) ∙ mark-then m above t places false
        ∙ sym (ap (λ (o : Option ℕ). option_map (marked m ((above == t)
        || option_map_or (is_within_by n rows t) o false)) (row_at places t)) e) ∙ r t

pub IsLeft-end : (m : ℕ) (rows : List ActionRow) (done steps action : ℕ) (start : List (Option ℕ)) (above : ℕ)
    (places : List (Option ℕ)) → IsLeft m rows done steps action start above places
    → done ≡ steps → (t : ℕ) → row_at (mark_at m above places) t ≡ option_map
    (marked m (is_within_by steps rows t action)) (row_at start t)
IsLeft-end m rows done steps action start above places l h t = go l.left l.sum l.rest
  where
    go : (n : ℕ) → done + n ≡ steps → ((u : ℕ) → option_map (marked m (is_within_by n rows u above)) (row_at places u)
        ≡ option_map (marked m (is_within_by steps rows u action)) (row_at start u))
        → row_at (mark_at m above places) t ≡ option_map (marked m (is_within_by steps rows t action)) (row_at start t)
    go zero s r = row_at-mark m above t places ∙ r t
    go (suc n) s r = absurd (omega arith)

-- ---- walks that stop early

-- each parent's number is less
abbrev pub AreLess : List ActionRow → Type 0
AreLess rows = (a b : ℕ) → parent_by rows a ≡ Some b → b < a

-- an action whose parent's place has no member has none at its own
abbrev pub IsClosed : List ActionRow → List (Option ℕ) → Type 0
IsClosed rows places = (a b : ℕ) → parent_by rows a ≡ Some b → row_at places b ≡ Some None → row_at places a ≡ Some None

-- the same, but for the action that a walk has come to
pub record IsOpenAt (rows : List ActionRow) (above : ℕ) (places : List (Option ℕ)) : Type 0 where
  pub each : (a b : ℕ) → parent_by rows a ≡ Some b → row_at places b ≡ Some None → (row_at places a ≡ Some None)
      ⊎ (b ≡ above)

pub IsOpenAt-start : (rows : List ActionRow) (above : ℕ) (places : List (Option ℕ)) → IsClosed rows places
    → IsOpenAt rows above places
IsOpenAt-start rows above places h = record { each = λ a b e f. inl (h a b e f) }

-- a place that has no member after a mark had none, and is another's
unmarked : (m above t : ℕ) (places : List (Option ℕ)) → row_at (mark_at m above places) t ≡ Some None
    → (row_at places t ≡ Some None) × (above ≡ t → ⊥)
unmarked m above t places h = go (row_at places t) refl (above == t) refl (sym (row_at-mark m above t places) ∙ h)
  where
    go : (o : Option (Option ℕ)) → row_at places t ≡ o → (b : Bool) → (above == t) ≡ b → option_map (marked m b) o
        ≡ Some None → (o ≡ Some None) × (above ≡ t → ⊥)
    go None e b f k = absurd cc
    go (Some (Some p)) e true f k = absurd cc
    go (Some None) e true f k = absurd cc
    go (Some o) e false f k = (k, λ same. true≢false (sym (eq-eqb above t same) ∙ f))

still_unmarked : (m above t : ℕ) (places : List (Option ℕ)) → row_at places t ≡ Some None → (above ≡ t → ⊥)
    → row_at (mark_at m above places) t ≡ Some None
still_unmarked m above t places h apart = row_at-mark m above t places
    ∙ ap (λ (b : Bool). option_map (marked m b) (row_at places t)) (ne_eqb above t apart)
    ∙ option_map_id (row_at places t) ∙ h

pub IsOpenAt-up : (m : ℕ) (rows : List ActionRow) (above parent : ℕ) (places : List (Option ℕ)) → parent_by rows above
    ≡ Some parent → IsOpenAt rows above places → IsOpenAt rows parent (mark_at m above places)
IsOpenAt-up m rows above parent places up h = record { each = each }
  where
    each : (a b : ℕ) → parent_by rows a ≡ Some b → row_at (mark_at m above places) b ≡ Some None
        → (row_at (mark_at m above places) a ≡ Some None) ⊎ (b ≡ parent)
    each a b e f = let u = unmarked m above b places f in elim (cases_eq above a) [
      | inl same ↦ inr (same_Some b parent (sym e ∙ ap (parent_by rows) (sym same) ∙ up))
      | inr apart ↦ elim (h.each a b e u.0) [
        | inl old ↦ inl (still_unmarked m above a places old apart)
        | inr here ↦
            absurd (u.1 (sym here))
      ]
    ]

pub IsOpenAt-top : (m : ℕ) (rows : List ActionRow) (above : ℕ) (places : List (Option ℕ)) → parent_by rows above ≡ None
    → IsOpenAt rows above places → IsClosed rows (mark_at m above places)
IsOpenAt-top m rows above places top h a b e f =
    let u = unmarked m above b places f in elim (cases_eq above a) [
      | inl same ↦ absurd (none-some b (sym top ∙ ap (parent_by rows) same ∙ e))
      | inr apart ↦ elim (h.each a b e u.0) [
        | inl old ↦ still_unmarked m above a places old apart
        | inr here ↦ absurd
            (u.1 (sym here))
      ]
    ]

-- where the walk has come to a place with a member, nothing is open
pub IsOpenAt-met : (rows : List ActionRow) (above q : ℕ) (places : List (Option ℕ)) → row_at places above
    ≡ Some (Some q) → IsOpenAt rows above places → IsClosed rows places
IsOpenAt-met rows above q places met h a b e f = elim (h.each a b e f) [
  | inl old ↦ old
  | inr here ↦ absurd (clash (sym met ∙ ap (row_at places) (sym here) ∙ f))
]
  where
    clash : Some (Some q) ≡ Some None → ⊥
    clash k = cc

-- and all above has one
above-marked : (rows : List ActionRow) (places : List (Option ℕ)) → IsClosed rows places → (n t a : ℕ)
    → (row_at places a ≡ Some None → ⊥) → is_within_by n rows t a ≡ true → row_at places t ≡ Some None → ⊥
above-marked rows places closed zero t a has w f = has (ap (row_at places) (eqb-true a t w) ∙ f)
above-marked rows places closed (suc n) t a has w f = go (a == t) refl (parent_by rows a) refl
    (λ b g v. above-marked rows places closed n t b g v f) w
  where
    go : (x : Bool) → (a == t) ≡ x → (o : Option ℕ) → parent_by rows a ≡ o
        → ((b : ℕ) → (row_at places b ≡ Some None → ⊥) → is_within_by n rows t b ≡ true → ⊥)
        → (x || option_map_or (is_within_by n rows t) o false) ≡ true → ⊥
    go true e o g rest k = has (ap (row_at places) (eqb-true a t e) ∙ f)
    go false e None g rest k = cc
    go false e (Some b) g rest k = rest b (λ none. has (closed a b g none)) k

pub IsLeft-met : (m : ℕ) (rows : List ActionRow) (done steps action : ℕ) (start : List (Option ℕ)) (above q : ℕ)
    (places : List (Option ℕ)) → IsLeft m rows done steps action start above places
    → row_at places above ≡ Some (Some q) → IsClosed rows places → (t : ℕ) → row_at places t
    ≡ option_map (marked m (is_within_by steps rows t action)) (row_at start t)
IsLeft-met m rows done steps action start above q places l met closed t =
    go (row_at places t) refl (is_within_by l.left rows t above) refl ∙ l.rest t
  where
    clash : Some (Some q) ≡ Some None → ⊥
    clash k = cc

    go : (o : Option (Option ℕ)) → row_at places t ≡ o → (b : Bool) → is_within_by l.left rows t above ≡ b → o
        ≡ option_map (marked m b) o
    go o e false f = sym (option_map_id o)
    go None e true f = refl
    go (Some (Some p)) e true f = refl
    go (Some None) e true f = absurd (above-marked rows places closed l.left t above (λ k. clash (sym met ∙ k)) f e)

-- the place that a walk has come to, where it has a member
pub met_there : (places : List (Option ℕ)) (above : ℕ) → is_some (unwrap_or (row_at places above) None) ≡ true → (q : ℕ)
    × (row_at places above ≡ Some (Some q))
met_there places above h = go (row_at places above) refl h
  where
    go : (o : Option (Option ℕ)) → row_at places above ≡ o → is_some (unwrap_or o None) ≡ true → (q : ℕ)
        × (row_at places above ≡ Some (Some q))
    go None e k = absurd cc
    go (Some None) e k = absurd cc
    go (Some (Some q)) e k = (q, e)

-- what a walk keeps, where parents are less: it has steps enough to come to the top
pub record IsClimbing (rows : List ActionRow) (done steps above : ℕ) (places : List (Option ℕ)) : Type 0 where
  pub within : above + done ≤ steps
  pub open_at : IsOpenAt rows above places

pub IsClimbing-start : (rows : List ActionRow) (steps : ℕ) (places : List (Option ℕ)) → IsClosed rows places
    → IsClimbing rows 0 steps steps places
IsClimbing-start rows steps places h = record { within = omega arith; open_at = IsOpenAt-start rows steps places h }

pub IsClimbing-up : (m : ℕ) (rows : List ActionRow) (done steps above parent : ℕ) (places : List (Option ℕ))
    → AreLess rows → parent_by rows above ≡ Some parent → IsClimbing rows done steps above places
    → IsClimbing rows (done + 1) steps parent (mark_at m above places)
IsClimbing-up m rows done steps above parent places less up h =
    let low = less above parent up in let old = h.within in
    record { within = omega arith; open_at = IsOpenAt-up m rows above parent places up h.open_at }

pub IsClimbing-end : (m : ℕ) (rows : List ActionRow) (done steps above : ℕ) (places : List (Option ℕ)) → done ≡ steps
    → IsClimbing rows done steps above places → IsClosed rows (mark_at m above places)
IsClimbing-end m rows done steps above places e h =
    let old = h.within in let zero_is : 0 ≡ above = omega arith in
    IsOpenAt-top m rows above places (ap (parent_by rows) (sym zero_is)) h.open_at

-- places that are all without a member are closed
pub IsClosed-start : (rows : List ActionRow) (places : List (Option ℕ)) → places ≡ replicate (length rows) None
    → IsClosed rows places
IsClosed-start rows places h a b e f = ap (λ (ps : List (Option ℕ)). row_at ps a) h ∙ there (row_at rows a) refl e
  where
    fresh_get : (i : ℕ) (acts : List ActionRow) (r : ActionRow) → slice_get acts i ≡ Some r
        → slice_get {X = Option ℕ} (replicate (length acts) None) i ≡ Some None
    fresh_get i [] r k = absurd cc
    fresh_get zero (x ∷ acts) r k = refl
    fresh_get (suc i) (x ∷ acts) r k = fresh_get i acts r k

    fresh : (t : ℕ) (acts : List ActionRow) (r : ActionRow) → row_at acts t ≡ Some r
        → row_at {R = Option ℕ} (replicate (length acts) None) t ≡ Some None
    fresh zero acts r k = absurd cc
    fresh (suc i) acts r k = fresh_get i acts r k

    there : (o : Option ActionRow) → row_at rows a ≡ o → option_map_or (λ (r : ActionRow). r.parent) o None ≡ Some b
        → row_at {R = Option ℕ} (replicate (length rows) None) a ≡ Some None
    there None g k = absurd cc
    there (Some r) g k = fresh a rows r g

-- ---- the test that parents are less

row_at-number : (rows : List ActionRow) (i a : ℕ) (d : ActionRow) → a ≡ i + 1 → i < length rows → row_at rows a
    ≡ Some (get_or rows i d)
row_at-number rows i a d e h = ap (row_at rows) (let k : a ≡ suc i = omega arith in k) ∙ slice_get-get_or rows i d h

-- the parents of the first i actions are less
abbrev pub AreLessTo : List ActionRow → ℕ → Type 0
AreLessTo rows i = (a b : ℕ) → a ≤ i → parent_by rows a ≡ Some b → b < a

abbrev parent_test : ActionRow → ℕ → Bool
parent_test r n = option_map_or (λ b. nat_lt b n) r.parent true

pub AreLessTo-start : (rows : List ActionRow) → AreLessTo rows 0
AreLessTo-start rows a b h e = absurd (none-some b (ap (parent_by rows) (let z : 0 ≡ a = omega arith in z) ∙ e))

pub AreLessTo-more : (rows : List ActionRow) (i : ℕ) (d : ActionRow) → i < length rows
    → parent_test (get_or rows i d) (i + 1) ≡ true → AreLessTo rows i → AreLessTo rows (i + 1)
AreLessTo-more rows i d low h all a b within e = elim (cases_eq a (i + 1)) [
  | inl same ↦ rw same (passes (get_or rows i d).parent h
      (sym (ap (λ (o : Option ActionRow). option_map_or (λ (r : ActionRow). r.parent) o None)
      (row_at-number rows i a d same low)) ∙ e))
  | inr apart ↦ all a b (omega arith) e
]
  where
    passes : (o : Option ℕ) → option_map_or (λ c. nat_lt c (i + 1)) o true ≡ true → o ≡ Some b → b < i + 1
    passes None k f = absurd cc
    passes (Some c) k f = let same : c ≡ b = same_Some c b f in let low : c < i + 1 = ltb-true c (i + 1) k in
        omega arith

pub AreLessTo-end : (rows : List ActionRow) (i : ℕ) → length rows ≤ i → AreLessTo rows i → AreLess rows
AreLessTo-end rows i h all a b e = elim (cases_lt i a) [
  | inr within ↦ all a b within e
  | inl past ↦ absurd (none-some b (sym (gone a past) ∙ e))
]
  where
    gone : (t : ℕ) → i < t → parent_by rows t ≡ None
    gone zero k = absurd (omega arith)
    gone (suc j) k = ap (λ (o : Option ActionRow). option_map_or (λ (r : ActionRow). r.parent) o None)
        (slice_get_past rows j (omega arith))

-- one whose parent is not less
pub parent_not_less : (rows : List ActionRow) (i : ℕ) (d : ActionRow) → i < length rows
    → parent_test (get_or rows i d) (i + 1) ≡ false → (a : ℕ) × (b : ℕ) × (parent_by rows a ≡ Some b) × (a ≤ b)
parent_not_less rows i d low h = go (get_or rows i d).parent refl h
  where
    go : (o : Option ℕ) → (get_or rows i d).parent ≡ o → option_map_or (λ b. nat_lt b (i + 1)) o true ≡ false → (a : ℕ)
        × (b : ℕ) × (parent_by rows a ≡ Some b) × (a ≤ b)
    go None e k = absurd cc
    go (Some b) e k = (
      i + 1,
      b,
      ap (λ (o : Option ActionRow). option_map_or (λ (r : ActionRow). r.parent) o None)
          (row_at-number rows i (i + 1) d refl low) ∙ e,
      ltb-false b (i + 1) k,
    )

-- ---- member by member

-- whether a member's mark reaches an action
abbrev pub reaches : List ActionRow → ℕ → MemberRow → Bool
reaches rows t r = has_failed_here r && is_within_by r.action rows t r.action

-- a place, with the first of the members from number n on that reaches its action, where none is there yet
abbrev pub filled : List ActionRow → ℕ → ℕ → List MemberRow → Option ℕ → Option ℕ
filled rows t n members o = option_or o (number_of_first (reaches rows t) n members)

-- the places as they are with the members from number n on, are those that were to be
pub record IsToFill (s : State) (n : ℕ) (members : List MemberRow) (places : List (Option ℕ)) : Type 0 where
  pub each : (t : ℕ) → option_map (filled s.actions t n members) (row_at places t)
      ≡ option_map (λ (r : ActionRow). least_failed_by s t) (row_at s.actions t)

filled-more : (rows : List ActionRow) (t n : ℕ) (r : MemberRow) (members : List MemberRow) (w : Bool)
    → has_failed_here r ≡ true → is_within_by r.action rows t r.action ≡ w
    → (o : Option ℕ) → filled rows t (n + 1) members (marked n w o) ≡ filled rows t n (r ∷ members) o
filled-more rows t n r members w h e o =
    both w o (number_of_first (reaches rows t) (n + 1) members) ∙ sym (ap
    (λ (b : Bool). option_or o (cond b (Some n) (number_of_first (reaches rows t) (n + 1) members)))
    (λ i. h i && e i))
  where
    both : (b : Bool) (x y : Option ℕ) → option_or (marked n b x) y ≡ option_or x (cond b (Some n) y)
    both true (Some p) y = refl
    both true None y = refl
    both false x y = refl

filled-same : (rows : List ActionRow) (t n : ℕ) (r : MemberRow) (members : List MemberRow) → has_failed_here r ≡ false
    → (o : Option ℕ) → filled rows t (n + 1) members o ≡ filled rows t n (r ∷ members) o
filled-same rows t n r members h o =
    sym (ap (λ (b : Bool). option_or o (cond (b && is_within_by r.action rows t r.action) (Some n)
    (number_of_first (reaches rows t) (n + 1) members))) h)

-- one more member, whose mark is made
IsToFill-cons : (s : State) (n : ℕ) (r : MemberRow) (members : List MemberRow) (places more : List (Option ℕ))
    → has_failed_here r ≡ true
    → ((t : ℕ) → row_at more t ≡ option_map (marked n (is_within_by r.action s.actions t r.action)) (row_at places t))
    → IsToFill s n (r ∷ members) places → IsToFill s (n + 1) members more
IsToFill-cons s n r members places more h made l = record {
  each = λ t.
      ap (option_map (filled s.actions t (n + 1) members)) (made t)
      ∙ map-twice (filled s.actions t (n + 1) members) (marked n (is_within_by r.action s.actions t r.action))
      (row_at places t)
      ∙ map-same (λ o. filled s.actions t (n + 1) members (marked n (is_within_by r.action s.actions t r.action) o))
      (filled s.actions t n (r ∷ members)) (filled-more s.actions t n r members
      (is_within_by r.action s.actions t r.action) h refl) (row_at places t)
      ∙ l.each t;
}

-- one more member, which has none to make
IsToFill-pass : (s : State) (n : ℕ) (r : MemberRow) (members : List MemberRow) (places : List (Option ℕ))
    → has_failed_here r ≡ false → IsToFill s n (r ∷ members) places → IsToFill s (n + 1) members places
IsToFill-pass s n r members places h l = record {
  each = λ t. map-same (filled s.actions t (n + 1) members) (filled s.actions t n (r ∷ members))
      (filled-same s.actions t n r members h) (row_at places t) ∙ l.each t;
}

pub IsToFill-marked : (s : State) (rows : List ActionRow) (members : List MemberRow) → rows ≡ s.actions → members
    ≡ s.members → (i : ℕ) (d : MemberRow) (places more : List (Option ℕ))
    → i < length members → has_failed_here (get_or members i d) ≡ true
    → ((t : ℕ) → row_at more t
    ≡ option_map (marked (i + 1) (is_within_by (get_or members i d).action rows t (get_or members i d).action))
    (row_at places t))
    → IsToFill s (i + 1) (drop i s.members) places → IsToFill s (i + 1 + 1) (drop (i + 1) s.members) more
IsToFill-marked s rows members a e i d places more low h made l =
    IsToFill-cons s (i + 1) (get_or members i d) (drop (i + 1) s.members) places more h
    (λ t. made t ∙ ap (λ (acts : List ActionRow). option_map (marked (i + 1)
    (is_within_by (get_or members i d).action acts t (get_or members i d).action)) (row_at places t)) a)
    (subst (λ (rs : List MemberRow). IsToFill s (i + 1) rs places) (ap (drop i) (sym e) ∙ drop_more members i d low
    ∙ ap (λ (rs : List MemberRow). get_or members i d ∷ drop (i + 1) rs) e) l)

pub IsToFill-passed : (s : State) (members : List MemberRow) → members ≡ s.members
    → (i : ℕ) (d : MemberRow) (places : List (Option ℕ)) → i < length members → has_failed_here (get_or members i d)
    ≡ false
    → IsToFill s (i + 1) (drop i s.members) places → IsToFill s (i + 1 + 1) (drop (i + 1) s.members) places
IsToFill-passed s members e i d places low h l =
    IsToFill-pass s (i + 1) (get_or members i d) (drop (i + 1) s.members) places h
    (subst (λ (rs : List MemberRow). IsToFill s (i + 1) rs places) (ap (drop i) (sym e) ∙ drop_more members i d low
    ∙ ap (λ (rs : List MemberRow). get_or members i d ∷ drop (i + 1) rs) e) l)

-- with no members left the places are what they were to be
pub IsToFill-end : (s : State) (i : ℕ) (places : List (Option ℕ)) → length s.members ≤ i
    → IsToFill s (i + 1) (drop i s.members) places
    → (t : ℕ) → row_at places t ≡ option_map (λ (r : ActionRow). least_failed_by s t) (row_at s.actions t)
IsToFill-end s i places h l t =
    nothing (row_at places t)
    ∙ sym (ap (λ (rs : List MemberRow). option_map (filled s.actions t (i + 1) rs) (row_at places t))
    (drop_all i s.members h)) ∙ l.each t
  where
    nothing : (o : Option (Option ℕ)) → o ≡ option_map (filled s.actions t (i + 1) []) o
    nothing None = refl
    nothing (Some None) = refl
    nothing (Some (Some p)) = refl

-- before the first member no place has any
pub IsToFill-start : (s : State) (n : ℕ) (places : List (Option ℕ)) → n ≡ length s.actions → places ≡ replicate n None
    → IsToFill s 1 s.members places
IsToFill-start s n places e h = record {
  each = λ t.
      ap (λ (ps : List (Option ℕ)). option_map (filled s.actions t 1 s.members) (row_at ps t))
      (h ∙ ap (λ (m : ℕ). replicate m None) e)
      ∙ fresh (filled s.actions t 1 s.members) t s.actions;
}
  where
    fresh_get : (f : Option ℕ → Option ℕ) (i : ℕ) (rows : List ActionRow)
        → option_map f (slice_get (replicate (length rows) None) i) ≡ option_map (λ (r : ActionRow). f None)
        (slice_get rows i)
    fresh_get f i [] = refl
    fresh_get f zero (r ∷ rows) = refl
    fresh_get f (suc i) (r ∷ rows) = fresh_get f i rows

    fresh : (f : Option ℕ → Option ℕ) (t : ℕ) (rows : List ActionRow) → option_map f
        (row_at (replicate (length rows) None) t) ≡ option_map (λ (r : ActionRow). f None) (row_at rows t)
    fresh f zero rows = refl
    fresh f (suc i) rows = fresh_get f i rows

-- ---- the failed ends

ends-same : (f g : ℕ → Option ℕ) (n : ℕ) (rows : List ActionRow) → ((i t : ℕ) (r : ActionRow) → slice_get rows i
    ≡ Some r → t ≡ n + i → f t ≡ g t) → failed_ends_from f n rows ≡ failed_ends_from g n rows
ends-same f g n [] same = refl
ends-same f g n (r ∷ rows) same =
    (λ i. cons_option (option_map end (cond (has_failed r.status) (same 0 n r refl at i) None))
    (ends-same f g (n + 1) rows (λ j t x e s. same (suc j) t x e (omega arith)) i))
  where
    end : ℕ → FailedEnd
    end p = record { action = n; status = r.status; member = p }

    at : n ≡ n + 0
    at = omega arith

-- the places hold what the failed ends want
pub ends-by-places : (s : State) (places : List (Option ℕ)) → ((t : ℕ) → row_at places t
    ≡ option_map (λ (r : ActionRow). least_failed_by s t) (row_at s.actions t))
    → failed_ends_from (λ t. unwrap_or (row_at places t) None) 1 s.actions
    ≡ failed_ends_from (least_failed_by s) 1 s.actions
ends-by-places s places held = ends-same (λ t. unwrap_or (row_at places t) None) (least_failed_by s) 1 s.actions each
  where
    each : (i t : ℕ) (r : ActionRow) → slice_get s.actions i ≡ Some r → t ≡ 1 + i → unwrap_or (row_at places t) None
        ≡ least_failed_by s t
    each i t r e h =
        let at : t ≡ suc i = omega arith in
        ap (λ (o : Option (Option ℕ)). unwrap_or o None)
        (held t ∙ ap (option_map (λ (x : ActionRow). least_failed_by s t)) (ap (row_at s.actions) at ∙ e))
