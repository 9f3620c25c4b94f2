-- Each `&` of a page begins a reference, whatever texts the page has.
use Rattle.std.proofs.Common.{◌≡◌, ℕ, zero, suc, ◌==◌, ◌+◌, ◌-◌, ◌/◌, ◌%◌, ◌<◌, Bool, true, false, List, [], ◌∷◌, ◌++◌}
use Rattle.std.proofs.Common.{inl, inr, refl, sym, ◌∙◌, subst, arith}
use Rattle.std.specs.Prelude.{cond, codes, not, nat_lt, if◌then◌else◌, ◌&&◌, ◌||◌}
use Rattle.std.specs.List.{flat_map, list_any}
use Rattle.std.specs.Fmt.{decimal, digits, digits_onto, digit_glyph}
use Rattle.std.proofs.lemmas.Bool.Decides.{eqb_tells}
use Rattle.uuid.specs.Text.{by_index, is_hyphen_place, hex_digit, nibble, digit_place, lower}
use Rattle.lra_model.specs.declared.status.ActionStatus.{ActionStatus}
use Rattle.lra_model.specs.declared.status.ActionStatus.TheVariants as action_status
use Rattle.lra_model.specs.declared.status.MemberStatus.{MemberStatus}
use Rattle.lra_model.specs.declared.status.MemberStatus.TheVariants as member_status
use Rattle.lra_model.specs.declared.asks.AskKind.{AskKind}
use Rattle.lra_model.specs.declared.asks.AskKind.TheVariants as ask
use Rattle.lra_model.specs.Names.{action_status_name, member_status_name, ask_kind_name}
use Rattle.lra_ids.specs.Identifiers.{id_text, id_bytes}
use Rattle.lra_escape.specs.Escapes.{spelled, escaped}
use Rattle.lra_overview.specs.declared.page_parts.TheConstants.{HEAD, LOOKS, TABLES, NIGHT, KEY}
use Rattle.lra_overview.specs.Laying.{joined, has_id, id_of, span_count, span_unit, span}
use Rattle.lra_overview.specs.Marks.{begins, references, goes_on, refers}

-- ---- tests

and_left : (a b : Bool) → (a && b) ≡ true → a ≡ true
and_left true b h = refl
and_left false b h = h

and_right : (a b : Bool) → (a && b) ≡ true → b ≡ true
and_right true b h = h
and_right false b h = cc

and_both : (a b : Bool) → a ≡ true → b ≡ true → (a && b) ≡ true
and_both a b p q = rw (p, q) refl

or_right : (a b : Bool) → b ≡ true → (a || b) ≡ true
or_right true b h = refl
or_right false b h = h

or_more : (a b c d : Bool) → (a ≡ true → c ≡ true) → (b ≡ true → d ≡ true) → (a || b) ≡ true → (c || d) ≡ true
or_more true b c d p q h = rw (p refl) refl
or_more false b c d p q h = or_right c d (q h)

if_more : (t p q : Bool) → (p ≡ true → q ≡ true) → (if t then p else true) ≡ true → (if t then q else true) ≡ true
if_more true p q h e = h e
if_more false p q h e = refl

if_not : (t p : Bool) → not t ≡ true → (if t then p else true) ≡ true
if_not true p h = cc
if_not false p h = refl

-- ---- texts of which each `&` begins a reference

-- a reference stays a reference whatever follows it
begins_more : (c x y : List ℕ) → begins c x ≡ true → begins c (x ++ y) ≡ true
begins_more [] x y h = refl
begins_more (a ∷ c) [] y h = cc
begins_more (a ∷ c) (b ∷ x) y h =
    and_both (b == a) (begins c (x ++ y)) (and_left (b == a) (begins c x) h)
    (begins_more c x y (and_right (b == a) (begins c x) h))

any_more : (names : List (List ℕ)) (x y : List ℕ) → list_any (λ name. begins name x) names ≡ true
    → list_any (λ name. begins name (x ++ y)) names ≡ true
any_more [] x y h = h
any_more (name ∷ names) x y h =
    or_more (begins name x) (list_any (λ n. begins n x) names) (begins name (x ++ y))
    (list_any (λ n. begins n (x ++ y)) names)
    (begins_more name x y) (any_more names x y) h

-- such a text before another doesn't change whether the other refers
skip : (x y : List ℕ) → refers x ≡ true → refers (x ++ y) ≡ refers y
skip [] y h = refl
skip (b ∷ x) y h =
    rw (if_more (b == 38) (goes_on x) (goes_on (x ++ y)) (any_more references x y)
    (and_left (if b == 38 then goes_on x else true) (refers x) h))
    (skip x y (and_right (if b == 38 then goes_on x else true) (refers x) h))

-- ---- texts without `&`

abbrev plain : List ℕ → Bool
plain [] = true
plain (b ∷ text) = not (b == 38) && plain text

refers_plain : (text : List ℕ) → plain text ≡ true → refers text ≡ true
refers_plain [] h = refl
refers_plain (b ∷ text) h =
    and_both (if b == 38 then goes_on text else true) (refers text)
    (if_not (b == 38) (goes_on text) (and_left (not (b == 38)) (plain text) h))
    (refers_plain text (and_right (not (b == 38)) (plain text) h))

plain_append : (x y : List ℕ) → plain x ≡ true → plain y ≡ true → plain (x ++ y) ≡ true
plain_append [] y p q = q
plain_append (b ∷ x) y p q =
    and_both (not (b == 38)) (plain (x ++ y)) (and_left (not (b == 38)) (plain x) p)
    (plain_append x y (and_right (not (b == 38)) (plain x) p) q)

above : (n : ℕ) → 38 < n → not (n == 38) ≡ true
above n h = elim (eqb_tells n 38) [
  | inl e ↦ absurd (let k : n ≡ 38 = e.1 in omega arith)
  | inr p ↦ rw p.0 refl
]

plain_by_index : (n : ℕ) (f : ℕ → ℕ) → ((k : ℕ) → not (f k == 38) ≡ true) → plain (by_index n f) ≡ true
unfolding by_index
plain_by_index zero f h = refl
plain_by_index (suc n) f h = plain_append (by_index n f) (f n ∷ []) (plain_by_index n f h)
    (and_both (not (f n == 38)) true (h n) refl)

hex_above : (t : Bool) (d : ℕ) → not ((if t then 48 + d else lower + d - 10) == 38) ≡ true
hex_above true d = above (48 + d) (omega arith)
hex_above false d = above (lower + d - 10) (omega arith)

place_above : (t : Bool) (n : ℕ) → not (n == 38) ≡ true → not ((if t then 45 else n) == 38) ≡ true
place_above true n h = refl
place_above false n h = h

plain_id : (i n : ℕ) → plain (id_text i n) ≡ true
unfolding id_text
plain_id i n =
    plain_by_index 36 _ (λ k. place_above (is_hyphen_place k) (hex_digit lower (nibble (id_bytes i n) (digit_place k)))
    (hex_above (nat_lt (nibble (id_bytes i n) (digit_place k)) 10) (nibble (id_bytes i n) (digit_place k))))

where_plain : (t : Bool) (x y : List ℕ) → plain x ≡ true → plain y ≡ true → plain (if t then x else y) ≡ true
where_plain true x y p q = p
where_plain false x y p q = q

glyph_above : (t : Bool) (d : ℕ) → not ((if t then 48 + d else 87 + d) == 38) ≡ true
glyph_above true d = above (48 + d) (omega arith)
glyph_above false d = above (87 + d) (omega arith)

plain_onto : (k n : ℕ) (text : List ℕ) → plain text ≡ true → plain (digits_onto k 10 false n text) ≡ true
plain_onto zero n text h = h
plain_onto (suc k) n text h =
    let more : plain (digit_glyph false (n % 10) ∷ text) ≡ true = and_both (not (digit_glyph false (n % 10) == 38))
    (plain text) (glyph_above (nat_lt (n % 10) 10) (n % 10)) h in
    where_plain (n / 10 == 0) (digit_glyph false (n % 10) ∷ text) (digits_onto k 10 false (n / 10)
    (digit_glyph false (n % 10) ∷ text))
    more (plain_onto k (n / 10) (digit_glyph false (n % 10) ∷ text) more)

plain_decimal : (n : ℕ) → plain (decimal n) ≡ true
unfolding digits
plain_decimal n = plain_onto 64 n [] refl

-- ---- pieces

refers_plain_byte : (b : ℕ) → (b == 60) ≡ false → (b == 62) ≡ false → (b == 38) ≡ false → (b == 34) ≡ false → (b == 39)
    ≡ false → refers (spelled b) ≡ true
refers_plain_byte b p q r s t = grind arith

refers_spelled : (b : ℕ) → refers (spelled b) ≡ true
refers_spelled b =
    let P : ℕ → Type 0 = λ c. refers (spelled c) ≡ true in
    elim (eqb_tells b 60) [
      | inl h ↦ subst P (sym h.1) refl
      | inr p ↦ elim (eqb_tells b 62) [
        | inl h ↦ subst P (sym h.1) refl
        | inr q ↦ elim (eqb_tells b 38) [
          | inl h ↦ subst P (sym h.1) refl
          | inr r ↦ elim (eqb_tells b 34) [
            | inl h ↦ subst P (sym h.1) refl
            | inr s ↦ elim (eqb_tells b 39) [
              | inl h ↦ subst P (sym h.1) refl
              | inr t ↦ refers_plain_byte b p.0 q.0 r.0 s.0 t.0
            ]
          ]
        ]
      ]
    ]

pub refers_escaped : (text : List ℕ) → refers (escaped text) ≡ true
refers_escaped [] = refl
refers_escaped (b ∷ text) = skip (spelled b) (escaped text) (refers_spelled b) ∙ refers_escaped text

refers_id_where : (t : Bool) (i n : ℕ) → refers (cond t (id_text i n) []) ≡ true
refers_id_where true i n = refers_plain (id_text i n) (plain_id i n)
refers_id_where false i n = refl

refers_action_name : (s : ActionStatus) → refers (action_status_name s) ≡ true
refers_action_name action_status.Active = refl
refers_action_name action_status.Closing = refl
refers_action_name action_status.Closed = refl
refers_action_name action_status.FailedToClose = refl
refers_action_name action_status.Cancelling = refl
refers_action_name action_status.Cancelled = refl
refers_action_name action_status.FailedToCancel = refl

refers_member_name : (s : MemberStatus) → refers (member_status_name s) ≡ true
refers_member_name member_status.Active = refl
refers_member_name member_status.Completing = refl
refers_member_name member_status.Completed = refl
refers_member_name member_status.FailedToComplete = refl
refers_member_name member_status.Compensating = refl
refers_member_name member_status.Compensated = refl
refers_member_name member_status.FailedToCompensate = refl
refers_member_name member_status.Left = refl

refers_kind_name : (k : AskKind) → refers (ask_kind_name k) ≡ true
refers_kind_name ask.Complete = refl
refers_kind_name ask.Compensate = refl
refers_kind_name ask.Status = refl
refers_kind_name ask.Forget = refl
refers_kind_name ask.After = refl

unit_where : (t : Bool) (x y : List ℕ) → refers x ≡ true → refers y ≡ true → refers (if t then x else y) ≡ true
unit_where true x y p q = p
unit_where false x y p q = q

refers_unit : (ms : ℕ) → refers (span_unit ms) ≡ true
refers_unit ms =
    unit_where (nat_lt ms 120000) (codes " s") _ refl
    (unit_where (nat_lt ms 7200000) (codes " min") _ refl (unit_where (nat_lt ms 172800000) (codes " h") (codes " d")
    refl refl))

pub refers_head : refers HEAD.now ≡ true
refers_head = refl

pub refers_looks : refers LOOKS.now ≡ true
refers_looks = refl

pub refers_tables : refers TABLES.now ≡ true
refers_tables = refl

pub refers_night : refers NIGHT.now ≡ true
refers_night = refl

pub refers_key : refers KEY.now ≡ true
refers_key = refl

-- texts one after another, each of which refers
abbrev pub AllRefer : List (List ℕ) → Type 0
AllRefer [] = Unit {0}
AllRefer (text ∷ texts) = (refers text ≡ true) × AllRefer texts

pub refers_joined : (texts : List (List ℕ)) → AllRefer texts → refers (joined texts) ≡ true
refers_joined [] h = refl
refers_joined (text ∷ texts) h = skip text (joined texts) h.0 ∙ refers_joined texts h.1

-- each kind of text, before what follows it
pub skip_escaped : (text y : List ℕ) → refers (escaped text ++ y) ≡ refers y
skip_escaped text y = skip (escaped text) y (refers_escaped text)

pub skip_id : (i n : ℕ) (y : List ℕ) → refers (id_of i n ++ y) ≡ refers y
skip_id i n y = skip (id_of i n) y (refers_id_where (has_id n) i n)

pub skip_decimal : (n : ℕ) (y : List ℕ) → refers (decimal n ++ y) ≡ refers y
skip_decimal n y = skip (decimal n) y (refers_plain (decimal n) (plain_decimal n))

refers_span : (ms : ℕ) → refers (span ms) ≡ true
unfolding span
refers_span ms = refers_joined (decimal (span_count ms) ∷ span_unit ms ∷ [])
    (refers_plain (decimal (span_count ms)) (plain_decimal (span_count ms)), (refers_unit ms, tt))

pub skip_span : (ms : ℕ) (y : List ℕ) → refers (span ms ++ y) ≡ refers y
skip_span ms y = skip (span ms) y (refers_span ms)

pub skip_action : (s : ActionStatus) (y : List ℕ) → refers (action_status_name s ++ y) ≡ refers y
skip_action s y = skip (action_status_name s) y (refers_action_name s)

pub skip_member : (s : MemberStatus) (y : List ℕ) → refers (member_status_name s ++ y) ≡ refers y
skip_member s y = skip (member_status_name s) y (refers_member_name s)

pub skip_kind : (k : AskKind) (y : List ℕ) → refers (ask_kind_name k ++ y) ≡ refers y
skip_kind k y = skip (ask_kind_name k) y (refers_kind_name k)

pub skip_key : (y : List ℕ) → refers (KEY.now ++ y) ≡ refers y
skip_key y = skip KEY.now y refers_key

-- the texts of a list, one after another, if each refers
pub refers_flat : {X : Type 0} (f : X → List ℕ) → ((x : X) → refers (f x) ≡ true) → (xs : List X)
    → refers (flat_map f xs) ≡ true
refers_flat f h [] = refl
refers_flat f h (x ∷ xs) = skip (f x) (flat_map f xs) (h x) ∙ refers_flat f h xs

pub skip_by : (x y : List ℕ) → refers x ≡ true → refers (x ++ y) ≡ refers y
skip_by = skip
