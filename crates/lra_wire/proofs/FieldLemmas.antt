-- The values of a name, a field at a time, and the digits of a number.
use Rattle.std.proofs.Common.{◌≡◌, ℕ, ◌+◌, ◌-◌, ◌<◌, ◌≤◌, Bool, true, false, cond, ◌&&◌, List, [], ◌∷◌, ◌++◌, length}
use Rattle.std.proofs.Common.{map, None, take, get_or, refl, sym, ap, subst, ◌∙◌, arith, suc, zero}
use Rattle.std.specs.Char.{is_ascii_digit, digit_value}
use Rattle.std.specs.List.{list_all}
use Rattle.std.specs.Str.Parse.{AllDigits, digits_value}
use Rattle.std.proofs.lemmas.Bool.Decides.{nat_tests}
use Rattle.std.proofs.lemmas.List.{take_more, map-append, append-nil}
use Rattle.std.proofs.lemmas.Str.Parse.{digits_value_short, numerals_by_value, tells_digits}
use Rattle.httparse.specs.declared.spans.HeaderSpan.{HeaderSpan}
use Rattle.httparse.specs.Spans.{header_bytes}
use Rattle.lra_wire.specs.declared.fields.Named.{Named}
use Rattle.lra_wire.specs.Fields.{is_alike, is_named, values_of}
use Rattle.lra_wire.specs.inner.Fields.{Shows}
use Rattle.lra_wire.specs.Request.{sole}

-- several values are no sole one
pub sole_several : (values : List (List ℕ)) → 1 < length values → sole values ≡ None
sole_several [] l = refl
sole_several (value ∷ []) l = absurd (omega (arith, l))
sole_several (value ∷ other ∷ values) l = refl

-- the value of one field, where it has the name
abbrev pub value_if : List ℕ → List ℕ × List ℕ → List (List ℕ)
value_if name field = cond (is_named name field) (field.1 ∷ []) []

pub values_of-push : (name : List ℕ) (fields : List (List ℕ × List ℕ)) (field : List ℕ × List ℕ)
    → values_of name (fields ++ field ∷ []) ≡ values_of name fields ++ value_if name field
values_of-push name [] field =
    elim (is_named name field) as (λ b. cond b (field.1 ∷ []) [] ≡ cond b (field.1 ∷ []) []) [
      | true ↦ refl
      | false ↦
          refl
    ]
values_of-push name (x ∷ fields) field =
    let e = values_of-push name fields field in
    elim (is_named name x) as (λ b. cond b (x.1 ∷ values_of name (fields ++ field ∷ []))
    (values_of name (fields ++ field ∷ []))
    ≡ cond b (x.1 ∷ values_of name fields) (values_of name fields) ++ value_if name field)
    [ true ↦ ap (λ vs. x.1 ∷ vs) e | false ↦ e ]

-- the values of the fields up to one more
pub values_more : (bytes : List ℕ) (fields : List HeaderSpan) (i : ℕ) (d : HeaderSpan) (name : List ℕ) → i
    < length fields
    → values_of name (map (header_bytes bytes) (take (i + 1) fields))
    ≡ values_of name (map (header_bytes bytes) (take i fields)) ++ value_if name
    (header_bytes bytes (get_or fields i d))
values_more bytes fields i d name h =
    ap (λ spans. values_of name (map (header_bytes bytes) spans)) (take_more fields i d h)
    ∙ ap (values_of name) (map-append (header_bytes bytes) (take i fields) (get_or fields i d ∷ []))
    ∙ values_of-push name (map (header_bytes bytes) (take i fields)) (header_bytes bytes (get_or fields i d))

digit_is : (b : ℕ) → is_ascii_digit b ≡ true → digit_value b < 10
digit_is b h = grind (arith, nat_tests)

and_true : (a b : Bool) → (a && b) ≡ true → (a ≡ true) × (b ≡ true)
and_true true b h = (refl, h)
and_true false b h = cc

pub digits_take : (i : ℕ) (bytes : List ℕ) → list_all is_ascii_digit bytes ≡ true → AllDigits 10 (take i bytes)
digits_take zero bytes h = tt
digits_take (suc i) [] h = tt
digits_take (suc i) (b ∷ bytes) h =
    let both = and_true (is_ascii_digit b) (list_all is_ascii_digit bytes) h in
    (digit_is b both.0, digits_take i bytes both.1)

pub digit_at : (i : ℕ) (bytes : List ℕ) → list_all is_ascii_digit bytes ≡ true → i < length bytes
    → is_ascii_digit (get_or bytes i 0) ≡ true
digit_at i [] h l = absurd (omega arith)
digit_at zero (b ∷ bytes) h l = (and_true (is_ascii_digit b) (list_all is_ascii_digit bytes) h).0
digit_at (suc i) (b ∷ bytes) h l = digit_at i bytes (and_true (is_ascii_digit b) (list_all is_ascii_digit bytes) h).1
    (omega arith)

-- a digit's byte, and the value of the digit
pub digit_byte : (i : ℕ) (bytes : List ℕ) → list_all is_ascii_digit bytes ≡ true → i < length bytes
    → (48 ≤ get_or bytes i 0) × (get_or bytes i 0 < 58) × (digit_value (get_or bytes i 0) ≡ get_or bytes i 0 - 48)
digit_byte i bytes h l = go (get_or bytes i 0) (digit_at i bytes h l)
  where
    go : (b : ℕ) → is_ascii_digit b ≡ true → (48 ≤ b) × (b < 58) × (digit_value b ≡ b - 48)
    go b h = (grind (arith, nat_tests), grind (arith, nat_tests), grind (arith, nat_tests))

-- 18 digits give a number of 18 digits
pub short_number : (i : ℕ) (bytes : List ℕ) → list_all is_ascii_digit bytes ≡ true → length (take i bytes) ≤ 18
    → digits_value 10 (take i bytes) < 1000000000000000000
short_number i bytes h l = digits_value_short (numerals_by_value (AllDigits 10) tells_digits) (take i bytes) 18
    (digits_take i bytes h) l

-- a span of no bytes
abbrev pub blank : HeaderSpan
blank = record { name = record { start = 0; end = 0 }; value = record { start = 0; end = 0 } }

pub values_hit : (bytes : List ℕ) (fields : List HeaderSpan) (i : ℕ) (name key value : List ℕ) → i < length fields
    → key ≡ (header_bytes bytes (get_or fields i blank)).0 → value ≡ (header_bytes bytes (get_or fields i blank)).1
    → is_alike key name ≡ true
    → values_of name (map (header_bytes bytes) (take (i + 1) fields)) ≡ values_of name
    (map (header_bytes bytes) (take i fields)) ++ value ∷ []
values_hit bytes fields i name key value h e v t =
    values_more bytes fields i blank name h
    ∙ ap (λ b. values_of name (map (header_bytes bytes) (take i fields))
    ++ cond b ((header_bytes bytes (get_or fields i blank)).1 ∷ []) []) (ap (λ k. is_alike k name) (sym e) ∙ t)
    ∙ ap (λ w. values_of name (map (header_bytes bytes) (take i fields)) ++ w ∷ []) (sym v)

pub values_miss : (bytes : List ℕ) (fields : List HeaderSpan) (i : ℕ) (name key : List ℕ) → i < length fields
    → key ≡ (header_bytes bytes (get_or fields i blank)).0 → is_alike key name ≡ false
    → values_of name (map (header_bytes bytes) (take (i + 1) fields)) ≡ values_of name
    (map (header_bytes bytes) (take i fields))
values_miss bytes fields i name key h e t =
    values_more bytes fields i blank name h
    ∙ ap (λ b. values_of name (map (header_bytes bytes) (take i fields))
    ++ cond b ((header_bytes bytes (get_or fields i blank)).1 ∷ []) []) (ap (λ k. is_alike k name) (sym e) ∙ t)
    ∙ append-nil _

-- the same of what equals both
pub shown : {found other : Named} {values others : List (List ℕ)} → other ≡ found → others ≡ values → Shows found values
    → Shows other others
shown {found} {other} {values} {others} e f h =
    let P : Named → Type 0 = λ n. Shows n others in
    let Q : List (List ℕ) → Type 0 = λ vs. Shows found vs in
    subst P (sym e) (subst Q (sym f) h)
