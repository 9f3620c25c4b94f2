-- Texts that name an action.
use Rattle.std.proofs.Common.{◌≡◌, ◌≢◌, ℕ, ◌+◌, ◌-◌, ◌<◌, List, ◌++◌, ◌^◌, length, take, drop, codes, Option, Some}
use Rattle.std.proofs.Common.{None, inl, inr, refl, sym, ap, subst, ◌∙◌, arith}
use Rattle.std.specs.Prelude.{IfNone}
use Rattle.std.specs.Str.{IsUtf8}
use Rattle.std.proofs.lemmas.List.{take-append-drop, length-append}
use Rattle.std.proofs.lemmas.Option.{none-some, same_Some}
use Rattle.std.proofs.lemmas.Str.{IsUtf8-from_ascii}
use Rattle.std.proofs.Math.Seq.{take-append_seam, drop-append_seam}
use Rattle.uuid.specs.Text.{lower}
use Rattle.uuid.proofs.TextLemmas.{hyphenated_ascii}
use Rattle.std.specs.Fmt.{decimal}
use Rattle.lra_entries.specs.Numbers.{number_of}
use Rattle.lra_entries.proofs.Numbers.{number_is, number_again}
use Rattle.lra_ids.specs.Identifiers.{IsSpelling, id_text, id_bytes, action_uri}
use Rattle.lra_ids.proofs.IdentifierFacts.{length-id_text}
use Rattle.lra_ids.specs.Bearing.{instance_in}
use Rattle.lra_ids.proofs.Bearings.{read_whole}
use Rattle.lra_timelines.specs.Wanted.{IsNamed, NamesNone}
use Rattle.lra_timelines.specs.inner.Ids.{IsSpelled, IsNoId, IsNoUri}

-- the number that a text spells
pub number_named : (text : List ℕ) (a : ℕ) → Some a ≡ number_of (2 ^ 64) text → text ≡ decimal a
number_named text a is = (number_is (2 ^ 64) text a (sym is)).0

-- a UUID names an action
pub id_names : (text : List ℕ) (a : ℕ) (o : Option ℕ) → IsSpelled text a o → IsNamed text a o
id_names text a None h = absurd h
id_names text a (Some i) h = inl h

-- a URI that ends in a UUID names an action
pub uri_names : (uri id : List ℕ) (a : ℕ) (o : Option ℕ) → ((base : List ℕ)
    × (uri ≡ base ++ codes "lra-coordinator/" ++ id)) → IsSpelled id a o → IsNamed uri a o
uri_names uri id a None at h = absurd h
uri_names uri id a (Some i) (base, at) h =
    inr (base, (h.0, h.1, at ∙ ap (λ (x : List ℕ). base ++ codes "lra-coordinator/" ++ x) h.2))

-- a URI by its parts
pub parts_whole : (uri front id base : List ℕ) (n : ℕ) → front ≡ take n uri → id ≡ drop n uri → front ≡ base
    ++ codes "lra-coordinator/" → uri ≡ base ++ codes "lra-coordinator/" ++ id
parts_whole uri front id base n f i b =
    sym (take-append-drop n uri) ∙ ap (λ (x : List ℕ). x ++ drop n uri) (sym f ∙ b)
    ∙ ap (λ (x : List ℕ). base ++ codes "lra-coordinator/" ++ x) (sym i)

-- ---- texts that name no action

-- a property that holds, holds if an option is None
pub where_none : {A X : Type 0} (o : Option A) → X → IfNone o X
where_none (Some a) x = tt
where_none None x = x

pub none_on : {A X Y : Type 0} (o : Option A) → (X → Y) → IfNone o X → IfNone o Y
none_on (Some a) f h = tt
none_on None f h = f h

-- a text that isn't read as a number spells none
pub number_unnamed : (text : List ℕ) (r : Option ℕ) → r ≡ None → r ≡ number_of (2 ^ 64) text → (a : ℕ) → a < 2 ^ 64
    → text ≢ decimal a
number_unnamed text r none is a lt same = none-some a (sym none ∙ is ∙ ap (number_of (2 ^ 64)) same
    ∙ number_again (2 ^ 64) a (omega arith) lt)

-- a text that bears no instance is no UUID of any
pub id_unborne : (text : List ℕ) (r : Option ℕ) → r ≡ None → r ≡ instance_in text → IsNoId text
id_unborne text r none is i n small spelled = none-some i (sym none ∙ is ∙ ap instance_in spelled.2
    ∙ read_whole i n (small, spelled.1))

-- a text that is the UUID of no number at the instance that it bears is no UUID of any
pub id_unread : (text : List ℕ) (j : ℕ) (q r : Option ℕ) → q ≡ instance_in text → q ≡ Some j
    → ((n : ℕ) → IsSpelling (id_text j) text n → r ≡ Some n) → r ≡ None → IsNoId text
id_unread text j q r is borne reads none i n small spelled =
    let same : i ≡ j = same_Some i j (sym (read_whole i n (small, spelled.1)) ∙ ap instance_in (sym spelled.2) ∙ sym is
    ∙ borne) in
    none-some n (sym none ∙ reads n (spelled.0, spelled.1, spelled.2 ∙ ap (λ (k : ℕ). id_text k n) same))

-- a URI's length
uri_length : (uri base : List ℕ) (i n : ℕ) → uri ≡ action_uri i base n → length uri
    ≡ length (base ++ codes "lra-coordinator/") + 36
uri_length uri base i n is =
    let all = length-append (base ++ codes "lra-coordinator/") (id_text i n) in
    let long = length-id_text i n in
    ap length is ∙ all ∙ ap (λ (k : ℕ). length (base ++ codes "lra-coordinator/") + k) long

-- a text that is no URI, over any base
abbrev pub IsNotSpelled : List ℕ → Type 0
IsNotSpelled uri = (base : List ℕ) (i n : ℕ) → uri ≢ action_uri i base n

-- a text that is shorter than an identifier is no URI
pub too_short : (uri : List ℕ) → length uri < 36 → IsNotSpelled uri
too_short uri short base i n is = absurd (let size = uri_length uri base i n is in omega (arith, size, short))

-- the part of a URI before its identifier
pub uri_front : (uri base : List ℕ) (i n at : ℕ) → uri ≡ action_uri i base n → at + 36 ≡ length uri → take at uri ≡ base
    ++ codes "lra-coordinator/"
uri_front uri base i n at is place =
    let size = uri_length uri base i n is in
    let same : at ≡ length (base ++ codes "lra-coordinator/") = omega (arith, size, place) in
    ap (λ (k : ℕ). take k uri) same ∙ ap (take (length (base ++ codes "lra-coordinator/"))) is
    ∙ take-append_seam (base ++ codes "lra-coordinator/") (id_text i n)

-- the identifier of a URI
pub uri_end : (uri base : List ℕ) (i n at : ℕ) → uri ≡ action_uri i base n → at + 36 ≡ length uri → drop at uri
    ≡ id_text i n
uri_end uri base i n at is place =
    let size = uri_length uri base i n is in
    let same : at ≡ length (base ++ codes "lra-coordinator/") = omega (arith, size, place) in
    ap (λ (k : ℕ). drop k uri) same ∙ ap (drop (length (base ++ codes "lra-coordinator/"))) is
    ∙ drop-append_seam (base ++ codes "lra-coordinator/") (id_text i n)

-- a text with another path before its end is no URI
pub path_lacks : (uri front : List ℕ) (at : ℕ) → at + 36 ≡ length uri → front ≡ take at uri
    → ((base : List ℕ) → front ≢ base ++ codes "lra-coordinator/") → IsNotSpelled uri
path_lacks uri front at place is none base i n same = none base (is ∙ uri_front uri base i n at same place)

-- an identifier is UTF-8
pub id_utf8 : (i n : ℕ) → IsUtf8 (id_text i n)
unfolding id_text
id_utf8 i n = IsUtf8-from_ascii (id_text i n) (hyphenated_ascii lower (id_bytes i n) (inl refl))

-- a text whose end isn't UTF-8 is no URI
pub end_lacks : (uri id : List ℕ) (at : ℕ) → at + 36 ≡ length uri → id ≡ drop at uri → (IsUtf8 id → ⊥)
    → IsNotSpelled uri
end_lacks uri id at place is none base i n same = none (subst IsUtf8 (sym (is ∙ uri_end uri base i n at same place))
    (id_utf8 i n))

-- a text whose end is no identifier is no URI
pub end_unread : (uri id : List ℕ) → id ≡ drop (length uri - 36) uri → IsNoId id → IsNoUri uri
end_unread uri id at none base i n small spelled =
    let size = uri_length uri base i n spelled.2 in
    let place : length uri - 36 + 36 ≡ length uri = omega (arith, size) in
    none i n small (spelled.0, spelled.1, at ∙ uri_end uri base i n (length uri - 36) spelled.2 place)

-- a text that is no number, no UUID and no URI names no action
pub names_none : (text : List ℕ) → ((a : ℕ) → a < 2 ^ 64 → text ≢ decimal a) → IsNoId text → IsNoUri text
    → NamesNone text
names_none text number id uri a None can is = number a can is
names_none text number id uri a (Some i) can (inl spelled) = id i a can spelled
names_none text number id uri a (Some i) can (inr (base, spelled)) = uri base i a can spelled
