-- The addresses that a member joins with fit as they are stored.
use Rattle.std.proofs.Common.{◌≡◌, ℕ, ◌+◌, ◌<◌, ◌≤◌, ◌/◌, ◌%◌, Bool, true, List, [], ◌∷◌, All, Option, Some, None, Ok}
use Rattle.std.proofs.Common.{Err, refl, ap, ◌∙◌, subst, ⊎_elim, arith}
use Rattle.std.proofs.lemmas.Bool.{cond_both, ltb-true}
use Rattle.std.specs.Prelude.{◌&&◌, ◌||◌, nat_lt, is_some, is_none, option_map, unwrap_or, Result}
use Rattle.std.specs.Option.{option_map_or}
use Rattle.std.specs.Result.{is_ok, result_ok}
use Rattle.std.specs.Str.{is_utf8}
use Rattle.std.proofs.lemmas.Str.{IsUtf8-from_is_utf8}
use Rattle.std.proofs.lemmas.List.Elements.{All-nil, All-cons, All-append}
use Rattle.lra_model.specs.Addresses.{Addresses}
use Rattle.lra_model.specs.Tests.{addresses_fit}
use Rattle.lra_laws.proofs.Tested.{both, and_intro}
use Rattle.lra_addresses.specs.declared.fault.UriFault.{UriFault}
use Rattle.lra_ids.specs.Addresses.{address_of, is_address}
use Rattle.lra_addresses.proofs.AddressFacts.{address_is_own}
use Rattle.lra_commands.specs.Calls.{is_text, are_texts}
use Rattle.lra_commands.specs.Deeds.{stored, stored_addresses}
use lib.Utf8.{scalar, scalar_cases, encode, encodes, scalars}

-- ---- a text is of bytes

abbrev AreBytes : List ℕ → Type 0
AreBytes text = All (λ b. b < 256) text

no_bytes : AreBytes []
no_bytes = All-nil (λ b. b < 256)

one_more : (a : ℕ) (text : List ℕ) → a < 256 → AreBytes text → AreBytes (a ∷ text)
one_more a text h k = All-cons (λ b. b < 256) a text h k

-- a byte that a character of four or fewer bytes goes on with
abbrev next : ℕ → ℕ
next c = 128 + c % 64

more_next : (c : ℕ) (text : List ℕ) → AreBytes text → AreBytes (next c ∷ text)
more_next c text k = let h : next c < 256 = omega arith in one_more (next c) text h k

character_bytes : (c : ℕ) → c < 1114112 → AreBytes (encode c)
unfolding encode
character_bytes c h =
    cond_both (nat_lt c 128) (c ∷ []) _ AreBytes (λ t. let low = ltb-true c 128 t in let k : c < 256 = omega arith in
    one_more c [] k no_bytes) λ t.
    cond_both (nat_lt c 2048) ((192 + c / 64) ∷ next c ∷ []) _ AreBytes
    (λ u. let low = ltb-true c 2048 u in let k : 192 + c / 64 < 256 = omega arith in
    one_more (192 + c / 64) (next c ∷ []) k (more_next c [] no_bytes)) λ u.
    cond_both (nat_lt c 65536) ((224 + c / 4096) ∷ next (c / 64) ∷ next c ∷ [])
    ((240 + c / 262144) ∷ next (c / 4096) ∷ next (c / 64) ∷ next c ∷ []) AreBytes
    (λ w. let low = ltb-true c 65536 w in let k : 224 + c / 4096 < 256 = omega arith in
    one_more (224 + c / 4096) (next (c / 64) ∷ next c ∷ []) k
    (more_next (c / 64) (next c ∷ []) (more_next c [] no_bytes)))
    λ w. let k : 240 + c / 262144 < 256 = omega arith in
    one_more (240 + c / 262144) (next (c / 4096) ∷ next (c / 64) ∷ next c ∷ []) k
    (more_next (c / 4096) (next (c / 64) ∷ next c ∷ [])
    (more_next (c / 64) (next c ∷ []) (more_next c [] no_bytes)))

characters_bytes : (cs : List ℕ) → scalars cs ≡ true → AreBytes (encodes cs)
characters_bytes [] h = no_bytes
characters_bytes (c ∷ cs) h =
    let k = both (scalar c) (scalars cs) h in
    All-append (λ b. b < 256) (encode c) (encodes cs) (character_bytes c (low k.0)) (characters_bytes cs k.1)
  where
    low : scalar c ≡ true → c < 1114112
    low g = ⊎_elim (λ (i : c < 55296). let z : c < 1114112 = omega arith in z)
        (λ (i : (57344 ≤ c) × (c < 1114112)). i.1) (scalar_cases c g)

text_bytes : (text : List ℕ) → is_utf8 text ≡ true → AreBytes text
text_bytes text h = let k = IsUtf8-from_is_utf8 text h in subst AreBytes k.1.1 (characters_bytes k.0 k.1.0)

-- ---- what is stored of an address

some_stored : (o : Option (List ℕ)) → is_some (option_map stored o) ≡ is_some o
some_stored None = refl
some_stored (Some text) = refl

none_stored : (o : Option (List ℕ)) → is_none (option_map stored o) ≡ is_none o
none_stored None = refl
none_stored (Some text) = refl

-- whether a text that may be there stands for an address, and whether it is one
abbrev stands : Option (List ℕ) → Bool
stands o = option_map_or (λ text. is_ok (address_of text)) o true

abbrev is_stored : Option (List ℕ) → Bool
is_stored o = option_map_or is_address o true

stored_is : (o : Option (List ℕ)) → is_text o ≡ true → stands o ≡ true → is_stored (option_map stored o) ≡ true
stored_is None h k = refl
stored_is (Some text) h k = by_answer (address_of text) refl k
  where
    by_answer : (r : Result (List ℕ) UriFault) → address_of text ≡ r → is_ok r ≡ true → is_address (stored text) ≡ true
    by_answer (Ok own) g i = ap (λ (r : Result (List ℕ) UriFault). is_address (unwrap_or (result_ok r) text)) g
        ∙ address_is_own text own (text_bytes text h) g
    by_answer (Err fault) g i = absurd cc

-- six tests that hold, and what each says
six : (p a b c d e p' a' b' c' d' e' : Bool) → p' ≡ p → (a ≡ true → a' ≡ true) → (b ≡ true → b' ≡ true)
    → (c ≡ true → c' ≡ true) → (d ≡ true → d' ≡ true) → (e ≡ true → e' ≡ true)
    → (p && a && b && c && d && e) ≡ true → (p' && a' && b' && c' && d' && e') ≡ true
six p a b c d e p' a' b' c' d' e' same ia ib ic id ie h =
    let k5 = both (p && a && b && c && d) e h in
    let k4 = both (p && a && b && c) d k5.0 in
    let k3 = both (p && a && b) c k4.0 in
    let k2 = both (p && a) b k3.0 in
    let k1 = both p a k2.0 in
    and_intro (p' && a' && b' && c' && d') e'
    (and_intro (p' && a' && b' && c') d' (and_intro (p' && a' && b') c'
    (and_intro (p' && a') b' (and_intro p' a' (same ∙ k1.0) (ia k1.1)) (ib k2.1)) (ic k3.1)) (id k4.1)) (ie k5.1)

-- which addresses there have to be
abbrev has_enough : Bool → Bool → Bool → Bool → Bool → Bool
has_enough compensate after complete status forget = compensate || (after && complete && status && forget)

pub stored_fit : (u : Addresses) → are_texts u ≡ true → addresses_fit (λ text. is_ok (address_of text)) u ≡ true
    → addresses_fit is_address (stored_addresses u) ≡ true
stored_fit u texts h =
    let t4 = both (is_text u.compensate && is_text u.complete && is_text u.status && is_text u.forget) (is_text u.after)
    texts in
    let t3 = both (is_text u.compensate && is_text u.complete && is_text u.status) (is_text u.forget) t4.0 in
    let t2 = both (is_text u.compensate && is_text u.complete) (is_text u.status) t3.0 in
    let t1 = both (is_text u.compensate) (is_text u.complete) t2.0 in
    six enough (stands u.compensate) (stands u.complete) (stands u.status) (stands u.forget) (stands u.after)
    stored_enough (is_stored (option_map stored u.compensate)) (is_stored (option_map stored u.complete))
    (is_stored (option_map stored u.status)) (is_stored (option_map stored u.forget))
    (is_stored (option_map stored u.after)) same (stored_is u.compensate t1.0) (stored_is u.complete t1.1)
    (stored_is u.status t2.1) (stored_is u.forget t3.1)
    (stored_is u.after t4.1) h
  where
    enough : Bool
    enough = has_enough (is_some u.compensate) (is_some u.after) (is_none u.complete) (is_none u.status)
        (is_none u.forget)

    stored_enough : Bool
    stored_enough =
        has_enough (is_some (option_map stored u.compensate)) (is_some (option_map stored u.after))
        (is_none (option_map stored u.complete)) (is_none (option_map stored u.status))
        (is_none (option_map stored u.forget))

    five : (a b c d e a' b' c' d' e' : Bool) → a' ≡ a → b' ≡ b → c' ≡ c → d' ≡ d → e' ≡ e → has_enough a' b' c' d' e'
        ≡ has_enough a b c d e
    five a b c d e a' b' c' d' e' i j k l m = cc

    same : stored_enough ≡ enough
    same = five _ _ _ _ _ _ _ _ _ _ (some_stored u.compensate) (some_stored u.after) (none_stored u.complete)
        (none_stored u.status) (none_stored u.forget)
