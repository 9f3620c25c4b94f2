-- A text in the plain form is an address.
use Rattle.std.proofs.Common.{◌≡◌, ℕ, ◌<◌, ◌≤◌, ◌^◌, Bool, true, false, not, ◌&&◌, ◌||◌, ◌==◌, ◌⊎◌, inl, inr, List, []}
use Rattle.std.proofs.Common.{◌∷◌, ◌++◌, length, Option, Some, None, All, refl, sym, ap, ◌∙◌, subst, append-nil}
use Rattle.std.proofs.Common.{append_assoc, arith, lit<}
use Rattle.std.specs.Prelude.{codes}
use Rattle.std.specs.Fmt.{decimal}
use Rattle.std.specs.List.{list_all}
use Rattle.std.specs.Char.{is_ascii_digit, is_digit, is_ascii_graphic, to_ascii_lowercase}
use Rattle.std.proofs.lemmas.Bool.{cond-true, cond-false, cases_Bool, eq-eqb, eqb-true, and_parts, and_left, and_right}
use Rattle.std.proofs.lemmas.Bool.{and_from, or_from, both_ways, not-true, not-false, true≢false}
use Rattle.std.proofs.lemmas.Bool.Decides.{nat_tests}
use Rattle.std.specs.Str.{all_ascii_digits}
use Rattle.std.proofs.lemmas.Fmt.{digits_decimal}
use Rattle.std.proofs.lemmas.List.Folds.{list_all-append}
use Rattle.std.proofs.lemmas.List.Elements.{All-nil, All-cons, All-weaker}
use Rattle.url.specs.declared.host.Host.TheVariants.{Domain}
use Rattle.url.specs.declared.scheme.SchemeType.TheVariants.{SpecialNotFile}
use Rattle.url.specs.declared.sets.TheConstants.{PATH, FORBIDDEN_DOMAIN, USERINFO}
use Rattle.percent_encoding.specs.Percent.{IsKept}
use Rattle.url.specs.Input.{is_empty, rsplit_once, rsplit_step}
use Rattle.url.specs.Ipv4.{last_label_of, ends_in_a_number, split_radix, number_of, parse_number, is_number}
use Rattle.url.specs.Host.{IsDomain}
use Rattle.url.specs.Path.{dot_len, dot_count, join_segments, IsSegment, IsSegmentList}
use Rattle.url.specs.Scheme.{IsScheme, is_slash}
use Rattle.url.specs.Parts.{Parts, serialize, IsPortOf, IsValid}
use Rattle.url.proofs.InputLemmas.{Passes, is_empty_nonempty, map_fixed, list_all_from_All}
use Rattle.url.proofs.SetLemmas.{kept_from_passes}
use Rattle.url.proofs.OnLiterals.{url_on_literals}
use Rattle.lra_addresses.specs.Addresses.{is_address, is_http}
use Rattle.lra_addresses.proofs.ParsedValid.{http_kind}
use Rattle.lra_addresses.proofs.AddressFacts.{url_is_address}
use Rattle.lra_entries.specs.Numbers as words
use Rattle.lra_entries.proofs.Numbers.{own, number_is}
use Rattle.lra_rulings.specs.inner.Plain.{is_letter, is_name_byte, is_path_byte, is_host, is_path, port_text, IsPort}
use Rattle.lra_rulings.specs.inner.Plain.{IsAuthority}

-- ---- the path

-- the bytes up to the next slash, and the segments behind it
record Split (fresh : Bool) (xs : List ℕ) : Type 0 where
  first : List ℕ
  others : List (List ℕ)
  joined : xs ≡ first ++ join_segments others
  plain : All (Passes is_path_byte) first
  undotted : fresh ≡ true → dot_len first ≡ 0
  each : All (IsSegment SpecialNotFile) others

path_byte_ascii : (b : ℕ) → is_path_byte b ≡ true → b < 128
path_byte_ascii b h = grind (arith, nat_tests)

segment : (xs : List ℕ) → All (Passes is_path_byte) xs → dot_len xs ≡ 0 → IsSegment SpecialNotFile xs
unfolding dot_count
segment xs plain none = record {
  escaped = All-weaker (Passes is_path_byte) (IsKept PATH) (λ b h. kept_from_passes is_path_byte PATH refl b
      (path_byte_ascii b h) h) xs plain;
  whole = All-weaker (Passes is_path_byte) (λ b. is_slash SpecialNotFile b ≡ false) (λ b h. grind (arith, nat_tests)) xs
      plain;
  resolved = rw none;
}

no_dot : (b : ℕ) (xs : List ℕ) → is_path_byte b ≡ true → (b == 46) ≡ false → dot_len (b ∷ xs) ≡ 0
no_dot b xs h other = let no_escape : (b == 37) ≡ false = grind (arith, nat_tests) in rw (other, no_escape) refl

split_path : (fresh : Bool) (xs : List ℕ) → is_path fresh xs ≡ true → Split fresh xs
unfolding is_path
split_path fresh [] h = record {
  first = [];
  others = [];
  joined = refl;
  plain = All-nil (Passes is_path_byte);
  undotted = λ _. refl;
  each = All-nil (IsSegment SpecialNotFile);
}
split_path fresh (b ∷ xs) h = elim (cases_Bool (b == 47)) [
  | inl slash ↦
      let later = split_path true xs (sym (cond-true (b == 47) _ _ slash) ∙ h) in
      let here : b ≡ 47 = eqb-true b 47 slash in
      record {
        first = [];
        others = later.first ∷ later.others;
        joined = (λ i. here i ∷ later.joined i);
        plain = All-nil (Passes is_path_byte);
        undotted = λ _. refl;
        each = All-cons (IsSegment SpecialNotFile) later.first later.others
            (segment later.first later.plain (later.undotted refl)) later.each;
      }
  | inr other ↦
      let parts = and_parts (is_path_byte b && not (fresh && b == 46)) _ (sym (cond-false (b == 47) _ _ other) ∙ h) in
      let both = and_parts (is_path_byte b) _ parts.0 in
      let later = split_path false xs parts.1 in
      record {
        first = b ∷ later.first;
        others = later.others;
        joined = ap (λ l. b ∷ l) later.joined;
        plain = All-cons (Passes is_path_byte) b later.first both.0 later.plain;
        undotted = λ e. no_dot b later.first both.0 (let undotted : not (b == 46) ≡ true = (rw e at both.1) in
            not-true _ undotted);
        each = later.each;
      }
]

path_list : (rest : List ℕ) → is_path true rest ≡ true → IsSegmentList SpecialNotFile (47 ∷ rest)
path_list rest h =
    let split = split_path true rest h in
    record {
      segments = split.first ∷ split.others;
      joined = ap (λ l. 47 ∷ l) split.joined;
      each = All-cons (IsSegment SpecialNotFile) split.first split.others
          (segment split.first split.plain (split.undotted refl)) split.each;
    }

-- ---- the host

abbrev is_host_byte : ℕ → Bool
is_host_byte b = is_name_byte b || b == 46

host_bytes : (fresh : Bool) (xs : List ℕ) → is_host fresh xs ≡ true → All (Passes is_host_byte) xs
unfolding is_host
host_bytes fresh [] h = All-nil (Passes is_host_byte)
host_bytes fresh (b ∷ xs) h = elim (cases_Bool (b == 46)) [
  | inl dot ↦ All-cons (Passes is_host_byte) b xs (grind (arith, nat_tests))
      (host_bytes true xs (and_parts (not fresh) _ (sym (cond-true (b == 46) _ _ dot) ∙ h)).1)
  | inr other ↦
      let parts = and_parts (is_name_byte b && not (fresh && not (is_letter b))) _
      (sym (cond-false (b == 46) _ _ other) ∙ h) in
      let name = (and_parts (is_name_byte b) _ parts.0).0 in
      All-cons (Passes is_host_byte) b xs (rw name refl) (host_bytes false xs parts.1)
]

-- it begins with a letter
record Lettered (xs : List ℕ) : Type 0 where
  letter : ℕ
  others : List ℕ
  begins : xs ≡ letter ∷ others
  is_one : is_letter letter ≡ true

-- what stands behind the last dot begins with a letter
abbrev LastNamed : Bool → Option (List ℕ) × List ℕ → Type 0
LastNamed fresh r = ((r.0 ≡ None) × (fresh ≡ true → Lettered r.1)) ⊎ (((front : List ℕ) × (r.0 ≡ Some front))
    × Lettered r.1)

last_named : (fresh : Bool) (xs : List ℕ) → is_host fresh xs ≡ true → LastNamed fresh (rsplit_once 46 xs)
unfolding is_host rsplit_once
last_named fresh [] h = inl (refl, λ e. absurd (let no : not true ≡ true = (rw e at h) in true≢false (sym no)))
last_named fresh (b ∷ xs) h = elim (cases_Bool (b == 46)) [
  | inl dot ↦
      step_dot (rsplit_once 46 xs).0 (rsplit_once 46 xs).1 dot (last_named true xs
      (and_parts (not fresh) _ (sym (cond-true (b == 46) _ _ dot) ∙ h)).1)
  | inr other ↦
      let parts = and_parts (is_name_byte b && not (fresh && not (is_letter b))) _
      (sym (cond-false (b == 46) _ _ other) ∙ h) in
      step_name (rsplit_once 46 xs).0 (rsplit_once 46 xs).1 other (and_parts (is_name_byte b) _ parts.0).1
      (last_named false xs parts.1)
]
  where
    step_dot : (front : Option (List ℕ)) (back : List ℕ) → (b == 46) ≡ true → LastNamed true (front, back)
        → LastNamed fresh (rsplit_step 46 b front back)
    step_dot (Some front) back dot (inl none) = absurd (let no : Some front ≡ None = none.0 in cc)
    step_dot (Some front) back dot (inr some) = inr ((b ∷ front, refl), some.1)
    step_dot None back dot (inl none) = rw dot (inr (([], refl), none.1 refl))
    step_dot None back dot (inr some) = absurd (let no : None ≡ Some some.0.0 = some.0.1 in cc)

    step_name : (front : Option (List ℕ)) (back : List ℕ) → (b == 46) ≡ false → not (fresh && not (is_letter b)) ≡ true
        → LastNamed false (front, back) → LastNamed fresh (rsplit_step 46 b front back)
    step_name (Some front) back other named later = inr (
      (b ∷ front, refl),
      elim later [
        | inl none ↦ absurd (let no : Some front ≡ None = none.0 in cc)
        | inr some ↦
            some.1
      ],
    )
    step_name None back other named later = rw other
        (inl (
          refl,
          λ e. record {
            letter = b;
            others = back;
            begins = refl;
            is_one = let is : not (not (is_letter b)) ≡ true = (rw e at named) in not-false _ (not-true _ is);
          },
        ))

letter_no_digit : (b : ℕ) → is_letter b ≡ true → (is_ascii_digit b ≡ false) × (is_digit b 10 ≡ false)
    × ((b == 48) ≡ false)
letter_no_digit b h = (grind (arith, nat_tests), grind (arith, nat_tests), grind (arith, nat_tests))

no_number : (c : ℕ) (label : List ℕ) → is_letter c ≡ true → is_number (parse_number (c ∷ label)) ≡ false
unfolding parse_number
no_number c label h =
    let no = letter_no_digit c h in
    let split : split_radix (c ∷ label) ≡ (10, c ∷ label) = rw (no.2) refl in
    ap is_number (cond-false _ _ _ (is_empty_nonempty (c ∷ label) (omega arith))
    ∙ ap (λ (s : ℕ × List ℕ). number_of s.0 s.1) split ∙ cond-false _ _ _ (and_left _ _ no.1))

named_label : (label : List ℕ) → Lettered label → ((not (is_empty label) && list_all is_ascii_digit label)
    || is_number (parse_number label)) ≡ false
named_label label named =
    let digit : is_ascii_digit named.letter ≡ false = (letter_no_digit named.letter named.is_one).0 in
    let tested : (not (is_empty (named.letter ∷ named.others)) && (is_ascii_digit named.letter
    && list_all is_ascii_digit named.others)) ≡ false = and_right _ _ (and_left _ _ digit) in
    rw (named.begins) (or_from _ _ tested (no_number named.letter named.others named.is_one))

host_named : (xs : List ℕ) → is_host true xs ≡ true → ends_in_a_number xs ≡ false
unfolding ends_in_a_number
host_named xs h = at (rsplit_once 46 xs) (last_named true xs h)
  where
    at : (r : Option (List ℕ) × List ℕ) → LastNamed true r
        → ((not (is_empty (last_label_of r.0 r.1)) && list_all is_ascii_digit (last_label_of r.0 r.1))
        || is_number (parse_number (last_label_of r.0 r.1))) ≡ false
    at r (inl none) = rw (none.0) (named_label r.1 (none.1 refl))
    at r (inr some) =
        let full : is_empty r.1 ≡ false = rw (some.1.begins) (is_empty_nonempty (some.1.letter ∷ some.1.others)
        (omega arith)) in
        rw (some.0.1, full) (named_label r.1 some.1)

host_nonempty : (xs : List ℕ) → is_host true xs ≡ true → 0 < length xs
unfolding is_host
host_nonempty [] h = absurd (true≢false (sym h))
host_nonempty (b ∷ xs) h = omega arith

host_domain : (xs : List ℕ) → is_host true xs ≡ true → IsDomain xs
host_domain xs h =
    let bytes = host_bytes true xs h in
    record {
      allowed = All-weaker (Passes is_host_byte) (IsKept FORBIDDEN_DOMAIN)
          (λ b passes. kept_from_passes is_host_byte FORBIDDEN_DOMAIN refl b (grind (arith, nat_tests)) passes) xs
          bytes;
      lower = map_fixed to_ascii_lowercase xs (All-weaker (Passes is_host_byte) (λ b. to_ascii_lowercase b ≡ b)
          (λ b passes. grind (arith, nat_tests)) xs bytes);
      named = host_named xs h;
    }

-- ---- the whole

-- the URL of a host, a port and what stands behind the first slash of a path
abbrev plain_url : List ℕ → Option ℕ → List ℕ → Parts
plain_url host port rest = record {
  scheme = codes "http";
  username = [];
  password = [];
  host = Some (Domain host);
  port = port;
  path = 47 ∷ rest;
  query = None;
  fragment = None;
}

plain_port : (port : Option ℕ) → IsPort port → IsPortOf (codes "http") port
unfolding url_on_literals
plain_port None is = tt
plain_port (Some n) is = (is.0, λ same. is.1 (let e : Some 80 ≡ Some n = same in cc))

plain_scheme : IsScheme (codes "http")
unfolding url_on_literals
plain_scheme = record { nonempty = lit< tt; whole = refl; lower = refl }

plain_valid : (host : List ℕ) (port : Option ℕ) (rest : List ℕ) → is_host true host ≡ true → IsPort port
    → is_path true rest ≡ true → IsValid (plain_url host port rest)
plain_valid host port rest is_name is_port is_rest =
    let full : is_empty host ≡ false = is_empty_nonempty host (host_nonempty host is_name) in
    record {
      head = record {
        scheme = plain_scheme;
        username = All-nil (IsKept USERINFO);
        password = All-nil (IsKept USERINFO);
        host = rw http_kind (host_domain host is_name, host_nonempty host is_name);
        port = plain_port port is_port;
        bare = λ can. let never = rw (full, http_kind) at can in cc;
      };
      path = inl (rw http_kind (path_list rest is_rest), λ _. omega arith);
      query = tt;
      fragment = tt;
    }

plain_text : (host : List ℕ) (port : Option ℕ) (rest : List ℕ) → serialize (plain_url host port rest) ≡ codes "http://"
    ++ (host ++ (port_text port ++ 47 ∷ rest))
plain_text host None rest = ap (λ (t : List ℕ). codes "http://" ++ (host ++ (47 ∷ t))) (append-nil rest)
plain_text host (Some n) rest = ap (λ (t : List ℕ). codes "http://" ++ (host ++ (58 ∷ (decimal n ++ (47 ∷ t)))))
    (append-nil rest)

-- ---- all of its bytes can be seen

path_graphic : (fresh : Bool) (xs : List ℕ) → is_path fresh xs ≡ true → list_all is_ascii_graphic xs ≡ true
unfolding is_path
path_graphic fresh [] h = refl
path_graphic fresh (b ∷ xs) h = elim (cases_Bool (b == 47)) [
  | inl slash ↦ and_from _ _ (grind (arith, nat_tests)) (path_graphic true xs (sym (cond-true (b == 47) _ _ slash) ∙ h))
  | inr other ↦
      let parts = and_parts (is_path_byte b && not (fresh && b == 46)) _ (sym (cond-false (b == 47) _ _ other) ∙ h) in
      let seen : is_path_byte b ≡ true = (and_parts (is_path_byte b) _ parts.0).0 in
      and_from _ _ (grind (arith, nat_tests)) (path_graphic false xs parts.1)
]

digits_graphic : (xs : List ℕ) → all_ascii_digits xs ≡ true → list_all is_ascii_graphic xs ≡ true
digits_graphic [] h = refl
digits_graphic (b ∷ xs) h =
    let parts = and_parts (is_ascii_digit b) _ h in
    let digit : is_ascii_digit b ≡ true = parts.0 in
    and_from _ _ (grind (arith, nat_tests)) (digits_graphic xs parts.1)

port_graphic : (port : Option ℕ) → IsPort port → list_all is_ascii_graphic (port_text port) ≡ true
port_graphic None is = refl
port_graphic (Some n) is = digits_graphic (decimal n) (digits_decimal own n (omega (arith, is.0)))

host_graphic : (xs : List ℕ) → is_host true xs ≡ true → list_all is_ascii_graphic xs ≡ true
host_graphic xs h = list_all_from_All is_ascii_graphic xs (All-weaker (Passes is_host_byte) (Passes is_ascii_graphic)
    (λ b passes. grind (arith, nat_tests)) xs (host_bytes true xs h))

plain_graphic : (host : List ℕ) (port : Option ℕ) (rest : List ℕ) → is_host true host ≡ true → IsPort port
    → is_path true rest ≡ true → list_all is_ascii_graphic (codes "http://" ++ (host ++ (port_text port ++ 47 ∷ rest)))
    ≡ true
plain_graphic host port rest is_name is_port is_rest =
    let behind = list_all-append is_ascii_graphic (port_text port) (47 ∷ rest)
    ∙ and_from _ _ (port_graphic port is_port) (path_graphic true rest is_rest) in
    list_all-append is_ascii_graphic host (port_text port ++ 47 ∷ rest)
    ∙ and_from _ _ (host_graphic host is_name) behind

-- a text in the plain form is an address
plain_is_address : (text host : List ℕ) (port : Option ℕ) (rest : List ℕ) → length text ≤ 512
    → is_host true host ≡ true → IsPort port → is_path true rest ≡ true → text ≡ codes "http://"
    ++ (host ++ (port_text port ++ 47 ∷ rest)) → is_address text ≡ true
plain_is_address text host port rest short is_name is_port is_rest same =
    let url = plain_url host port rest in
    let own_text : serialize url ≡ text = plain_text host port rest ∙ sym same in
    let http : is_http url ≡ true = subst (λ (t : List ℕ). list_all is_ascii_graphic t ≡ true)
    (sym (plain_text host port rest)) (plain_graphic host port rest is_name is_port is_rest) in
    subst (λ (t : List ℕ). is_address t ≡ true) own_text (url_is_address url
    (plain_valid host port rest is_name is_port is_rest) http (subst (λ (t : List ℕ). length t ≤ 512) (sym own_text)
    short)).own

-- a number that a port is
pub port_named : (digits : List ℕ) (n : ℕ) → Some n ≡ words.number_of (2 ^ 64) digits → n < 65536 → not (n == 80) ≡ true
    → (m : ℕ) × (digits ≡ decimal m) × IsPort (Some m)
port_named digits n e small other = (
  n,
  (number_is (2 ^ 64) digits n (sym e)).0,
  (small, λ same. both_ways _ (not-true _ other) (eq-eqb n 80 same)),
)

-- a host, and a colon and a port behind it
pub authority_named : (bytes host digits : List ℕ) → bytes ≡ host ++ 58 ∷ digits → is_host true host ≡ true → (m : ℕ)
    × (digits ≡ decimal m) × IsPort (Some m) → IsAuthority bytes
authority_named bytes host digits begins is_name port = record {
  host = host;
  port = Some port.0;
  is_name = is_name;
  is_port = port.2;
  spelled = begins ∙ ap (λ (t : List ℕ). host ++ 58 ∷ t) port.1;
}

pub authority_alone : (bytes : List ℕ) → is_host true bytes ≡ true → IsAuthority bytes
authority_alone bytes is_name = record {
  host = bytes;
  port = None;
  is_name = is_name;
  is_port = tt;
  spelled =
      sym (append-nil bytes);
}

-- `http://`, an authority and a path
pub plain_named : (text rest authority path : List ℕ) → length text ≤ 512 → text ≡ codes "http://" ++ rest → rest
    ≡ authority ++ 47 ∷ path → IsAuthority authority → is_path true path ≡ true → is_address text ≡ true
plain_named text rest authority path short begins whole named is_rest =
    plain_is_address text named.host named.port path short named.is_name named.is_port is_rest
    (begins ∙ ap (λ (t : List ℕ). codes "http://" ++ t) (whole ∙ ap (λ (t : List ℕ). t ++ 47 ∷ path) named.spelled
    ∙ append_assoc named.host (port_text named.port) (47 ∷ path)))
