-- An `http` URL that the parser gives is valid.
use Rattle.std.proofs.Common.{◌≡◌, ℕ, zero, suc, ◌≤◌, ◌-◌, ◌*◌, ◌/◌, length-append, cond, lit<, ◌+◌, ◌<◌, ◌^◌, inl, inr}
use Rattle.std.proofs.Common.{Bool, true, false, not, ◌&&◌, ◌||◌, ◌==◌, List, [], ◌∷◌, ◌++◌, length, take, drop, get_or}
use Rattle.std.proofs.Common.{Option, Some, None, Ok, Err, All, IfSome, sym, refl, ap, ◌∙◌, subst, arith, ⊎_elim}
use Rattle.std.specs.Prelude.{codes, nat_lt, unwrap_or, is_some, slice_index}
use Rattle.std.specs.List.{list_any, prefix_len, suffix_len}
use Rattle.std.specs.Int.{w32, to_be_bytes}
use Rattle.std.specs.Net.Addr.{segments_of}
use Rattle.std.specs.Net.Reader.{whole_value, read_ipv6}
use Rattle.std.proofs.Math.Nat.{pow-le-pow_right}
use Rattle.std.proofs.lemmas.List.{length-replicate}
use Rattle.std.proofs.NetLemmas.Ipv6.{read_ipv6_sound}
use Rattle.url.specs.Ipv4.{ends_in_a_number}
use Rattle.url.proofs.HostLemmas.{none_from_list_any, ascii_domain-lower}
use Rattle.url.proofs.PiecesLemmas.{option_cases}
use Rattle.std.proofs.lemmas.Bool.{cond_both, and_parts, both_ways, not-true}
use Rattle.std.proofs.lemmas.Bool.Decides.{nat_tests}
use Rattle.std.proofs.lemmas.List.Elements.{All-nil, All-cons, All-head, All-tail, All-append, All-take, All-drop}
use Rattle.std.proofs.lemmas.List.Elements.{All-filter}
use Rattle.std.specs.Prelude.{replicate}
use Rattle.std.specs.Net.Grammar.{IsGroup, IsGroupsAfter, IsColonHex}
use Rattle.std.proofs.NetLemmas.Texts.{AllSegments}
use Rattle.std.proofs.lemmas.Int.Digits.{digits_value-lt}
use Rattle.url.specs.declared.error.ParseError.{ParseError}
use Rattle.url.specs.declared.host.Host.{Host}
use Rattle.url.specs.declared.host.Host.TheVariants.{Domain, Ipv4, Ipv6}
use Rattle.url.specs.declared.scheme.SchemeType.{SchemeType}
use Rattle.url.specs.declared.scheme.SchemeType.TheVariants.{File, SpecialNotFile, NotSpecial}
use Rattle.url.specs.Input.{is_empty, is_c0_control_or_space, is_tab_or_new_line, lowercase, trim_start, rsplit_once}
use Rattle.url.specs.Input.{split_once, trim_c0_control_and_space, strip_tabs_and_new_lines}
use Rattle.url.specs.Scheme.{IsScheme, scheme_len, scheme_type, default_port, is_special, is_file, is_slash}
use Rattle.url.specs.Host.{parse_host, parse_file_host, parse_special_host, parse_bracketed, parse_domain, ascii_domain}
use Rattle.url.specs.Host.{host_of_ascii, ipv4_host, ipv6_host, is_forbidden_in_domain, IsHostOf, is_empty_host}
use Rattle.url.specs.Path.{segment_len, is_windows_drive_letter, push_segment, parse_segments, parse_path}
use Rattle.url.specs.Path.{parse_path_start, IsSegmentList}
use Rattle.url.specs.Parts.{Parts, kind_of, IsPortOf, IsValidHead, IsValidPath, IsValid}
use Rattle.url.specs.Head.{with_authority, scheme_only}
use Rattle.std.specs.Prelude.{nat_eq}
use Rattle.std.specs.Option.{option_eq}
use Rattle.std.specs.List.{list_all}
use Rattle.std.specs.Char.{is_ascii_digit}
use Rattle.std.specs.Str.Parse.{digits_value}
use Rattle.std.proofs.lemmas.Bool.{ltb-true}
use Rattle.url.specs.Path.{escape_end}
use Rattle.url.specs.Parser.{Parsed, skip_slashes, end_path, and_then, lacks_host, split_port, parse_port}
use Rattle.url.specs.Parser.{parse_authority, with_path, after_double_slash, parse_non_special, leading_slashes}
use Rattle.url.specs.Parser.{after_file_double_slash, parse_file, parse_body, with_tail, before_tail, parse_parts}
use Rattle.url.specs.Parser.{split_scheme, parse_by_scheme, parse_url}
use Rattle.url.proofs.LayoutLemmas.{IsValidHead_same}
use Rattle.url.proofs.PathLemmas.{IsNoSlash, no_segments, push_segment_valid, push_last_nonempty}
use Rattle.url.proofs.ValidLemmas.{userinfo_encoded, IsValid-with_tail}
use Rattle.url.proofs.SchemeLemmas.{file_from_scheme_type, file_from_is_file}
use Rattle.url.proofs.ParsedCanonical.{before_special}
use Rattle.url.proofs.OnLiterals.{url_on_literals}
use Rattle.lra_addresses.proofs.Remainders.{remainders_fit}

abbrev IsByte : ℕ → Type 0
IsByte b = b < 256

-- ---- steps of the parser

ok_then : {A B P : Type 0} (r : Parsed A) (next : A → Parsed B) (y : B) → and_then r next ≡ Ok y
    → ((x : A) → r ≡ Ok x → next x ≡ Ok y → P) → P
ok_then (Ok x) next y e k = k x refl e
ok_then (Err d) next y e k = cc

by_test : {A P : Type 0} (test : Bool) (r s : Parsed A) (y : A) → cond test r s ≡ Ok y → (test ≡ true → r ≡ Ok y → P)
    → (test ≡ false → s ≡ Ok y → P) → P
by_test true r s y e k l = k refl e
by_test false r s y e k l = l refl e

past_error : {A : Type 0} (test : Bool) (d : ParseError) (r : Parsed A) (y : A) → cond test (Err d) r ≡ Ok y
    → (test ≡ false) × (r ≡ Ok y)
past_error true d r y e = cc
past_error false d r y e = (refl, e)

same_ok : {A : Type 0} (x y : A) → ◌≡◌ {A = Parsed A} (Ok x) (Ok y) → x ≡ y
same_ok x y e = cc

-- ---- the scheme is kept

abbrev Keeps : List ℕ → Parts → Type 0
Keeps scheme url = url.scheme ≡ scheme

kept_authority : (scheme bytes : List ℕ) (head : Parts) → parse_authority scheme bytes ≡ Ok head → Keeps scheme head
unfolding parse_authority
kept_authority scheme bytes head e =
    let text = (split_port (rsplit_once 64 bytes).1).0 in
    let lacks = lacks_host (rsplit_once 64 bytes).0 text (split_port (rsplit_once 64 bytes).1).1 in
    ok_then (parse_host (scheme_type scheme) text) _ head (past_error lacks _ _ head e).1 λ host _ e₁.
    ok_then (parse_port scheme (unwrap_or (split_port (rsplit_once 64 bytes).1).1 [])) _ head e₁ λ port _ e₂.
    sym (ap (λ u. u.scheme) (same_ok _ head e₂))

kept_slashes : (scheme bytes : List ℕ) (url : Parts) → after_double_slash scheme bytes ≡ Ok url → Keeps scheme url
unfolding after_double_slash
kept_slashes scheme bytes url e =
    let kind = scheme_type scheme in
    let len = segment_len kind bytes in
    ok_then (parse_authority scheme (take len bytes)) _ url e λ head read k.
    subst (Keeps scheme) (same_ok (with_path head (parse_path_start kind [] (drop len bytes))) url k)
    (kept_authority scheme (take len bytes) head read)

kept_plain : (scheme path : List ℕ) (url : Parts) → ◌≡◌ {A = Parsed Parts} (Ok (with_path (scheme_only scheme) path))
    (Ok url) → Keeps scheme url
kept_plain scheme path url e = subst (Keeps scheme) (same_ok (with_path (scheme_only scheme) path) url e) refl

kept_non_special : (scheme body : List ℕ) (url : Parts) → parse_non_special scheme body ≡ Ok url → Keeps scheme url
unfolding parse_non_special
kept_non_special scheme body url e =
    by_test (leading_slashes NotSpecial body == 2) _ _ url e (λ _ k. kept_slashes scheme (drop 2 body) url k) λ _ k.
    by_test (leading_slashes NotSpecial body == 1) _ _ url k (λ _ l. kept_plain scheme _ url l)
    (λ _ l. kept_plain scheme _ url l)

kept_file_slashes : (bytes : List ℕ) (url : Parts) → after_file_double_slash bytes ≡ Ok url → Keeps (codes "file") url
unfolding after_file_double_slash
kept_file_slashes bytes url e =
    let len = segment_len File bytes in
    by_test (is_windows_drive_letter (take len bytes)) _ _ url e (λ _ k. subst (Keeps (codes "file")) (same_ok _ url k)
    refl) λ _ k.
    ok_then (parse_file_host (take len bytes)) _ url k λ host read l.
    subst (Keeps (codes "file")) (same_ok _ url l) refl

kept_file : (body : List ℕ) (url : Parts) → parse_file None body ≡ Ok url → Keeps (codes "file") url
unfolding parse_file
kept_file body url e =
    by_test (leading_slashes File body == 2) _ _ url e (λ _ k. kept_file_slashes _ url k)
    (λ _ k. subst (Keeps (codes "file")) (same_ok _ url k) refl)

kept_body : (scheme body : List ℕ) (url : Parts) → parse_body scheme None body ≡ Ok url → Keeps scheme url
unfolding parse_body
kept_body scheme body url e =
    by_test (is_file (scheme_type scheme)) _ _ url e
    (λ file k. kept_file body url k ∙ sym (file_from_scheme_type scheme (file_from_is_file _ file))) λ _ k.
    by_test (is_special (scheme_type scheme)) _ _ url k (λ _ l. kept_slashes scheme _ url l)
    (λ _ l. kept_non_special scheme body url l)

-- ---- bytes stay bytes

front_bytes : (separator : ℕ) (text : List ℕ) → All IsByte text → All IsByte (split_once separator text).0
unfolding split_once
front_bytes separator [] bytes = All-nil IsByte
front_bytes separator (b ∷ text) bytes =
    cond_both {A = List ℕ × Option (List ℕ)} (b == separator) ([], Some text)
    (b ∷ (split_once separator text).0, (split_once separator text).1) (λ p. All IsByte p.0)
    (λ _. All-nil IsByte)
    (λ _. All-cons IsByte b (split_once separator text).0 (All-head IsByte b text bytes)
    (front_bytes separator text (All-tail IsByte b text bytes)))

trimmed_bytes : (text : List ℕ) → All IsByte text → All IsByte (strip_tabs_and_new_lines
    (trim_c0_control_and_space text))
unfolding strip_tabs_and_new_lines trim_c0_control_and_space
trimmed_bytes text bytes =
    let start = trim_start is_c0_control_or_space text in
    let trimmed = take (length start - suffix_len is_c0_control_or_space start) start in
    All-filter (λ b. not (is_tab_or_new_line b)) IsByte trimmed (All-take IsByte
    (length start - suffix_len is_c0_control_or_space start) start
    (All-drop IsByte (prefix_len is_c0_control_or_space text) text bytes))

-- ---- the path

segments_valid : (kind : SchemeType) (bytes path segment : List ℕ) → All IsByte bytes → All IsByte segment
    → All (IsNoSlash kind) segment → IsSegmentList kind path
    → IsSegmentList kind (parse_segments kind path segment bytes) × (0
    < length (parse_segments kind path segment bytes))
unfolding parse_segments
segments_valid kind [] path segment bytes segment_bytes whole list =
    (push_segment_valid kind path segment true segment_bytes whole list, push_last_nonempty kind path segment)
segments_valid kind (b ∷ rest) path segment bytes segment_bytes whole list =
    let later = All-tail IsByte b rest bytes in
    let P : List ℕ → Type 0 = λ p. IsSegmentList kind p × (0 < length p) in
    cond_both (is_slash kind b) (parse_segments kind (push_segment kind path segment false) [] rest)
    (parse_segments kind path (segment ++ b ∷ []) rest) P
    (λ _. segments_valid kind rest (push_segment kind path segment false) [] later (All-nil IsByte)
    (All-nil (IsNoSlash kind)) (push_segment_valid kind path segment false segment_bytes whole list))
    (λ other. segments_valid kind rest path (segment ++ b ∷ []) later
    (All-append IsByte segment (b ∷ []) segment_bytes (All-cons IsByte b [] (All-head IsByte b rest bytes)
    (All-nil IsByte)))
    (All-append (IsNoSlash kind) segment (b ∷ []) whole (All-cons (IsNoSlash kind) b [] other
    (All-nil (IsNoSlash kind)))) list)

path_valid : (kind : SchemeType) (bytes : List ℕ) → is_special kind ≡ true → All IsByte bytes
    → IsSegmentList kind (parse_path_start kind [] bytes) × (0 < length (parse_path_start kind [] bytes))
unfolding parse_path_start
path_valid kind bytes special fit =
    let P : List ℕ → Type 0 = λ p. IsSegmentList kind p × (0 < length p) in
    let parsed = λ (rest : List ℕ) (rest_fit : All IsByte rest). segments_valid kind rest [] [] rest_fit
    (All-nil IsByte) (All-nil (IsNoSlash kind)) (no_segments kind) in
    cond_both (is_empty bytes && not (is_special kind)) [] _ P
    (λ never. absurd (both_ways _ (not-true _ (and_parts (is_empty bytes) _ never).1) special)) λ _.
    cond_both (is_slash kind (slice_index bytes 0)) (parse_path kind [] (drop 1 bytes)) (parse_path kind [] bytes) P
    (λ _. parsed (drop 1 bytes) (All-drop IsByte 1 bytes fit)) (λ _. parsed bytes fit)

-- ---- the host

cons_fit : (s : ℕ) (segments : List ℕ) → s < 2 ^ 16 → AllSegments segments → AllSegments (s ∷ segments)
cons_fit s segments first later zero = first
cons_fit s segments first later (suc k) = later k

append_fit : (xs ys : List ℕ) → AllSegments xs → AllSegments ys → AllSegments (xs ++ ys)
append_fit [] ys h k = k
append_fit (x ∷ xs) ys h k = cons_fit x (xs ++ ys) (h 0) (append_fit xs ys (λ j. h (suc j)) k)

zeros_fit : (n : ℕ) → AllSegments (replicate n 0)
zeros_fit zero k = omega arith
zeros_fit (suc n) k = cons_fit 0 (replicate n 0) (omega arith) (zeros_fit n) k

group_fits : (text : List ℕ) (s : ℕ) → IsGroup text s → s < 2 ^ 16
group_fits text s group =
    let below = digits_value-lt 16 text group.0.0.1 in
    let most : 16 ^ length text ≤ 16 ^ 4 = pow-le-pow_right (lit< tt) group.1 in
    omega (arith, below, most, group.0.1)

groups_fit : (ipv4 : Bool) (lead text segments : List ℕ) → IsGroupsAfter ipv4 lead text segments → AllSegments segments
groups_fit ipv4 lead text [] h = λ k. omega arith
groups_fit ipv4 lead text (s ∷ segments) (inl (group, rest, spelled, one, more)) =
    cons_fit s segments (group_fits group s one) (groups_fit ipv4 (codes ":") rest segments more)
groups_fit ipv4 lead text (s ∷ segments) (inr (last, octets, allowed, spelled, dotted, same)) =
    let (a, b, c, d) = dotted.fit in
    let pairs : AllSegments (segments_of (dotted.a ∷ dotted.b ∷ dotted.c ∷ dotted.d ∷ [])) =
    cons_fit (dotted.a * 256 + dotted.b) ((dotted.c * 256 + dotted.d) ∷ []) (omega arith)
    (cons_fit (dotted.c * 256 + dotted.d) [] (omega arith) (λ k. omega arith)) in
    subst AllSegments (sym (same ∙ ap segments_of dotted.value)) pairs

-- an address has eight segments of 16 bits
IsIpv6 : List ℕ → Type 0
IsIpv6 segments = (length segments ≡ 8) × AllSegments segments

colon_hex_fits : (text segments : List ℕ) → IsColonHex text segments → IsIpv6 segments
unfolding IsIpv6
colon_hex_fits text segments (inl (groups, eight)) = (eight, groups_fit true [] text segments groups)
colon_hex_fits text segments (inr elided) =
    let zeros = replicate (8 - length elided.head - length elided.tail) 0 in
    let eight : length (elided.head ++ zeros ++ elided.tail) ≡ 8 =
    omega (
      arith,
      elided.room,
      length-append (elided.head ++ zeros) elided.tail,
      length-append elided.head zeros,
      length-replicate {A = ℕ} (8 - length elided.head - length elided.tail) 0,
    ) in
    let fit = append_fit (elided.head ++ zeros) elided.tail (append_fit elided.head zeros
    (groups_fit false [] elided.head_text elided.head elided.head_groups) (zeros_fit _))
    (groups_fit true [] elided.tail_text elided.tail elided.tail_groups) in
    subst IsIpv6 (sym elided.value) (eight, fit)

whole_fits : (text segments : List ℕ) → whole_value (read_ipv6 text) ≡ Some segments → IsIpv6 segments
whole_fits text segments e =
    ⊎_elim
    (λ none. let never : None ≡ Some segments = sym (ap whole_value none) ∙ e in cc)
    (λ some.
    let sound = read_ipv6_sound text some.0.0 some.0.1 some.1 in
    let whole = sym (ap whole_value some.1) ∙ e in
    let same : some.0.0 ≡ segments = cond_both (length some.0.1 == 0) (Some some.0.0) None
    (λ o. o ≡ Some segments → some.0.0 ≡ segments) (λ _ k. cc) (λ _ k. cc) whole in
    subst IsIpv6 same (colon_hex_fits sound.0 some.0.0 sound.2))
    (option_cases (read_ipv6 text))

-- the host that is wanted: one that an `http` URL may have, and not the empty one
abbrev IsGood : Host (List ℕ) → Type 0
IsGood host = IsHostOf SpecialNotFile host × (is_empty_host host ≡ false)

ipv6_good : (o : Option (List ℕ)) (host : Host (List ℕ)) → ((segments : List ℕ) → o ≡ Some segments → IsIpv6 segments)
    → ipv6_host o ≡ Ok host → IsGood host
unfolding IsIpv6
ipv6_good None host fits e = cc
ipv6_good (Some segments) host fits e = subst IsGood (same_ok (Ipv6 (record { segments = segments })) host e)
    (fits segments refl, refl)

bracketed_good : (bytes : List ℕ) (host : Host (List ℕ)) → parse_bracketed bytes ≡ Ok host → IsGood host
unfolding parse_bracketed
bracketed_good bytes host e =
    by_test (get_or bytes (length bytes - 1) 0 == 93) _ _ host e (λ _ k. ipv6_good _ host
    (λ segments whole. whole_fits _ segments whole) k) (λ _ k. cc)

ipv4_good : (o : Option ℕ) (host : Host (List ℕ)) → ipv4_host o ≡ Ok host → IsGood host
ipv4_good None host e = cc
ipv4_good (Some bits) host e =
    subst IsGood (same_ok (Ipv4 (record { octets = to_be_bytes w32 bits })) host e)
    ((refl, remainders_fit (bits / 256 ^ 3 ∷ bits / 256 ^ 2 ∷ bits / 256 ^ 1 ∷ bits ∷ [])), refl)

ascii_good : (o : Option (List ℕ)) (host : Host (List ℕ)) → ((domain : List ℕ) → o ≡ Some domain → lowercase domain
    ≡ domain) → host_of_ascii o ≡ Ok host → IsGood host
ascii_good None host lower e = cc
ascii_good (Some domain) host lower e =
    let (nonempty, e₁) = past_error (is_empty domain) _ _ host e in
    let (none, e₂) = past_error (list_any is_forbidden_in_domain domain) _ _ host e₁ in
    let positive : 0 < length domain = grind (arith, nat_tests) in
    by_test (ends_in_a_number domain) _ _ host e₂ (λ _ k. ipv4_good _ host k)
    λ named k. subst IsGood (same_ok (Domain domain) host k) (
      (
        record {
          allowed = none_from_list_any is_forbidden_in_domain domain none;
          lower = lower domain refl;
          named =
              named;
        },
        positive,
      ),
      nonempty,
    )

domain_good : (domain : List ℕ) (host : Host (List ℕ)) → parse_domain domain ≡ Ok host → IsGood host
domain_good domain host e = ascii_good (ascii_domain domain) host (λ ascii is. ascii_domain-lower domain ascii is) e

host_good : (bytes : List ℕ) (host : Host (List ℕ)) → parse_special_host bytes ≡ Ok host → IsGood host
unfolding parse_special_host
host_good bytes host e =
    by_test (get_or bytes 0 0 == 91) _ _ host e (λ _ k. bracketed_good bytes host k) (λ _ k. domain_good _ host k)

-- ---- the parts before the path

pub http_kind : scheme_type (codes "http") ≡ SpecialNotFile
unfolding url_on_literals
http_kind = refl

http_scheme : IsScheme (codes "http")
unfolding url_on_literals
http_scheme = record { nonempty = lit< tt; whole = refl; lower = refl }

port_good : (digits : List ℕ) (port : Option ℕ) → parse_port (codes "http") digits ≡ Ok port
    → IsPortOf (codes "http") port
unfolding parse_port
port_good digits port e =
    let http = codes "http" in
    by_test (is_empty digits) _ _ port e (λ _ k. subst (IsPortOf http) (same_ok None port k) tt) λ _ k.
    by_test (list_all is_ascii_digit digits && nat_lt (digits_value 10 digits) (2 ^ 16)) _ _ port k
    (λ small l.
    let n = digits_value 10 digits in
    let within : n < 2 ^ 16 = ltb-true n (2 ^ 16) (and_parts (list_all is_ascii_digit digits) _ small).1 in
    subst (IsPortOf http) (same_ok _ port l)
    (cond_both (option_eq nat_eq (Some n) (default_port http)) None (Some n) (IsPortOf http) (λ _. tt)
    (λ other. (within, λ same. let wrong = rw same at other in absurd (grind (arith, nat_tests))))))
    (λ _ l. cc)

-- what is wanted of the head of an `http` URL
abbrev IsGoodHead : Parts → Type 0
IsGoodHead head = IsValidHead head × (head.scheme ≡ codes "http")

head_good : (bytes : List ℕ) (head : Parts) → parse_authority (codes "http") bytes ≡ Ok head → IsGoodHead head
unfolding parse_authority
head_good bytes head e =
    let http = codes "http" in
    let text = (split_port (rsplit_once 64 bytes).1).0 in
    let lacks = lacks_host (rsplit_once 64 bytes).0 text (split_port (rsplit_once 64 bytes).1).1 in
    let userinfo = split_once 58 (unwrap_or (rsplit_once 64 bytes).0 []) in
    let digits = unwrap_or (split_port (rsplit_once 64 bytes).1).1 [] in
    ok_then (parse_host (scheme_type http) text) _ head (past_error lacks _ _ head e).1 λ host read e₁.
    ok_then (parse_port http digits) _ head e₁ λ port got e₂.
    let good = host_good text host (subst (λ k. parse_host k text ≡ Ok host) http_kind read) in
    let made = with_authority http userinfo.0 (unwrap_or userinfo.1 []) host port in
    let valid : IsValidHead made = record {
      scheme = http_scheme;
      username = userinfo_encoded userinfo.0;
      password = userinfo_encoded (unwrap_or userinfo.1 []);
      host = subst (λ k. IsHostOf k host) (sym http_kind) good.0;
      port = port_good digits port got;
      bare = λ can. let never = rw (good.1, http_kind) at can in cc;
    } in
    subst IsGoodHead (same_ok made head e₂) (valid, refl)

-- ---- the whole

abbrev IsGoodUrl : Parts → Type 0
IsGoodUrl url = IsValidHead url × IsValidPath url

slashes_good : (bytes : List ℕ) (url : Parts) → All IsByte bytes → after_double_slash (codes "http") bytes ≡ Ok url
    → IsGoodUrl url
unfolding after_double_slash
slashes_good bytes url fit e =
    let http = codes "http" in
    let kind = scheme_type http in
    let len = segment_len kind bytes in
    let path = parse_path_start kind [] (drop len bytes) in
    ok_then (parse_authority http (take len bytes)) _ url e λ head read k.
    let good = head_good (take len bytes) head read in
    let list = path_valid kind (drop len bytes) (ap is_special http_kind) (All-drop IsByte len bytes fit) in
    subst IsGoodUrl (same_ok (with_path head path) url k) (
      IsValidHead_same head (with_path head path) refl good.0,
      inl (
        subst (λ s. IsSegmentList (scheme_type s) path)
            (sym good.1) list.0,
        λ _. list.1,
      ),
    )

body_good : (body : List ℕ) (url : Parts) → All IsByte body → parse_body (codes "http") None body ≡ Ok url
    → IsGoodUrl url
unfolding parse_body
body_good body url fit e =
    let http = codes "http" in
    by_test (is_file (scheme_type http)) _ _ url e (λ file _. absurd (both_ways _ (ap is_file http_kind) file)) λ _ k.
    by_test (is_special (scheme_type http)) _ _ url k
    (λ _ l. slashes_good (skip_slashes body) url (All-drop IsByte _ body fit) l)
    (λ other _. absurd (both_ways _ other (ap is_special http_kind)))

ended_scheme : (has_tail : Bool) (head : Parts) → (end_path has_tail head).scheme ≡ head.scheme
ended_scheme has_tail head =
    cond_both (not (is_special (kind_of head)) && has_tail) (with_path head (escape_end head.path)) head
    (λ u. u.scheme ≡ head.scheme) (λ _. refl) (λ _. refl)

split_valid : (split : Option (List ℕ × List ℕ)) (body : List ℕ) (query fragment : Option (List ℕ)) (url : Parts)
    → IfSome split (λ s. All IsByte s.1) → url.scheme ≡ codes "http" → parse_by_scheme split None body query fragment
    ≡ Ok url → IsValid url
unfolding parse_parts
split_valid None body query fragment url fit http e = cc
split_valid (Some split) body query fragment url fit http e =
    let scheme = lowercase split.0 in
    ok_then (parse_body scheme None split.1) _ url e λ head read k.
    let same = same_ok (with_tail (before_tail head query fragment) query fragment) url k in
    let kept : head.scheme ≡ codes "http" = sym (ended_scheme (is_some query || is_some fragment) head)
    ∙ ap (λ u. u.scheme) same ∙ http in
    let own : scheme ≡ codes "http" = sym (kept_body scheme split.1 head read) ∙ kept in
    let good = body_good split.1 head fit (subst (λ s. parse_body s None split.1 ≡ Ok head) own read) in
    let ends = before_special head query fragment (ap is_special (ap scheme_type kept ∙ http_kind)) in
    subst IsValid (ap (λ u. with_tail u query fragment) (sym ends) ∙ same)
    (IsValid-with_tail head query fragment good.0 good.1)

split_bytes : (body : List ℕ) → All IsByte body → IfSome (split_scheme body) (λ s. All IsByte s.1)
unfolding split_scheme
split_bytes body fit =
    let len = scheme_len body in
    cond_both {A = Option (List ℕ × List ℕ)} (nat_lt 0 len && (get_or body len 0 == 58))
    (Some (take len body, drop (len + 1) body)) None (λ o. IfSome o (λ s. All IsByte s.1))
    (λ _. All-drop IsByte (scheme_len body + 1) body fit) (λ _. tt)

-- what the parser gives for a text, where the scheme is `http`, is a valid URL
pub parse_url-valid : (text : List ℕ) (url : Parts) → All IsByte text → parse_url None text ≡ Ok url → url.scheme
    ≡ codes "http" → IsValid url
unfolding parse_url
parse_url-valid text url fit e http =
    let hash = split_once 35 (strip_tabs_and_new_lines (trim_c0_control_and_space text)) in
    let question = split_once 63 hash.0 in
    let front = front_bytes 63 hash.0 (front_bytes 35 _ (trimmed_bytes text fit)) in
    split_valid (split_scheme question.0) question.0 question.1 hash.1 url (split_bytes question.0 front) http e
