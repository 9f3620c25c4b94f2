-- Why no continuation makes a head valid.
use Rattle.std.proofs.Common.{◌≡◌, ℕ, ◌<◌, ◌≤◌, true, false, ◌||◌, ◌==◌, List, ◌++◌, length, map, take, drop, refl, sym}
use Rattle.std.proofs.Common.{ap, subst, ◌∙◌, arith}
use Rattle.std.specs.Prelude.{codes}
use Rattle.std.proofs.lemmas.Bool.Decides.{nat_tests}
use Rattle.std.proofs.lemmas.List.{take-append-drop, take-append-le, take_at}
use Rattle.std.specs.Prelude.{IsUtf8}
use Rattle.std.proofs.lemmas.Str.{IsUtf8-from_ascii}
use Rattle.std.proofs.lemmas.Str.Ascii.{IsAscii-from_all}
use Rattle.std.proofs.lemmas.List.Elements.{All-weaker}
use Rattle.httparse.specs.declared.spans.HeaderSpan.{HeaderSpan}
use Rattle.httparse.specs.declared.spans.RequestSpans.{RequestSpans}
use Rattle.httparse.specs.Grammar.{RequestHead, print_request, ReadsRequest, HasNoRequest, AllPass, is_token_byte}
use Rattle.httparse.specs.Spans.{IsRequestAt, header_bytes}
use Rattle.httparse.proofs.GrammarLemmas.{request_prefix_free}
use Rattle.lra_wire.specs.Fields.{values_of}
use Rattle.lra_wire.specs.inner.Heads.{has_host}
use Rattle.lra_wire.specs.Request.{IsLawful, NeverLawful, fields_of}

-- the bytes begin with a head that isn't valid
pub never_after_head : (bytes : List ℕ) (head : RequestHead) (rest : List ℕ) → ReadsRequest bytes head rest
    → ¬ (IsLawful head) → NeverLawful bytes
never_after_head bytes head rest reads bad more other tail found =
    let same = request_prefix_free bytes more head other rest tail reads found.reads in
    bad (subst IsLawful (sym same.0) found.lawful)

-- a prefix that is long enough for a valid head has none
pub never_after_front : (bytes : List ℕ) → HasNoRequest bytes → 8192 ≤ length bytes → NeverLawful bytes
never_after_front bytes none long more head rest found =
    let n = length (print_request head) in
    let short : n ≤ length bytes = omega (arith, found.lawful.size) in
    let front : take n bytes ≡ print_request head = sym (take-append-le n bytes more short) ∙ ap (take n) found.reads.1
    ∙ take_at (print_request head) rest n refl in
    none head (drop n bytes) (found.reads.0, sym (take-append-drop n bytes) ∙ ap (λ bs. bs ++ drop n bytes) front)

-- a head of HTTP/1.1 without exactly one Host
pub no_host : (minor : ℕ) (fields : List (List ℕ × List ℕ)) → minor ≤ 1 → has_host minor fields ≡ false
    → (minor ≡ 1 → length (values_of (codes "host") fields) ≡ 1) → ⊥
no_host minor fields small missing host = go minor (length (values_of (codes "host") fields)) small missing host
  where
    go : (m n : ℕ) → m ≤ 1 → ((m == 0) || (n == 1)) ≡ false → (m ≡ 1 → n ≡ 1) → ⊥
    go m n small missing host = grind (arith, nat_tests)

-- the same, where the fields stand in the bytes
pub no_host_at : (bytes : List ℕ) (headers : List HeaderSpan) (spans : RequestSpans) (head : RequestHead)
    → IsRequestAt bytes headers spans head
    → has_host spans.version (map (header_bytes bytes) (take spans.headers headers)) ≡ false → ¬ (IsLawful head)
no_host_at bytes headers spans head at missing lawful =
    no_host head.minor (fields_of head) at.reads.0.minor
    (ap (λ minor. has_host minor (fields_of head)) (sym at.version) ∙ ap (has_host spans.version) (sym at.fields)
    ∙ missing) lawful.host

token_ascii : (b : ℕ) → is_token_byte b ≡ true → b < 128
unfolding is_token_byte
token_ascii b token = grind (arith, nat_tests)

-- a token is a text
pub token_text : (bytes : List ℕ) → AllPass is_token_byte bytes → IsUtf8 bytes
token_text bytes all = IsUtf8-from_ascii bytes (IsAscii-from_all bytes
    (All-weaker (λ b. is_token_byte b ≡ true) (λ b. b < 128) token_ascii bytes all))
