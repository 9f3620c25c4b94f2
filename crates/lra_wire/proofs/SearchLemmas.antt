-- A search for an end in what comes, which looks only where a line feed came.
use Rattle.std.proofs.Common.{◌≡◌, ℕ, ◌≤◌, true, false, ◌==◌, List, [], ◌∷◌, ◌++◌, length, take, drop, refl, sym, ap}
use Rattle.std.proofs.Common.{subst, ◌∙◌, arith, append_assoc}
use Rattle.std.specs.Prelude.{slice_range}
use Rattle.std.specs.List.{list_any, flat_map}
use Rattle.std.proofs.lemmas.List.{take-append-drop, take-append-le, take_at, drop-append-le, length-append}
use Rattle.std.proofs.lemmas.List.{length-take}
use Rattle.httparse.specs.Ascii.{crlf_bytes}
use Rattle.httparse.specs.Grammar.{ChunkLine, print_chunk_line, print_extension, HasNoChunkLine, Field, LineEnd, crlf}
use Rattle.httparse.specs.Grammar.{lf, print_field, print_section, HasNoSection}
use Rattle.lra_wire.proofs.StreamLemmas.{behind_in}

-- ---- line feeds

-- the text ends in a line feed
abbrev pub EndsLine : List ℕ → Type 0
EndsLine text = (front : List ℕ) × (text ≡ front ++ 10 ∷ [])

pub ends_behind : (a b : List ℕ) → EndsLine b → EndsLine (a ++ b)
ends_behind a b (front, is) = (a ++ front, ap (λ bs. a ++ bs) is ∙ sym (append_assoc a front (10 ∷ [])))

line_ends : (line : ChunkLine) → EndsLine (print_chunk_line line)
unfolding print_chunk_line
line_ends line = ends_behind (line.digits ++ line.pad ++ print_extension line.extension) crlf_bytes (13 ∷ [], refl)

pub section_ends : (fields : List Field) (last : LineEnd) → EndsLine (print_section fields last)
section_ends fields crlf = ends_behind (flat_map print_field fields) crlf_bytes (13 ∷ [], refl)
section_ends fields lf = ends_behind (flat_map print_field fields) (10 ∷ []) ([], refl)

any_feed : (front rest : List ℕ) → list_any (λ b. b == 10) (front ++ 10 ∷ rest) ≡ true
any_feed [] rest = refl
any_feed (b ∷ front) rest = grind (arith, any_feed front rest)

-- the bytes begin with a text that ends in a line feed, and have no line feed from an offset on: the text ends before
-- that offset
pub ends_before : (bytes text rest : List ℕ) (n : ℕ) → EndsLine text → n ≤ length bytes → bytes ≡ text ++ rest
    → list_any (λ b. b == 10) (drop n bytes) ≡ false
    → (left : List ℕ) × (take n bytes ≡ text ++ left)
ends_before bytes text rest n (front, ends) within is none = (
  drop m (take n bytes),
  sym (take-append-drop m (take n bytes)) ∙ ap (λ bs. bs ++ drop m (take n bytes)) same,
)
  where
    m : ℕ
    m = length text

    whole : bytes ≡ front ++ 10 ∷ rest
    whole = is ∙ ap (λ bs. bs ++ rest) ends ∙ append_assoc front (10 ∷ []) rest

    shown : n ≤ length front → list_any (λ b. b == 10) (drop n bytes) ≡ true
    shown h = ap (λ bs. list_any (λ b. b == 10) (drop n bs)) whole ∙ ap (list_any (λ b. b == 10))
        (drop-append-le n front (10 ∷ rest) h) ∙ any_feed (drop n front) rest

    never : n ≤ length front → ⊥
    never h = let e : true ≡ false = sym (shown h) ∙ none in cc

    before : m ≤ length (take n bytes)
    before = omega (arith, never, ap length ends, length-append front (10 ∷ []), length-take n bytes)

    same : take m (take n bytes) ≡ text
    same = sym (take-append-le m (take n bytes) (drop n bytes) before) ∙ ap (take m) (take-append-drop n bytes ∙ is)
        ∙ take_at text rest m refl

-- no line feed comes in the new bytes
pub no_feed : (bytes : List ℕ) (n : ℕ) → list_any (λ b. b == 10) (slice_range bytes n (length bytes)) ≡ false
    → list_any (λ b. b == 10) (drop n bytes) ≡ false
no_feed bytes n none = subst (λ (bs : List ℕ). list_any (λ b. b == 10) bs ≡ false) (behind_in n refl) none

pub no_line : (bytes : List ℕ) (n : ℕ) → n ≤ length bytes → HasNoChunkLine (take n bytes)
    → list_any (λ b. b == 10) (slice_range bytes n (length bytes)) ≡ false → HasNoChunkLine bytes
no_line bytes n within none feed line rest reads =
    let there = ends_before bytes (print_chunk_line line) rest n (line_ends line) within reads.1
    (no_feed bytes n feed) in
    none line there.0 (reads.0, there.1)

pub no_section : (bytes : List ℕ) (n : ℕ) → n ≤ length bytes → HasNoSection (take n bytes)
    → list_any (λ b. b == 10) (slice_range bytes n (length bytes)) ≡ false → HasNoSection bytes
no_section bytes n within none feed fields last rest reads =
    let there = ends_before bytes (print_section fields last) rest n (section_ends fields last) within reads.1
    (no_feed bytes n feed) in
    none fields last there.0 (reads.0, there.1)

pub ends_some : (text rest : List ℕ) → EndsLine text → ¬ ([] ≡ text ++ rest)
ends_some text rest (front, ends) e = omega (
  arith,
  ap length e,
  length-append text rest,
  ap length ends,
  length-append front (10 ∷ []),
)
