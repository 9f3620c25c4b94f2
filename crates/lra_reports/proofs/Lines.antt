-- Lines that are written a page at a time.
use Rattle.std.proofs.Common.{◌≡◌, ℕ, ◌+◌, ◌<◌, List, [], ◌∷◌, ◌++◌, length, take, get_or, Option, Some, None, suc, sym}
use Rattle.std.proofs.Common.{◌∙◌, ap, subst, append_assoc, arith}
use Rattle.std.specs.Prelude.{slice_get}
use Rattle.std.specs.List.{flat_map}
use Rattle.std.specs.Io.KnownBytes.{Appends}
use Rattle.std.proofs.KnownBytes.{Appends-trans}
use Rattle.std.proofs.lemmas.List.{flat_map_more, take_more}
use Rattle.std.proofs.lemmas.Option.{get_or_from_slice_get, slice_get-get_or, slice_get_within, none-some}
use Rattle.lra_laws.specs.Rows.{row_at}
use Rattle.lra_reports.specs.Paging.{IsPaged}

row_next : {X : Type 0} (xs : List X) (i : ℕ) → row_at xs (i + 1) ≡ slice_get xs i
row_next xs i = let on : i + 1 ≡ suc i = omega arith in ap (row_at xs) on

-- one text after another
pub IsPaged-trans : (a b c : Option (List ℕ)) (k l m x y : List ℕ) → IsPaged a b k l x → IsPaged b c l m y
    → IsPaged a c k m (x ++ y)
IsPaged-trans a b c k l m x y (p, first, same) (q, second, next) = (
  p ++ q,
  Appends-trans a b c p q first second,
  sym (append_assoc k x y) ∙ ap (λ (t : List ℕ). t ++ y) same ∙ append_assoc p l y ∙ ap (λ (t : List ℕ). p ++ t) next
      ∙ sym (append_assoc p q m),
)

-- a page that began empty, and is then written
pub IsPaged-whole : (a b c : Option (List ℕ)) (m x : List ℕ) → IsPaged a b [] m x → Appends b c m → Appends a c x
IsPaged-whole a b c m x (p, first, same) last = subst (Appends a c) (sym same) (Appends-trans a b c p m first last)

-- the line of one more item
pub IsPaged-line : {X : Type 0} (line : X → List ℕ) (xs : List X) (i : ℕ) (x : X) (text k l m : List ℕ)
    (a b c : Option (List ℕ)) → row_at xs (i + 1) ≡ Some x → text ≡ line x
    → IsPaged a b k l (flat_map line (take i xs)) → IsPaged b c l m text
    → IsPaged a c k m (flat_map line (take (i + 1) xs))
IsPaged-line {X = X} line xs i x text k l m a b c here is before now =
    let at : slice_get xs i ≡ Some x = sym (row_next xs i) ∙ here in
    let more : take (i + 1) xs ≡ take i xs ++ x ∷ [] = take_more xs i x (slice_get_within xs i x at)
    ∙ ap (λ (y : X). take i xs ++ y ∷ []) (get_or_from_slice_get xs i x x at) in
    let lines : flat_map line (take i xs) ++ text ≡ flat_map line (take (i + 1) xs) =
    ap (λ (ys : List ℕ). flat_map line (take i xs) ++ ys) is ∙ flat_map_more line [] (take i xs) x
    ∙ ap (flat_map line) (sym more) in
    subst (IsPaged a c k m) lines (IsPaged-trans a b c k l m (flat_map line (take i xs)) text before now)

-- no item is missing
pub row_missing : {X : Type 0} (xs : List X) (i : ℕ) → i < length xs → row_at xs (i + 1) ≡ None → ⊥
row_missing [] i lt none = absurd (omega arith)
row_missing (x ∷ xs) i lt none = none-some (get_or (x ∷ xs) i x) (sym none ∙ row_next (x ∷ xs) i
    ∙ slice_get-get_or (x ∷ xs) i x lt)
