-- Lemmas on the entries of a number, and on what comes after a prefix.
use Rattle.std.proofs.Common.{◌≡◌, ◌≢◌, ◌⊎◌, ℕ, ◌<◌, ◌≤◌, Bool, cond, eqb, eq-eqb, ne_eqb, List, [], ◌∷◌, ◌++◌, drop}
use Rattle.std.proofs.Common.{length, inl, inr, ⊎_elim, le-ltb, lt-ltb, sym, refl, ap, subst, ◌∙◌, arith, append_assoc}
use Rattle.std.specs.List.{All, AllByRecursion}
use Rattle.std.proofs.lemmas.List.Elements.{filter-append, recursion_from_All, All-nil, All-head}
use Rattle.std.proofs.lemmas.List.{append-nil}
use mathlib.Core.List.{IsPrefix}
use mathlib.Core.Logic.{dite}
use native.Mathlib.Decide.{ℕ_discrete, dec_le}
use Rattle.lra_model.specs.declared.entry.Entry.{Entry}
use Rattle.lra_ticket.specs.History.{Comparable, entries_by, block_after, longer, first_by, number_after, MayAdd}

pub entries_by-append : (n : ℕ) (a b : List Entry) → entries_by n (a ++ b) ≡ entries_by n a ++ entries_by n b
entries_by-append n a b = filter-append (λ (e : Entry). eqb e.by n) a b

-- of a history in which each entry bears m
pub entries_by-own : (m : ℕ) (a : List Entry) → AllByRecursion (λ (e : Entry). e.by ≡ m) a → entries_by m a ≡ a
entries_by-own m [] h = refl
entries_by-own m (e ∷ es) h = ap (λ (b : Bool). cond b (e ∷ entries_by m es) (entries_by m es)) (eq-eqb e.by m h.0)
    ∙ ap (λ (l : List Entry). e ∷ l) (entries_by-own m es h.1)

pub entries_by-other : (n m : ℕ) (a : List Entry) → n ≢ m → AllByRecursion (λ (e : Entry). e.by ≡ m) a → entries_by n a
    ≡ []
entries_by-other n m [] other h = refl
entries_by-other n m (e ∷ es) other h = ap (λ (b : Bool). cond b (e ∷ entries_by n es) (entries_by n es))
    (ne_eqb e.by n (λ d. other (sym d ∙ h.0))) ∙ entries_by-other n m es other h.1

pub nil_left : (a b : List Entry) → a ++ b ≡ [] → a ≡ []
nil_left [] b e = refl
nil_left (x ∷ xs) b e = absurd (omega (arith, ap length e))

pub nil_right : (a b : List Entry) → a ++ b ≡ [] → b ≡ []
nil_right [] b e = e
nil_right (x ∷ xs) b e = absurd (omega (arith, ap length e))

keeps_none : (a b c : List Entry) → (a ++ b) ++ c ≡ a → b ≡ []
keeps_none [] b c e = nil_left b c e
keeps_none (x ∷ xs) b c e = keeps_none xs b c (ap (drop 1) e)

-- what comes after a prefix is what was added to it
pub block_after-append : (a b : List Entry) → block_after a (a ++ b) ≡ b
block_after-append [] b = refl
block_after-append (x ∷ xs) b = block_after-append xs b

-- a history is its prefix and what comes after it
pub whole : (a h : List Entry) → IsPrefix a h → a ++ block_after a h ≡ h
whole a h p = ap (λ (l : List Entry). a ++ drop (length a) l) (sym p.1)
    ∙ (ap (λ (l : List Entry). a ++ l) (block_after-append a p.0) ∙ p.1)

pub prefix_refl : (a : List Entry) → IsPrefix a a
prefix_refl a = ([], append-nil a)

pub prefix_trans : (a b c : List Entry) → IsPrefix a b → IsPrefix b c → IsPrefix a c
prefix_trans a b c p q = (p.0 ++ q.0, sym (append_assoc a p.0 q.0) ∙ (ap (λ (l : List Entry). l ++ q.0) p.1 ∙ q.1))

-- of two beginnings of one history, the shorter begins the longer
shorter_begins : (a b c : List Entry) → IsPrefix a c → IsPrefix b c → length a ≤ length b → IsPrefix a b
shorter_begins [] b c p q h = (b, refl)
shorter_begins (x ∷ xs) [] c p q h = absurd (omega arith)
shorter_begins (x ∷ xs) (y ∷ ys) [] p q h = absurd (omega (arith, ap length p.1))
shorter_begins (x ∷ xs) (y ∷ ys) (z ∷ zs) p q h = let p₁ = p.1 in let q₁ = q.1 in let same : x ≡ y = cc in
    let t = shorter_begins xs ys zs (p.0, ap (drop 1) p.1) (q.0, ap (drop 1) q.1) (omega arith) in
    (t.0, (λ i. same i ∷ t.1 i))

pub in_line : (a b c : List Entry) → IsPrefix a c → IsPrefix b c → Comparable a b
in_line a b c p q = dite (dec_le (length a) (length b)) (λ h. inl (shorter_begins a b c p q h))
    (λ h. inr (shorter_begins b a c q p (omega arith)))

-- the longer of two beginnings of one history is one of them, and both begin it
pub longer_cases : (P : List Entry → Type 0) (a b c : List Entry) → IsPrefix a c → IsPrefix b c → (IsPrefix a b → P b)
    → (IsPrefix b a → P a) → P (longer a b)
longer_cases P a b c p q second first = dite (dec_le (length b) (length a))
    (λ h. subst (λ (t : Bool). P (cond t b a)) (sym (le-ltb (length a) (length b) h))
    (first (shorter_begins b a c q p h)))
    (λ h. let less : length a < length b = omega arith in
    subst (λ (t : Bool). P (cond t b a)) (sym (lt-ltb (length a) (length b) less))
    (second (shorter_begins a b c p q (omega arith))))

-- the same for two histories of which one begins the other
pub longer_of : (P : List Entry → Type 0) (a b : List Entry) → Comparable a b → (IsPrefix a b → P b)
    → (IsPrefix b a → P a) → P (longer a b)
longer_of P a b line second first = ⊎_elim (λ (p : IsPrefix a b). longer_cases P a b b p (prefix_refl b) second first)
    (λ (q : IsPrefix b a). longer_cases P a b a (prefix_refl a) q second first) line

-- what has no more entries of a number than its prefix, has none of them after it
pub entries_by-between : (n : ℕ) (a b c : List Entry) → IsPrefix a b → IsPrefix b c → entries_by n c ≡ entries_by n a
    → entries_by n b ≡ entries_by n a
entries_by-between n a b c p q e = let r = p.0 in let t = q.0 in
    let cut : entries_by n b ≡ entries_by n a ++ entries_by n r = ap (entries_by n) (sym p.1)
    ∙ entries_by-append n a r in
    let all : (entries_by n a ++ entries_by n r) ++ entries_by n t ≡ entries_by n a =
    ap (λ (l : List Entry). l ++ entries_by n t) (sym cut) ∙ (sym (entries_by-append n b t)
    ∙ (ap (entries_by n) q.1 ∙ e)) in
    cut ∙ (ap (λ (l : List Entry). entries_by n a ++ l) (keeps_none (entries_by n a) (entries_by n r) (entries_by n t)
    all) ∙ append-nil (entries_by n a))

-- a beginning of a history with no entry of a number has none
pub entries_by-none : (n : ℕ) (a b : List Entry) → IsPrefix a b → entries_by n b ≡ [] → entries_by n a ≡ []
entries_by-none n a b p e = nil_left (entries_by n a) (entries_by n p.0)
    (sym (entries_by-append n a p.0) ∙ (ap (entries_by n) p.1 ∙ e))

pub number_after-kept : (n : ℕ) (block : List Entry) → n ≢ 0 → number_after n block ≡ n
number_after-kept n block some = ap (λ (b : Bool). cond b (first_by block) n) (ne_eqb n 0 some)

pub number_after-none : (n : ℕ) (block : List Entry) → block ≡ [] → number_after n block ≡ n
number_after-none n block none = dite (ℕ_discrete n 0) (λ z. ap (λ (b : Bool). cond b (first_by block) n) (eq-eqb n 0 z)
    ∙ (ap first_by none ∙ sym z)) (number_after-kept n block)

nil_or_not : (a : List Entry) → (a ≡ []) ⊎ (a ≢ [])
nil_or_not [] = inl refl
nil_or_not (x ∷ xs) = inr (λ e. omega (arith, ap length e))

-- the entries of the number after a block are those of the number before it, and the block
pub entries_by-given : (n : ℕ) (a block mine : List Entry) → MayAdd n a block → mine ≡ entries_by n a → entries_by 0 a
    ≡ [] → mine ++ block ≡ entries_by (number_after n block) (a ++ block)
entries_by-given n a block mine may own none-zero = let m : ℕ = number_after n block in
    let front : mine ≡ entries_by m a = dite (ℕ_discrete n 0)
    (λ z. ⊎_elim (λ (none : block ≡ []). own ∙ ap (λ (k : ℕ). entries_by k a) (sym (number_after-none n block none)))
    (λ (some : block ≢ []). own ∙ (ap (λ (k : ℕ). entries_by k a) z ∙ (none-zero ∙ sym (may.fresh z some))))
    (nil_or_not block))
    (λ some. own ∙ ap (λ (k : ℕ). entries_by k a) (sym (number_after-kept n block some))) in
    sym (entries_by-append m a block ∙ (λ i. sym front i ++ entries_by-own m block
    (recursion_from_All (λ (e : Entry). e.by ≡ m) block may.own) i))

-- a number other than that of the block has no entries in it
pub entries_by-others : (k n : ℕ) (a block : List Entry) → MayAdd n a block → k ≢ number_after n block
    → entries_by k (a ++ block) ≡ entries_by k a
entries_by-others k n a block may other = entries_by-append k a block
    ∙ (ap (λ (l : List Entry). entries_by k a ++ l) (entries_by-other k (number_after n block) block other
    (recursion_from_All (λ (e : Entry). e.by ≡ number_after n block) block may.own)) ∙ append-nil (entries_by k a))

pub nil_cases : (P : Type 0) (a : List Entry) → (a ≡ [] → P) → (a ≢ [] → P) → P
nil_cases P a none some = ⊎_elim none some (nil_or_not a)

-- an empty block may be added
pub may_add_none : (n : ℕ) (a block : List Entry) → block ≡ [] → MayAdd n a block
may_add_none n a block none = record {
  own = subst (λ (l : List Entry). All (λ (e : Entry). e.by ≡ number_after n block) l) (sym none)
      (All-nil (λ (e : Entry). e.by ≡ number_after n block));
  numbered = λ some. absurd (some none);
  fresh = λ z some. absurd (some none);
}

-- so may one of entries by the caller's own number
pub may_add_own : (n : ℕ) (a block : List Entry) → n ≢ 0 → All (λ (e : Entry). e.by ≡ n) block → MayAdd n a block
may_add_own n a block some-n own = let same = number_after-kept n block some-n in record {
  own = subst (λ (m : ℕ). All (λ (e : Entry). e.by ≡ m) block) (sym same) own;
  numbered = λ some z. some-n (sym same ∙ z);
  fresh = λ z. absurd (some-n z);
}

-- and, for number 0, one entry or more by a number that no entry bears
pub may_enrol : (m : ℕ) (a : List Entry) (e : Entry) (es : List Entry) → m ≢ 0 → entries_by m a ≡ []
    → All (λ (x : Entry). x.by ≡ m) (e ∷ es) → MayAdd 0 a (e ∷ es)
may_enrol m a e es some-m fresh own = let first : e.by ≡ m = All-head (λ (x : Entry). x.by ≡ m) e es own in record {
  own = subst (λ (k : ℕ). All (λ (x : Entry). x.by ≡ k) (e ∷ es)) (sym first) own;
  numbered = λ some z. some-m (sym first ∙ z);
  fresh = λ z some. ap (λ (k : ℕ). entries_by k a) first ∙ fresh;
}
