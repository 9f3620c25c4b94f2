-- From the bytes that an inbox kept to the stream that it stands for.
use Rattle.std.proofs.Common.{◌≡◌, ℕ, ◌-◌, ◌≤◌, List, [], ◌++◌, length, drop, refl, sym, ap, subst, ◌∙◌, arith, Option}
use Rattle.std.proofs.Common.{Some, None}
use Rattle.std.specs.Prelude.{IfSome, slice_range}
use Rattle.std.specs.Io.KnownBytes.{Keeps, prepend_known, IsAtEnd}
use Rattle.std.proofs.lemmas.List.{drop-append-le, length-drop, append-nil, take_all}
use Rattle.lra_wire.specs.declared.inbox.Inbox.{Inbox}
use Rattle.lra_wire.specs.Inbox.{kept_bytes, stream_of}
use Rattle.lra_wire.specs.inner.Growth.{Grows}

-- a stream that was known is what was kept, and then what the reader has left
split_known : (old : Option (List ℕ)) (kept : List ℕ) (left : Option (List ℕ)) (P : List ℕ → Type 0)
    → Keeps old (prepend_known kept left) → ((rest : List ℕ) → left ≡ Some rest → P (kept ++ rest)) → IfSome old P
split_known None kept left P keeps h = tt
split_known (Some xs) kept None P keeps h = absurd keeps
split_known (Some xs) kept (Some ys) P keeps h = subst P keeps (h ys refl)

-- a fact of the stream, of the bytes that were kept and any more
pub on_stream : {R : Type 0} {remaining : R → Option (List ℕ)} {old new : Inbox R} → Grows remaining old new
    → (P : List ℕ → Type 0)
    → ((rest : List ℕ) → P (kept_bytes new ++ rest)) → IfSome (stream_of remaining old) P
on_stream {R} {remaining} {old} {new} grows P h = split_known (stream_of remaining old) (kept_bytes new)
    (remaining new.reader) P grows.stream (λ rest _. h rest)

-- the same at the end of the stream
pub on_stream_end : {R : Type 0} {remaining : R → Option (List ℕ)} {old new : Inbox R} → Grows remaining old new
    → (P : List ℕ → Type 0)
    → IsAtEnd (remaining new.reader) → P (kept_bytes new) → IfSome (stream_of remaining old) P
on_stream_end {R} {remaining} {old} {new} grows P end h =
    split_known (stream_of remaining old) (kept_bytes new) (remaining new.reader) P grows.stream
    (λ rest known. let none : rest ≡ [] = subst IsAtEnd known end in
    subst P (sym (append-nil (kept_bytes new)) ∙ ap (λ r. kept_bytes new ++ r) (sym none)) h)

-- the kept bytes from an offset on, and more
pub drop_more_bytes : (n : ℕ) (kept rest : List ℕ) → n ≤ length kept → drop n kept ++ rest ≡ drop n (kept ++ rest)
drop_more_bytes n kept rest h = sym (drop-append-le n kept rest h)

-- a fact of each stream
pub known : (o : Option (List ℕ)) (P : List ℕ → Type 0) → ((xs : List ℕ) → P xs) → IfSome o P
known None P h = tt
known (Some xs) P h = h xs

-- nothing was kept
pub prepend_none : (kept : List ℕ) (left : Option (List ℕ)) → kept ≡ [] → prepend_known kept left ≡ left
prepend_none kept None e = refl
prepend_none kept (Some xs) e = ap (λ bs. Some (bs ++ xs)) e

-- the bytes from an offset on
pub behind_in : {bytes kept : List ℕ} (n : ℕ) → bytes ≡ kept → slice_range bytes n (length bytes) ≡ drop n kept
behind_in {bytes} {kept} n same = take_all (length bytes - n) (drop n bytes) (omega (arith, length-drop n bytes))
    ∙ ap (drop n) same
