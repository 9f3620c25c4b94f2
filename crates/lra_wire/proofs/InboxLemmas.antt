-- An inbox that grows twice grows.
use Rattle.std.proofs.Common.{◌≡◌, ℕ, List, [], ◌++◌, refl, sym, ap, subst, ◌∙◌, Option, Some, None, append_assoc, inl}
use Rattle.std.proofs.Common.{inr}
use Rattle.std.proofs.lemmas.List.{append-nil}
use Rattle.std.specs.Io.KnownBytes.{Keeps}
use Rattle.lra_wire.specs.declared.inbox.Inbox.{Inbox}
use Rattle.lra_wire.specs.Inbox.{kept_bytes, stream_of, asked_at, AsksAt}
use Rattle.lra_wire.specs.inner.Growth.{Grows}

pub Keeps_refl : (a : Option (List ℕ)) → Keeps a a
Keeps_refl None = tt
Keeps_refl (Some xs) = refl

pub Keeps_trans : (a b c : Option (List ℕ)) → Keeps a b → Keeps b c → Keeps a c
Keeps_trans None b c h k = tt
Keeps_trans (Some xs) None c h k = absurd h
Keeps_trans (Some xs) (Some ys) None h k = absurd k
Keeps_trans (Some xs) (Some ys) (Some zs) h k = k ∙ h

pub Grows_refl : {R : Type 0} (remaining : R → Option (List ℕ)) (inbox : Inbox R) → Grows remaining inbox inbox
Grows_refl remaining inbox = record { more = []; kept = sym (append-nil _); stream = Keeps_refl _ }

pub Grows_trans : {R : Type 0} {remaining : R → Option (List ℕ)} {a b c : Inbox R} → Grows remaining a b
    → Grows remaining b c → Grows remaining a c
Grows_trans {R} {remaining} {a} {b} {c} x y = record {
  more = x.more ++ y.more;
  kept = y.kept ∙ ap (λ bytes. bytes ++ y.more) x.kept ∙ append_assoc (kept_bytes a) x.more y.more;
  stream = Keeps_trans (stream_of remaining a) (stream_of remaining b) (stream_of remaining c) x.stream y.stream;
}

-- what a loop of reads keeps: what came is of the stream, and more was asked for only where it was wanted
pub record Waits {R : Type 0} (remaining : R → Option (List ℕ)) (Awaits : List ℕ → Type 0) (old new : Inbox R) : Type 0
  where
    pub grows : Grows remaining old new
    pub asks : AsksAt Awaits old new

-- what was read first, and what was read after it
pub asks_on : {R : Type 0} (P Q S : List ℕ → Type 0) (a b c : Inbox R) → AsksAt P a b → AsksAt Q b c
    → ((bytes : List ℕ) → P bytes → S bytes) → ((bytes : List ℕ) → Q bytes → S bytes)
    → AsksAt S a c
asks_on P Q S a b c (inl first) (inl then) p q = inl (then.0 ∙ first.0, then.1 ∙ first.1)
asks_on P Q S a b c (inr first) (inl then) p q = inr (subst S (sym then.1) (p (asked_at b) first))
asks_on P Q S a b c first (inr then) p q = inr (q (asked_at c) then)

-- one more read
pub asks_more : {R : Type 0} (P : List ℕ → Type 0) (a b c : Inbox R) → AsksAt P a b
    → AsksAt (λ bytes. bytes ≡ kept_bytes b) b c → P (kept_bytes b) → AsksAt P a c
asks_more P a b c first then here = asks_on P (λ bytes. bytes ≡ kept_bytes b) P a b c first then (λ bytes p. p)
    (λ bytes e. subst P (sym e) here)

-- what was read first, and then taken
pub asks_taken : {R : Type 0} (P : List ℕ → Type 0) (a b c : Inbox R) → AsksAt P a b → c.reader ≡ b.reader → asked_at c
    ≡ asked_at b → AsksAt P a c
asks_taken P a b c first reader asked = asks_on P P P a b c first (inl (reader, asked)) (λ bytes p. p) (λ bytes p. p)

-- one more read, where more was wanted
pub waits_more : {R : Type 0} {remaining : R → Option (List ℕ)} (P : List ℕ → Type 0) (a b c : Inbox R)
    → Waits remaining P a b → P (kept_bytes b)
    → Grows remaining b c → AsksAt (λ bytes. bytes ≡ kept_bytes b) b c → Waits remaining P a c
waits_more P a b c waits here grows asks = record {
  grows = Grows_trans waits.grows grows;
  asks =
      asks_more P a b c waits.asks asks here;
}
