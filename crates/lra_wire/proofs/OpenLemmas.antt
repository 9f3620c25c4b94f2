-- What isn't whole stays so until a line feed comes, and what is refused stays refused.
use Rattle.std.proofs.Common.{◌≡◌, ℕ, ◌+◌, ◌<◌, ◌≤◌, false, List, [], ◌∷◌, ◌++◌, length, drop, refl, sym, subst, ◌∙◌}
use Rattle.std.proofs.Common.{arith}
use Rattle.std.specs.Prelude.{◌==◌, slice_range}
use Rattle.std.specs.List.{list_any}
use Rattle.std.proofs.Math.Seq.{drop-append_seam}
use Rattle.std.proofs.lemmas.List.{take_at, length-append}
use Rattle.httparse.specs.Grammar.{HasNoChunkLine, HasNoSection}
use Rattle.lra_wire.specs.declared.wanted.Wanted.TheVariants.{Feed}
use Rattle.lra_wire.specs.declared.fault.WireFault.{WireFault}
use Rattle.lra_wire.specs.declared.fault.WireFault.TheVariants.{BadHead, Chunked, BadLength, TooLarge, Cut, Io, Memory}
use Rattle.lra_wire.specs.ResponseParse.{Lasts}
use Rattle.lra_wire.specs.Response.{IsOpenResponse}
use Rattle.lra_wire.specs.inner.Wanted.{IsOpenAt}
use Rattle.lra_wire.proofs.HeadLemmas.{no_response}
use Rattle.lra_wire.proofs.SearchLemmas.{no_line, no_section}
use Rattle.lra_wire.proofs.StreamLemmas.{drop_more_bytes, behind_in}

-- no byte follows
pub none_more : (bytes more : List ℕ) → length (bytes ++ more) < length bytes + 1 → more ≡ []
none_more bytes [] few = refl
none_more bytes (b ∷ more) few = absurd (omega (arith, few, length-append bytes (b ∷ more)))

-- no line feed came after what was there
pub feed_none : (bytes more : List ℕ) → list_any (λ b. b == 10) (drop (length bytes) (bytes ++ more)) ≡ false
    → list_any (λ b. b == 10) more ≡ false
feed_none bytes more none = subst (λ (bs : List ℕ). list_any (λ b. b == 10) bs ≡ false) (drop-append_seam bytes more)
    none

new_feed : (text more : List ℕ) → list_any (λ b. b == 10) more ≡ false
    → list_any (λ b. b == 10) (slice_range (text ++ more) (length text) (length (text ++ more))) ≡ false
new_feed text more none =
    subst (λ (bs : List ℕ). list_any (λ b. b == 10) bs ≡ false)
    (sym (behind_in {bytes = text ++ more} {kept = text ++ more} (length text) refl ∙ drop-append_seam text more))
    none

-- what isn't whole stays so until a line feed comes: a head, a chunk line, a trailer
pub response_stays : (text more : List ℕ) → IsOpenResponse text → list_any (λ b. b == 10) more ≡ false
    → IsOpenResponse (text ++ more)
response_stays text more here none =
    no_response (text ++ more) (length text) (omega (arith, length-append text more))
    (subst IsOpenResponse (sym (take_at text more (length text) refl)) here) (new_feed text more none)

pub line_stays : (text more : List ℕ) → HasNoChunkLine text → list_any (λ b. b == 10) more ≡ false
    → HasNoChunkLine (text ++ more)
line_stays text more here none =
    no_line (text ++ more) (length text) (omega (arith, length-append text more))
    (subst HasNoChunkLine (sym (take_at text more (length text) refl)) here) (new_feed text more none)

pub section_stays : (text more : List ℕ) → HasNoSection text → list_any (λ b. b == 10) more ≡ false
    → HasNoSection (text ++ more)
section_stays text more here none =
    no_section (text ++ more) (length text) (omega (arith, length-append text more))
    (subst HasNoSection (sym (take_at text more (length text) refl)) here) (new_feed text more none)

-- such a text isn't whole at the end of the bytes
pub open_now : (Awaits : List ℕ → Type 0) → ((text more : List ℕ) → Awaits text → list_any (λ b. b == 10) more ≡ false
    → Awaits (text ++ more)) → (start : ℕ) (bytes : List ℕ)
    → start ≤ length bytes → Awaits (drop start bytes) → length bytes < 1048576
    → IsOpenAt Awaits start bytes (Feed (length bytes))
open_now Awaits stays start bytes within there room = record {
  next = refl;
  bound = omega (arith, room);
  awaits = λ more missing. subst Awaits (drop_more_bytes start bytes more within)
      (stays (drop start bytes) more there (feed_none bytes more missing));
}

-- a fault that lasts, from one reason to another
pub lasts_map : (P Q : List ℕ → WireFault → Type 0) (bytes : List ℕ) (fault : WireFault)
    → ((more : List ℕ) (f : WireFault) → P (bytes ++ more) f → Q (bytes ++ more) f)
    → Lasts P bytes fault → Lasts Q bytes fault
lasts_map P Q bytes BadHead h p = λ more. h more BadHead (p more)
lasts_map P Q bytes Chunked h p = λ more. h more Chunked (p more)
lasts_map P Q bytes BadLength h p = λ more. h more BadLength (p more)
lasts_map P Q bytes TooLarge h p = λ more. h more TooLarge (p more)
lasts_map P Q bytes Memory h p = tt
lasts_map P Q bytes Cut h p = absurd p
lasts_map P Q bytes Io h p = absurd p
