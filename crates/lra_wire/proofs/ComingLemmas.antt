-- The parts of a response in the bytes that came so far, whatever follows them.
use Rattle.std.proofs.Common.{◌≡◌, ℕ, ◌+◌, ◌-◌, ◌<◌, ◌≤◌, Bool, true, false, cond, List, [], ◌∷◌, ◌++◌, length, drop}
use Rattle.std.proofs.Common.{refl, sym, ap, subst, ◌∙◌, arith, append_assoc, Option, Some, None, Ok, Err, inl, inr}
use Rattle.std.specs.Prelude.{◌||◌, ◌==◌, nat_le, codes, slice_range}
use Rattle.std.specs.List.{flat_map, list_any}
use Rattle.std.proofs.lemmas.Grind.{flat_map-append}
use Rattle.std.proofs.lemmas.List.{take-append-drop, drop-drop, drop_all, length-drop, length-append, length-take}
use Rattle.std.proofs.lemmas.List.{append-nil}
use Rattle.std.proofs.lemmas.List.Folds.{list_any-append}
use Rattle.std.proofs.lemmas.List.Elements.{All-push, All-nil}
use Rattle.httparse.specs.Grammar.{print_response, HasNoResponse, MayBecomeResponse, status_code}
use Rattle.lra_wire.specs.declared.chunks.ChunksRead.{ChunksRead}
use Rattle.lra_wire.specs.declared.response_parse.ResponseCursor.{ResponseCursor}
use Rattle.lra_wire.specs.declared.wanted.Wanted.{Wanted}
use Rattle.lra_wire.specs.declared.wanted.Wanted.TheVariants.{Feed, Bytes}
use Rattle.lra_wire.specs.declared.fault.WireFault.{WireFault}
use Rattle.lra_wire.specs.declared.fault.WireFault.TheVariants.{BadHead, Chunked, BadLength, TooLarge, Cut}
use Rattle.lra_wire.specs.declared.fields.ContentLength.{ContentLength}
use Rattle.lra_wire.specs.declared.fields.ContentLength.TheVariants.{Nothing, Length, Malformed}
use Rattle.lra_wire.specs.declared.framing.Framing.{Framing}
use Rattle.lra_wire.specs.declared.framing.Framing.TheVariants.{Sized, Chunks, ToTheEnd}
use Rattle.lra_wire.specs.declared.response.Head.{Head}
use Rattle.lra_wire.specs.ResponseParse.{Lasts, IsWhole, IsOpen}
use Rattle.lra_wire.specs.Fields.{is_alike, values_of, stated_of}
use Rattle.lra_wire.specs.Response.{NeverShort, is_interim, IsInterim, HasFinal, fields_in, stated_framing}
use Rattle.lra_wire.specs.Response.{coded_framing, framing_of, IsBody, RefusesFramed, IsResponse, EndsInResponse}
use Rattle.lra_wire.specs.Response.{RefusesResponse, IsOpenResponse, AwaitsBody, AwaitsResponse}
use Rattle.lra_wire.specs.RequestCursor.{SeesResponse}
use Rattle.lra_wire.specs.inner.Wanted.{IsMissing, count_wanted, HasLooked, IsOpenAt, Seeks, LastsAt}
use Rattle.lra_wire.specs.inner.Parts.{SkipsTo, Heads, IsFinalOf, FindsHead, SeesBody, IsBodyTo, EndsBody, EndsOpen}
use Rattle.lra_wire.specs.inner.Parts.{IsHeadOf, IsSmall}
use Rattle.lra_wire.specs.inner.Chunked.{HasRead}
use Rattle.lra_wire.proofs.HeadLemmas.{up_to_all}
use Rattle.lra_wire.proofs.SearchLemmas.{no_feed}
use Rattle.lra_wire.proofs.StreamLemmas.{drop_more_bytes, behind_in}
use Rattle.lra_wire.proofs.ResponseLemmas.{NeverShort-append, response_there, rest_says, framing_small, framing_other}
use Rattle.lra_wire.proofs.ResponseLemmas.{framed_other}
use Rattle.lra_wire.proofs.OpenLemmas.{none_more, feed_none, response_stays, open_now, lasts_map}
use Rattle.lra_wire.proofs.ChunksLemmas.{chunks_on}

-- ---- heads

pub heads_none : (bytes : List ℕ) → Heads bytes 0 0
heads_none bytes = record {
  within = omega arith;
  place = omega arith;
  few = omega arith;
  so_far = record {
    heads = [];
    skips = record { each = All-nil IsInterim; few = omega arith; front = refl };
    counted =
        refl;
  };
}

-- one more was skipped
pub heads_more : (bytes : List ℕ) (start interim : ℕ) (found : Head) → Heads bytes start interim
    → IsHeadOf (drop start bytes) found → is_interim found.code ≡ true → interim < 8
    → Heads bytes (start + found.len) (interim + 1)
heads_more bytes start interim found heads at status room =
    let head = at.head in
    let before = heads.so_far in
    record {
      within = omega (arith, at.within, length-drop start bytes, heads.within);
      place = omega (arith, heads.place, at.len, at.has.short.size);
      few = omega arith;
      so_far = record {
        heads = before.heads ++ head ∷ [];
        skips = record {
          each = All-push IsInterim before.heads head before.skips.each
              (record { valid = at.has.reads.0; short = at.has.short; status = ap is_interim (sym at.code) ∙ status });
          few = omega (arith, length-append before.heads (head ∷ []), before.counted);
          front = before.skips.front ∙ ap (λ bs. flat_map print_response before.heads ++ bs)
              (at.has.reads.1 ∙ ap (λ bs. print_response head ++ bs) (drop-drop found.len start bytes))
              ∙ sym (append_assoc (flat_map print_response before.heads) (print_response head)
              (drop (start + found.len) bytes))
              ∙ ap (λ bs. (flat_map print_response before.heads ++ bs) ++ drop (start + found.len) bytes)
              (sym (append-nil (print_response head)))
              ∙ ap (λ bs. bs ++ drop (start + found.len) bytes)
              (sym (flat_map-append print_response before.heads (head ∷ [])));
        };
        counted = length-append before.heads (head ∷ []) ∙ ap (λ n. n + 1) before.counted;
      };
    }

-- the same heads in more bytes
heads_ahead : (bytes more : List ℕ) (start interim : ℕ) → Heads bytes start interim
    → SkipsTo (bytes ++ more) start interim
heads_ahead bytes more start interim heads =
    let before = heads.so_far in
    record {
      heads = before.heads;
      skips = record {
        each = before.skips.each;
        few = before.skips.few;
        front = ap (λ bs. bs ++ more) before.skips.front ∙ append_assoc (flat_map print_response before.heads)
            (drop start bytes) more
            ∙ ap (λ bs. flat_map print_response before.heads ++ bs) (drop_more_bytes start bytes more heads.within);
      };
      counted = before.counted;
    }

-- the same in more bytes
heads_on : (bytes more : List ℕ) (start interim : ℕ) → Heads bytes start interim → Heads (bytes ++ more) start interim
heads_on bytes more start interim heads = record {
  within = omega (arith, heads.within, length-append bytes more);
  place = heads.place;
  few = heads.few;
  so_far = heads_ahead bytes more start interim heads;
}

-- the final one
pub heads_final : (bytes : List ℕ) (start interim : ℕ) (found : Head) → Heads bytes start interim
    → IsHeadOf (drop start bytes) found → is_interim found.code ≡ false
    → IsFinalOf bytes (record found { len = start + found.len })
heads_final bytes start interim found heads at status = record {
  head = at.head;
  within = omega (arith, at.within, length-drop start bytes, heads.within);
  bound = omega (arith, heads.place, heads.few, at.len, at.has.short.size);
  code = at.code;
  framing = at.framing;
  final = λ more.
      let before = heads_ahead bytes more start interim heads in
      record {
        interim = before.heads;
        behind = drop start (bytes ++ more);
        skips = before.skips;
        found = response_there start bytes more found heads.within at;
        status = ap is_interim (sym at.code) ∙ status;
      };
}

-- one isn't whole
pub heads_open : (bytes : List ℕ) (start interim : ℕ) → Heads bytes start interim → HasNoResponse (drop start bytes)
    → MayBecomeResponse (drop start bytes) → length (drop start bytes) < 8192
    → IsOpenAt AwaitsResponse 0 bytes (Feed (length bytes))
heads_open bytes start interim heads open_head may few =
    let here : IsOpenResponse (drop start bytes) = (open_head, up_to_all MayBecomeResponse (drop start bytes) may) in
    let room : length bytes < 1048576 = omega (
      arith,
      heads.place,
      heads.few,
      few,
      length-drop start bytes,
      heads.within,
    ) in
    let o = open_now IsOpenResponse response_stays start bytes heads.within here room in
    record {
      next = refl;
      bound = o.bound;
      awaits = λ more missing.
          let before = heads_ahead bytes more start interim heads in
          inl (record {
            interim = before.heads;
            rest = drop start (bytes ++ more);
            skips = before.skips;
            open_head =
                o.awaits more missing;
          });
    }

-- the stream ends in it
pub heads_end : (bytes : List ℕ) (start interim : ℕ) → Heads bytes start interim → HasNoResponse (drop start bytes)
    → MayBecomeResponse (drop start bytes) → EndsInResponse bytes
heads_end bytes start interim heads open_head may =
    record {
      interim = heads.so_far.heads;
      rest = drop start bytes;
      skips = heads.so_far.skips;
      open_head = open_head;
      lawful = may;
    }

-- none comes
pub heads_refused : (bytes : List ℕ) (start interim : ℕ) → Heads bytes start interim → NeverShort (drop start bytes)
    → Lasts RefusesResponse bytes BadHead
heads_refused bytes start interim heads never = λ more.
    let before = heads_ahead bytes more start interim heads in
    record {
      interim = before.heads;
      rest = drop start (bytes ++ more);
      skips = before.skips;
      refused = inl (subst NeverShort (drop_more_bytes start bytes more heads.within)
          (NeverShort-append (drop start bytes) more never));
    }

-- a ninth interim head
pub heads_ninth : (bytes : List ℕ) (start : ℕ) (found : Head) → Heads bytes start 8 → IsHeadOf (drop start bytes) found
    → is_interim found.code ≡ true → Lasts RefusesResponse bytes BadHead
heads_ninth bytes start found heads at status = λ more.
    let before = heads_ahead bytes more start 8 heads in
    record {
      interim = before.heads;
      rest = drop start (bytes ++ more);
      skips = before.skips;
      refused = inr (
        before.counted,
        at.head,
        drop (start + found.len) (bytes ++ more),
        response_there start bytes more found heads.within at,
        ap is_interim (sym at.code) ∙ status,
      );
    }

-- ---- other bodies

pub sized_whole : (bytes body : List ℕ) (start size : ℕ) → start + size ≤ length bytes → start ≤ 73728 → size ≤ 65536
    → body ≡ slice_range bytes start (start + size)
    → IsBodyTo (Sized size) start bytes body (start + size)
sized_whole bytes body start size whole limit small is = record {
  behind = omega arith;
  within = whole;
  bound = omega (arith, limit, small);
  there = λ more.
      let n : ℕ = start + size - start in
      let same : start + n ≡ start + size = omega arith in
      let here : start ≤ length bytes = omega (arith, whole) in (
        sym (drop_more_bytes start bytes more here)
            ∙ ap (λ bs. bs ++ more) (sym (take-append-drop n (drop start bytes))
            ∙ ap (λ bs. slice_range bytes start (start + size) ++ bs)
            (drop-drop n start bytes ∙ ap (λ k. drop k bytes) same))
            ∙ append_assoc (slice_range bytes start (start + size)) (drop (start + size) bytes) more
            ∙ ap (λ bs. slice_range bytes start (start + size) ++ bs) (drop_more_bytes (start + size) bytes more whole)
            ∙ ap (λ bs. bs ++ drop (start + size) (bytes ++ more)) (sym is),
        omega (arith, ap length is, length-take n (drop start bytes), length-drop start bytes, whole),
      );
}

pub sized_open : (bytes : List ℕ) (start size : ℕ) → start ≤ length bytes → length bytes < start + size → start ≤ 73728
    → size ≤ 65536
    → IsOpenAt (AwaitsBody (Sized size)) start bytes (Bytes (start + size)) × EndsBody (Sized size) start bytes
sized_open bytes start size within few limit small = (
  record {
    next = few;
    bound = omega (arith, limit, small);
    awaits = λ more less. omega (arith, less, few, within, length-drop start (bytes ++ more), length-append bytes more);
  },
  (refl, omega (arith, few, within, length-drop start bytes)),
)

pub rest_open : (bytes : List ℕ) (start : ℕ) → start ≤ 73728 → length bytes ≤ start + 65536
    → IsOpenAt (AwaitsBody ToTheEnd) start bytes (Bytes (start + 65536 + 1)) × EndsBody ToTheEnd start bytes
rest_open bytes start limit few =
    (record { next = omega (arith, few); bound = omega (arith, limit); awaits = λ more less. tt }, few)

pub rest_large : (bytes : List ℕ) (start : ℕ) → start + 65536 < length bytes
    → LastsAt (RefusesFramed ToTheEnd start) start bytes TooLarge
rest_large bytes start long =
    λ more. (refl, omega (arith, long, length-drop start (bytes ++ more), length-append bytes more))

-- ---- responses

-- which faults a framing has
stated_lasts : (P : List ℕ → WireFault → Type 0) (bytes : List ℕ) (stated : ContentLength) (fault : WireFault)
    → stated_framing stated ≡ Err fault → ((more : List ℕ) → P (bytes ++ more) fault) → Lasts P bytes fault
stated_lasts P bytes Nothing fault e h = absurd cc
stated_lasts P bytes (Length n) fault e h = go (nat_le n 65536) e
  where
    go : (b : Bool) → cond b (Ok (Sized n)) (Err TooLarge) ≡ Err fault → Lasts P bytes fault
    go true f = absurd cc
    go false f = let same : TooLarge ≡ fault = cc in
        subst (λ (x : WireFault). Lasts P bytes x) same
        (λ more. subst (λ (x : WireFault). P (bytes ++ more) x) (sym same) (h more))
stated_lasts P bytes Malformed fault e h =
    let same : BadLength ≡ fault = cc in subst (λ (x : WireFault). Lasts P bytes x) same
    (λ more. subst (λ (x : WireFault). P (bytes ++ more) x) (sym same) (h more))

coded_lasts : (P : List ℕ → WireFault → Type 0) (bytes : List ℕ) (codings : List (List ℕ)) (stated : ContentLength)
    (fault : WireFault) → coded_framing codings stated ≡ Err fault
    → ((more : List ℕ) → P (bytes ++ more) fault) → Lasts P bytes fault
coded_lasts P bytes [] stated fault e h = stated_lasts P bytes stated fault e h
coded_lasts P bytes (coding ∷ []) stated fault e h = go (is_alike coding (codes "chunked")) e
  where
    go : (b : Bool) → cond b (Ok Chunks) (Err Chunked) ≡ Err fault → Lasts P bytes fault
    go true f = absurd cc
    go false f = let same : Chunked ≡ fault = cc in
        subst (λ (x : WireFault). Lasts P bytes x) same
        (λ more. subst (λ (x : WireFault). P (bytes ++ more) x) (sym same) (h more))
coded_lasts P bytes (coding ∷ other ∷ codings) stated fault e h =
    let same : Chunked ≡ fault = cc in subst (λ (x : WireFault). Lasts P bytes x) same
    (λ more. subst (λ (x : WireFault). P (bytes ++ more) x) (sym same) (h more))

framing_lasts : (P : List ℕ → WireFault → Type 0) (bytes : List ℕ) (code : ℕ) (fields : List (List ℕ × List ℕ))
    (fault : WireFault) → framing_of code fields ≡ Err fault
    → ((more : List ℕ) → P (bytes ++ more) fault) → Lasts P bytes fault
framing_lasts P bytes code fields fault e h = go ((code == 204) || (code == 304)) e
  where
    go : (b : Bool) → cond b (Ok (Sized 0)) (coded_framing (values_of (codes "transfer-encoding") fields)
        (stated_of fields)) ≡ Err fault → Lasts P bytes fault
    go true f = absurd cc
    go false f = coded_lasts P bytes (values_of (codes "transfer-encoding") fields) (stated_of fields) fault f h

pub framing_refused_now : (bytes : List ℕ) (found : Head) (fault : WireFault) → IsFinalOf bytes found → found.framing
    ≡ Err fault → Lasts RefusesResponse bytes fault
framing_refused_now bytes found fault final framed =
    let is : framing_of (status_code final.head) (fields_in final.head) ≡ Err fault = sym final.framing ∙ framed in
    framing_lasts RefusesResponse bytes (status_code final.head) (fields_in final.head) fault is (λ more.
    rest_says (bytes ++ more) fault (λ bad. framing_other (status_code final.head) (fields_in final.head)
    (is ∙ ap Err bad))
    (record { head = final.head; behind = drop found.len (bytes ++ more); final = final.final more; refused = inl is }))

pub body_refused_now : (bytes : List ℕ) (found : Head) (framing : Framing) (fault : WireFault) → IsFinalOf bytes found
    → found.framing ≡ Ok framing
    → LastsAt (RefusesFramed framing found.len) found.len bytes fault → Lasts RefusesResponse bytes fault
body_refused_now bytes found framing fault final framed refused =
    let is : framing_of (status_code final.head) (fields_in final.head) ≡ Ok framing = sym final.framing ∙ framed in
    let place : ℕ = found.len in
    lasts_map (λ text f. RefusesFramed framing place (drop place text) f) RefusesResponse bytes fault
    (λ more f lacks.
    let stream : List ℕ = bytes ++ more in
    let same : place ≡ length stream - length (drop place stream) = omega
    (arith, final.within, length-append bytes more, length-drop place stream) in
    rest_says stream f
    (λ bad. framed_other framing place (drop place stream)
    (subst (λ (x : WireFault). RefusesFramed framing place (drop place stream) x) bad lacks))
    (record {
      head = final.head;
      behind = drop place stream;
      final = final.final more;
      refused = inr (framing, is, subst (λ (n : ℕ). RefusesFramed framing n (drop place stream) f) same lacks);
    })) refused

pub response_whole : (bytes : List ℕ) (found : Head) (framing : Framing) (body : List ℕ) (len : ℕ)
    → IsFinalOf bytes found → found.framing ≡ Ok framing
    → IsBodyTo framing found.len bytes body len → IsWhole bytes found.code body len
response_whole bytes found framing body len final framed content = record {
  within = content.within;
  stays = λ more.
      let same : drop len (bytes ++ more) ≡ drop len bytes ++ more = sym
      (drop_more_bytes len bytes more content.within) in
      record {
        head = final.head;
        behind = drop found.len (bytes ++ more);
        final = final.final more;
        status = final.code;
        framing = framing;
        framed = sym final.framing ∙ framed;
        content = subst (λ (rest : List ℕ). IsBody framing (drop found.len (bytes ++ more)) body rest) same
            (content.there more);
        size = omega (
          arith,
          content.bound,
          length-append bytes more,
          length-append (drop len bytes) more,
          length-drop len bytes,
        );
      };
}

pub response_open_now : (bytes : List ℕ) (found : Head) (framing : Framing) (wanted : Wanted) → IsFinalOf bytes found
    → found.framing ≡ Ok framing
    → IsOpenAt (AwaitsBody framing) found.len bytes wanted → IsOpenAt AwaitsResponse 0 bytes wanted
response_open_now bytes found framing wanted final framed o = record {
  next = o.next;
  bound = o.bound;
  awaits = λ more missing. inr (record {
    head = final.head;
    behind = drop found.len (bytes ++ more);
    final = final.final more;
    framing = framing;
    framed = sym final.framing ∙ framed;
    open_body = o.awaits more missing;
  });
}

-- the head and the framing of what is open
ends_as : (bytes : List ℕ) (found : Head) (framing : Framing) → EndsOpen (Some found) bytes → found.framing ≡ Ok framing
    → EndsBody framing found.len bytes
ends_as bytes found framing (other, is, ends) framed = let same : other ≡ framing = cc in
    subst (λ (f : Framing). EndsBody f found.len bytes) same ends

final_now : (bytes : List ℕ) (found : Head) → (final : IsFinalOf bytes found)
    → HasFinal bytes final.head (drop found.len bytes)
final_now bytes found final = subst (λ (bs : List ℕ). HasFinal bs final.head (drop found.len bs)) (append-nil bytes)
    (final.final [])

-- the stream ends in its body
pub response_cut_now : (bytes : List ℕ) (found : Head) (framing : Framing) → IsFinalOf bytes found
    → EndsOpen (Some found) bytes → found.framing ≡ Ok framing
    → (EndsBody framing found.len bytes → RefusesFramed framing found.len (drop found.len bytes) Cut)
    → RefusesResponse bytes Cut
response_cut_now bytes found framing final ends framed cut =
    let place : found.len ≡ length bytes - length (drop found.len bytes) =
    omega (arith, final.within, length-drop found.len bytes) in
    inr (record {
      head = final.head;
      behind = drop found.len bytes;
      final = final_now bytes found final;
      refused = inr (
        framing,
        sym final.framing ∙ framed,
        subst (λ (n : ℕ). RefusesFramed framing n (drop found.len bytes) Cut) place
            (cut (ends_as bytes found framing ends framed)),
      );
    })

-- its body ends with the stream
pub rest_whole : (bytes : List ℕ) (found : Head) (framing : Framing) (body : List ℕ) → IsFinalOf bytes found
    → EndsOpen (Some found) bytes → found.framing ≡ Ok framing → framing ≡ ToTheEnd
    → body ≡ drop found.len bytes → (length bytes ≤ length bytes) × IsResponse bytes found.code body
    (drop (length bytes) bytes)
rest_whole bytes found framing body final ends framed is same =
    let few : length bytes ≤ found.len + 65536 = ends_as bytes found ToTheEnd ends (framed ∙ ap Ok is) in (
      omega arith,
      record {
        head = final.head;
        behind = drop found.len bytes;
        final = final_now bytes found final;
        status = final.code;
        framing = ToTheEnd;
        framed = sym final.framing ∙ framed ∙ ap Ok is;
        content = (
          sym same,
          drop_all (length bytes) bytes (omega arith),
          omega (arith, few, ap length same, length-drop found.len bytes),
        );
        size = omega (arith, few, final.bound);
      },
    )

-- a stated length is within its limit
pub final_small : (bytes : List ℕ) (found : Head) (framing : Framing) → IsFinalOf bytes found → found.framing
    ≡ Ok framing → IsSmall framing
final_small bytes found framing final framed = framing_small (status_code final.head) (fields_in final.head) framing
    (sym final.framing ∙ framed)

-- ---- what is wanted

-- so many bytes there are at least before a response is whole
pub open_tells : (bytes : List ℕ) (wanted : Wanted) → IsOpenAt AwaitsResponse 0 bytes wanted
    → IsOpen bytes (count_wanted wanted)
open_tells bytes (Feed looked) o = record {
  few = omega (arith, o.next);
  bound = o.bound;
  awaits = λ more less.
      let none : more ≡ [] = none_more bytes more (omega (arith, less, o.next)) in
      let missing = ap (list_any (λ b. b == 10)) (drop_all looked (bytes ++ [])
      (omega (arith, o.next, length-append {A = ℕ} bytes []))) in
      subst (λ (bs : List ℕ). AwaitsResponse (bytes ++ bs)) (sym none) (o.awaits [] missing);
}
open_tells bytes (Bytes count) o = record { few = o.next; bound = o.bound; awaits = λ more less. o.awaits more less }

-- it is sought from there on
open_seeks : (bytes : List ℕ) (wanted : Wanted) → IsOpenAt AwaitsResponse 0 bytes wanted → Seeks wanted bytes
open_seeks bytes (Feed looked) o = record {
  looked = omega (arith, o.next);
  bound = o.bound;
  awaits =
      λ more missing. o.awaits more missing;
}
open_seeks bytes (Bytes count) o = record {
  looked = tt;
  bound = o.bound;
  awaits =
      λ more missing. o.awaits more missing;
}

-- the wanted line feed hasn't come
pub still_feed : (bytes : List ℕ) (looked : ℕ) → Seeks (Feed looked) bytes → length bytes < 1048576
    → list_any (λ b. b == 10) (slice_range bytes looked (length bytes)) ≡ false
    → IsOpenAt AwaitsResponse 0 bytes (Feed (length bytes))
still_feed bytes looked s few none = record {
  next = refl;
  bound = omega (arith, few);
  awaits = λ more missing. s.awaits more
      (ap (list_any (λ b. b == 10)) (sym (drop_more_bytes looked bytes more s.looked))
      ∙ list_any-append (λ b. b == 10) (drop looked bytes) more
      ∙ ap (λ t. t || list_any (λ b. b == 10) more) (no_feed bytes looked none) ∙ feed_none bytes more missing);
}

-- the wanted line feed came
pub came_feed : (bytes : List ℕ) (looked : ℕ) → list_any (λ b. b == 10) (slice_range bytes looked (length bytes)) ≡ true
    → ¬ (list_any (λ b. b == 10) (drop looked bytes) ≡ false)
came_feed bytes looked came missing =
    let same = ap (list_any (λ b. b == 10)) (behind_in {bytes = bytes} {kept = bytes} looked refl) in
    let e : true ≡ false = sym came ∙ same ∙ missing in cc

pub still_bytes : (bytes : List ℕ) (count : ℕ) → Seeks (Bytes count) bytes → length bytes < count
    → IsOpenAt AwaitsResponse 0 bytes (Bytes count)
still_bytes bytes count s few = record { next = few; bound = s.bound; awaits = λ more missing. s.awaits more missing }

-- ---- what was seen

-- the final head that was found, and where its body begins
pub seen_final : (seen : ResponseCursor) (bytes : List ℕ) (found : Option Head) (head : Head) → SeesResponse seen bytes
    → found ≡ Some head → FindsHead seen.head bytes (Ok found)
    → IsFinalOf bytes head × (seen.chunks.start ≡ head.len) × HasRead bytes seen.chunks
seen_final seen bytes found head s is finds =
    let same : seen.head ≡ Some head = subst (λ (o : Option Head). FindsHead seen.head bytes (Ok o)) is finds in
    subst (λ (o : Option Head). SeesBody o seen.chunks bytes) same s.body

-- a final head stays in more bytes
final_on : (bytes more : List ℕ) (found : Head) → IsFinalOf bytes found → IsFinalOf (bytes ++ more) found
final_on bytes more found final = record {
  head = final.head;
  within = omega (arith, final.within, length-append bytes more);
  bound = final.bound;
  code = final.code;
  framing = final.framing;
  final = λ tail. subst (λ (bs : List ℕ). HasFinal bs final.head (drop found.len bs))
      (sym (append_assoc bytes more tail)) (final.final (more ++ tail));
}

body_on : (head : Option Head) (read : ChunksRead) (bytes more : List ℕ) → SeesBody head read bytes
    → SeesBody head read (bytes ++ more)
body_on None read bytes more none = none
body_on (Some head) read bytes more b = (
  final_on bytes more head b.0,
  b.1,
  chunks_on bytes more read.start read.end read.body.items b.2,
)

looked_on : (wanted : Wanted) (bytes more : List ℕ) → HasLooked wanted bytes → HasLooked wanted (bytes ++ more)
looked_on (Feed looked) bytes more within = omega (arith, within, length-append bytes more)
looked_on (Bytes count) bytes more within = tt

pub sees_more : (seen : ResponseCursor) (bytes more : List ℕ) → SeesResponse seen bytes
    → SeesResponse seen (bytes ++ more)
sees_more seen bytes more s = record {
  passed = heads_on bytes more seen.passed.end seen.passed.count s.passed;
  body = body_on seen.head seen.chunks bytes more s.body;
  wanted = record {
    looked = looked_on seen.wanted bytes more s.wanted.looked;
    bound = s.wanted.bound;
    awaits = λ tail missing. subst AwaitsResponse (sym (append_assoc bytes more tail))
        (s.wanted.awaits (more ++ tail) (subst (IsMissing seen.wanted) (append_assoc bytes more tail) missing));
  };
}

-- new findings mean nothing for the bytes
pub sees_nothing : (bytes : List ℕ) → Seeks (Bytes 0) bytes
sees_nothing bytes = record { looked = tt; bound = omega arith; awaits = λ more few. absurd (omega (arith, few)) }

-- more is wanted
pub sees_open : (seen : ResponseCursor) (bytes : List ℕ) (wanted : Wanted) → SeesResponse seen bytes
    → IsOpenAt AwaitsResponse 0 bytes wanted → SeesResponse (record seen { wanted = wanted }) bytes
sees_open seen bytes wanted s o = record { passed = s.passed; body = s.body; wanted = open_seeks bytes wanted o }
