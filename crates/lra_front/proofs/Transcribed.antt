-- A stream's steps as lists.
use Rattle.std.proofs.Common.{◌≡◌, ℕ, zero, suc, Bool, true, false, List, [], ◌∷◌, ◌++◌, Option, Some, None, IfSome}
use Rattle.std.proofs.Common.{Result, Ok, Err, inl, inr, refl, sym, ap, ◌∙◌, subst, append_assoc, append-nil}
use Rattle.std.specs.Prelude.{unwrap_or}
use Rattle.std.specs.Io.KnownBytes.{Appends, Keeps}
use Rattle.lra_wire.specs.Request.{Request, IsRequest, RefusesRequest}
use Rattle.lra_wire.specs.Streams.{IfBothKnown}
use Rattle.lra_commands.specs.declared.command.Told.{Told}
use Rattle.lra_commands.specs.declared.counter.Order.{Order}
use Rattle.lra_commands.specs.declared.counter.CounterFault.{CounterFault}
use Rattle.lra_commands.specs.Counters.{Setting, Sight, KeepsHistory}
use Rattle.lra_front.specs.declared.answer.Answer.{Answer}
use Rattle.lra_front.specs.declared.stream.StreamEnd.{StreamEnd}
use Rattle.lra_front.specs.declared.stream.StreamEnd.TheVariants.{Done, Refused, WriteFault}
use Rattle.lra_front.specs.Serving.{Responds}
use Rattle.lra_front.specs.Streams.{Standing, closes_after, reply_to, fault_text, Exchange, Replied, EndsAt, ServesUpTo}
use Rattle.lra_front.specs.Transcripts.{Turn, turn_text, replies, fault_bytes, StaysOpenBefore, ClosesLast, Transcript}
use Rattle.lra_front.specs.Transcripts.{EndsAfter, AreTranscripts}

-- ---- bytes that are known

same_bytes : (xs ys : List ℕ) → Some xs ≡ Some ys → xs ≡ ys
same_bytes xs ys e = ap (λ o. unwrap_or o xs) e

known_next : (o p : Option (List ℕ)) (bytes : List ℕ) (P : List ℕ → List ℕ → Type 0) → o ≡ Some bytes
    → IfBothKnown o p P → (ys : List ℕ) × (p ≡ Some ys) × P bytes ys
known_next None p bytes P e h = absurd cc
known_next (Some xs) None bytes P e h = absurd h
known_next (Some xs) (Some ys) bytes P e h = let Q : List ℕ → Type 0 = λ zs. P zs ys in
    (ys, refl, subst Q (same_bytes xs bytes e) h)

appended : (o p : Option (List ℕ)) (old text : List ℕ) → o ≡ Some old → Appends o p text → p ≡ Some (old ++ text)
appended None p old text e h = absurd cc
appended (Some xs) None old text e h = absurd h
appended (Some xs) (Some ys) old text e h = ap Some (h ∙ ap (λ zs. zs ++ text) (same_bytes xs old e))

kept : (o p : Option (List ℕ)) (old : List ℕ) → o ≡ Some old → Keeps o p → p ≡ Some (old ++ [])
kept None p old e h = absurd cc
kept (Some xs) None old e h = absurd h
kept (Some xs) (Some ys) old e h = ap Some (h ∙ same_bytes xs old e ∙ sym (append-nil old))

-- ---- texts and ends of turns

-- the next request is the last that is accepted
abbrev last_of : ℕ → Bool
last_of zero = true
last_of (suc n) = false

one_reply : (c : Setting) (n : ℕ) (turn : Turn) → turn_text c (last_of n) turn ≡ replies c n (turn ∷ [])
one_reply c zero turn = sym (append-nil (turn_text c true turn))
one_reply c (suc n) turn = sym (append-nil (turn_text c false turn))

one_text : (c : Setting) (v : Sight) (n : ℕ) (turn : Turn) → v.setting ≡ c
    → reply_to v (last_of n) turn.request turn.answer ≡ replies c n (turn ∷ [])
one_text c v n turn same = ap (λ z. turn_text z (last_of n) turn) same ∙ one_reply c n turn

closes_one : (n : ℕ) (turn : Turn) → closes_after (last_of n) turn.request ≡ true → ClosesLast n (turn ∷ [])
closes_one zero turn h = tt
closes_one (suc n) turn h = h

pub closes_more : (n : ℕ) (turn : Turn) (turns : List Turn) → closes_after false turn.request ≡ false
    → ClosesLast n turns → ClosesLast (suc n) (turn ∷ turns)
closes_more n turn [] goes h = absurd h
closes_more n turn (next ∷ turns) goes h = (goes, h)

pub before_more : (n : ℕ) (turn : Turn) (turns : List Turn) → closes_after false turn.request ≡ false
    → StaysOpenBefore n turns → StaysOpenBefore (suc n) (turn ∷ turns)
before_more n turn [] goes h = absurd h
before_more n turn (next ∷ turns) goes h = (goes, h)

-- ---- the setting stays

module _ (K : Type 0) (gives : Sight → ℕ → Order → Result Told CounterFault → Sight → Type 0)
    (tells : K → ℕ → K → Type 0)
    (keeps : (before after : Sight) (moment : ℕ) (o : Order) (reply : Result Told CounterFault)
    → gives before moment o reply after → KeepsHistory before moment o reply after) where
  pub same_setting : (v u : Sight) (m : ℕ) (r : Request) (a : Answer) → Responds gives v m r u a → u.setting ≡ v.setting
  same_setting v u m r a (Ok w, asks, h) = (keeps v u m h.order h.reply h.given).same.setting
  same_setting v u m r a (Err d, asks, h) = ap (λ x. x.setting) h.1

  abbrev turn_of : (s t : Standing K) (request : Request) (a : Answer) → Exchange gives tells s t request a → Turn
  turn_of s t request a x = record { request = request; moment = x.moment; answer = a }

  -- ---- how a stream ends

  ends : (n : ℕ) (bytes old : List ℕ) (s t : Standing K) (end : StreamEnd) → s.bytes ≡ Some bytes → s.out ≡ Some old
      → EndsAt gives tells (last_of n) s end t → Transcript gives tells n bytes old s end t
  ends n bytes old s t Done eb eo (inl f) =
      let known = known_next s.bytes t.bytes bytes (λ xs ys. (xs ≡ []) × (ys ≡ [])) eb f.read in
      record {
        turns = [];
        rest = bytes;
        out = [];
        spelled = refl;
        chain = (f.rests.sight, f.rests.clock);
        written = kept s.out t.out old eo f.wrote;
        ends = (refl, inl (known.2.0, tt));
      }
  ends n bytes old s t Done eb eo (inr r) =
      let known = known_next s.bytes t.bytes bytes (λ xs ys. IsRequest xs r.request ys) eb r.exchange.read in
      let turn : Turn = turn_of s t r.request r.answer r.exchange in
      let same = same_setting s.sight t.sight r.exchange.moment r.request r.answer r.exchange.responds in
      record {
        turns = turn ∷ [];
        rest = known.0;
        out = reply_to t.sight (last_of n) r.request r.answer;
        spelled = (known.0, known.2, refl);
        chain = (t.sight, t.clock, r.exchange.clocked, r.exchange.responds, (refl, refl));
        written = appended s.out t.out old (reply_to t.sight (last_of n) r.request r.answer) eo r.wrote;
        ends = (one_text s.sight.setting t.sight n turn same, inr (closes_one n turn r.closes));
      }
  ends n bytes old s t (Refused fault) eb eo f =
      let P : Option (List ℕ) → Type 0 = λ o. IfSome o (λ xs. RefusesRequest xs fault) in
      record {
        turns = [];
        rest = bytes;
        out = fault_text s.sight fault;
        spelled = refl;
        chain = (f.rests.sight, f.rests.clock);
        written = appended s.out t.out old (fault_text s.sight fault) eo f.wrote;
        ends = (refl, subst P eb f.read, tt);
      }
  ends n bytes old s t WriteFault eb eo (inl r) =
      let known = known_next s.bytes t.bytes bytes (λ xs ys. IsRequest xs r.request ys) eb r.exchange.read in
      let turn : Turn = turn_of s t r.request r.answer r.exchange in
      let same = same_setting s.sight t.sight r.exchange.moment r.request r.answer r.exchange.responds in
      let w = r.wrote in
      record {
        turns = turn ∷ [];
        rest = known.0;
        out = w.0;
        spelled = (known.0, known.2, refl);
        chain = (t.sight, t.clock, r.exchange.clocked, r.exchange.responds, (refl, refl));
        written = appended s.out t.out old w.0 eo w.4;
        ends = inl ((w.1, sym (one_text s.sight.setting t.sight n turn same) ∙ w.2, w.3), tt);
      }
  ends n bytes old s t WriteFault eb eo (inr (fault, f)) =
      let P : Option (List ℕ) → Type 0 = λ o. IfSome o (λ xs. RefusesRequest xs fault) in
      let w = f.wrote in
      record {
        turns = [];
        rest = bytes;
        out = w.0;
        spelled = refl;
        chain = (f.rests.sight, f.rests.clock);
        written = appended s.out t.out old w.0 eo w.4;
        ends = inr (fault, (w.1, w.2, w.3), subst P eb f.read, tt);
      }

  -- ---- one request more

  more_ends : (c : Setting) (n : ℕ) (turn : Turn) (turns : List Turn) (rest out text : List ℕ) (end : StreamEnd) → text
      ≡ turn_text c false turn
      → closes_after false turn.request ≡ false → EndsAfter c n turns rest out end
      → EndsAfter c (suc n) (turn ∷ turns) rest (text ++ out) end
  more_ends c n turn turns rest out text Done is goes (whole, inl (none, stays)) =
      (λ i. is i ++ whole i, inl (none, (goes, stays)))
  more_ends c n turn turns rest out text Done is goes (whole, inr closes) =
      (λ i. is i ++ whole i, inr (closes_more n turn turns goes closes))
  more_ends c n turn turns rest out text (Refused fault) is goes (whole, refuses, stays) = (
    (λ i. is i ++ whole i) ∙ sym (append_assoc (turn_text c false turn) (replies c n turns) (fault_bytes c fault)),
    refuses,
    (goes, stays),
  )
  more_ends c n turn turns rest out text WriteFault is goes (inl ((more, whole, long), stays)) =
      inl (
        (more, (λ i. sym is i ++ whole i) ∙ sym (append_assoc text out more), long),
        before_more n turn turns goes stays,
      )
  more_ends c n turn turns rest out text WriteFault is goes (inr (fault, (more, whole, long), refuses, stays)) =
      inr (
        fault,
        (
          more,
          append_assoc (turn_text c false turn) (replies c n turns) (fault_bytes c fault)
              ∙ (λ i. sym is i ++ whole i) ∙ sym (append_assoc text out more),
          long,
        ),
        refuses,
        (goes, stays),
      )

  one_more : (n : ℕ) (bytes old : List ℕ) (s u t : Standing K) (end : StreamEnd) → s.bytes ≡ Some bytes → s.out
      ≡ Some old → Replied gives tells false false s u
      → ((ys zs : List ℕ) → u.bytes ≡ Some ys → u.out ≡ Some zs → Transcript gives tells n ys zs u end t)
      → Transcript gives tells (suc n) bytes old s end t
  one_more n bytes old s u t end eb eo r next =
      let known = known_next s.bytes u.bytes bytes (λ xs ys. IsRequest xs r.request ys) eb r.exchange.read in
      let turn : Turn = turn_of s u r.request r.answer r.exchange in
      let same = same_setting s.sight u.sight r.exchange.moment r.request r.answer r.exchange.responds in
      let text : List ℕ = reply_to u.sight false r.request r.answer in
      let h = next known.0 (old ++ text) known.1 (appended s.out u.out old text eo r.wrote) in
      let P : Setting → Type 0 = λ c. EndsAfter c n h.turns h.rest h.out end in
      record {
        turns = turn ∷ h.turns;
        rest = h.rest;
        out = text ++ h.out;
        spelled = (known.0, known.2, h.spelled);
        chain = (u.sight, u.clock, r.exchange.clocked, r.exchange.responds, h.chain);
        written = h.written ∙ ap Some (append_assoc old text h.out);
        ends = more_ends s.sight.setting n turn h.turns h.rest h.out text end (ap (λ c. turn_text c false turn) same)
            r.closes (subst P same h.ends);
      }

  transcript : (n : ℕ) (bytes old : List ℕ) (s t : Standing K) (end : StreamEnd) → s.bytes ≡ Some bytes → s.out
      ≡ Some old
      → ServesUpTo gives tells n s end t → Transcript gives tells n bytes old s end t
  unfolding ServesUpTo
  transcript zero bytes old s t end eb eo h = ends zero bytes old s t end eb eo h
  transcript (suc n) bytes old s t end eb eo (inl h) = ends (suc n) bytes old s t end eb eo h
  transcript (suc n) bytes old s t end eb eo (inr (u, r, rest)) =
      one_more n bytes old s u t end eb eo r (λ ys zs ey ez. transcript n ys zs u t end ey ez rest)

-- what a stream does is its transcript
pub are_transcripts : (K : Type 0) (gives : Sight → ℕ → Order → Result Told CounterFault → Sight → Type 0)
    (tells : K → ℕ → K → Type 0)
    → ((before after : Sight) (moment : ℕ) (o : Order) (reply : Result Told CounterFault)
    → gives before moment o reply after → KeepsHistory before moment o reply after)
    → AreTranscripts gives tells
are_transcripts K gives tells keeps n bytes old s t end eb eo h = transcript K gives tells keeps n bytes old s t end eb
    eo h
