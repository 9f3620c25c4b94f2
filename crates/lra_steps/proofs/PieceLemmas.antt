-- Requests answered one after another, of bytes that come in pieces.
use Rattle.std.proofs.Common.{◌≡◌, ℕ, ◌+◌, ◌-◌, ◌<◌, List, [], ◌∷◌, ◌++◌, map, length, take, drop, get_or, flat_map}
use Rattle.std.proofs.Common.{Option, Some, None, Result, Ok, Err, inl, inr, refl, sym, ap, ◌∙◌, subst, arith}
use Rattle.std.proofs.Common.{append_assoc}
use Rattle.std.specs.declared.alloc.AllocError.{AllocError}
use Rattle.std.specs.Prelude.{◌⊎◌, Bool, false, IfOk, IfSome, IsTrue, IsFalse}
use Rattle.std.proofs.lemmas.Bool.{both_ways}
use Rattle.std.proofs.lemmas.List.{take-append-drop, take-take, drop-take, take_more, append-nil}
use Rattle.std.proofs.lemmas.List.Concat.{flat_map-append}
use Rattle.lra_wire.specs.Request.{Request}
use Rattle.lra_wire.proofs.CodedLemmas.{refused_more_by, request_takes_by, refuses_by}
use Rattle.lra_commands.specs.declared.command.Told.{Told}
use Rattle.lra_commands.specs.declared.counter.Order.{Order}
use Rattle.lra_commands.specs.declared.counter.CounterFault.{CounterFault}
use Rattle.lra_commands.specs.Counters.{Setting, Sight, KeepsHistory}
use Rattle.lra_front.specs.declared.stream.StreamEnd.{StreamEnd}
use Rattle.lra_front.specs.declared.stream.StreamEnd.TheVariants.{Done, Refused, WriteFault}
use Rattle.lra_front.specs.Transcripts.{Chain as FrontChain, EndsAfter as FrontEnds, Spells, IsFront}
use Rattle.lra_steps.specs.declared.connection.Step.TheVariants.{RequestReady, Ended}
use Rattle.lra_steps.specs.declared.handler.Answered.{Answered}
use Rattle.lra_steps.specs.History.{History, IsServed, IsLasting, IsOpenSo, Replies, EndsAfter, SpellsBy, Turn, plain}
use Rattle.lra_steps.specs.History.{fault_reply, ordered, took, finished, went}
use Rattle.lra_steps.specs.Steps.{StepsTo, Tells}
use Rattle.lra_steps.specs.Pieces.{Answers, AnswersAlone, Chain, Serves, ServesBytes}
use Rattle.lra_steps.specs.inner.Alone.{responds_of, setting_stays}
use Rattle.lra_steps.specs.inner.Feeding.{Follows, IsFresh}
use Rattle.lra_steps.proofs.TurnLemmas.{AreOf, Spells-more, spells_plain, replies_plain}
use Rattle.lra_steps.proofs.HistoryLemmas.{all_read}

-- ---- pieces

-- the next bytes of a piece come after the first
pub taken_more : (old before now piece : List ℕ) (m n : ℕ) → before ≡ old ++ take m piece → now ≡ before
    ++ take ((m + n) - m) (drop m piece) → now ≡ old ++ take (m + n) piece
taken_more old before now piece m n b e =
    let next = drop m (take (m + n) piece) in
    let k : (m + n) - m ≡ n = omega arith in
    e ∙ ap (λ i. before ++ take i (drop m piece)) k ∙ ap (λ xs. before ++ xs) (sym (drop-take m n piece))
    ∙ ap (λ xs. xs ++ next) b ∙ append_assoc old (take m piece) next
    ∙ ap (λ xs. old ++ (xs ++ next)) (sym (take-take m (m + n) piece (omega arith)))
    ∙ ap (λ xs. old ++ xs) (take-append-drop m (take (m + n) piece))

-- and the rest after those
pub taken_rest : (old now piece : List ℕ) (n : ℕ) → now ≡ old ++ take n piece → now ++ drop n piece ≡ old ++ piece
taken_rest old now piece n e = ap (λ xs. xs ++ drop n piece) e ∙ append_assoc old (take n piece) (drop n piece)
    ∙ ap (λ xs. old ++ xs) (take-append-drop n piece)

-- one piece more
pub next_piece : {X : Type 0} (f : X → List ℕ) (xs : List X) (i : ℕ) (x : X) → i < length xs → x ≡ get_or xs i x
    → flat_map f (take (i + 1) xs) ≡ flat_map f (take i xs) ++ f x
next_piece f xs i x h e =
    ap (flat_map f) (take_more xs i x h) ∙ flat_map-append f (take i xs) (get_or xs i x ∷ [])
    ∙ ap (λ ys. flat_map f (take i xs) ++ ys) (append-nil (f (get_or xs i x)) ∙ ap f (sym e))

-- the bytes up to an offset in a piece, then the rest of the piece, and the pieces after it
pub up_to : {X : Type 0} (f : X → List ℕ) (xs : List X) (i : ℕ) (x : X) (before now back : List ℕ) → i < length xs → x
    ≡ get_or xs i x
    → before ≡ flat_map f (take i xs) → now ++ back ≡ before ++ f x → now ++ (back ++ flat_map f (drop (i + 1) xs))
    ≡ flat_map f xs
up_to f xs i x before now back h e b n =
    let tail = flat_map f (drop (i + 1) xs) in
    sym (append_assoc now back tail) ∙ ap (λ ys. ys ++ tail) (n ∙ ap (λ ys. ys ++ f x) b
    ∙ sym (next_piece f xs i x h e))
    ∙ sym (flat_map-append f (take (i + 1) xs) (drop (i + 1) xs)) ∙ ap (flat_map f) (take-append-drop (i + 1) xs)

-- the bytes that were sent, and all those that may be
pub handed_all : (h : History) (before sent now : List ℕ) → sent ≡ before ++ h.sent → now ≡ sent ++ h.out → now ≡ before
    ++ (went h (length h.out)).sent
handed_all h before sent now s n =
    n ∙ ap (λ xs. xs ++ h.out) s ∙ append_assoc before h.sent h.out ∙ ap (λ xs. before ++ (h.sent ++ xs))
    (sym (all_taken h.out))
  where
    all_taken : (xs : List ℕ) → take (length xs) xs ≡ xs
    all_taken [] = refl
    all_taken (x ∷ xs) = ap (λ ys. x ∷ ys) (all_taken xs)

pub none_left : (xs : List ℕ) → drop (length xs) xs ≡ []
none_left [] = refl
none_left (x ∷ xs) = none_left xs

-- ---- the end

-- the end is that of all bytes, where more follow
ends_more : (end : StreamEnd) (h : History) (back : List ℕ) → IsLasting h.chunked end h.turns h.kept ⊎ IsTrue h.closed
    → IsFalse h.closed ⊎ (back ≡ []) → Replies (Some end) h
    → EndsAfter h.chunked h.instance h.base h.turns (h.kept ++ back) (h.sent ++ h.out) end
ends_more WriteFault h back why over r = r
ends_more Done h back why (inr none) r =
    subst (λ (xs : List ℕ). EndsAfter h.chunked h.instance h.base h.turns xs (h.sent ++ h.out) Done)
    (sym (ap (λ xs. h.kept ++ xs) none ∙ append-nil h.kept)) r
ends_more (Refused fault) h back why (inr none) r =
    subst (λ (xs : List ℕ). EndsAfter h.chunked h.instance h.base h.turns xs (h.sent ++ h.out) (Refused fault))
    (sym (ap (λ xs. h.kept ++ xs) none ∙ append-nil h.kept)) r
ends_more Done h back (inr shut) (inl goes) r = absurd (both_ways h.closed goes shut)
ends_more (Refused fault) h back (inr shut) (inl goes) r = absurd (both_ways h.closed goes shut)
ends_more Done h back (inl stays) (inl goes) r = (r.0, inr stays)
ends_more (Refused fault) h back (inl stays) (inl goes) r = (
  r.0,
  refuses_by h.chunked (h.kept ++ back) fault
      (refused_more_by h.chunked h.kept back fault stays),
  r.2,
)

-- a turn more, and what stays as it was
record Turned (h new : History) (turn : Turn) : Type 0 where
  turns : new.turns ≡ h.turns ++ turn ∷ []
  none : new.stands ≡ None
  instance : new.instance ≡ h.instance
  base : new.base ≡ h.base
  taken : new.taken ≡ h.taken
  kept : new.kept ≡ h.kept
  sent : new.sent ≡ h.sent
  closed : new.closed ≡ h.closed
  chunked : new.chunked ≡ h.chunked

turned : (h new : History) (turn : Turn) (result : Result (Unit {0}) AllocError) → Tells result h new turn
    → Turned h new turn
turned h new turn (Ok u) e = subst (λ (g : History). Turned h g turn) (sym e)
    (record {
      turns = refl;
      none = refl;
      instance = refl;
      base = refl;
      taken = refl;
      kept = refl;
      sent = refl;
      closed =
          refl;
      chunked = refl;
    })
turned h new turn (Err f) e = subst (λ (g : History). Turned h g turn) (sym e)
    (record {
      turns = refl;
      none = refl;
      instance = refl;
      base = refl;
      taken = refl;
      kept = refl;
      sent = refl;
      closed =
          refl;
      chunked = refl;
    })

-- ---- answers

module _ (S K : Type 0) (base_of : S → List ℕ) (responds : S → ℕ → Request → Answered → S → Type 0)
    (tells : K → ℕ → K → Type 0) where
  -- a turn more
  chain-push : (v w x : S) (k l m : K) (turns : List Turn) (turn : Turn) → Chain responds tells v k turns w l
      → tells l turn.moment m
      → responds w turn.moment turn.request turn.answered x → Chain responds tells v k (turns ++ turn ∷ []) x m
  chain-push v w x k l m [] turn c t r = (
    x,
    m,
    subst (λ (j : K). tells j turn.moment m) c.1 t,
    subst (λ (u : S). responds u turn.moment turn.request
        turn.answered x) c.0 r,
    (refl, refl),
  )
  chain-push v w x k l m (first ∷ turns) turn c t r = (
    c.0,
    c.1,
    c.2,
    c.3,
    chain-push c.0 w x c.1 l m turns turn c.4 t r,
  )

  -- the request that stands is answered, and replied or not
  pub answers_standing : (stands : Option Request) (asked : Request) (answered : Answered) (v w : S) (k l : K)
      (old new : History) (moment : ℕ) (reply : Result (Unit {0}) AllocError)
      → Some asked ≡ stands → tells k moment l → responds v moment asked answered w
      → IfSome stands (λ request. Tells reply old new
      (record { request = request; moment = moment; answered = answered }))
      → IfSome stands (λ request. Answers responds tells request answered v w k l old new)
  answers_standing None asked answered v w k l old new moment reply e clocked given told = absurd cc
  answers_standing (Some request) asked answered v w k l old new moment reply e clocked given told =
      let same : asked ≡ request = some_same asked request e in
      record {
        moment = moment;
        clocked = clocked;
        given = subst (λ (r : Request). responds v moment r answered w) same given;
        reply = reply;
        told = told;
      }
    where
      some_same : (x y : Request) → Some x ≡ Some y → x ≡ y
      some_same x y e = cc

  module _ (stays : (before after : S) (moment : ℕ) (request : Request) (answered : Answered)
      → responds before moment request answered after → base_of after ≡ base_of before) where
    -- a request was read and answered, and what stays as it was
    pub record Passes (h new : History) (w x : S) (l m : K) : Type 0 where
      pub follows : (v : S) (k : K) → Follows base_of responds tells v k h w l
          → Follows base_of responds tells v k new x m
      pub same : base_of x ≡ base_of w
      pub none : new.stands ≡ None
      pub instance : new.instance ≡ h.instance
      pub base : new.base ≡ h.base
      pub taken : new.taken ≡ h.taken
      pub sent : new.sent ≡ h.sent
      pub closed : new.closed ≡ h.closed
      pub shorter : length new.kept < length h.kept

    pub passes : (h mid new : History) (w x : S) (l m : K) (answered : Answered) → StepsTo RequestReady h mid
        → IfSome mid.stands (λ request. Answers responds tells request answered w x l m mid new) → Passes h new w x l m
    passes h mid new w x l m answered s all =
        let request : Request = s.0 in
        let a : Answers responds tells request answered w x l m (ordered h request s.1) new =
        subst (λ (g : History). IfSome g.stands (λ request. Answers responds tells request answered w x l m g new)) s.4
        all in
        let turn : Turn = record { request = request; moment = a.moment; answered = answered } in
        let t : Turned (ordered h request s.1) new turn = turned (ordered h request s.1) new turn a.reply a.told in
        let same = stays w x a.moment request answered a.given in
        record {
          follows = λ v k f. record {
            chain = subst (λ (ts : List Turn). Chain responds tells v k ts x m) (sym t.turns)
                (chain-push v w x k l m h.turns turn f.chain a.clocked a.given);
            base = t.base ∙ f.base ∙ sym same;
            none = t.none;
            plain = t.chunked ∙ f.plain;
          };
          same = same;
          none = t.none;
          instance = t.instance;
          base = t.base;
          taken = t.taken;
          sent = t.sent;
          closed = t.closed;
          shorter = omega (arith, request_takes_by h.chunked h.kept request s.1 s.3, ap length t.kept);
        }

  -- bytes came, or were sent
  pub follows_took : (v w : S) (k l : K) (h : History) (more : List ℕ) (new : History) → new ≡ took h more
      → Follows base_of responds tells v k h w l → Follows base_of responds tells v k new w l
  follows_took v w k l h more new e f = subst (λ (g : History). Follows base_of responds tells v k g w l) (sym e)
      (record { chain = f.chain; base = f.base; none = f.none; plain = f.plain })

  pub follows_went : (v w : S) (k l : K) (h : History) (count : ℕ) (new : History) → new ≡ went h count
      → Follows base_of responds tells v k h w l → Follows base_of responds tells v k new w l
  follows_went v w k l h count new e f = subst (λ (g : History). Follows base_of responds tells v k g w l) (sym e)
      (record { chain = f.chain; base = f.base; none = f.none; plain = f.plain })

  pub follows_finished : (v w : S) (k l : K) (h new : History) → new ≡ finished h
      → Follows base_of responds tells v k h w l → Follows base_of responds tells v k new w l
  follows_finished v w k l h new e f = subst (λ (g : History). Follows base_of responds tells v k g w l) (sym e)
      (record { chain = f.chain; base = f.base; none = f.none; plain = f.plain })

  -- how the connection ended, and what stays as it was
  pub record Finishes (end : StreamEnd) (h new : History) (w : S) (l : K) : Type 0 where
    pub follows : (v : S) (k : K) → Follows base_of responds tells v k h w l
        → Follows base_of responds tells v k new w l
    pub ended : new.ended ≡ Some end
    pub instance : new.instance ≡ h.instance
    pub base : new.base ≡ h.base
    pub taken : new.taken ≡ h.taken
    pub sent : new.sent ≡ h.sent
    pub closed : new.closed ≡ h.closed

  pub finishes : (end : StreamEnd) (h new : History) (w : S) (l : K) → StepsTo (Ended end) h new
      → Finishes end h new w l
  finishes end h new w l (inl s) = subst (λ (g : History). Finishes end h g w l) (sym s.1)
      (record {
        follows = λ v k f. f;
        ended = s.0;
        instance = refl;
        base = refl;
        taken = refl;
        sent = refl;
        closed =
            refl;
      })
  finishes end h new w l (inr s) = subst (λ (g : History). Finishes end h g w l) (sym s.2) (record {
    follows = λ v k f. record { chain = f.chain; base = f.base; none = f.none; plain = f.plain };
    ended = refl;
    instance = refl;
    base = refl;
    taken = refl;
    sent = refl;
    closed = refl;
  })

  -- nothing has come yet
  pub follows_fresh : (v : S) (k : K) (h : History) → IsFresh (base_of v) h → Follows base_of responds tells v k h v k
  follows_fresh v k h f = record {
    chain = subst (λ (ts : List Turn). Chain responds tells v k ts v k) (sym f.turns)
        (refl, refl);
    base = f.base;
    none = f.none;
    plain = f.plain;
  }

  -- All that was answered and sent is what serving all bytes does.
  pub serves : (instance : ℕ) (base : List ℕ) (v w : S) (k l : K) (h : History) (end : StreamEnd)
      (all back before out : List ℕ) → IsServed h → Follows base_of responds tells v k h w l
      → h.instance ≡ instance → h.base ≡ base → h.ended ≡ Some end → h.out ≡ [] → IsFalse h.closed ⊎ (back ≡ [])
      → h.taken ++ back ≡ all → out ≡ before ++ h.sent
      → Serves responds tells instance base all before v k end out w l
  serves instance base v w k l h end all back before out s f i b ended none over whole written =
      let r : Replies (Some end) h = subst (λ (o : Option StreamEnd). Replies o h) ended s.replied in
      let so : IsOpenSo (Some end) h = subst (λ (o : Option StreamEnd). IsOpenSo o h) ended s.open_so in
      let rest = h.kept ++ back in
      let wide : EndsAfter h.chunked h.instance h.base h.turns rest h.sent end =
      subst (λ (xs : List ℕ). EndsAfter h.chunked h.instance h.base h.turns rest xs end)
      (ap (λ xs. h.sent ++ xs) none ∙ append-nil h.sent) (ends_more end h back so.1 over r) in
      let mine : EndsAfter false h.instance h.base h.turns rest h.sent end =
      subst (λ (b : Bool). EndsAfter b h.instance h.base h.turns rest h.sent end) f.plain wide in
      let read : SpellsBy false h.taken (map plain h.turns) h.kept =
      subst (λ (b : Bool). SpellsBy b h.taken (map plain h.turns) h.kept) f.plain (all_read h s f.none) in
      record {
        turns = h.turns;
        rest = rest;
        out = h.sent;
        spelled = subst (λ (xs : List ℕ). Spells xs (map plain h.turns) rest) whole
            (spells_plain (h.taken ++ back) (map plain h.turns) rest
            (Spells-more false h.taken (map plain h.turns) h.kept back read));
        chain = f.chain;
        written = written;
        ends = subst (λ (q : List ℕ). EndsAfter false instance q h.turns rest h.sent end) b
            (subst (λ (j : ℕ). EndsAfter false j h.base h.turns rest h.sent end) i mine);
      }

-- ---- a counter that answers by itself

-- how a stream ends, as for the HTTP interface
ends_plain : (c : Setting) (end : StreamEnd) (turns : List Turn) (rest out : List ℕ) → AreOf c.instance turns
    → EndsAfter false c.instance c.base turns rest out end
    → FrontEnds c 999 (map plain turns) rest out end
ends_plain c Done turns rest out of r = (r.0 ∙ replies_plain c 999 turns of, r.1)
ends_plain c (Refused fault) turns rest out of r = (
  r.0 ∙ ap (λ xs. xs ++ fault_reply c.instance c.base fault)
      (replies_plain c 999 turns of),
  r.1,
  r.2,
)
ends_plain c WriteFault turns rest out of r = inl (subst (IsFront out) (replies_plain c 999 turns of) r.0, r.1)

module _ (C K : Type 0) (sight : C → Sight) (covers : C → ℕ → Bool) (gives : Sight → ℕ → Order
    → Result Told CounterFault → Sight → Type 0)
    (tells : K → ℕ → K → Type 0)
    (keeps : (before after : Sight) (moment : ℕ) (o : Order) (reply : Result Told CounterFault)
    → gives before moment o reply after → KeepsHistory before moment o reply after) where
  -- the turns are those of the HTTP interface, and all of one coordinator
  record Alone (v w : Sight) (k l : K) (turns : List Turn) : Type 0 where
    of : AreOf v.setting.instance turns
    chain : FrontChain gives tells v k (map plain turns) w l

  alone : (v w : C) (k l : K) (turns : List Turn) → Chain (AnswersAlone sight covers gives) tells v k turns w l
      → Alone (sight v) (sight w) k l turns
  alone v w k l [] c = record { of = tt; chain = (ap sight c.0, c.1) }
  alone v w k l (turn ∷ turns) c =
      let given = responds_of gives (sight v) (sight c.0) turn.moment turn.request turn.answered c.3.ordered in
      let same = setting_stays gives keeps (sight v) (sight c.0) turn.moment turn.request turn.answered.answer given in
      let more = alone c.0 w c.1 l turns c.4 in
      record {
        of = (c.3.instance, subst (λ (z : Setting). AreOf z.instance turns) same more.of);
        chain = (sight c.0, c.1, c.2, given, more.chain);
      }

  -- Serving bytes by such a session does what a stream of them does.
  serves_bytes : (bytes old : List ℕ) (v w : C) (k l : K) (end : StreamEnd) (new : List ℕ)
      → Serves (AnswersAlone sight covers gives) tells (sight v).setting.instance (sight v).setting.base bytes old v k
      end new w l
      → ServesBytes gives tells bytes old (sight v) k end new (sight w) l
  serves_bytes bytes old v w k l end new s =
      let a = alone v w k l s.turns s.chain in
      record {
        turns = map plain s.turns;
        rest = s.rest;
        out = s.out;
        spelled = s.spelled;
        chain = a.chain;
        written = ap Some s.written;
        ends = ends_plain (sight v).setting end s.turns s.rest s.out a.of s.ends;
      }

  pub serves_alone : (instance : ℕ) (bytes old : List ℕ) (v w : C) (k l : K) (r : Result StreamEnd AllocError)
      (new : List ℕ) → instance ≡ (sight v).setting.instance
      → IfOk r (λ end. Serves (AnswersAlone sight covers gives) tells instance (sight v).setting.base bytes old v k end
      new w l)
      → IfOk r (λ end. ServesBytes gives tells bytes old (sight v) k end new (sight w) l)
  serves_alone instance bytes old v w k l (Ok end) new e s =
      serves_bytes bytes old v w k l end new
      (subst (λ (i : ℕ). Serves (AnswersAlone sight covers gives) tells i (sight v).setting.base bytes old v k end new w
      l) e s)
  serves_alone instance bytes old v w k l (Err f) new e s = tt
