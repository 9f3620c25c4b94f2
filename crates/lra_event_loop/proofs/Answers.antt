-- Requests that are answered one after another, of one connection and of many.
use Rattle.std.proofs.Common.{◌≡◌, ℕ, List, [], ◌∷◌, ◌++◌, length, map, Option, Some, None, Result, Ok, Err, inl, inr}
use Rattle.std.proofs.Common.{refl, sym, ap, ◌∙◌, subst, append_assoc, append-nil}
use Rattle.std.specs.Prelude.{IfSome, IsSome}
use Rattle.std.specs.declared.alloc.AllocError.{AllocError}
use Rattle.lra_wire.specs.Request.{Request}
use Rattle.lra_steps.specs.declared.connection.Step.{Step}
use Rattle.lra_steps.specs.declared.connection.Step.TheVariants.{NeedsInput, RequestReady, ReplyPending, Ended}
use Rattle.lra_steps.specs.declared.handler.Answered.{Answered}
use Rattle.lra_steps.specs.History.{History, Turn}
use Rattle.lra_steps.specs.Steps.{StepsTo, Tells}
use Rattle.lra_steps.specs.Pieces.{Answers, Chain, Course}
use Rattle.lra_event_loop.specs.Answered.{AnsweredWithRests, AnswersOf}
use Rattle.lra_event_loop.specs.declared.positions.Positions.{Positions}
use Rattle.lra_event_loop.specs.inner.Noting.{KeepsNoted, Notes}
use Rattle.lra_event_loop.proofs.Noted.{keeps_on, keeps_one, keeps_same}
use Rattle.lra_event_loop.specs.inner.Stretches.{AnsweredSome, MayRest}

-- a step, or an answer without its turn, keeps these
record Stays (old new : History) : Type 0 where
  turns : new.turns ≡ old.turns
  taken : new.taken ≡ old.taken
  sent : new.sent ≡ old.sent
  closed : new.closed ≡ old.closed
  instance : new.instance ≡ old.instance
  base : new.base ≡ old.base

stays_same : (old new : History) → new ≡ old → Stays old new
stays_same old new e =
    subst (Stays old) (sym e)
    (record { turns = refl; taken = refl; sent = refl; closed = refl; instance = refl; base = refl })

steps_stay : (step : Step) (old new : History) → StepsTo step old new → Stays old new
steps_stay NeedsInput old new s = stays_same old new s.4
steps_stay ReplyPending old new s = stays_same old new s.2
steps_stay RequestReady old new s =
    subst (Stays old) (sym s.4)
    (record { turns = refl; taken = refl; sent = refl; closed = refl; instance = refl; base = refl })
steps_stay (Ended end) old new (inl s) = stays_same old new s.1
steps_stay (Ended end) old new (inr s) = subst (Stays old) (sym s.2) (record
    { turns = refl; taken = refl; sent = refl; closed = refl; instance = refl; base = refl })

-- an answer to a request keeps these, and adds its turn
record Turned (old new : History) (turn : Turn) : Type 0 where
  turns : new.turns ≡ old.turns ++ turn ∷ []
  taken : new.taken ≡ old.taken
  sent : new.sent ≡ old.sent
  closed : new.closed ≡ old.closed
  instance : new.instance ≡ old.instance
  base : new.base ≡ old.base

turned : (old new : History) (turn : Turn) (result : Result (Unit {0}) AllocError) → Tells result old new turn
    → Turned old new turn
turned old new turn (Ok u) e = subst (λ (g : History). Turned old g turn) (sym e)
    (record { turns = refl; taken = refl; sent = refl; closed = refl; instance = refl; base = refl })
turned old new turn (Err f) e = subst (λ (g : History). Turned old g turn) (sym e)
    (record { turns = refl; taken = refl; sent = refl; closed = refl; instance = refl; base = refl })

module _ {S K : Type 0} (base_of : S → List ℕ) (responds : S → ℕ → Request → Answered → S → Type 0)
    (tells : K → ℕ → K → Type 0) where
  chain-append : (v w x : S) (k l m : K) (xs ys : List Turn) → Chain responds tells v k xs w l
      → Chain responds tells w l ys x m → Chain responds tells v k (xs ++ ys) x m
  chain-append v w x k l m [] ys c d =
      subst (λ (j : K). Chain responds tells v j ys x m) c.1 (subst (λ (u : S). Chain responds tells u l ys x m) c.0 d)
  chain-append v w x k l m (turn ∷ xs) ys c d = (c.0, c.1, c.2, c.3, chain-append c.0 w x c.1 l m xs ys c.4 d)

  -- ---- of one connection

  -- no request is answered
  pub answers_none : (h : History) (v : S) (k : K) → AnswersOf base_of responds tells h h v k v k
  answers_none h v k = record {
    turns = [];
    answered = sym (append-nil h.turns);
    chain = (refl, refl);
    same = refl;
    taken = refl;
    sent = refl;
    closed = refl;
    instance = refl;
    base = refl;
  }

  -- some requests are answered, and then others
  pub answers_on : (h g f : History) (v w x : S) (k l m : K) → AnswersOf base_of responds tells h g v k w l
      → AnswersOf base_of responds tells g f w l x m → AnswersOf base_of responds tells h f v k x m
  answers_on h g f v w x k l m a b = record {
    turns = a.turns ++ b.turns;
    answered = b.answered ∙ ap (λ ts. ts ++ b.turns) a.answered ∙ append_assoc h.turns a.turns b.turns;
    chain = chain-append v w x k l m a.turns b.turns a.chain b.chain;
    same = b.same ∙ a.same;
    taken = b.taken ∙ a.taken;
    sent = b.sent ∙ a.sent;
    closed = b.closed ∙ a.closed;
    instance = b.instance ∙ a.instance;
    base = b.base ∙ a.base;
  }

  answers_still : (old new : History) (v : S) (k : K) → Stays old new → AnswersOf base_of responds tells old new v k v k
  answers_still old new v k s = record {
    turns = [];
    answered = s.turns ∙ sym (append-nil old.turns);
    chain = (refl, refl);
    same = refl;
    taken = s.taken;
    sent = s.sent;
    closed = s.closed;
    instance = s.instance;
    base = s.base;
  }

  -- requests are answered, and the positions of their answers are noted
  abbrev pub Noting : History → History → S → K → S → K → Positions → Positions → Type 0
  Noting old new v k w l before after = AnswersOf base_of responds tells old new v k w l × KeepsNoted old.turns
      new.turns before after

  pub noting_none : (h : History) (v : S) (k : K) (ps : Positions) → Noting h h v k v k ps ps
  noting_none h v k ps = (answers_none h v k, keeps_same ps h.turns h.turns refl)

  pub noting_on : (h g f : History) (v w x : S) (k l m : K) (before mid after : Positions) → Noting h g v k w l before
      mid → Noting g f w l x m mid after → Noting h f v k x m before after
  noting_on h g f v w x k l m before mid after a b =
      (answers_on h g f v w x k l m a.0 b.0, keeps_on before mid after h.turns g.turns f.turns a.1 b.1)

  -- a step answers no request
  pub noting_step : (step : Step) (old new : History) (v : S) (k : K) (ps : Positions) → StepsTo step old new → Noting
      old new v k v k ps ps
  noting_step step old new v k ps s = let stay = steps_stay step old new s in (
    answers_still old new v k stay,
    keeps_same ps old.turns new.turns stay.turns,
  )

  -- nor does a step for which memory is refused
  pub noting_same : (old new : History) (v : S) (k : K) (ps : Positions) → new ≡ old → Noting old new v k v k ps ps
  noting_same old new v k ps e = let stay = stays_same old new e in (
    answers_still old new v k stay,
    keeps_same ps
        old.turns new.turns stay.turns,
  )

  module _ (stays : (before after : S) (moment : ℕ) (request : Request) (answered : Answered)
      → responds before moment request answered after → base_of after ≡ base_of before) where
    -- the request that stands is answered
    answers_one : (request : Request) (answered : Answered) (v w : S) (k l : K) (old new : History)
        → Answers responds tells request answered v w k l old new → AnswersOf base_of responds tells old new v k w l
    answers_one request answered v w k l old new a =
        let turn : Turn = record { request = request; moment = a.moment; answered = answered } in
        let t = turned old new turn a.reply a.told in
        record {
          turns = turn ∷ [];
          answered = t.turns;
          chain = (w, l, a.clocked, a.given, (refl, refl));
          same = stays v w a.moment request answered a.given;
          taken = t.taken;
          sent = t.sent;
          closed = t.closed;
          instance = t.instance;
          base = t.base;
        }

    -- if a request stands, it is answered, and the answer's position is noted
    pub answers_standing : (stands : Option Request) (answered : Answered) (v w : S) (k l : K) (old new : History)
        (before after : Positions) → IsSome stands
        → IfSome stands (λ (request : Request). Answers responds tells request answered v w k l old new) → Notes
        before after answered
        → AnswersOf base_of responds tells old new v k w l × KeepsNoted old.turns new.turns before after
    answers_standing None answered v w k l old new before after some a notes = absurd cc
    answers_standing (Some request) answered v w k l old new before after some a notes =
        let turn : Turn = record { request = request; moment = a.moment; answered = answered } in (
          answers_one request answered v w k l old new a,
          keeps_one before after old.turns new.turns turn (turned old new turn a.reply a.told).turns notes,
        )

  -- ---- of many connections

  pub some_none : (v : S) (k : K) → AnsweredSome base_of responds tells v k v k
  some_none v k = (0, record { turns = []; number = refl; chain = (refl, refl); base = refl })

  pub some_on : (v w x : S) (k l m : K) → AnsweredSome base_of responds tells v k w l
      → AnsweredSome base_of responds tells w l x m → AnsweredSome base_of responds tells v k x m
  some_on v w x k l m a b = (
    length (a.1.turns ++ b.1.turns),
    record {
      turns = a.1.turns ++ b.1.turns;
      number = refl;
      chain = chain-append v w x k l m a.1.turns b.1.turns a.1.chain b.1.chain;
      base = b.1.base ∙ a.1.base;
    },
  )

  pub some_of : (old new : History) (v w : S) (k l : K) → AnswersOf base_of responds tells old new v k w l
      → AnsweredSome base_of responds tells v k w l
  some_of old new v w k l a =
      (length a.turns, record { turns = a.turns; number = refl; chain = a.chain; base = a.same })

  -- the URIs still begin so
  pub base_on : (base : List ℕ) (v w : S) (k l : K) → base_of v ≡ base → AnsweredSome base_of responds tells v k w l
      → base_of w ≡ base
  base_on base v w k l a s = s.1.base ∙ a

-- ---- iterations, with rests between them

module _ {S K : Type 0} (base_of : S → List ℕ) (responds : S → ℕ → Request → Answered → S → Type 0)
    (rests : S → S → Type 0) (tells : K → ℕ → K → Type 0) where
  course-append : (v w x : S) (k l m : K) (xs ys : List (Option Turn)) → Course responds rests tells v k xs w l
      → Course responds rests tells w l ys x m
      → Course responds rests tells v k (xs ++ ys) x m
  course-append v w x k l m [] ys c d =
      subst (λ (j : K). Course responds rests tells v j ys x m) c.1 (subst
      (λ (u : S). Course responds rests tells u l ys x m) c.0 d)
  course-append v w x k l m (Some turn ∷ xs) ys c d = (c.0, c.1, c.2, c.3, course-append c.0 w x c.1 l m xs ys c.4 d)
  course-append v w x k l m (None ∷ xs) ys c d = (c.0, c.1, course-append c.0 w x k l m xs ys c.2 d)

  -- turns, and a rest after them or none
  course-chain : (v w x : S) (k l : K) (turns : List Turn) (ys : List (Option Turn))
      → Chain responds tells v k turns w l → Course responds rests tells w l ys x l
      → Course responds rests tells v k (map Some turns ++ ys) x l
  course-chain v w x k l [] ys c d =
      subst (λ (j : K). Course responds rests tells v j ys x l) c.1 (subst
      (λ (u : S). Course responds rests tells u l ys x l) c.0 d)
  course-chain v w x k l (turn ∷ turns) ys c d = (c.0, c.1, c.2, c.3, course-chain c.0 w x c.1 l turns ys c.4 d)

  pub rests_none : (v : S) (k : K) → AnsweredWithRests base_of responds rests tells v k v k
  rests_none v k = record { turns = []; course = (refl, refl); base = refl }

  pub rests_on : (v w x : S) (k l m : K) → AnsweredWithRests base_of responds rests tells v k w l
      → AnsweredWithRests base_of responds rests tells w l x m
      → AnsweredWithRests base_of responds rests tells v k x m
  rests_on v w x k l m a b = record {
    turns = a.turns ++ b.turns;
    course = course-append v w x k l m a.turns b.turns a.course b.course;
    base = b.base ∙ a.base;
  }

  -- an iteration with no rest
  rests_some : (v w : S) (k l : K) → AnsweredSome base_of responds tells v k w l
      → AnsweredWithRests base_of responds rests tells v k w l
  rests_some v w k l a = record {
    turns = map Some a.1.turns ++ [];
    course = course-chain v w w k l a.1.turns [] a.1.chain (refl, refl);
    base = a.1.base;
  }

  -- an iteration, and a rest if there is one
  pub rests_round : ((before after : S) → rests before after → base_of after ≡ base_of before) → (v w x : S) (k l : K)
      → AnsweredSome base_of responds tells v k w l
      → MayRest rests w x → AnsweredWithRests base_of responds rests tells v k x l
  rests_round stays v w x k l a (inl rest) = record {
    turns = map Some a.1.turns ++ None ∷ [];
    course = course-chain v w x k l a.1.turns (None ∷ []) a.1.chain (x, rest, (refl, refl));
    base = stays w x rest ∙ a.1.base;
  }
  rests_round stays v w x k l a (inr same) =
      subst (λ (u : S). AnsweredWithRests base_of responds rests tells v k u l) (sym same) (rests_some v w k l a)
