-- Which member answers a request at a journal set, and how.
use Rattle.std.proofs.Common.{◌≡◌, ◌≢◌, ℕ, ◌<◌, ◌^◌, Bool, false, true≢false, is_some, is_ok, List, map, Option, Some}
use Rattle.std.proofs.Common.{None, Result, Err, inl, refl, sym, ap, ◌∙◌, subst, arith}
use Rattle.std.specs.Prelude.{MatchOption, IfSome, IsSomeAnd, unwrap_or}
use Rattle.lra_wire.specs.Request.{Request}
use Rattle.lra_commands.specs.declared.command.Told.{Told}
use Rattle.lra_commands.specs.declared.counter.Order.{Order}
use Rattle.lra_commands.specs.declared.counter.CounterFault.{CounterFault}
use Rattle.lra_commands.specs.declared.refusal.Refusal.TheVariants as refusal
use Rattle.lra_commands.specs.Counters.{Sight, KeepsHistory}
use Rattle.lra_front.specs.declared.api_error.ApiError.{ApiError}
use Rattle.lra_front.specs.declared.api_error.ApiError.TheVariants.{Refused}
use Rattle.lra_front.specs.declared.answer.Answer.{Answer}
use Rattle.lra_front.specs.declared.answer.Answer.TheVariants.{Denied}
use Rattle.lra_front.specs.declared.api_request.ApiRequest.{ApiRequest}
use Rattle.lra_front.specs.ApiRequests.{LacksMemory}
use Rattle.lra_front.specs.Replies.{HasIdentifiers}
use Rattle.lra_front.specs.Serving.{Does as DoesOne}
use Rattle.lra_steps.specs.declared.handler.Answered.{Answered}
use Rattle.lra_steps.specs.History.{Turn as ConnectionTurn}
use Rattle.lra_journal_sets.specs.Counted.{name}
use Rattle.lra_journal_sets.specs.JournalSets.{IsJournalSet, newest, member, put, MovesAt}
use Rattle.lra_journal_sets.proofs.Members.{put_same}
use Rattle.lra_journal_sets.proofs.Instances.{newest_there, there_named}
use Rattle.lra_journal_router.specs.inner.Stays.{Answers, Visits, responds_stays}
use Rattle.lra_journal_router.specs.Naming.{instance_of}
use Rattle.lra_journal_router.specs.Serving.{Turn, names, Lacks, Does, DoesOrdered, IsCoveredAt, ServesOrdered, turn_of}
use Rattle.lra_journal_router.proofs.UnknownInstances.{unknown_instances_deny}

module _ {C : Type 0} (sight : C → Sight) (covers : C → ℕ → Bool) (gives : Sight → ℕ → Order → Result Told
    CounterFault → Sight → Type 0) where
  -- ---- what a visit returns

  record Missed (i : ℕ) (ss ts : List Sight) : Type 0 where
    pub there : member name i ss ≡ None
    pub same : ts ≡ ss

  record Hit (i : ℕ) (turn : ConnectionTurn) (ss ts : List Sight) : Type 0 where
    pub old : Sight
    pub new : Sight
    pub there : member name i ss ≡ Some old
    pub done : Answers sight covers gives old turn.moment turn.request turn.answered new
    pub after : ts ≡ put name i new ss

  -- how a visit changes the sight of a session
  abbrev Done : ℕ → Request → Option Answered → Sight → Sight → Type 0
  Done moment request r s t = IsSomeAnd r (λ a. Answers sight covers gives s moment request a t)

  missed : (i moment : ℕ) (request : Request) (r : Option Answered) (ss ts : List Sight) → r ≡ None → Visits sight
      covers gives i moment request r ss ts → Missed i ss ts
  missed i moment request r ss ts none h = by (member name i ss) refl h where
    by : (o : Option Sight) → member name i ss ≡ o → MatchOption o ((r ≡ None) × (ts ≡ ss))
        (λ s. (t : Sight) × Done moment request r s t × (ts ≡ put name i t ss)) → Missed i ss ts
    by None is k = record { there = is; same = k.1 }
    by (Some s) is k = absurd (subst (λ q. Done moment request q s k.0) none k.1)

  hit : (i : ℕ) (turn : ConnectionTurn) (r : Option Answered) (ss ts : List Sight) → r ≡ Some turn.answered → Visits
      sight covers gives i turn.moment turn.request r ss ts → Hit i turn ss ts
  hit i turn r ss ts some h = by (member name i ss) refl h where
    by : (o : Option Sight) → member name i ss ≡ o → MatchOption o ((r ≡ None) × (ts ≡ ss)) (λ s. (t : Sight) × Done
        turn.moment turn.request r s t × (ts ≡ put name i t ss)) → Hit i turn ss ts
    by None is k = absurd (let never : Some turn.answered ≡ None = sym some ∙ k.0 in cc)
    by (Some s) is k = record {
      old = s;
      new = k.0;
      there = is;
      done =
          subst (λ q. Done turn.moment turn.request q s k.0) some k.1;
      after = k.2;
    }

  -- ---- the named member answers

  -- the journal that the turn names isn't in the journal set, and the answer has no position
  abbrev LacksOrdered : ConnectionTurn → Type 0
  LacksOrdered turn = Lacks (turn_of turn) × (turn.answered.position ≡ None)

  pub hit_serves : (i : ℕ) (turn : ConnectionTurn) (r : Option Answered) (ss ts : List Sight) → i ≡ names (newest name
      ss) (turn_of turn) → r ≡ Some turn.answered
      → Visits sight covers gives i turn.moment turn.request r ss ts → ServesOrdered sight covers gives ss turn ts
  hit_serves i turn r ss ts is some h =
      let k = hit i turn r ss ts some h in
      let Q : Option Sight → Type 0 = λ o. MatchOption o (LacksOrdered turn × (ts ≡ ss)) (λ s. (t : Sight) ×
      DoesOrdered sight covers gives s turn t × (ts ≡ put name i t ss)) in
      let P : ℕ → Type 0 = λ j. MovesAt name j ss (λ s t. DoesOrdered sight covers gives s turn t) (LacksOrdered turn)
      ts in
      subst P is (subst Q (sym k.there) (k.new, k.done.0, k.after))

  pub hit_identified : (i : ℕ) (turn : ConnectionTurn) (r : Option Answered) (ss ts : List Sight) → r ≡ Some
      turn.answered
      → Visits sight covers gives i turn.moment turn.request r ss ts → HasIdentifiers turn.answered.answer
  hit_identified i turn r ss ts some h = (hit i turn r ss ts some h).done.1

  -- ---- the newest member denies an identifier that it doesn't know

  -- the answer to an API request that is denied
  denied_is : (s t : Sight) (moment : ℕ) (w : Result ApiRequest ApiError) (d : ApiError) (a : Answer) → w ≡ Err d
      → DoesOne gives s moment w t a → (a ≡ Denied d) × (t ≡ s)
  denied_is s t moment w d a e h = subst (λ v. DoesOne gives s moment v t a) e h

  none_of : (p : Option ℕ) → is_some p ≡ false → p ≡ None
  none_of None e = refl
  none_of (Some n) e = absurd (true≢false e)

  stranger : (ss ts : List Sight) (turn : ConnectionTurn) (i j n : ℕ) → n < 2 ^ 60 → instance_of turn.request ≡ Some j
      → i ≡ j → member name i ss ≡ None → Hit n turn ss ts
      → LacksOrdered turn × (ts ≡ ss)
  stranger ss ts turn i j n small named is none k =
      let own : name k.old ≡ n = there_named name n ss k.old k.there in
      let other : name k.old ≢ j = λ e. absurd (
      let same : member name n ss ≡ member name i ss = ap (λ m. member name m ss) (sym own ∙ e ∙ sym is) in
      let both : Some k.old ≡ None = sym k.there ∙ same ∙ none in
      cc
      ) in
      let asked = k.done.0.0 in
      let below : name k.old < 2 ^ 60 = omega (arith, own, small) in
      let denied = unknown_instances_deny (name k.old) j k.old.setting.base turn.request asked.0 below named other
      asked.1 in
      let ends = denied_is k.old k.new turn.moment asked.0 denied.0 turn.answered.answer denied.2 asked.2 in
      let unplaced = none_of turn.answered.position (asked.3 ∙ ap is_ok denied.2) in (
        ((denied.0, denied.1, ends.0), unplaced),
        k.after ∙ ap (λ s. put name n s ss) ends.1 ∙ put_same name n ss k.old
            k.there,
      )

  unnamed : (ss ts : List Sight) (turn : ConnectionTurn) (i n : ℕ) → i ≡ n → member name i ss ≡ None → Hit n turn ss
      ts → ⊥
  unnamed ss ts turn i n is none k = let both : Some k.old ≡ None = sym k.there ∙ ap (λ m. member name m ss) (sym is)
      ∙ none in cc

  by_newest : (ss ts : List Sight) (turn : ConnectionTurn) (i n : ℕ) → n < 2 ^ 60 → i ≡ unwrap_or (instance_of
      turn.request) n → member name i ss ≡ None → Hit n turn ss ts
      → LacksOrdered turn × (ts ≡ ss)
  by_newest ss ts turn i n small is none k = by (instance_of turn.request) refl is where
    by : (o : Option ℕ) → instance_of turn.request ≡ o → i ≡ unwrap_or o n → LacksOrdered turn × (ts ≡ ss)
    by None named e = absurd (unnamed ss ts turn i n e none k)
    by (Some j) named e = stranger ss ts turn i j n small named e none k

  pub newest_serves : (ss us ts : List Sight) (turn : ConnectionTurn) (i n : ℕ) (r q : Option Answered) → n ≡ newest
      name ss → n < 2 ^ 60 → i ≡ unwrap_or (instance_of turn.request) n
      → r ≡ None → Visits sight covers gives i turn.moment turn.request r ss us → q ≡ Some turn.answered → Visits
      sight covers gives n turn.moment turn.request q us ts
      → ServesOrdered sight covers gives ss turn ts
  newest_serves ss us ts turn i n r q is small named none first some second =
      let m = missed i turn.moment turn.request r ss us none first in
      let k = hit n turn q ss ts some (subst (λ v. Visits sight covers gives n turn.moment turn.request q v ts) m.same
      second) in
      let lacks = by_newest ss ts turn i n small named m.there k in
      let place : i ≡ names (newest name ss) (turn_of turn) = named ∙ ap (unwrap_or (instance_of turn.request)) is in
      let Q : Option Sight → Type 0 = λ o. MatchOption o (LacksOrdered turn × (ts ≡ ss)) (λ s. (t : Sight) ×
      DoesOrdered sight covers gives s turn t × (ts ≡ put name i t ss)) in
      let P : ℕ → Type 0 = λ j. MovesAt name j ss (λ s t. DoesOrdered sight covers gives s turn t) (LacksOrdered turn)
      ts in
      subst P place (subst Q (sym m.there) lacks)

  -- the newest member is there
  pub newest_answers : (ss us ts : List Sight) (moment : ℕ) (request : Request) (i n : ℕ) (r q : Option Answered) →
      IsJournalSet (map name ss) → n ≡ newest name ss
      → r ≡ None → Visits sight covers gives i moment request r ss us → q ≡ None → Visits sight covers gives n moment
      request q us ts → ⊥
  newest_answers ss us ts moment request i n r q journal_set is none first nothing second =
      let m = missed i moment request r ss us none first in
      let k = missed n moment request q us ts nothing second in
      newest_there name ss journal_set (ap (λ j. member name j ss) (sym is) ∙ ap (member name n) (sym m.same) ∙ k.there)

  -- ---- memory is refused in reading which instance a request names

  pub memory_serves : (ss : List Sight) (turn : ConnectionTurn) → turn.answered.answer ≡ Denied (Refused
      refusal.Memory) → turn.answered.position ≡ None → LacksMemory turn.request
      → ServesOrdered sight covers gives ss turn ss
  memory_serves ss turn e none lacks = by (member name (names (newest name ss) (turn_of turn)) ss) refl where
    covered : (s : Sight) → IfSome turn.answered.position (IsCoveredAt sight covers gives s)
    covered s = subst (λ (p : Option ℕ). IfSome p (IsCoveredAt sight covers gives s)) (sym none) tt

    by : (o : Option Sight) → member name (names (newest name ss) (turn_of turn)) ss ≡ o
        → MatchOption o (LacksOrdered turn × (ss ≡ ss)) (λ s. (t : Sight) × DoesOrdered sight covers gives s turn t ×
        (ss ≡ put name (names (newest name ss) (turn_of turn)) t ss))
    by None is = (((Refused refusal.Memory, inl (refl, lacks), e), none), refl)
    by (Some s) is = (
      s,
      ((Err (Refused refusal.Memory), inl (refl, lacks), (e, refl), ap is_some none), covered s),
      sym (put_same name (names (newest name ss) (turn_of turn)) ss s is),
    )

-- ---- runs

module _ (gives : Sight → ℕ → Order → Result Told CounterFault → Sight → Type 0) where
  -- a turn leaves its counter's instance
  pub keeps_name : ((before after : Sight) (moment : ℕ) (o : Order) (reply : Result Told CounterFault)
      → gives before moment o reply after → KeepsHistory before moment o reply after)
      → (s : Sight) (turn : Turn) (t : Sight) → Does gives s turn t → name t ≡ name s
  keeps_name keeps s turn t h = ap (λ c. c.instance) (responds_stays gives keeps s t turn.moment turn.request
      turn.answer h)
