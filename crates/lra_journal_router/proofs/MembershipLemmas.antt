-- Members that join and leave, and what their URIs begin with.
use Rattle.std.proofs.Common.{◌≡◌, ◌==◌, ℕ, Bool, true, false, true≢false, List, [], ◌∷◌, ◌++◌, map, Option, Some, None}
use Rattle.std.proofs.Common.{is_some, Result, inl, inr, refl, sym, ap, ◌∙◌, subst}
use Rattle.std.specs.Prelude.{◌⊎◌, IfNone, IfSome, MatchOption, if◌then◌else◌}
use Rattle.lra_commands.specs.declared.command.Told.{Told}
use Rattle.lra_commands.specs.declared.counter.Order.{Order}
use Rattle.lra_commands.specs.declared.counter.CounterFault.{CounterFault}
use Rattle.lra_commands.specs.Counters.{Sight, Setting, KeepsHistory}
use Rattle.lra_journal_sets.specs.Counted.{name}
use Rattle.lra_journal_sets.specs.JournalSets.{IsJournalSet, member, newest, put, without, Joins, Leaves}
use Rattle.lra_journal_sets.specs.Runs.{Event, Run}
use Rattle.lra_journal_sets.specs.Runs.Event.{Turn as OneTurn, Join, Leave}
use Rattle.lra_journal_router.specs.Serving.{Turn, names, Does, DoesOrdered, Lacks, Serves, ServesOrdered, turn_of}
use Rattle.lra_journal_router.specs.inner.Stays.{responds_stays}
use Rattle.lra_steps.specs.declared.handler.Answered.{Answered}
use Rattle.lra_steps.specs.History.{Turn as ConnectionTurn}
use Rattle.lra_steps.specs.Pieces.{turns_in}
use Rattle.lra_wire.specs.Request.{Request}
use Rattle.lra_journal_router.specs.Waiting.{IsPutOff, IsRefused}
use Rattle.lra_journal_router.specs.JournalRouters.{
  AreTurns,
  HaveBase,
  JournalRoutersIdle,
  JournalRoutersRun,
  KeepsBase,
  Moved,
}
use Rattle.lra_journal_router.specs.JournalRouters.{Moves, Outcome, Responds, base_of, turns_of}

-- ---- joins and leaves

pub moved_none : (ss : List Sight) → Moved ss ss
moved_none ss = ([], refl)

moves_on : (ss us ts : List Sight) (xs ys : List (Event Sight Turn)) → Moves ss xs us → Moves us ys ts
    → Moves ss (xs ++ ys) ts
moves_on ss us ts [] ys h k = subst (λ (vs : List Sight). Moves vs ys ts) h k
moves_on ss us ts (OneTurn turn ∷ xs) ys h k = absurd h
moves_on ss us ts (Join s ∷ xs) ys h k = (h.0, h.1, moves_on h.0 us ts xs ys h.2 k)
moves_on ss us ts (Leave s ∷ xs) ys h k = (h.0, h.1, moves_on h.0 us ts xs ys h.2 k)

pub moved_on : (ss us ts : List Sight) → Moved ss us → Moved us ts → Moved ss ts
moved_on ss us ts h k = (h.0 ++ k.0, moves_on ss us ts h.0 k.0 h.1 k.1)

pub moved_same : (ss ts : List Sight) → ts ≡ ss → Moved ss ts
moved_same ss ts e = ([], e)

pub moved_join : (ss ts : List Sight) (s : Sight) → Joins name ss s ts → Moved ss ts
moved_join ss ts s h = (Join s ∷ [], (ts, h, refl))

pub moved_leave : (ss ts : List Sight) (s : Sight) → Leaves name ss s ts → Moved ss ts
moved_leave ss ts s h = (Leave s ∷ [], (ts, h, refl))

-- ---- what URIs begin with

pub keeps_none : (ss : List Sight) → KeepsBase ss ss
keeps_none ss base h = h

pub keeps_on : (ss us ts : List Sight) → KeepsBase ss us → KeepsBase us ts → KeepsBase ss ts
keeps_on ss us ts h k base b = k base (h base b)

pub keeps_same : (ss ts : List Sight) → ts ≡ ss → KeepsBase ss ts
keeps_same ss ts e base h = subst (HaveBase base) (sym e) h

have_more : (base : List ℕ) (ss : List Sight) (s : Sight) → HaveBase base ss → s.setting.base ≡ base
    → HaveBase base (ss ++ s ∷ [])
have_more base [] s h e = (e, tt)
have_more base (m ∷ ms) s h e = (h.0, have_more base ms s h.1 e)

pub keeps_join : (ss ts : List Sight) (s : Sight) → Joins name ss s ts
    → ((base : List ℕ) → HaveBase base ss → s.setting.base ≡ base) → KeepsBase ss ts
keeps_join ss ts s h kin base b = subst (HaveBase base) (sym h.joined) (have_more base ss s b (kin base b))

have_less : (base : List ℕ) (i : ℕ) (ss : List Sight) → HaveBase base ss → HaveBase base (without name i ss)
have_less base i [] h = tt
have_less base i (s ∷ ss) h = by (name s == i) (have_less base i ss h.1) where
  by : (b : Bool) → HaveBase base (without name i ss) → HaveBase base (if b then ss else s ∷ without name i ss)
  by true rest = h.1
  by false rest = (h.0, rest)

pub keeps_leave : (ss ts : List Sight) (s : Sight) → Leaves name ss s ts → KeepsBase ss ts
keeps_leave ss ts s h base b = subst (HaveBase base) (sym h.left) (have_less base (name s) ss b)

some_same : (x y : Sight) → Some x ≡ Some y → x ≡ y
some_same x y e = cc

-- a member has that base
pub member_base : (base : List ℕ) (i : ℕ) (ss : List Sight) (s : Sight) → HaveBase base ss → member name i ss ≡ Some s
    → s.setting.base ≡ base
member_base base i [] s h e = absurd cc
member_base base i (m ∷ ms) s h e = by (name m == i) (member_base base i ms s h.1) e where
  by : (b : Bool) → (member name i ms ≡ Some s → s.setting.base ≡ base) → (if b then Some m else member name i ms)
      ≡ Some s → s.setting.base ≡ base
  by true more e = ap (λ (u : Sight). u.setting.base) (sym (some_same m s e)) ∙ h.0
  by false more e = more e

-- ---- a rest

-- a member that leaves isn't the last one
leaves_some : (ss : List Sight) (s : Sight) → Leaves name ss s [] → ⊥
leaves_some [] s h = absurd (true≢false (sym (ap is_some h.there)))
leaves_some (m ∷ []) s h = by (name m == name s) refl h.there where
  by : (b : Bool) → (name m == name s) ≡ b → (if b then Some m else None) ≡ Some s → ⊥
  by true same there = h.older (ap name (sym (some_same m s there)))
  by false other there = absurd (true≢false (sym (ap is_some there)))
leaves_some (m ∷ n ∷ ms) s h = by (name m == name s) h.left where
  by : (b : Bool) → [] ≡ (if b then n ∷ ms else m ∷ without name (name s) (n ∷ ms)) → ⊥
  by true left = absurd cc
  by false left = absurd cc

none_moved : (xs : List (Event Sight Turn)) (ss : List Sight) → Moves ss xs [] → ss ≡ []
none_moved [] ss h = sym h
none_moved (OneTurn turn ∷ xs) ss h = absurd h
none_moved (Join s ∷ xs) ss h = absurd (joined_some ss s (sym h.1.joined ∙ none_moved xs h.0 h.2)) where
  joined_some : (ms : List Sight) (m : Sight) → ms ++ m ∷ [] ≡ [] → ⊥
  joined_some [] m e = absurd cc
  joined_some (n ∷ ms) m e = absurd cc
none_moved (Leave s ∷ xs) ss h =
    absurd (leaves_some ss s (subst (λ (us : List Sight). Leaves name ss s us) (none_moved xs h.0 h.2) h.1))

-- joins and leaves keep what all URIs begin with, if these begin alike
pub rested_base : (ss ts : List Sight) → Moved ss ts → KeepsBase ss ts → HaveBase (base_of ss) ss
    → HaveBase (base_of ts) ts × (base_of ts ≡ base_of ss)
rested_base ss [] moved keeps h = (tt, ap base_of (sym (none_moved moved.0 ss moved.1)))
rested_base ss (t ∷ ts) moved keeps h =
    let k = keeps (base_of ss) h in
    (subst (λ (own : List ℕ). HaveBase own (t ∷ ts)) (sym k.0) k, k.0)

-- ---- a counter that is removed

-- the counter leaves, or all stay
pub retired_moved : {T : Type 0} (sight : T → Sight) (i : ℕ) (r : Option T) (ss ts : List Sight)
    → IfSome r (λ c. (name (sight c) ≡ i) × Leaves name ss (sight c) ts)
    → IfNone r (((member name i ss ≡ None) ⊎ (i ≡ newest name ss)) × (ts ≡ ss)) → Moved ss ts × KeepsBase ss ts
retired_moved sight i None ss ts some none = (moved_same ss ts none.1, keeps_same ss ts none.1)
retired_moved sight i (Some c) ss ts some none = (
  moved_leave ss ts (sight c) some.1,
  keeps_leave ss ts (sight c) some.1,
)

-- ---- a turn

-- what the URIs of a journal set that has members begin with
abbrev Begin : List ℕ → List Sight → Type 0
Begin base ss = HaveBase base ss × (base_of ss ≡ base)

begin_journal_set : (base : List ℕ) (ss : List Sight) → IsJournalSet (map name ss) → HaveBase base ss → Begin base ss
begin_journal_set base [] f h = absurd f
begin_journal_set base (s ∷ ss) f h = (h, h.0)

have_put : (base : List ℕ) (i : ℕ) (t : Sight) (ss : List Sight) → t.setting.base ≡ base → HaveBase base ss
    → HaveBase base (put name i t ss)
have_put base i t [] e h = tt
have_put base i t (s ∷ ss) e h = by (name s == i) (have_put base i t ss e h.1) where
  by : (b : Bool) → HaveBase base (put name i t ss) → HaveBase base (if b then t ∷ ss else s ∷ put name i t ss)
  by true rest = (e, h.1)
  by false rest = (h.0, rest)

begin_put : (base : List ℕ) (i : ℕ) (t : Sight) (ss : List Sight) → t.setting.base ≡ base → Begin base ss
    → Begin base (put name i t ss)
begin_put base i t [] e h = h
begin_put base i t (s ∷ ss) e h = (have_put base i t (s ∷ ss) e h.0, by (name s == i)) where
  by : (b : Bool) → base_of (if b then t ∷ ss else s ∷ put name i t ss) ≡ base
  by true = e
  by false = h.1

module _ (gives : Sight → ℕ → Order → Result Told CounterFault → Sight → Type 0)
    (keeps : (before after : Sight) (moment : ℕ) (o : Order) (reply : Result Told CounterFault)
    → gives before moment o reply after → KeepsHistory before moment o reply after) where
  -- a turn keeps what the URIs begin with
  pub serves_base : (base : List ℕ) (before after : List Sight) (turn : Turn) → IsJournalSet (map name before)
      → HaveBase base before → Serves gives before turn after
      → HaveBase base after × (base_of after ≡ base)
  serves_base base before after turn f h serves = by (member name i before) refl serves where
    i : ℕ
    i = names (newest name before) turn

    begun : Begin base before
    begun = begin_journal_set base before f h

    by : (o : Option Sight) → member name i before ≡ o
        → MatchOption o (Lacks turn × (after ≡ before)) (λ s. (t : Sight) × Does gives s turn t
        × (after ≡ put name i t before)) → Begin base after
    by None is k = subst (Begin base) (sym k.1) begun
    by (Some s) is k =
        subst (Begin base) (sym k.2)
        (begin_put base i k.0 before
        (ap (λ (c : Setting). c.base) (responds_stays gives keeps s k.0 turn.moment turn.request turn.answer k.1)
        ∙ member_base base i before s h is) begun)

-- a turn whose answer has its position, without that
serves_plain : {C : Type 0} (sight : C → Sight) (covers : C → ℕ → Bool) (gives : Sight → ℕ → Order → Result Told
    CounterFault → Sight → Type 0)
    (before after : List Sight) (turn : ConnectionTurn) → ServesOrdered sight covers gives before turn after → Serves
    gives before (turn_of turn) after
serves_plain sight covers gives before after turn h = by (member name i before) h where
  i : ℕ
  i = names (newest name before) (turn_of turn)

  by : (o : Option Sight)
      → MatchOption o ((Lacks (turn_of turn) × (turn.answered.position ≡ None)) × (after ≡ before)) (λ s. (t : Sight)
      × DoesOrdered sight covers gives s turn t × (after ≡ put name i t before))
      → MatchOption o (Lacks (turn_of turn) × (after ≡ before)) (λ s. (t : Sight) × Does gives s (turn_of turn) t ×
      (after ≡ put name i t before))
  by None k = (k.0.0, k.1)
  by (Some s) k = let a = k.1.0 in (k.0, (a.0, a.1, a.2), k.2)

-- so does a turn that is refused
pub outcome_base : {C : Type 0} (sight : C → Sight) (covers : C → ℕ → Bool) (gives : Sight → ℕ → Order → Result Told
    CounterFault → Sight → Type 0)
    (keeps : (before after : Sight) (moment : ℕ) (o : Order) (reply : Result Told CounterFault) → gives before moment
    o reply after → KeepsHistory before moment o reply after)
    (tells : Option ℕ → Bool → Type 0) (base : List ℕ) (before after : List Sight) (moment : ℕ) (request : Request)
    (answered : Answered) → IsJournalSet (map name before)
    → HaveBase base before → Outcome tells sight covers gives before moment request answered after → HaveBase base
    after × (base_of after ≡ base)
outcome_base sight covers gives keeps tells base before after moment request answered f h (inl o) =
    let turn : ConnectionTurn = record { request = request; moment = moment; answered = answered } in
    serves_base gives keeps base before after (turn_of turn) f h (serves_plain sight covers gives before after turn o.1)
outcome_base sight covers gives keeps tells base before after moment request answered f h (inr o) = subst (Begin base)
    (sym o.1) (begin_journal_set base before f h)

-- ---- a run

-- joins and leaves have no turns
moves_turns : (ss us : List Sight) (xs ys : List (Event Sight Turn)) → Moves ss xs us → turns_of (xs ++ ys)
    ≡ turns_of ys
moves_turns ss us [] ys h = refl
moves_turns ss us (OneTurn turn ∷ xs) ys h = absurd h
moves_turns ss us (Join s ∷ xs) ys h = moves_turns h.0 us xs ys h.2
moves_turns ss us (Leave s ∷ xs) ys h = moves_turns h.0 us xs ys h.2

-- a request that is put off is refused
refused : (lacks : Option ℕ → Bool → Type 0) (ss : List Sight) (request : Request) (answered : Answered)
    → IsPutOff lacks ss request answered → IsRefused answered.answer
refused lacks ss request answered (inl h) = inl h.answer
refused lacks ss request answered (inr h) = inr h.1

module _ {K C : Type 0} (lacks : Option ℕ → Bool → Type 0) (sight : C → Sight) (covers : C → ℕ → Bool)
    (gives : Sight → ℕ → Order → Result Told CounterFault → Sight → Type 0) (tells : K → ℕ → K → Type 0) where
  -- joins and leaves, and then other events
  moves_then : (ss us ts : List Sight) (xs ys : List (Event Sight Turn)) → Moves ss xs us
      → Run name names (Does gives) Lacks us ys ts → Run name names (Does gives) Lacks ss (xs ++ ys) ts
  moves_then ss us ts [] ys h r = subst (λ (vs : List Sight). Run name names (Does gives) Lacks vs ys ts) h r
  moves_then ss us ts (OneTurn turn ∷ xs) ys h r = absurd h
  moves_then ss us ts (Join s ∷ xs) ys h r = (h.0, h.1, moves_then h.0 us ts xs ys h.2 r)
  moves_then ss us ts (Leave s ∷ xs) ys h r = (h.0, h.1, moves_then h.0 us ts xs ys h.2 r)

  -- the events that lead from one journal set to another and have those turns
  abbrev Happening : List Sight → List ConnectionTurn → List Sight → Type 0
  Happening ss turns ts = (xs : List (Event Sight Turn)) × Run name names (Does gives) Lacks ss xs ts
      × AreTurns (turns_of xs) turns

  -- a response, and then other events
  respond_then : (ss us ts : List Sight) (turn : ConnectionTurn) (turns : List ConnectionTurn) → Responds lacks sight
      covers gives ss turn.moment turn.request turn.answered us → Happening us turns ts
      → Happening ss (turn ∷ turns) ts
  respond_then ss us ts turn turns r more = by r.serves where
    by : Outcome lacks sight covers gives r.met turn.moment turn.request turn.answered us → Happening ss (turn ∷
        turns) ts
    by (inl h) =
        let ys : List (Event Sight Turn) = OneTurn (turn_of turn) ∷ more.0 in (
          r.moved.0 ++ ys,
          moves_then ss r.met ts r.moved.0 ys r.moved.1 (us, serves_plain sight covers gives r.met us turn h.1, more.1),
          subst (λ (es : List Turn). AreTurns es (turn ∷ turns)) (sym (moves_turns ss r.met r.moved.0 ys r.moved.1))
              (inl (turns_of more.0, refl, more.2)),
        )
    by (inr h) = (
      r.moved.0 ++ more.0,
      moves_then ss r.met ts r.moved.0 more.0 r.moved.1
          (subst (λ (vs : List Sight). Run name names (Does gives) Lacks vs more.0 ts) h.1 more.1),
      subst (λ (es : List Turn). AreTurns es (turn ∷ turns)) (sym (moves_turns ss r.met r.moved.0 more.0 r.moved.1))
          (inr (refused lacks r.met turn.request turn.answered h.0, more.2)),
    )

  pub journal_routers_run : JournalRoutersRun lacks sight covers gives tells
  journal_routers_run ss ts k l [] c = ([], c.0, refl)
  journal_routers_run ss ts k l (turn ∷ turns) c = respond_then ss c.0 ts turn turns c.3
      (journal_routers_run c.0 ts c.1 l turns c.4)

  pub journal_routers_idle : JournalRoutersIdle lacks sight covers gives tells
  journal_routers_idle ss ts k l [] c = ([], c.0, refl)
  journal_routers_idle ss ts k l (Some turn ∷ xs) c = respond_then ss c.0 ts turn (turns_in xs) c.3
      (journal_routers_idle c.0 ts c.1 l xs c.4)
  journal_routers_idle ss ts k l (None ∷ xs) c =
      let moved = c.1.moved in
      let more = journal_routers_idle c.0 ts k l xs c.2 in (
        moved.0 ++ more.0,
        moves_then ss c.0 ts moved.0 more.0 moved.1 more.1,
        subst (λ (es : List Turn). AreTurns es (turns_in xs)) (sym (moves_turns ss c.0 moved.0 more.0 moved.1)) more.2,
      )
