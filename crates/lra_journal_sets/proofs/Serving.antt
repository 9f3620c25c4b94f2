-- One request to a journal set, and what is known of each counter.
use Rattle.std.proofs.Common.{◌≡◌, ℕ, List, [], ◌∷◌, Option, Some, None, Result, refl, ◌∙◌, ap, subst}
use Rattle.std.specs.Prelude.{MatchOption, IsSomeAnd}
use Rattle.lra_commands.specs.declared.command.Told.{Told}
use Rattle.lra_commands.specs.declared.counter.Order.{Order}
use Rattle.lra_commands.specs.declared.counter.CounterFault.{CounterFault}
use Rattle.lra_commands.specs.Counters.{Sight, KeepsHistory}
use Rattle.lra_journal_sets.specs.Counted.{name}
use Rattle.lra_journal_sets.specs.JournalSets.{member, newest, put, MovesAt}
use Rattle.lra_journal_sets.specs.Runs.{Chain}
use Rattle.lra_journal_sets.specs.Serving.{Turn, names, Lacks, Does, Serves}
use Rattle.lra_journal_sets.specs.Known.{KeepsHistories, EachKeepsHistories}
use Rattle.lra_journal_sets.proofs.Instances.{there_named}
use Rattle.lra_journal_sets.proofs.Running.{each_chain}

-- the relation of a change may be replaced by one that follows from it
pub moves_map : {S : Type 0} (name : S → ℕ) (i : ℕ) (ss ts : List S) (M N : S → S → Type 0) (L K : Type 0)
    → ((s t : S) → name s ≡ i → M s t → N s t) → (L → K)
    → MovesAt name i ss M L ts → MovesAt name i ss N K ts
moves_map {S} name i ss ts M N L K f g h = by (member name i ss) refl h where
  by : (o : Option S) → member name i ss ≡ o → MatchOption o (L × (ts ≡ ss))
      (λ s. (t : S) × M s t × (ts ≡ put name i t ss))
      → MatchOption o (K × (ts ≡ ss)) (λ s. (t : S) × N s t × (ts ≡ put name i t ss))
  by None is k = (g k.0, k.1)
  by (Some s) is k = (k.0, f s k.0 (there_named name i ss s is) k.1, k.2)

module _ (gives : Sight → ℕ → Order → Result Told CounterFault → Sight → Type 0) where
  does_some : (s t : Sight) (turn : Turn) (r : Option (Result Told CounterFault)) → turn.answer ≡ r
      → IsSomeAnd r (λ reply. gives s turn.request.giving.moment turn.request.giving.order reply t)
      → Does gives s turn t
  does_some s t turn None e h = absurd h
  does_some s t turn (Some reply) e h = (reply, h, e)

  pub served : (ss ts : List Sight) (turn : Turn) (i : ℕ) → i ≡ names (newest name ss) turn
      → MovesAt name i ss (λ s t. IsSomeAnd turn.answer (λ reply. gives s turn.request.giving.moment
      turn.request.giving.order reply t)) (turn.answer ≡ None) ts → Serves gives ss turn ts
  served ss ts turn i is h =
      let Q : ℕ → Type 0 = λ j. MovesAt name j ss (λ s t. Does gives s turn t) (Lacks turn) ts in
      subst Q is (moves_map name i ss ts _ _ _ _ (λ s t named m. does_some s t turn turn.answer refl m) (λ l. l) h)

  module _ (keeps : (before after : Sight) (moment : ℕ) (o : Order) (reply : Result Told CounterFault)
      → gives before moment o reply after → KeepsHistory before moment o reply after) where
    pub keeps_name : (s : Sight) (turn : Turn) (t : Sight) → Does gives s turn t → name t ≡ name s
    keeps_name s turn t d = ap (λ c. c.instance) (keeps s t turn.request.giving.moment turn.request.giving.order d.0
        d.1).same.setting

    -- ---- what is known of one counter

    chain_keeps : (s t : Sight) (turns : List Turn) → Chain (Does gives) s turns t → KeepsHistories s turns t
        × (t.setting ≡ s.setting)
    chain_keeps s t [] h = (h, ap (λ v. v.setting) h)
    chain_keeps s t (turn ∷ turns) (u, d, h) =
        let one = keeps s u turn.request.giving.moment turn.request.giving.order d.0 d.1 in
        let rest = chain_keeps u t turns h in
        ((d.0, u, d.2, one, rest.0), rest.1 ∙ one.same.setting)

    -- ---- and so of each

    pub each_keeps : EachKeepsHistories gives
    each_keeps ss ts xs f h i s t there later = chain_keeps s t _ (each_chain name names (Does gives) Lacks keeps_name
        ss ts xs f h i s t there later)
