-- Entries that were applied one after another, and the steps that undo them.
use Rattle.std.specs.Prelude.{◌≡◌, ℕ, suc, ◌≤◌, true, List, [], ◌∷◌, ◌++◌, length, take, Some, slice_get}
use Rattle.lra_model.specs.declared.entry.Deed.{Deed}
use Rattle.lra_model.specs.declared.entry.Entry.{Entry}
use Rattle.lra_model.specs.History.{History, clerks, is_among, last_moment}
use Rattle.lra_model.specs.Rules.{is_number}
use Rattle.lra_model.specs.Settling.{next_settling, settling_within}
use Rattle.lra_laws.specs.Snapshots.{StandsFor, Follows}
use Rattle.lra_rows.specs.Rowed.{addresses_joined}
use Rattle.lra_rows.specs.Steps.{Step, addresses_back}
use Rattle.lra_tables.specs.inner.Boarded.{Boarded, carried, uncarried}

-- the settling state after entries
abbrev pub carried_all : Boarded → List Entry → Boarded
carried_all b [] = b
carried_all b (e ∷ es) = carried_all (carried e b) es

-- the entries lead from a settling state to this one, and the steps lead back and give the addresses of those that
-- joined
pub record IsUndoLog (b : Boarded) (es : List Entry) (ks : List Step) (now : Boarded) : Type 0 where
  pub at : now ≡ carried_all b es
  pub many : length ks ≡ length es
  pub follows : (i : ℕ) (e : Entry) → slice_get es i ≡ Some e → Follows (carried_all b (take i es)).rows.snapshot e
  pub back : (i : ℕ) (e : Entry) (k : Step) → slice_get es i ≡ Some e → slice_get ks i ≡ Some k
      → uncarried e k (carried_all b (take (suc i) es)) ≡ carried_all b (take i es)
  pub given : (i : ℕ) (e : Entry) (k : Step) → slice_get es i ≡ Some e → slice_get ks i ≡ Some k
      → addresses_back k (carried_all b (take (suc i) es)).rows ≡ addresses_joined e.deed

-- a clerk that may go on writing after a history that the settling state stands for
pub record MayGoOn (b : Boarded) (K : History) (by moment : ℕ) : Type 0 where
  pub stands : StandsFor b.rows.snapshot K
  pub clerk : is_among (clerks K) by ≡ true
  pub later : last_moment K ≤ moment
  pub fits : is_number moment ≡ true

-- a clerk that may go on after some history
pub record Going (b : Boarded) (by moment : ℕ) : Type 0 where
  pub history : History
  pub may : MayGoOn b history by moment

-- what is left to settle, in n entries at most, makes the whole of what was applied so far
pub record SettlesTo (J : History) (by moment n : ℕ) (b : Boarded) (es whole : List Entry) : Type 0 where
  pub may : MayGoOn b (J ++ es) by moment
  pub left : whole ≡ es ++ settling_within n by moment (J ++ es)

-- the entries and steps lead here from some settling state
pub record HasUndoLog (es : List Entry) (ks : List Step) (now : Boarded) : Type 0 where
  pub from : Boarded
  pub undo_log : IsUndoLog from es ks now

-- a clerk that may go on after some history, which this deed settles next
pub record GoesOn (b : Boarded) (by moment : ℕ) (d : Deed) : Type 0 where
  pub history : History
  pub may : MayGoOn b history by moment
  pub next : Some d ≡ next_settling history
