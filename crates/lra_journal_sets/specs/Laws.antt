-- What follows for each member of a journal set, and for all of them together.
use Rattle.std.specs.Prelude.{◌≡◌, ◌≢◌, ℕ, List, [], ◌∷◌, ◌++◌, map, Some, None, ⊤}
use Rattle.lra_journal_sets.specs.JournalSets.{IsJournalSet, newest, member, put, Joins, Leaves}
use Rattle.lra_journal_sets.specs.Runs.{Event, Chain, Run, share, joined}

-- the number is none of these
abbrev pub IsApart : ℕ → List ℕ → Type 0
IsApart i [] = ⊤
IsApart i (n ∷ ns) = (i ≢ n) × IsApart i ns

-- no number occurs twice
abbrev pub AreApart : List ℕ → Type 0
AreApart [] = ⊤
AreApart (n ∷ ns) = IsApart n ns × AreApart ns

-- P holds of each
abbrev pub Each : {E : Type 0} → (E → Type 0) → List E → Type 0
Each P [] = ⊤
Each P (e ∷ es) = P e × Each P es

module _ {S : Type 0} (name : S → ℕ) where
  -- One member changes: it is what it became, every other stays as it was, and the instances stay.
  pub record PutsOne (i : ℕ) (ss : List S) (s t : S) : Type 0 where
    pub here : member name i (put name i t ss) ≡ Some t
    pub elsewhere : (j : ℕ) → j ≢ i → member name j (put name i t ss) ≡ member name j ss
    pub instances : map name (put name i t ss) ≡ map name ss

  -- A member changes, and keeps its name. Every other stays as it was.
  abbrev pub MovingPutsOne : Type 0
  MovingPutsOne = (i : ℕ) (ss : List S) (s t : S) → member name i ss ≡ Some s → name t ≡ name s → PutsOne i ss s t

  -- A member leaves. It isn't there any more, and every other stays as it was.
  abbrev pub LeavingTakesOne : Type 0
  LeavingTakesOne = (ss ts : List S) (s : S) → IsJournalSet (map name ss) → Leaves name ss s ts
      → (member name (name s) ts ≡ None) × ((j : ℕ) → j ≢ name s → member name j ts ≡ member name j ss)
      × (newest name ts ≡ newest name ss)

  -- A member joins. It is there, and is the newest. Every other stays as it was.
  abbrev pub JoiningAddsOne : Type 0
  JoiningAddsOne = (ss ts : List S) (s : S) → IsJournalSet (map name ss) → Joins name ss s ts
      → (member name (name s) ts ≡ Some s) × ((j : ℕ) → j ≢ name s → member name j ts ≡ member name j ss)
      × (newest name ts ≡ name s)

module _ {S E : Type 0} (name : S → ℕ) (names : ℕ → E → ℕ) (does : S → E → S → Type 0) (Lacks : E → Type 0) where
  -- The turns that name a member happen to it, each once and in order. So what is known of one counter alone holds of
  -- each in a journal set.
  abbrev pub EachHasItsChain : Type 0
  EachHasItsChain = (ss ts : List S) (xs : List (Event S E)) → IsJournalSet (map name ss)
      → Run name names does Lacks ss xs ts
      → (i : ℕ) (s t : S) → member name i ss ≡ Some s → member name i ts ≡ Some t
      → Chain does s (share name names i (newest name ss) xs) t

  -- A turn that names an instance which isn't there and doesn't join has no reply.
  abbrev pub OthersAreLacking : Type 0
  OthersAreLacking = (ss ts : List S) (xs : List (Event S E)) → IsJournalSet (map name ss)
      → Run name names does Lacks ss xs ts
      → (i : ℕ) → member name i ss ≡ None → IsApart i (joined name names xs)
      → Each Lacks (share name names i (newest name ss) xs)

  -- Whatever happens, it stays a journal set, and no instance that it ever had comes back.
  abbrev pub InstancesAreApart : Type 0
  InstancesAreApart = (ss ts : List S) (xs : List (Event S E)) → IsJournalSet (map name ss)
      → Run name names does Lacks ss xs ts
      → IsJournalSet (map name ts) × AreApart (map name ss ++ joined name names xs)

  -- A run can be cut anywhere. So a member that joins has its chain from there on, and a member that leaves has it up
  -- to there.
  abbrev pub RunsCanBeCut : Type 0
  RunsCanBeCut = (ss ts : List S) (xs ys : List (Event S E)) → IsJournalSet (map name ss)
      → Run name names does Lacks ss (xs ++ ys) ts
      → (us : List S) × Run name names does Lacks ss xs us × IsJournalSet (map name us)
      × Run name names does Lacks us ys ts
