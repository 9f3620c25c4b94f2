-- Journal sets: what is known of each member, as a list with the oldest first. Each member has an instance of its own.
use Rattle.std.specs.Prelude.{◌≡◌, ◌≢◌, ℕ, ◌<◌, ◌==◌, if◌then◌else◌, List, [], ◌∷◌, ◌++◌, map, Option, Some, None}
use Rattle.std.specs.Prelude.{MatchOption, ⊤}

-- the last of these numbers, or that one where there are none
abbrev pub last_after : ℕ → List ℕ → ℕ
last_after n [] = n
last_after n (m ∷ ms) = last_after m ms

-- each number is greater than the one before it, and the first is greater than that one
abbrev pub IsAbove : ℕ → List ℕ → Type 0
IsAbove n [] = ⊤
IsAbove n (m ∷ ms) = (n < m) × IsAbove m ms

-- the instances of a journal set: at least one, each greater than the one before it
abbrev pub IsJournalSet : List ℕ → Type 0
IsJournalSet [] = ⊥
IsJournalSet (n ∷ ns) = IsAbove n ns

module _ {S : Type 0} (name : S → ℕ) where
  -- the member with that instance
  abbrev pub member : ℕ → List S → Option S
  member i [] = None
  member i (s ∷ ss) = if name s == i then Some s else member i ss

  -- the member with that instance becomes t, and every other stays
  abbrev pub put : ℕ → S → List S → List S
  put i t [] = []
  put i t (s ∷ ss) = if name s == i then t ∷ ss else s ∷ put i t ss

  -- the member with that instance is taken out, and every other stays
  abbrev pub without : ℕ → List S → List S
  without i [] = []
  without i (s ∷ ss) = if name s == i then ss else s ∷ without i ss

  -- the greatest instance
  abbrev pub newest : List S → ℕ
  newest ss = last_after 0 (map name ss)

  -- the member with that instance changes, if there is one, and every other stays; else all stay
  abbrev pub MovesAt : ℕ → List S → (S → S → Type 0) → Type 0 → List S → Type 0
  MovesAt i ss Moves Lacks ts = MatchOption (member i ss) (Lacks × (ts ≡ ss))
      (λ s. (t : S) × Moves s t × (ts ≡ put i t ss))

  -- a member joins that is newer than all others
  pub record Joins (ss : List S) (s : S) (ts : List S) : Type 0 where
    pub newer : newest ss < name s
    pub joined : ts ≡ ss ++ s ∷ []

  -- a member leaves that isn't the newest
  pub record Leaves (ss : List S) (s : S) (ts : List S) : Type 0 where
    pub older : name s ≢ newest ss
    pub there : member (name s) ss ≡ Some s
    pub left : ts ≡ without (name s) ss
