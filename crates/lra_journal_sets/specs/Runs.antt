-- What turns, joins and leaves do to a journal set, and what they are to each member alone.
use Rattle.std.specs.Prelude.{◌≡◌, ℕ, ◌==◌, if◌then◌else◌, List, [], ◌∷◌}
use Rattle.lra_journal_sets.specs.JournalSets.{newest, MovesAt, Joins, Leaves}

-- an event of a journal set: a turn, or the joining or leaving of a member
pub data Event (S E : Type 0) : Type 0 where
  Turn : E → Event S E
  Join : S → Event S E
  Leave : S → Event S E

module _ {S E : Type 0} (does : S → E → S → Type 0) where
  -- turns of one member, one after another
  abbrev pub Chain : S → List E → S → Type 0
  Chain s [] t = t ≡ s
  Chain s (e ∷ es) t = (u : S) × does s e u × Chain u es t

module _ {S E : Type 0} (name : S → ℕ) (names : ℕ → E → ℕ) where
  -- the turns that name an instance, in order, where the newest is n at first
  abbrev pub share : ℕ → ℕ → List (Event S E) → List E
  share i n [] = []
  share i n (Turn e ∷ xs) = if names n e == i then e ∷ share i n xs else share i n xs
  share i n (Join s ∷ xs) = share i (name s) xs
  share i n (Leave s ∷ xs) = share i n xs

  -- the instances of those that join, in order
  abbrev pub joined : List (Event S E) → List ℕ
  joined [] = []
  joined (Turn e ∷ xs) = joined xs
  joined (Join s ∷ xs) = name s ∷ joined xs
  joined (Leave s ∷ xs) = joined xs

  module _ (does : S → E → S → Type 0) (Lacks : E → Type 0) where
    -- what an event does: a turn is one of the member that it names, if there is one
    abbrev pub Happens : List S → Event S E → List S → Type 0
    Happens ss (Turn e) ts = MovesAt name (names (newest name ss) e) ss (λ s t. does s e t) (Lacks e) ts
    Happens ss (Join s) ts = Joins name ss s ts
    Happens ss (Leave s) ts = Leaves name ss s ts

    -- events one after another
    abbrev pub Run : List S → List (Event S E) → List S → Type 0
    Run ss [] ts = ts ≡ ss
    Run ss (x ∷ xs) ts = (us : List S) × Happens ss x us × Run us xs ts
