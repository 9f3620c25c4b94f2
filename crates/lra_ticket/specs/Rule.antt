-- The rule of the lock, which holds between any two steps. Word 0 is the next ticket, word 1 the ticket that is served,
-- and the one slot has the value, or nothing while a holder has it.
use Rattle.std.specs.Prelude.{◌≡◌, ◌≢◌, ◌⊎◌, ℕ, ◌^◌, ◌<◌, ◌≤◌, List, [], ◌∷◌, Option, Some, slice_get, sum_by}
use Rattle.std.specs.List.{AllByRecursion}
use mathlib.Core.List.{IsPrefix}
use mathlib.Core.Option.{some}
use mathlib.Core.Option as maybe
use lib.ListN.{get_elem?}
use Rattle.atomic_table.specs.Table.{State}
use Rattle.lra_model.specs.declared.entry.Entry.{Entry}
use Rattle.lra_ticket.specs.declared.view.Place.{Place}
use Rattle.lra_ticket.specs.declared.view.Place.TheVariants.{Idle, Looked, Waiting, Holding, Peeked, Missed, Paired}
use Rattle.lra_ticket.specs.declared.view.Place.TheVariants.{Spent}
use Rattle.lra_ticket.specs.declared.view.View.{View}
use Rattle.lra_ticket.specs.History.{entries_by, Comparable}
use Rattle.lra_ticket.specs.Views.{Sight, sights, bearers, has_ticket, holds_lock}

-- what a place says of the words, and a holder of the history that it took
abbrev pub IsPlaced : (next serving : ℕ) → (log seen : List Entry) → Place → Type 0
IsPlaced next serving log seen Idle = Unit {0}
IsPlaced next serving log seen (Looked n) = n ≤ next
IsPlaced next serving log seen (Waiting t) = (serving ≤ t) × (t < next)
IsPlaced next serving log seen (Holding t) = (t ≡ serving) × (t < next) × (seen ≡ log)
IsPlaced next serving log seen (Peeked s) = s ≤ serving
IsPlaced next serving log seen (Missed s n) = (s ≤ serving) × (n ≤ next) × (n ≢ s)
IsPlaced next serving log seen (Paired k h) = Unit {0}
IsPlaced next serving log seen Spent = Unit {0}

-- what is known under a number fits the one history
pub record Fits {O : Type 0} (origin : O) (log : List Entry) (s : Sight O) : Type 0 where
  pub same_origin : s.origin ≡ origin
  pub begins : IsPrefix s.seen log
  -- the caller that adds entries under the number has seen them
  pub all_seen : entries_by s.number log ≡ entries_by s.number s.seen
  pub own : s.mine ≡ entries_by s.number s.seen
  pub enrolled : s.number ≢ 0 → s.mine ≢ []

-- what holds of one view
pub record Stands {O : Type 0} (origin : O) (next serving : ℕ) (log : List Entry) (v : View O) : Type 0 where
  pub placed : IsPlaced next serving log v.seen v.place
  pub fits : AllByRecursion (Fits origin log) (sights v)

-- one holder has the slot
pub record IsOut {X O : Type 0} (s : State (Option X) (View O)) : Type 0 where
  pub empty : s.homes ≡ maybe.none ∷ []
  pub held : sum_by (λ (v : View O). holds_lock v.place) s.views ≡ 1

-- the value is in the slot: it is lawful, and no one holds the lock
pub record IsHome {X O : Type 0} (origin : X → O) (history : X → List Entry) (lawful : X → Type 0) (o : O)
    (log : List Entry) (s : State (Option X) (View O)) : Type 0 where
  pub value : X
  pub stored : s.homes ≡ some (Some value) ∷ []
  pub lawful_now : lawful value
  pub same_origin : origin value ≡ o
  pub has_log : history value ≡ log
  pub free : sum_by (λ (v : View O). holds_lock v.place) s.views ≡ 0

-- the rule, where o is the origin of the value that the lock began with
pub record IsOrderly {X O : Type 0} (origin : X → O) (history : X → List Entry) (lawful : X → Type 0) (o : O)
    (s : State (Option X) (View O)) : Type 0 where
  -- the next ticket, the one that is served, and the history of the value at home, or of the one that the holder took
  pub next : ℕ
  pub serving : ℕ
  pub log : List Entry
  pub atomic_words : s.words ≡ next ∷ serving ∷ []
  pub served : serving ≤ next
  pub small : next < 2 ^ 64
  pub slot : IsHome origin history lawful o log s ⊎ IsOut s
  -- no entry bears 0
  pub from_one : entries_by 0 log ≡ []
  pub each : (i : ℕ) (v : View O) → get_elem? s.views i ≡ some v → Stands o next serving log v
  -- no two have one ticket
  pub one_ticket : (t : ℕ) → sum_by (λ (v : View O). has_ticket t v.place) s.views ≤ 1
  -- no two have one number other than 0
  pub one_number : (n : ℕ) → n ≢ 0 → sum_by (λ (v : View O). bearers n (sights v)) s.views ≤ 1

-- some view of the state has this sight
abbrev pub IsKnown : {X O : Type 0} → State (Option X) (View O) → Sight O → Type 0
IsKnown s x = (i k : ℕ) × (v : View _) × (get_elem? s.views i ≡ some v) × (slice_get (sights v) k ≡ Some x)

-- of what two views have seen, one begins the other
abbrev pub IsInLine : {X O : Type 0} → State (Option X) (View O) → Type 0
IsInLine {O = O} s = (x y : Sight O) → IsKnown s x → IsKnown s y → Comparable x.seen y.seen
