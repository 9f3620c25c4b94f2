-- What a view says, and how steps change it.
use Rattle.std.specs.Prelude.{◌≡◌, ◌==◌, ℕ, ◌+◌, Bool, true, false, List, [], ◌∷◌, ◌++◌, if◌then◌else◌}
use Rattle.lra_model.specs.declared.entry.Entry.{Entry}
use Rattle.lra_ticket.specs.declared.view.Place.{Place}
use Rattle.lra_ticket.specs.declared.view.Place.TheVariants.{Idle, Looked, Waiting, Holding, Peeked, Missed, Paired}
use Rattle.lra_ticket.specs.declared.view.Place.TheVariants.{Spent}
use Rattle.lra_ticket.specs.declared.view.View.{View}
use Rattle.lra_ticket.specs.History.{entries_by, block_after, number_after}

-- it waits for nothing, holds nothing, and stands for itself alone
abbrev pub is_resting : Place → Bool
is_resting Idle = true
is_resting (Looked n) = true
is_resting (Waiting t) = false
is_resting (Holding t) = false
is_resting (Peeked s) = true
is_resting (Missed s n) = true
is_resting (Paired k h) = false
is_resting Spent = false

-- 1 where it has this ticket, served or not
abbrev pub has_ticket : ℕ → Place → ℕ
has_ticket t (Waiting u) = if u == t then 1 else 0
has_ticket t (Holding u) = if u == t then 1 else 0
has_ticket t _ = 0

-- 1 where it holds the lock
abbrev pub holds_lock : Place → ℕ
holds_lock (Holding u) = 1
holds_lock _ = 0

-- what is known under a number: the origin, the history seen, and in it the entries of the number
pub record Sight (O : Type 0) : Type 0 where
  pub number : ℕ
  pub origin : O
  pub seen : List Entry
  pub mine : List Entry

-- a sight, by its parts in their order
abbrev pub sight : {O : Type 0} → ℕ → O → List Entry → List Entry → Sight O
sight number origin seen mine = record { number = number; origin = origin; seen = seen; mine = mine }

-- a paired view counts as two, and a spent one as none
abbrev pub sights_at : {O : Type 0} → Sight O → Place → List (Sight O)
sights_at own (Paired k h) = own ∷ sight k own.origin h (entries_by k h) ∷ []
sights_at own Spent = []
sights_at own _ = own ∷ []

-- what a view knows, under its own number and, where it is paired, under the second one
abbrev pub sights : {O : Type 0} → View O → List (Sight O)
sights v = sights_at (sight v.number v.origin v.seen v.mine) v.place

-- how many of these have this number
abbrev pub bearers : {O : Type 0} → ℕ → List (Sight O) → ℕ
bearers n [] = 0
bearers n (s ∷ ss) = (if s.number == n then 1 else 0) + bearers n ss

-- a view, by its parts in their order
abbrev pub view : {O : Type 0} → ℕ → O → List Entry → List Entry → ℕ → Place → View O
view number origin seen mine tries place = record {
  number = number;
  origin = origin;
  seen = seen;
  mine = mine;
  tries =
      tries;
  place = place;
}

-- make: the first pass, with all of the first value's history seen
abbrev pub first_view : {O : Type 0} → ℕ → O → List Entry → View O
first_view number origin history = view number origin history (entries_by number history) 0 Idle

-- the same view at another place
abbrev pub moved : {O : Type 0} → View O → Place → View O
moved v place = record v { place = place }

-- split: a second pass, which has seen as much and has no number yet
abbrev pub newcomer : {O : Type 0} → View O → View O
newcomer v = view 0 v.origin v.seen [] 0 Idle

-- watch and grab, where the ticket t is served: it was handed a value with this history
abbrev pub taking : {O : Type 0} → View O → ℕ → List Entry → View O
taking v t history = record v { seen = history; place = Holding t }

-- give: it gave a value with this history back, and what that added is its own
abbrev pub given : {O : Type 0} → View O → List Entry → View O
given v history = let block = block_after v.seen history in
    view (number_after v.number block) v.origin history (v.mine ++ block) v.tries Idle

-- its own entries are those of what it has seen, where no entry bears 0
abbrev pub IsComplete : {O : Type 0} → View O → Type 0
IsComplete v = (v.mine ≡ entries_by v.number v.seen) × (entries_by 0 v.seen ≡ [])
