-- What clauses read of a lock and of its tokens, and what its calls say of them.
use Rattle.std.specs.Prelude.{◌≡◌, ◌≢◌, ◌⊎◌, ℕ, ◌+◌, ◌-◌, ◌^◌, ◌<◌, List, [], ◌∷◌, Option}
use mathlib.Core.List.{IsPrefix}
use mathlib.Core.Option.{some}
use lib.ListN.{get_elem?}
use Rattle.atomic_table.specs.Table.{State}
use Rattle.atomic_table.specs.Seated.{TableId}
use Rattle.lra_model.specs.declared.entry.Entry.{Entry}
use Rattle.lra_ticket.specs.declared.kept.Kept.{Ghosts}
use Rattle.lra_ticket.specs.declared.lock.TicketLock.{TicketLock}
use Rattle.lra_ticket.specs.declared.lock.Pass.{Pass}
use Rattle.lra_ticket.specs.declared.lock.Held.{Held}
use Rattle.lra_ticket.specs.declared.lock.Parts.{Parts}
use Rattle.lra_ticket.specs.declared.lock.TryFault.{TryFault}
use Rattle.lra_ticket.specs.declared.lock.TryFault.TheVariants.{Busy, Worn}
use Rattle.lra_ticket.specs.declared.view.Place.TheVariants.{Peeked, Missed}
use Rattle.lra_ticket.specs.declared.view.View.{View}
use Rattle.lra_ticket.specs.History.{entries_by}
use Rattle.lra_ticket.specs.Rule.{IsOrderly, IsOut, IsInLine}
use Rattle.lra_ticket.specs.Views.{moved, taking}

-- the last number of a word, which is never drawn as a ticket
abbrev pub last_ticket : ℕ
last_ticket = 2 ^ 64 - 1

-- which lock it is
abbrev pub lock_id : {X O : Type 0} → TicketLock X O → TableId
lock_id lock = lock.table.shared.table_id

-- the value that it began with
abbrev pub first_value : {X O : Type 0} → TicketLock X O → X
first_value lock = lock.table.shared.key.first.value

-- which lock a pass is of
abbrev pub pass_id : {X O : Type 0} {g : Ghosts X O} → Pass X O g → TableId
pass_id pass = pass.seat.table_id

-- which lock is held
abbrev pub held_id : {X O : Type 0} {g : Ghosts X O} → Held X O g → TableId
held_id held = held.seat.table_id

-- what a pass's owner knows
abbrev pub pass_view : {X O : Type 0} {g : Ghosts X O} → Pass X O g → View O
pass_view pass = pass.seat.me.0

-- what a holder knows
abbrev pub held_view : {X O : Type 0} {g : Ghosts X O} → Held X O g → View O
held_view held = held.seat.me.0

-- a value that a view may be handed
pub record Suits {X O : Type 0} (origin : X → O) (history : X → List Entry) (lawful : X → Type 0) (v : View O)
    (x : X) : Type 0 where
  pub lawful_now : lawful x
  pub same_origin : origin x ≡ v.origin
  -- all that was seen before stands at the beginning
  pub begins : IsPrefix v.seen (history x)
  -- and after it comes nothing under the view's number
  pub seen_own : entries_by v.number v.seen ≡ v.mine
  pub own : entries_by v.number (history x) ≡ v.mine
  pub enrolled : v.number ≢ 0 → v.mine ≢ []

-- w is v, after it waited and was handed a value with this history
abbrev pub HasTaken : {O : Type 0} → View O → List Entry → View O → Type 0
HasTaken v history w = (t : ℕ) × (t < last_ticket) × (w ≡ taking v t history)

-- v, with one try more
abbrev pub tried : {O : Type 0} → View O → View O
tried v = record v { tries = v.tries + 1 }

-- w is v, after one peek and one grab, which found another next ticket than the one that is served
abbrev pub HasMissed : {O : Type 0} → View O → View O → Type 0
HasMissed v w = (s n : ℕ) × (n ≢ s) × (w ≡ moved (tried v) (Missed s n))

-- w is v, after a try that had this fault
abbrev pub HasFailed : {O : Type 0} → View O → TryFault → View O → Type 0
HasFailed v Busy w = HasMissed v w
HasFailed v Worn w = w ≡ moved (tried v) (Peeked last_ticket)

-- what a lock was when it ended: a state that meets the rule, which has this view among its own, and where no one holds
-- the lock this value
pub record HasEnded {X O : Type 0} (origin : X → O) (history : X → List Entry) (lawful : X → Type 0) (o : O)
    (v : View O) (parts : Parts X) : Type 0 where
  pub state : State (Option X) (View O)
  pub orderly : IsOrderly origin history lawful o state
  pub in_line : IsInLine state
  pub known : (i : ℕ) × (get_elem? state.views i ≡ some v)
  pub atomic_words : state.words ≡ parts.next ∷ parts.serving ∷ []
  pub slot : (state.homes ≡ some parts.value ∷ []) ⊎ IsOut state
