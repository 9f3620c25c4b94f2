-- The kinds of steps by which the lock is used, and no others. Each is a single step, and keeps the rule.
-- look, draw, watch, give, peek, grab and compare are on a word. Here is what each shows its caller: of the step, the
-- seat before, the number found, and the seat after. make, split, pair, part and join are moves of seats, and change
-- views alone: `first_view` and `newcomer` in Views, and `paired`, `second` and `joined`.
use Rattle.std.specs.Prelude.{◌≡◌, ◌≢◌, ℕ, ◌+◌, List, [], ◌∷◌, Option, Some}
use mathlib.Core.List.{IsPrefix}
use Rattle.atomic_table.specs.Table.{Me, Step, rest}
use Rattle.lra_model.specs.declared.entry.Entry.{Entry}
use Rattle.lra_ticket.specs.declared.view.Place.{Place}
use Rattle.lra_ticket.specs.declared.view.Place.TheVariants.{Idle, Looked, Waiting, Peeked, Missed, Paired, Spent}
use Rattle.lra_ticket.specs.declared.view.View.{View}
use Rattle.lra_ticket.specs.History.{entries_by, Comparable, longer}
use Rattle.lra_ticket.specs.Locks.{Suits}
use Rattle.lra_ticket.specs.Views.{view, moved, newcomer, taking, given}

-- what is left of a pass that another one stands for
abbrev pub spent_view : {O : Type 0} → O → View O
spent_view blank = view 0 blank [] [] 0 Spent

-- pair: v also stands for w, which is spent
abbrev pub paired : {O : Type 0} → View O → View O → View O
paired v w = moved v (Paired w.number w.seen)

-- part: the second pass that a view at this place stood for
abbrev pub second_at : {O : Type 0} → View O → Place → View O
second_at v (Paired k h) = view k v.origin h (entries_by k h) 0 Idle
second_at v _ = newcomer v

-- part: the second pass that v stood for
abbrev pub second : {O : Type 0} → View O → View O
second v = second_at v v.place

-- join: v has seen what w had seen too, and w is spent
abbrev pub joined : {O : Type 0} → View O → View O → View O
joined v w = record v { seen = longer v.seen w.seen }

-- peek: one more try, which saw the ticket s served
abbrev pub peeking : {O : Type 0} → View O → ℕ → View O
peeking v s = record v { tries = v.tries + 1; place = Peeked s }

-- what a view knows besides a second one, with this number and what it had seen
pub record IsMet {O : Type 0} (v : View O) (number : ℕ) (seen : List Entry) : Type 0 where
  -- of their histories one begins the other
  pub in_line : Comparable v.seen seen
  -- all the view's own entries in the second history are known to it
  pub complete : IsPrefix v.seen seen → entries_by v.number seen ≡ v.mine
  -- no two have one number other than 0
  pub apart : v.number ≢ 0 → v.number ≢ number

-- a seat: its view, and the slots that it has
abbrev pub Hand : Type 0 → Type 0 → Type 0
Hand X O = Me (Option X) (View O)

-- the seat m is handed the slot with a value that suits it, by the ticket t
abbrev pub Takes : {X O : Type 0} → (origin : X → O) → (history : X → List Entry) → (lawful : X → Type 0) → ℕ → Hand X O
    → Hand X O → Type 0
Takes {X} origin history lawful t m n = (x : X) × Suits origin history lawful m.0 x
    × (n ≡ (taking m.0 t (history x), (0, Some x) ∷ m.1))

-- watch: where the ticket is served, the value is handed over
abbrev pub watched : {X O : Type 0} → (origin : X → O) → (history : X → List Entry) → (lawful : X → Type 0)
    → Step (Option X) → Hand X O → ℕ → Hand X O → Type 0
watched origin history lawful st m found n = (t : ℕ) → m.0.place ≡ Waiting t
    → (found ≡ t → Takes origin history lawful t m n) × (found ≢ t → n ≡ m)

-- grab: where the next ticket is the one that was served, it is drawn and served at once, and the value is handed over
abbrev pub grabbed : {X O : Type 0} → (origin : X → O) → (history : X → List Entry) → (lawful : X → Type 0)
    → Step (Option X) → Hand X O → ℕ → Hand X O → Type 0
grabbed origin history lawful st m found n = (found ≡ st.first → Takes origin history lawful st.first m n)
    × (found ≢ st.first → n ≡ (moved m.0 (Missed st.first found), m.1))

-- give: the slot goes back, and the caller has seen the value's history
abbrev pub gave : {X O : Type 0} → (X → List Entry) → Step (Option X) → Hand X O → ℕ → Hand X O → Type 0
gave {X} history st m found n = (x : X) → m.1 ≡ (0, Some x) ∷ rest m.1 → n ≡ (given m.0 (history x), rest m.1)

-- look: the next ticket is read
abbrev pub looked : {X O : Type 0} → Step (Option X) → Hand X O → ℕ → Hand X O → Type 0
looked st m found n = n ≡ (moved m.0 (Looked found), m.1)

-- draw: where the next ticket is the one that was read, it is drawn
abbrev pub drew : {X O : Type 0} → Step (Option X) → Hand X O → ℕ → Hand X O → Type 0
drew st m found n = (found ≡ st.first → n ≡ (moved m.0 (Waiting st.first), m.1)) × (found ≢ st.first → n ≡ m)

-- peek: the ticket that is served is read
abbrev pub peeked : {X O : Type 0} → Step (Option X) → Hand X O → ℕ → Hand X O → Type 0
peeked st m found n = n ≡ (peeking m.0 found, m.1)

-- compare, between pair and part: what is told of the two histories that a view stands for
abbrev pub met : {X O : Type 0} → Step (Option X) → Hand X O → ℕ → Hand X O → Type 0
met st m found n = (n ≡ m) × ((k : ℕ) (h : List Entry) → m.0.place ≡ Paired k h → IsMet m.0 k h)
