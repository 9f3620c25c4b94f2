-- What rows are: the snapshot of a history, and how much each list takes with no more memory.
use Rattle.std.specs.Prelude.{ℕ, ◌^◌, ◌&&◌, nat_lt, Bool, true, false, cond, List, [], ◌∷◌, ◌++◌, length, Option, Some}
use Rattle.std.specs.Prelude.{None}
use Rattle.std.specs.Option.{option_map_or}
use Rattle.lra_model.specs.declared.entry.Deed.{Deed}
use Rattle.lra_model.specs.declared.entry.Deed.TheVariants.{Start, Join, Ask, Reply}
use Rattle.lra_model.specs.declared.entry.Entry.{Entry}
use Rattle.lra_model.specs.Addresses.{Addresses}
use Rattle.lra_model.specs.Words.{is_undecided}
use Rattle.lra_model.specs.Members.{Asked}
use Rattle.lra_laws.specs.Rows.{row_at}
use Rattle.lra_laws.specs.Snapshots.{Nesting, StateSnapshot, top_at, snapshot_after}

-- how many numbers the lists of an action hold with no more memory (this project's choice)
pub record NestCapacity : Type 0 where
  pub children : ℕ
  pub members : ℕ
  pub under : ℕ

-- what the lists of a new action hold: nothing yet (this project's choice)
abbrev pub no_capacity : NestCapacity
no_capacity = record { children = 0; members = 0; under = 0 }

-- how many rows each list holds with no more memory, how many numbers the lists of each action do, and which members'
-- repeats have a place (this project's choice)
pub record Capacity : Type 0 where
  pub actions : ℕ
  pub members : ℕ
  pub nestings : ℕ
  pub endpoints : ℕ
  pub asks : ℕ
  pub lists : List NestCapacity
  pub ready : List Bool

-- rows: their snapshot, and what they hold with no more memory (this project's choice)
pub record Rowed : Type 0 where
  pub snapshot : StateSnapshot
  pub capacity : Capacity

-- what the lists hold after one more deed: one that starts an action brings lists of its own, and a member that joins
-- has no place for repeats yet (this project's choice)
abbrev pub capacity_after : Deed → Capacity → Capacity
capacity_after (Start a parent limit) c = record c { lists = c.lists ++ no_capacity ∷ [] }
capacity_after (Join p a uris) c = record c { ready = c.ready ++ false ∷ [] }
capacity_after d c = c

-- whether a list takes one more with no more memory (this project's choice)
abbrev pub takes_one : {X : Type 0} → List X → ℕ → Bool
takes_one xs capacity = nat_lt (length xs) capacity

-- whether a list of an action takes one more, where the action is there (this project's choice)
abbrev pub list_takes_one : (Nesting → List ℕ) → (NestCapacity → ℕ) → Rowed → ℕ → Bool
list_takes_one list capacity r a =
    option_map_or (λ (n : Nesting). option_map_or (λ (c : NestCapacity). takes_one (list n) (capacity c))
    (row_at r.capacity.lists a) true) (row_at r.snapshot.nestings a) true

-- whether an action's list of children takes one more (this project's choice)
abbrev pub takes_child : Rowed → ℕ → Bool
takes_child r a = list_takes_one (λ (n : Nesting). n.children) (λ (c : NestCapacity). c.children) r a

-- whether an action's list of members takes one more (this project's choice)
abbrev pub takes_member : Rowed → ℕ → Bool
takes_member r a = list_takes_one (λ (n : Nesting). n.members) (λ (c : NestCapacity). c.members) r a

-- whether the list of the members of an outermost action and of all below it takes one more (this project's choice)
abbrev pub takes_under : Rowed → ℕ → Bool
takes_under r a = list_takes_one (λ (n : Nesting). n.under) (λ (c : NestCapacity). c.under) r a

-- whether the repeats of a member have a place, where it is there (this project's choice)
abbrev pub is_ready_at : List Bool → ℕ → Bool
is_ready_at ready p = option_map_or (λ b. b) (row_at ready p) true

-- whether each list that a deed adds to takes one more, and repeats have a place that a reply adds to; the numbers of
-- members that are asked are less than 2^32 (this project's choice)
abbrev pub deed_has_room : Deed → Rowed → Bool
deed_has_room (Start a parent limit) r = takes_one r.snapshot.state.actions r.capacity.actions
    && takes_one r.snapshot.nestings r.capacity.nestings && option_map_or (takes_child r) parent true
deed_has_room (Join p a uris) r =
    takes_one r.snapshot.state.members r.capacity.members && takes_one r.snapshot.endpoints r.capacity.endpoints
    && takes_member r a && takes_under r (top_at r.snapshot.state a)
deed_has_room (Ask n p kind) r = takes_one r.snapshot.asks r.capacity.asks && nat_lt p (2 ^ 32)
deed_has_room (Reply n o) r =
    cond (is_undecided o) (option_map_or (λ (x : Asked). is_ready_at r.capacity.ready x.member)
    (row_at r.snapshot.asks n)
    true) true
deed_has_room _ r = true

-- whether an entry can be applied with no memory: each list that it adds to takes one more, and so do the counts, as
-- there are less than 2^63 entries (this project's choice)
abbrev pub has_room : Entry → Rowed → Bool
has_room e r = nat_lt r.snapshot.entries (2 ^ 63) && deed_has_room e.deed r

-- the addresses that a deed lets a member join with (this project's journal)
abbrev pub addresses_joined : Deed → Option Addresses
addresses_joined (Join p a uris) = Some uris
addresses_joined d = None

-- the rows after one more entry that has room and is allowed (this project's choice)
abbrev pub carried : Entry → Rowed → Rowed
carried e r = record { snapshot = snapshot_after e r.snapshot; capacity = capacity_after e.deed r.capacity }
