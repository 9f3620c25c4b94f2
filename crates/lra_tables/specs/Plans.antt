-- What tables stand for, and what a plan says.
use Rattle.std.specs.Prelude.{◌≡◌, ℕ, ◌+◌, ◌^◌, Bool, true, false, ◌&&◌, nat_lt, nat_le, List, [], ◌∷◌, ◌++◌, length}
use Rattle.std.specs.Prelude.{Option, option_map}
use Rattle.lra_model.specs.declared.entry.Deed.{Deed}
use Rattle.lra_model.specs.declared.entry.Deed.TheVariants.{Join}
use Rattle.lra_model.specs.declared.asks.AskKind.{AskKind}
use Rattle.lra_model.specs.declared.entry.Entry.{Entry}
use Rattle.lra_model.specs.Words.{is_active}
use Rattle.lra_model.specs.History.{History, is_among}
use Rattle.lra_model.specs.Settling.{with_settling}
use Rattle.lra_laws.specs.Snapshots.{StateSnapshot, StandsFor, Follows}
use Rattle.lra_tables.specs.inner.Boarded as boards
use Rattle.lra_tables.specs.inner.Boarded.{Boarded}
use Rattle.lra_rows.specs.declared.found.ActionRow.{ActionRow}
use Rattle.lra_rows.specs.declared.found.MemberRow.{MemberRow}
use Rattle.lra_rows.specs.Rowed.{Capacity}
use Rattle.lra_rows.specs.Found.{found_action, found_member}

-- tables: what they keep of a history, how much their lists hold with no more memory, how many more members and actions
-- their indexed sets take, how many more may join, and the key of the digests of addresses
pub record Tabled : Type 0 where
  pub snapshot : StateSnapshot
  pub capacity : Capacity
  pub skips : ℕ
  pub turns : ℕ
  pub ends : ℕ
  pub places : ℕ
  pub key : ℕ

-- the rows, with the room beside them
abbrev pub board_of : Tabled → Boarded
board_of t = record {
  rows = record { snapshot = t.snapshot; capacity = t.capacity };
  skips = t.skips;
  turns = t.turns;
  ends =
      t.ends;
}

-- whether there is room for one more member in the index, where a deed lets one join
abbrev pub takes_one : Deed → ℕ → Bool
takes_one (Join p a uris) places = nat_lt 0 places
takes_one d places = true

-- whether there is room for entries of which the first is a command's own, and the others settle what follows from it
abbrev pub has_room : Tabled → List Entry → Bool
has_room t [] = true
has_room t (e ∷ es) = boards.has_room e (board_of t) && takes_one e.deed t.places
    && nat_le (t.snapshot.entries + length (e ∷ es)) (2 ^ 63)

-- a plan: the entries that are to come, the members whose wants they may change, and the actions whose deadlines they
-- may change
pub record Planned : Type 0 where
  pub entries : List Entry
  pub members : List ℕ
  pub actions : List ℕ

-- what a member wants to be asked next, the number of attempts at that with no final answer, and the moment of the last
-- of them
pub record Wanting : Type 0 where
  pub want : Option AskKind
  pub count : ℕ
  pub last : Option ℕ

-- what a member wants, if it is there
abbrev pub wanting : History → ℕ → Option Wanting
wanting J p = option_map (λ (m : MemberRow). record { want = m.want; count = m.k; last = m.last }) (found_member J p)

-- what an action's deadline goes by: whether it is Active, its limit, and the moment that it counts from
pub record Limiting : Type 0 where
  pub active : Bool
  pub limit : ℕ
  pub since : ℕ

-- what an action's deadline goes by, if it is there
abbrev pub limiting : History → ℕ → Option Limiting
limiting J a = option_map (λ (r : ActionRow). record { active = is_active r.status; limit = r.limit; since = r.since })
    (found_action J a)

-- all members whose wants differ in the longer history are listed
abbrev pub CoversWants : List ℕ → History → History → Type 0
CoversWants ps J K = (p : ℕ) → is_among ps p ≡ false → wanting K p ≡ wanting J p

-- all actions whose deadlines differ in the longer history are listed
abbrev pub CoversLimits : List ℕ → History → History → Type 0
CoversLimits xs J K = (a : ℕ) → is_among xs a ≡ false → limiting K a ≡ limiting J a

-- the plan of an entry that is allowed after the history: it, and all that settles after it
pub record IsPlan (s : StateSnapshot) (p : Planned) : Type 0 where
  pub entry : Entry
  pub follows : Follows s entry
  pub block : (J : History) → StandsFor s J → p.entries ≡ with_settling J entry
  pub wants : (J : History) → StandsFor s J → CoversWants p.members J (J ++ p.entries)
  pub limits : (J : History) → StandsFor s J → CoversLimits p.actions J (J ++ p.entries)
