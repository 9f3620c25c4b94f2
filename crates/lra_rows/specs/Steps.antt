-- What an entry wrote over and added, and how that undoes it.
use Rattle.std.specs.Prelude.{ℕ, ◌-◌, Bool, cond, List, length, take, Option, Some, None, option_map}
use Rattle.std.specs.Option.{option_map_or}
use Rattle.lra_model.specs.declared.asks.AskKind.{AskKind}
use Rattle.lra_model.specs.declared.asks.AskKind.TheVariants as ask
use Rattle.lra_model.specs.Addresses.{Addresses}
use Rattle.lra_laws.specs.Rows.{MemberRow, ActionRow, row_at, change_row}
use Rattle.lra_laws.specs.Snapshots.{Nesting, Repeats, Endpoint}
use Rattle.lra_rows.specs.declared.step.Added.{Added}
use Rattle.lra_rows.specs.declared.step.Added.TheVariants as added
use Rattle.lra_rows.specs.Rowed.{Rowed, is_ready_at}

-- what is counted of a history: its entries, its clerks, its asks, the moment of the last entry, and up to which ask
-- all are void
pub record Counts : Type 0 where
  pub entries : ℕ
  pub moment : ℕ
  pub clerks : ℕ
  pub asks : ℕ
  pub void : ℕ

-- a member's repeats in a stage, as they were
pub record Repeated : Type 0 where
  pub member : ℕ
  pub stage : AskKind
  pub repeats : Repeats

-- what an entry wrote over, each row by its number and as it was: a member's row, an action's, and then that of its
-- parent, and a member's repeats; and what it added
pub record Writes : Type 0 where
  pub member : Option (ℕ × MemberRow)
  pub action : Option (ℕ × ActionRow)
  pub parent : Option (ℕ × ActionRow)
  pub repeats : Option Repeated
  pub added : Added

-- a step: what was counted before an entry, and what the entry wrote over and added (this project's choice)
pub record Step : Type 0 where
  pub before : Counts
  pub writes : Writes

-- rows with other counts
abbrev pub with_counts : Counts → Rowed → Rowed
with_counts c r = record r {
  snapshot = record r.snapshot {
    entries = c.entries;
    state = record r.snapshot.state
        { moment = c.moment; clerks = c.clerks; asks = c.asks; void = c.void };
  };
}

-- a list without its last item
abbrev pub without_last : {X : Type 0} → List X → List X
without_last xs = take (length xs - 1) xs

-- an action's lists without its last child
abbrev pub without_child : Nesting → Nesting
without_child n = record n { children = without_last n.children }

-- an action's lists without its last member
abbrev pub without_member : Nesting → Nesting
without_member n = record n { members = without_last n.members }

-- an action's lists without the last of the members of it and of all below it
abbrev pub without_under : Nesting → Nesting
without_under n = record n { under = without_last n.under }

-- rows without what an entry added last
abbrev pub without_added : Added → Rowed → Rowed
without_added added.Nothing r = r
without_added (added.Action parent) r = record r {
  snapshot = record r.snapshot {
    state = record r.snapshot.state { actions = without_last r.snapshot.state.actions };
    nestings = option_map_or (λ b. change_row without_child b (without_last r.snapshot.nestings)) parent
        (without_last r.snapshot.nestings);
  };
  capacity = record r.capacity { lists = without_last r.capacity.lists };
}
without_added (added.Member a top) r = record r {
  snapshot = record r.snapshot {
    state = record r.snapshot.state { members = without_last r.snapshot.state.members };
    nestings = change_row without_member a (change_row without_under top r.snapshot.nestings);
    endpoints = without_last r.snapshot.endpoints;
  };
  capacity = record r.capacity { ready = without_last r.capacity.ready };
}
without_added added.Ask r = record r { snapshot = record r.snapshot { asks = without_last r.snapshot.asks } }

-- a row as it was, in the place of what stands there
abbrev pub put_back : {R : Type 0} → Option (ℕ × R) → List R → List R
put_back None rows = rows
put_back (Some w) rows = change_row (λ _. w.1) w.0 rows

-- a member with its repeats in a stage as they were
abbrev pub with_repeats : AskKind → Repeats → Endpoint → Endpoint
with_repeats ask.Complete r c = record c { completing = r }
with_repeats ask.Compensate r c = record c { compensating = r }
with_repeats ask.Forget r c = record c { forgetting = r }
with_repeats ask.After r c = record c { telling = r }
with_repeats ask.Status r c = c

-- the members' repeats as they were, where they have places
abbrev pub repeats_back : Option Repeated → List Bool → List Endpoint → List Endpoint
repeats_back o ready endpoints =
    option_map_or (λ (x : Repeated). cond (is_ready_at ready x.member)
    (change_row (with_repeats x.stage x.repeats) x.member endpoints) endpoints) o endpoints

-- each row that was written over as it was
abbrev pub rewritten : Writes → Rowed → Rowed
rewritten w r = record r {
  snapshot = record r.snapshot {
    state = record r.snapshot.state {
      actions = put_back w.action (put_back w.parent r.snapshot.state.actions);
      members =
          put_back w.member r.snapshot.state.members;
    };
    endpoints = repeats_back w.repeats r.capacity.ready r.snapshot.endpoints;
  };
}

-- the rows before a step, by those after it (this project's choice)
abbrev pub taken_back : Step → Rowed → Rowed
taken_back k r = with_counts k.before (rewritten k.writes (without_added k.writes.added r))

-- the addresses of the last member, where a member was added
abbrev pub added_addresses : Added → List Endpoint → Option Addresses
added_addresses (added.Member a top) endpoints = option_map (λ (c : Endpoint). c.addresses)
    (row_at endpoints (length endpoints))
added_addresses _ endpoints = None

-- the addresses of the member that a step added, if it added one (this project's choice)
abbrev pub addresses_back : Step → Rowed → Option Addresses
addresses_back k r = added_addresses k.writes.added r.snapshot.endpoints
