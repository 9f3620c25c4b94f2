-- What tables keep of a history: the rows that the rules read, and what else is asked of an action, of a member and of
-- an ask.
use Rattle.std.specs.Prelude.{◌≡◌, ℕ, suc, ◌+◌, Bool, true, cond, List, [], ◌∷◌, ◌++◌, length, map, Option, unwrap_or}
use Rattle.std.specs.Option.{option_map_or}
use Rattle.std.specs.List.{filter_map}
use Rattle.lra_model.specs.declared.asks.AskKind.{AskKind}
use Rattle.lra_model.specs.declared.asks.AskKind.TheVariants as ask
use Rattle.lra_model.specs.declared.asks.Outcome.{Outcome}
use Rattle.lra_model.specs.declared.version.Version.{Version}
use Rattle.lra_model.specs.declared.entry.Deed.{Deed}
use Rattle.lra_model.specs.declared.entry.Deed.TheVariants.{Start, Join, Ask, Reply}
use Rattle.lra_model.specs.declared.entry.Entry.{Entry}
use Rattle.lra_model.specs.Addresses.{Addresses}
use Rattle.lra_model.specs.Words.{is_undecided}
use Rattle.lra_model.specs.History.{History, steps, actions, members}
use Rattle.lra_model.specs.Actions.{children, members_of, depth}
use Rattle.lra_model.specs.Members.{Asked, asked_at, members_under, addresses_of}
use Rattle.lra_model.specs.Wants.{stage_of, repeat_count, last_repeat}
use Rattle.lra_model.specs.Rules.{is_legal, allows}
use Rattle.lra_laws.specs.Rows.{State, ActionRow, MemberRow, state_of, row_at, change_row, change_member, way_asked}
use Rattle.lra_laws.specs.Rows.{with_reply, after_deed}

-- where an action stands among others: how deep it is nested, the actions nested in it, its members, and, where it is
-- an outermost one, the members of all that stand in it
pub record Nesting : Type 0 where
  pub depth : ℕ
  pub children : List ℕ
  pub members : List ℕ
  pub under : List ℕ

-- how often a member gave no final answer in a stage, and when it last did; 0 where it never did
pub record Repeats : Type 0 where
  pub count : ℕ
  pub last : ℕ

-- how a member is reached, and its repeats in each stage
pub record Endpoint : Type 0 where
  pub addresses : Addresses
  pub completing : Repeats
  pub compensating : Repeats
  pub forgetting : Repeats
  pub telling : Repeats

-- the state with all that tables keep beside it: how many entries there are, and lists by the number of the action, of
-- the member and of the ask
pub record StateSnapshot : Type 0 where
  pub entries : ℕ
  pub state : State
  pub nestings : List Nesting
  pub endpoints : List Endpoint
  pub asks : List Asked

-- ---- what the snapshot is, by the words of the history

-- where an action stands
abbrev pub nesting_of : History → ℕ → Nesting
nesting_of J a = record {
  depth = depth J a;
  children = children J a;
  members = members_of J a;
  under = members_under J
      a;
}

-- a member's repeats in a stage
abbrev pub repeats_in : History → ℕ → AskKind → Repeats
repeats_in J p stage = record { count = repeat_count J p stage; last = unwrap_or (last_repeat J p stage) 0 }

-- how a member is reached, and its repeats
abbrev pub endpoint_of : History → ℕ → Endpoint
endpoint_of J p = record {
  addresses = addresses_of J p;
  completing = repeats_in J p ask.Complete;
  compensating = repeats_in J p ask.Compensate;
  forgetting = repeats_in J p ask.Forget;
  telling = repeats_in J p ask.After;
}

-- the asks that were made, in order
unfoldable pub asks_made : History → List Asked
asks_made J = filter_map asked_at (steps J)

-- the snapshot that stands for a history
abbrev pub snapshot_of : History → StateSnapshot
snapshot_of J = record {
  entries = length J;
  state = state_of J;
  nestings = map (nesting_of J) (actions J);
  endpoints =
      map (endpoint_of J) (members J);
  asks = asks_made J;
}

-- the snapshot stands for a legal history
pub record StandsFor (s : StateSnapshot) (J : History) : Type 0 where
  pub version : Version
  pub is_address : List ℕ → Bool
  pub legal : is_legal version is_address J ≡ true
  pub snapshot : s ≡ snapshot_of J

-- the snapshot stands for a legal history after which the entry is allowed
pub record Follows (s : StateSnapshot) (e : Entry) : Type 0 where
  pub history : History
  pub stands : StandsFor s history
  pub allowed : allows stands.version stands.is_address history e ≡ true

-- ---- one more entry

-- one more number for an action's children
abbrev pub with_child_number : ℕ → Nesting → Nesting
with_child_number c n = record n { children = n.children ++ c ∷ [] }

-- one more number for an action's members
abbrev pub with_member_number : ℕ → Nesting → Nesting
with_member_number p n = record n { members = n.members ++ p ∷ [] }

-- one more number for the members of all that stand in an action
abbrev pub with_number_under : ℕ → Nesting → Nesting
with_number_under p n = record n { under = n.under ++ p ∷ [] }

-- how deep a new action is nested
abbrev pub new_depth : List Nesting → Option ℕ → ℕ
new_depth nestings parent = option_map_or (λ b. option_map_or (λ (n : Nesting). suc n.depth) (row_at nestings b) 1)
    parent 1

-- a new action has no children and no members
abbrev pub new_nesting : ℕ → Nesting
new_nesting depth = record { depth = depth; children = []; members = []; under = [] }

-- the outermost action above one, as its row has it; 0, which is no action's number, where there is none
abbrev pub top_at : State → ℕ → ℕ
top_at s a = option_map_or (λ (r : ActionRow). r.top) (row_at s.actions a) 0

-- where the actions stand after one more deed
abbrev pub nests_after : State → Deed → List Nesting → List Nesting
nests_after s (Start c parent limit) nestings = option_map_or (λ b. change_row (with_child_number c) b nestings) parent
    nestings
    ++ new_nesting (new_depth nestings parent) ∷ []
nests_after s (Join p a uris) nestings = change_row (with_number_under p) (top_at s a)
    (change_row (with_member_number p) a nestings)
nests_after s _ nestings = nestings

-- no repeat yet
abbrev pub no_repeats : Repeats
no_repeats = record { count = 0; last = 0 }

-- a member that has just joined has no repeat in any stage
abbrev pub new_endpoint : Addresses → Endpoint
new_endpoint uris = record {
  addresses = uris;
  completing = no_repeats;
  compensating = no_repeats;
  forgetting =
      no_repeats;
  telling = no_repeats;
}

-- one more repeat, at a moment
abbrev pub again : ℕ → Repeats → Repeats
again m r = record { count = r.count + 1; last = m }

-- one more in a stage
abbrev pub with_repeat : ℕ → AskKind → Endpoint → Endpoint
with_repeat m ask.Complete c = record c { completing = again m c.completing }
with_repeat m ask.Compensate c = record c { compensating = again m c.compensating }
with_repeat m ask.Forget c = record c { forgetting = again m c.forgetting }
with_repeat m ask.After c = record c { telling = again m c.telling }
with_repeat m ask.Status c = c

-- a member that answers an ask at a moment
abbrev pub with_answer : ℕ → Outcome → Asked → Endpoint → Endpoint
with_answer m o x c = cond (is_undecided o) (with_repeat m (stage_of x.kind x.direction) c) c

-- how members are reached after one more deed at a moment
abbrev pub contacts_after : ℕ → List Asked → Deed → List Endpoint → List Endpoint
contacts_after m asks (Join p a uris) endpoints = endpoints ++ new_endpoint uris ∷ []
contacts_after m asks (Reply n o) endpoints = option_map_or (λ (x : Asked). change_row (with_answer m o x) x.member
    endpoints) (row_at asks n) endpoints
contacts_after m asks _ endpoints = endpoints

-- an ask of a member, as its row has it
abbrev pub new_ask_by : State → ℕ → ℕ → AskKind → List Asked
new_ask_by s n p kind =
    option_map_or (λ (r : MemberRow). record {
      number = n;
      member = p;
      kind = kind;
      direction =
          way_asked kind r.status;
    } ∷ []) (row_at s.members p) []

-- the asks after one more deed
abbrev pub asks_after : State → Deed → List Asked → List Asked
asks_after s (Ask n p kind) asks = asks ++ new_ask_by s n p kind
asks_after s _ asks = asks

-- the state after one more deed at a moment: the member that answers is found by the ask
abbrev pub state_after : ℕ → List Asked → Deed → State → State
state_after m asks (Reply n o) s = option_map_or (λ (x : Asked). change_member (with_reply o) x.member s)
    (row_at asks n) s
state_after m asks d s = after_deed m d s

-- the snapshot after one more deed at a moment, but for the count of entries
abbrev pub deed_done : ℕ → Deed → StateSnapshot → StateSnapshot
deed_done m d s = record s {
  state = state_after m s.asks d (record s.state { moment = m });
  nestings = nests_after s.state d s.nestings;
  endpoints = contacts_after m s.asks d s.endpoints;
  asks = asks_after s.state d s.asks;
}

-- the snapshot after one more entry, where it is allowed
abbrev pub snapshot_after : Entry → StateSnapshot → StateSnapshot
snapshot_after e s = record (deed_done e.moment e.deed s) { entries = s.entries + 1 }
