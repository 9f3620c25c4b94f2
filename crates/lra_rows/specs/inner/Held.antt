-- What a snapshot has of a number.
use Rattle.std.specs.Prelude.{ℕ, ◌==◌, cond, ◌&&◌, nat_le, nat_lt, Bool, false, List, [], Option, Some, None}
use Rattle.std.specs.Prelude.{option_map}
use Rattle.std.specs.Option.{option_map_or, option_and_then}
use Rattle.lra_model.specs.declared.asks.AskKind.{AskKind}
use Rattle.lra_model.specs.declared.asks.AskKind.TheVariants as ask
use Rattle.lra_model.specs.Addresses.{Addresses}
use Rattle.lra_model.specs.Words.{when}
use Rattle.lra_model.specs.Members.{Asked}
use Rattle.lra_model.specs.Wants.{wanted, stage_of}
use Rattle.lra_laws.specs.Rows as laws
use Rattle.lra_laws.specs.Rows.{Standing, row_at, stands_as, way_asked}
use Rattle.lra_laws.specs.inner.RowFacts.{facts_by, member_by}
use Rattle.lra_laws.specs.Snapshots.{Nesting, Repeats, Endpoint, StateSnapshot, no_repeats}
use Rattle.lra_rows.specs.declared.found.ActionRow.{ActionRow}
use Rattle.lra_rows.specs.declared.found.MemberRow.{MemberRow}
use Rattle.lra_rows.specs.declared.found.AskRow.{AskRow}

-- an action
abbrev pub held_action : StateSnapshot → ℕ → Option ActionRow
held_action s a =
    option_and_then (λ (r : laws.ActionRow). option_map (λ (x : Nesting).
    record {
      parent = r.parent;
      limit = r.limit.length_of;
      since = r.limit.since;
      depth = x.depth;
      status =
          r.status;
    }) (row_at s.nestings a)) (row_at s.state.actions a)

-- the ask of a member that is outstanding, by its row
abbrev pub held_outstanding : StateSnapshot → laws.MemberRow → Option ℕ
held_outstanding s r = option_map_or (λ (x : Standing). when (nat_lt s.state.void x.number) x.number) r.asked None

-- a member's repeats in a stage; a status ask has none
abbrev pub repeats_at : AskKind → Endpoint → Repeats
repeats_at ask.Complete c = c.completing
repeats_at ask.Compensate c = c.compensating
repeats_at ask.Forget c = c.forgetting
repeats_at ask.After c = c.telling
repeats_at ask.Status c = no_repeats

-- the repeats of what a member wants
abbrev pub held_repeats : StateSnapshot → ℕ → laws.MemberRow → Repeats
held_repeats s p r =
    option_map_or (λ (kind : AskKind). option_map_or (repeats_at (stage_of kind (way_asked kind r.status)))
    (row_at s.endpoints p) no_repeats) (wanted (facts_by s.state) (member_by s.state r)) no_repeats

-- when the last of some repeats was, if there is one
abbrev pub last_of : Repeats → Option ℕ
last_of r = cond (r.count == 0) None (Some r.last)

-- a member
abbrev pub held_member : StateSnapshot → ℕ → Option MemberRow
held_member s p = option_map (λ (r : laws.MemberRow). record {
  action = r.action;
  status = r.status;
  completion = r.completed_as;
  compensation = r.compensated_as;
  outstanding = held_outstanding s r;
  want = wanted (facts_by s.state) (member_by s.state r);
  k = (held_repeats s p r).count;
  last = last_of (held_repeats s p r);
}) (row_at s.state.members p)

-- a member's addresses
abbrev pub held_addresses : StateSnapshot → ℕ → Option Addresses
held_addresses s p = option_map (λ (c : Endpoint). c.addresses) (row_at s.endpoints p)

-- whether the ask that a member's row has is that of the number, and was made after the last restart
abbrev pub held_standing : StateSnapshot → ℕ → ℕ → Bool
held_standing s n p = nat_lt s.state.void n && option_map_or (stands_as n) (row_at s.state.members p) false

-- an ask
abbrev pub held_ask : StateSnapshot → ℕ → Option AskRow
held_ask s n = option_map
    (λ (x : Asked). record {
      member = x.member;
      kind = x.kind;
      direction = x.direction;
      outstanding =
          held_standing s n x.member;
    }) (row_at s.asks n)

-- an action's children
abbrev pub held_children : StateSnapshot → ℕ → List ℕ
held_children s a = option_map_or (λ (x : Nesting). x.children) (row_at s.nestings a) []

-- an action's members
abbrev pub held_members : StateSnapshot → ℕ → List ℕ
held_members s a = option_map_or (λ (x : Nesting). x.members) (row_at s.nestings a) []

-- the members of an outermost action and of all below it
abbrev pub held_under : StateSnapshot → ℕ → List ℕ
held_under s a = option_map_or (λ (x : Nesting). x.under) (row_at s.nestings a) []

-- whether a clerk has that number
abbrev pub held_clerk : StateSnapshot → ℕ → Bool
held_clerk s n = nat_lt 0 n && nat_le n s.state.clerks
