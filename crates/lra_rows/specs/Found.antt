-- What is found of a history by a number.
use Rattle.std.specs.Prelude.{ℕ, cond, Option, Some, None, option_map, unwrap_or}
use Rattle.std.specs.Option.{option_map_or, option_and_then}
use Rattle.lra_model.specs.declared.asks.AskKind.{AskKind}
use Rattle.lra_model.specs.declared.status.ActionStatus.TheVariants as action
use Rattle.lra_model.specs.declared.asks.Direction.TheVariants as direction
use Rattle.lra_model.specs.declared.entry.Deed.{Deed}
use Rattle.lra_model.specs.declared.entry.Deed.TheVariants.{End}
use Rattle.lra_model.specs.Addresses.{Addresses}
use Rattle.lra_model.specs.History.{History, actions, members, is_among}
use Rattle.lra_model.specs.Actions.{parent, action_status, limit_in_force, depth}
use Rattle.lra_model.specs.Members.{Asked, ask_of, action_of, addresses_of, decided, member_status, ask_direction}
use Rattle.lra_model.specs.Members.{is_outstanding, outstanding_ask}
use Rattle.lra_model.specs.Ends.{is_settled, right_end}
use Rattle.lra_model.specs.Wants.{wants, stage_of, repeat_count, last_repeat}
use Rattle.lra_rows.specs.declared.found.ActionRow.{ActionRow}
use Rattle.lra_rows.specs.declared.found.MemberRow.{MemberRow}
use Rattle.lra_rows.specs.declared.found.AskRow.{AskRow}

-- an action, if it is there: its parent, the limit in force, how deep it is nested, and its status
abbrev pub found_action : History → ℕ → Option ActionRow
found_action J a =
    cond (is_among (actions J) a)
    (Some (record {
      parent = parent J a;
      limit = (limit_in_force J a).length_of;
      since = (limit_in_force J a).since;
      depth = depth J a;
      status = unwrap_or (action_status J a) action.Active;
    }))
    None

-- a member, if it is there: its action, its status, the outcomes that decide it both ways, the ask of it that is
-- outstanding, what it wants, the number of attempts at that with no final answer, and the moment of the last of them
abbrev pub found_member : History → ℕ → Option MemberRow
found_member J p =
    cond (is_among (members J) p)
    (Some (record {
      action = action_of J p;
      status = member_status J p;
      completion = decided J p direction.Completion;
      compensation = decided J p direction.Compensation;
      outstanding = outstanding_ask J p;
      want = wants J p;
      k = option_map_or (λ (kind : AskKind). repeat_count J p (stage_of kind (ask_direction J p kind))) (wants J p) 0;
      last = option_and_then (λ (kind : AskKind). last_repeat J p (stage_of kind (ask_direction J p kind))) (wants J p);
    }))
    None

-- the addresses that a member joined with, if it is there
abbrev pub found_addresses : History → ℕ → Option Addresses
found_addresses J p = cond (is_among (members J) p) (Some (addresses_of J p)) None

-- an ask, if it was made: its member, its kind, its direction, and whether it is outstanding
abbrev pub found_ask : History → ℕ → Option AskRow
found_ask J n = option_map
    (λ (x : Asked). record {
      member = x.member;
      kind = x.kind;
      direction = x.direction;
      outstanding =
          is_outstanding J n;
    }) (ask_of J n)

-- the end of an action, where it may end
abbrev pub found_end : History → ℕ → Option Deed
found_end J a = cond (is_settled J a) (Some (End a (right_end J a))) None
