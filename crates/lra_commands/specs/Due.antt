-- What is due at a moment, and which actions are late.
use Rattle.std.specs.Prelude.{ℕ, zero, suc, ◌+◌, ◌-◌, ◌^◌, ◌==◌, ◌&&◌, not, min, nat_le, List, [], ◌∷◌, Option, Some}
use Rattle.std.specs.Prelude.{None, option_map, unwrap_or, cond}
use Rattle.std.specs.List.{filter_map}
use Rattle.lra_model.specs.declared.asks.AskKind.{AskKind}
use Rattle.lra_model.specs.Words.{when, is_active}
use Rattle.lra_model.specs.History.{History, actions, members}
use Rattle.lra_model.specs.Actions.{limit_in_force}
use Rattle.lra_model.specs.Members.{ask_direction}
use Rattle.lra_model.specs.Ends.{action_is}
use Rattle.lra_model.specs.Wants.{wants, stage_of, repeat_count, last_repeat}
use Rattle.lra_timers.specs.Pauses.{pause}
use Rattle.lra_commands.specs.declared.limits.Limits.{Limits}

-- a number, with the moment from which something of it is due
pub record Timed : Type 0 where
  pub number : ℕ
  pub moment : ℕ

-- the earlier of the two; of equals the first
abbrev pub earlier : Timed → Option Timed → Timed
earlier x None = x
earlier x (Some y) = cond (nat_le x.moment y.moment) x y

-- the one with the least moment; of equals the first
abbrev pub earliest : List Timed → Option Timed
earliest [] = None
earliest (x ∷ xs) = Some (earlier x (earliest xs))

-- the number whose moment is the least, of those whose moment has come; of equals the first
abbrev pub first_due : ℕ → List Timed → Option ℕ
first_due now xs = option_map (λ (x : Timed). x.number)
    (earliest (filter_map (λ (x : Timed). when (nat_le x.moment now) x) xs))

-- when a want is due after so many attempts, the last one at that moment: at once, or after a pause
abbrev pub due_after : Limits → ℕ → Option ℕ → ℕ
due_after l zero before = 0
due_after l (suc k) before = min (unwrap_or before 0 + pause l.retry_base l.retry_cap (suc k)) (2 ^ 64 - 1)

-- the stage of what a member wants
abbrev pub stage_wanted : History → ℕ → AskKind → AskKind
stage_wanted J p kind = stage_of kind (ask_direction J p kind)

-- a member, with the moment from which what it wants is due
abbrev pub want_of : Limits → History → ℕ → Option Timed
want_of l J p =
    option_map (λ (kind : AskKind). record {
      number = p;
      moment = due_after l (repeat_count J p (stage_wanted J p kind))
          (last_repeat J p (stage_wanted J p kind));
    }) (wants J p)

-- the member whose want is due: the one with the least due moment that has come, and of these the least (this project's
-- choice)
unfoldable pub due : Limits → History → ℕ → Option ℕ
due l J now = first_due now (filter_map (want_of l J) (members J))

-- when the limit of an action passes, if it is Active and has one
abbrev pub deadline_of : History → ℕ → Option Timed
deadline_of J a =
    when (action_is is_active J a && not ((limit_in_force J a).length_of == 0))
    (record { number = a; moment = (limit_in_force J a).since + (limit_in_force J a).length_of })

-- the action whose limit has passed: the one with the least deadline, and of these the least (MicroProfile LRA 2.0,
-- timeLimit; the order is this project's choice)
unfoldable pub late : History → ℕ → Option ℕ
late J now = first_due now (filter_map (deadline_of J) (actions J))
