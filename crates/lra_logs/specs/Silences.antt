-- The events of a journal's entries.
use Rattle.std.specs.Prelude.{ℕ, ◌%◌, ◌==◌, Bool, ◌||◌, if◌then◌else◌, Option, Some, None, option_and_then}
use Rattle.lra_model.specs.declared.entry.Deed.{Deed}
use Rattle.lra_model.specs.declared.entry.Deed.TheVariants as deed
use Rattle.lra_model.specs.declared.asks.Outcome.{Outcome}
use Rattle.lra_model.specs.declared.asks.Outcome.TheVariants as outcome
use Rattle.lra_logs.specs.declared.event.Event.{Event}
use Rattle.lra_logs.specs.declared.event.Event.TheVariants as event
use Rattle.lra_logs.specs.Meters.{one_more}

-- what the entries so far say: the member of each pending ask, and how often in a row each member was silent
pub record Sight : Type 0 where
  pub asked : ℕ → Option ℕ
  pub silent : ℕ → ℕ

-- no member was asked, and none was silent
abbrev pub blank : Sight
blank = record { asked = λ _. None; silent = λ _. 0 }

-- another value at one number
abbrev pub with_at : {A : Type 0} → ℕ → A → (ℕ → A) → ℕ → A
with_at at x f n = if at == n then x else f n

-- how often members were silent, after an outcome of an ask
abbrev pub silent_after : Option ℕ → Outcome → (ℕ → ℕ) → ℕ → ℕ
silent_after None o f = f
silent_after (Some member) outcome.Silent f = with_at member (one_more (f member)) f
silent_after (Some member) _ f = with_at member 0 f

-- what the entries say after one more
abbrev pub heard : Sight → Deed → Sight
heard s (deed.Ask ask member kind) = record { asked = with_at ask (Some member) s.asked; silent = s.silent }
heard s (deed.Reply ask o) = record { asked = with_at ask None s.asked; silent = silent_after (s.asked ask) o s.silent }
heard s (deed.Report member o) = record { asked = s.asked; silent = with_at member 0 s.silent }
heard s deed.Restart = record { asked = λ _. None; silent = s.silent }
heard s _ = s

-- a silence is logged if it is a member's first, or each tenth (this project's choice)
abbrev pub is_told : ℕ → Bool
is_told times = (times == 1) || (times % 10 == 0)

-- the event of a silence, if it is logged: a journal doesn't record the callback's outcome
abbrev pub silence : ℕ → ℕ → ℕ → Option Event
silence journal member times = if is_told times then Some (event.MemberSilent journal member times None) else None

-- the event of an entry after others: an action has started or ended, or a member was silent once more
abbrev pub event_of : ℕ → Sight → Deed → Option Event
event_of journal s (deed.Start action parent limit) = Some (event.ActionStarted journal action)
event_of journal s (deed.End action status) = Some (event.ActionEnded journal action status)
event_of journal s (deed.Reply ask outcome.Silent) = option_and_then (λ member. silence journal member
    (one_more (s.silent member))) (s.asked ask)
event_of journal s _ = None
