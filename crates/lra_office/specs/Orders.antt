-- What a clerk learns when it gives a call to an office.
use Rattle.std.specs.Prelude.{◌≡◌, ◌≢◌, ℕ, List, [], ◌++◌, Option, Result, Ok, Err, MatchResult}
use mathlib.Core.List.{IsPrefix}
use Rattle.lra_model.specs.declared.entry.Entry.{Entry}
use Rattle.lra_model.specs.History.{History}
use Rattle.lra_ticket.specs.declared.view.Place.TheVariants.{Idle, Looked, Peeked}
use Rattle.lra_ticket.specs.declared.view.View.{View}
use Rattle.lra_ticket.specs.History.{entries_by, number_after}
use Rattle.lra_ticket.specs.Views.{view, moved}
use Rattle.lra_ticket.specs.Locks.{last_ticket, tried, HasMissed}
use Rattle.lra_model.specs.declared.asks.Outcome.{Outcome}
use Rattle.lra_commands.specs.declared.command.Told.{Told}
use Rattle.lra_commands.specs.declared.query.Query.{Query}
use Rattle.lra_commands.specs.declared.query.QueryResult.{QueryResult}
use Rattle.lra_commands.specs.declared.refusal.Refusal.{Refusal}
use Rattle.lra_commands.specs.Errands.{Asking}
use Rattle.lra_commands.specs.Calls.{Call}
use Rattle.lra_commands.specs.Answers.{growth}
use Rattle.lra_commands.specs.Counters.{Setting, terms_of}
use Rattle.lra_commands.specs.Queries.{tell}
use Rattle.lra_schedule.specs.Schedules.{IsFirstMoment}
use Rattle.lra_core.specs.Performs.{RecordsAs}
use Rattle.lra_office.specs.declared.fault.OfficeRefusal.{OfficeRefusal}
use Rattle.lra_office.specs.declared.fault.OfficeRefusal.TheVariants.{Refused, Worn}
use Rattle.lra_office.specs.declared.fault.TryRefusal.{TryRefusal}
use Rattle.lra_office.specs.declared.fault.TryRefusal.TheVariants as try
use Rattle.lra_office.specs.Serves.{IsHeldBack, IsDone, IsKeptBy}

-- the history that a call met: it begins with all that was seen before, has nothing more under the number, where there
-- is one something, and can be a coordinator's
pub record IsMet {O : Type 0} (g : Setting) (v : View O) (J : History) : Type 0 where
  pub begins : IsPrefix v.seen J
  pub seen_own : entries_by v.number v.seen ≡ v.mine
  pub own : entries_by v.number J ≡ v.mine
  pub enrolled : v.number ≢ 0 → v.mine ≢ []
  pub kept : IsKeptBy g J

-- what is known after a call that met a history was done, and appended a block
abbrev pub grown_view : {O : Type 0} → View O → History → List Entry → View O
grown_view v J block = view (number_after v.number block) v.origin (J ++ block) (v.mine ++ block) v.tries Idle

-- what is known after a call that met a history changed nothing
abbrev pub met_view : {O : Type 0} → View O → History → View O
met_view v J = record v { seen = J; place = Idle }

-- a call was done
pub record IsGrown {O : Type 0} (g : Setting) (v : View O) (c : Call) (t : Told) (e : Option Asking)
    (w : View O) : Type 0 where
  pub history : History
  pub met : IsMet g v history
  pub done : IsDone g history c t e (history ++ growth (terms_of g) history c)
  pub kept : IsKeptBy g (history ++ growth (terms_of g) history c)
  pub after : w ≡ grown_view v history (growth (terms_of g) history c)

-- a query was answered at a history that it met, and nothing was changed
pub record IsAnswered {O : Type 0} (g : Setting) (v : View O) (q : Query) (answer : Result QueryResult Refusal)
    (w : View O) : Type 0 where
  pub history : History
  pub met : IsMet g v history
  pub told : answer ≡ tell g.limits history q
  pub after : w ≡ met_view v history

-- a query was answered, or no ticket was left
abbrev pub IsQueried : {O : Type 0} → Setting → View O → Query → Result QueryResult OfficeRefusal → View O → Type 0
IsQueried g v q (Ok k) w = IsAnswered g v q (Ok k) w
IsQueried g v q (Err (Refused r)) w = IsAnswered g v q (Err r) w
IsQueried g v q (Err Worn) w = w ≡ moved v (Looked last_ticket)

-- the first moment at which something is due or late was returned for a history that was met, and nothing was changed
pub record IsForetold {O : Type 0} (g : Setting) (v : View O) (next : Option ℕ) (w : View O) : Type 0 where
  pub history : History
  pub met : IsMet g v history
  pub told : IsFirstMoment g.limits history next
  pub after : w ≡ met_view v history

-- that moment was returned, or no ticket was left
abbrev pub IsLookedAhead : {O : Type 0} → Setting → View O → Result (Option ℕ) OfficeRefusal → View O → Type 0
IsLookedAhead g v (Ok next) w = IsForetold g v next w
IsLookedAhead g v (Err Worn) w = w ≡ moved v (Looked last_ticket)
IsLookedAhead g v (Err (Refused r)) w = ⊥

-- a call was refused, or the scribe has stopped, or no ticket was left
abbrev pub IsNotGiven : {O : Type 0} → Setting → View O → Call → OfficeRefusal → View O → Type 0
IsNotGiven g v c (Refused r) w = (J : History) × IsMet g v J × IsHeldBack (terms_of g) J c r × (w ≡ met_view v J)
IsNotGiven g v c Worn w = w ≡ moved v (Looked last_ticket)

-- a call that is answered, whatever errand it gave
abbrev pub IsTold : {O : Type 0} → Setting → View O → Call → Result Told OfficeRefusal → View O → Type 0
IsTold g v c (Ok t) w = (e : Option Asking) × IsGrown g v c t e w
IsTold g v c (Err r) w = IsNotGiven g v c r w

-- a call that asks for an errand, and gave one, or none
abbrev pub IsErrand : {O : Type 0} → Setting → View O → Call → Result (Option Asking) OfficeRefusal → View O → Type 0
IsErrand g v c (Ok e) w = (t : Told) × IsGrown g v c t e w
IsErrand g v c (Err r) w = IsNotGiven g v c r w

-- the outcome of an ask was recorded, or the errand was returned
abbrev pub IsRecorded : {O : Type 0} → Setting → View O → ℕ → ℕ → Asking → Outcome
    → Result Told (OfficeRefusal × Asking) → View O → Type 0
IsRecorded g v number at e o result w =
    (c : Call) × RecordsAs c number at e o × MatchResult result (λ t. IsTold g v c (Ok t) w)
    (λ x. (x.1 ≡ e) × IsNotGiven g v c x.0 w)

-- an order that doesn't wait, and wasn't done: it was refused, or the lock was another's, or no ticket was left
abbrev pub IsNotTried : {O : Type 0} → Setting → View O → Call → TryRefusal → View O → Type 0
IsNotTried g v c (try.Refused r) w = IsNotGiven g (tried v) c (Refused r) w
IsNotTried g v c try.Busy w = HasMissed v w
IsNotTried g v c try.Worn w = w ≡ moved (tried v) (Peeked last_ticket)

-- an order that doesn't wait: it makes one try
abbrev pub IsTried : {O : Type 0} → Setting → View O → Call → Result Told TryRefusal → View O → Type 0
IsTried g v c (Ok t) w = (e : Option Asking) × IsGrown g (tried v) c t e w
IsTried g v c (Err r) w = IsNotTried g v c r w
