-- What rows say of moments, and how moments are brought up to date.
use Rattle.std.specs.Prelude.{◌≡◌, ℕ, ◌+◌, ◌==◌, ◌&&◌, not, cond, List, Option, Some, None, option_map}
use Rattle.std.specs.FinMap as map
use Rattle.lra_model.specs.declared.asks.AskKind.{AskKind}
use Rattle.lra_model.specs.Words.{when, is_active}
use Rattle.lra_model.specs.History.{History, is_among}
use Rattle.lra_rows.specs.declared.found.ActionRow.{ActionRow}
use Rattle.lra_rows.specs.declared.found.MemberRow.{MemberRow}
use Rattle.lra_timers.specs.Moments.{Moments}
use Rattle.lra_commands.specs.declared.limits.Limits.{Limits}
use Rattle.lra_commands.specs.Due.{due_after, want_of, deadline_of}
use Rattle.lra_schedule.specs.Schedules.{moment_of}

-- the moment from which a member's want is due, by its row
abbrev pub retry_by : Limits → MemberRow → Option ℕ
retry_by l r = option_map (λ (kind : AskKind). due_after l r.k r.last) r.want

-- the moment at which an action's limit passes, by its row
abbrev pub limit_by : ActionRow → Option ℕ
limit_by r = when (is_active r.status && not (r.limit == 0)) (r.since + r.limit)

-- the moment from which a member's want is due
abbrev pub retry_in : Limits → History → ℕ → Option ℕ
retry_in l J p = moment_of (want_of l J p)

-- the moment at which an action's limit passes
abbrev pub limit_in : History → ℕ → Option ℕ
limit_in J a = moment_of (deadline_of J a)

-- with the moment that a number has now, or without one
abbrev pub renew : Moments → ℕ → Option ℕ → Moments
renew moments number None = map.remove moments number
renew moments number (Some moment) = map.insert moments number moment

-- the numbers listed have what is given, and the others what they had
abbrev pub AreRenewed : (ℕ → Option ℕ) → Moments → Moments → List ℕ → Type 0
AreRenewed given old new ns = (n : ℕ) → map.get new n ≡ cond (is_among ns n) (given n) (map.get old n)
