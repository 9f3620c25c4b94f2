-- What a schedule says of a history.
use Rattle.std.specs.Prelude.{◌≡◌, ℕ, ◌<◌, ◌||◌, Bool, true, false, List, Option, Some, None, option_map, is_some}
use Rattle.std.specs.FinMap as map
use Rattle.lra_model.specs.declared.version.Version.{Version}
use Rattle.lra_model.specs.History.{History}
use Rattle.lra_model.specs.Rules.{is_legal}
use Rattle.lra_timers.specs.Planned.{Planned}
use Rattle.lra_commands.specs.declared.limits.Limits.{Limits}
use Rattle.lra_commands.specs.Due.{Timed, want_of, deadline_of, due, late}

-- the moment of a number, where it has one
abbrev pub moment_of : Option Timed → Option ℕ
moment_of t = option_map (λ (x : Timed). x.moment) t

-- what is planned is that of a legal history: for each member the moment from which its want is due, and for each
-- action the moment at which its limit passes
pub record IsScheduleOf (l : Limits) (s : Planned) (J : History) : Type 0 where
  pub version : Version
  pub is_address : List ℕ → Bool
  pub legal : is_legal version is_address J ≡ true
  pub retries : (p : ℕ) → map.get s.retries p ≡ moment_of (want_of l J p)
  pub limits : (a : ℕ) → map.get s.limits a ≡ moment_of (deadline_of J a)

-- a test fails at every moment before that one, and holds at it; where there is none, it holds at no moment
abbrev pub IsFirst : (ℕ → Bool) → Option ℕ → Type 0
IsFirst test None = (n : ℕ) → test n ≡ false
IsFirst test (Some moment) = (test moment ≡ true) × ((n : ℕ) → n < moment → test n ≡ false)

-- whether a want is due or a limit has passed at a moment
abbrev pub is_called : Limits → History → ℕ → Bool
is_called l J n = is_some (due l J n) || is_some (late J n)

-- the first moment at which a want is due or a limit has passed, where there is any
abbrev pub IsFirstMoment : Limits → History → Option ℕ → Type 0
IsFirstMoment l J = IsFirst (is_called l J)
