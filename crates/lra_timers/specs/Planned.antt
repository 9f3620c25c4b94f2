-- What an agenda holds.
use Rattle.std.specs.Prelude.{ℕ, refl}
use Rattle.std.specs.Coded.{Coded, code_by, coded×, coded_ℕ}
use Rattle.lra_timers.specs.Moments.{Moments, moments_code}

-- when an action's limit is reached, when a member is asked again, and how many more calls that set one of them find
-- room
pub record Planned : Type 0 where
  pub limits : Moments
  pub retries : Moments
  pub room : ℕ

-- how an agenda is stored in a model
abbrev pub planned_code : Coded Planned
planned_code =
    code_by (Moments × (Moments × ℕ)) (coded× moments_code (coded× moments_code coded_ℕ))
    (λ p. (p.limits, (p.retries, p.room))) (λ p. record { limits = p.0; retries = p.1.0; room = p.1.1 }) (λ _. refl)
