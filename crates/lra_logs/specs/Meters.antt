-- How many lines are written in a second.
use Rattle.std.specs.Prelude.{◌≡◌, ◌≢◌, Bool, true, ℕ, ◌+◌, ◌-◌, ◌/◌, ◌^◌, ◌<◌, ◌≤◌, ◌==◌, nat_lt, min, if◌then◌else◌}
use Rattle.std.specs.Prelude.{List, [], ◌∷◌, length, sum_by}
use Rattle.lra_logs.specs.declared.rate_limiter.Verdict.{Verdict}
use Rattle.lra_logs.specs.declared.rate_limiter.Verdict.TheVariants.{Write, WriteAfter, Suppress}

-- a second, how many lines were written in it, and how many lines weren't written and weren't reported yet
pub record Pace : Type 0 where
  pub second : ℕ
  pub written : ℕ
  pub suppressed : ℕ

-- the state before the first line
abbrev pub at_rest : Pace
at_rest = record { second = 0; written = 0; suppressed = 0 }

-- how many lines are written in a second at most (this project's choice)
abbrev pub most : ℕ
most = 100

-- the state at a moment, in milliseconds: a later second begins with no line
abbrev pub turned : Pace → ℕ → Pace
turned p moment = if nat_lt p.second (moment / 1000) then record {
  second = moment / 1000;
  written = 0;
  suppressed =
      p.suppressed;
} else p

-- how much of a second's limit a line uses: an urgent one, which is a warning or an error, uses none
abbrev pub share : Bool → ℕ
share urgent = if urgent then 0 else 1

-- the decision on a line once the limit is reached: it is suppressed if it isn't urgent
abbrev pub unless_urgent : Bool → Verdict
unless_urgent urgent = if urgent then Write else Suppress

-- the decision on a line: it is written as long as the limit has room for it, and for a line that reports those that
-- weren't written; an urgent one is always written
abbrev pub verdict_at : Pace → Bool → Verdict
verdict_at p urgent =
    if p.suppressed == 0 then (if nat_lt p.written most then Write else unless_urgent urgent)
    else (if nat_lt (p.written + share urgent) most then WriteAfter p.suppressed else unless_urgent urgent)

-- one more, up to the largest number of 64 bits
abbrev pub one_more : ℕ → ℕ
one_more n = min (n + 1) (2 ^ 64 - 1)

-- the state after a decision
abbrev pub after : Pace → Bool → Verdict → Pace
after p urgent Write = record { second = p.second; written = p.written + share urgent; suppressed = p.suppressed }
after p urgent (WriteAfter suppressed) = record {
  second = p.second;
  written = p.written
      + (share urgent + 1);
  suppressed = 0;
}
after p urgent Suppress = record { second = p.second; written = p.written; suppressed = one_more p.suppressed }

-- the state once more lines weren't written
abbrev pub owing : Pace → ℕ → Pace
owing p lines = record { second = p.second; written = p.written; suppressed = min (p.suppressed + lines) (2 ^ 64 - 1) }

-- ---- what follows

-- a line that comes: its moment, and whether it is urgent
abbrev pub Coming : Type 0
Coming = ℕ × Bool

-- the second of each line of a run, whether it is urgent, and the decision on it
abbrev pub run : Pace → List Coming → List (ℕ × Bool × Verdict)
run p [] = []
run p (c ∷ rest) = ((turned p c.0).second, c.1, verdict_at (turned p c.0) c.1)
    ∷ run (after (turned p c.0) c.1 (verdict_at (turned p c.0) c.1)) rest

-- the state after a run
abbrev pub ran : Pace → List Coming → Pace
ran p [] = p
ran p (c ∷ rest) = ran (after (turned p c.0) c.1 (verdict_at (turned p c.0) c.1)) rest

-- how many lines a decision writes, beside urgent ones
abbrev pub lines : Bool → Verdict → ℕ
lines urgent Write = share urgent
lines urgent (WriteAfter suppressed) = share urgent + 1
lines urgent Suppress = 0

-- how many lines a decision accounts for: the one that is written, and those that it reports as not written
abbrev pub told : Verdict → ℕ
told Write = 1
told (WriteAfter suppressed) = suppressed + 1
told Suppress = 0

-- no second has more than a hundred lines, beside urgent ones
abbrev pub AreFew : Type 0
AreFew = (came : List Coming) (second : ℕ) → sum_by (λ x. if x.0 == second then lines x.1 x.2 else 0) (run at_rest came)
    ≤ most

-- each line is written, or reported once, or waits to be reported
abbrev pub AreCounted : Type 0
AreCounted = (came : List Coming) → length came < 2 ^ 64 → length came ≡ sum_by (λ x. told x.2) (run at_rest came)
    + (ran at_rest came).suppressed

-- an urgent line is written, whatever came before
abbrev pub AreHeard : Type 0
AreHeard = (p : Pace) → verdict_at p true ≢ Suppress
