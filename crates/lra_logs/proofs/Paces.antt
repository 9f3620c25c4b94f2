-- What follows for the rate limiter.
use Rattle.std.proofs.Common.{◌≡◌, ℕ, ◌+◌, ◌/◌, ◌^◌, ◌<◌, ◌≤◌, ◌==◌, Bool, true, false, nat_lt, if◌then◌else◌, List, []}
use Rattle.std.proofs.Common.{◌∷◌, length, sum_by, inl, inr, refl, sym, subst, ◌∙◌, arith}
use Rattle.std.proofs.lemmas.Bool.{cases_eq}
use Rattle.std.proofs.lemmas.Bool.Decides.{nat_tests}
use Rattle.std.proofs.lemmas.List.Sums.{sum_by-cons}
use Rattle.lra_logs.specs.declared.rate_limiter.Verdict.{Verdict}
use Rattle.lra_logs.specs.declared.rate_limiter.Verdict.TheVariants.{Write, WriteAfter, Suppress}
use Rattle.lra_logs.specs.Meters.{Pace, Coming, at_rest, turned, share, unless_urgent, verdict_at, after, run, ran}
use Rattle.lra_logs.specs.Meters.{lines, told, AreFew, AreCounted, AreHeard}

-- the limit leaves so many more lines to a second: none to one that is over
record MayCome (p : Pace) (second n : ℕ) : Type 0 where
  over : second < p.second → n ≡ 0
  now : second ≡ p.second → n + p.written ≤ 100
  later : n ≤ 100

-- how many lines a decision counts in a second
count : ℕ → ℕ → Bool → Verdict → ℕ
count second own urgent v = if own == second then lines urgent v else 0

count_own : (second own : ℕ) (u : Bool) (v : Verdict) → own ≡ second → count second own u v ≡ lines u v
unfolding count
count_own second own u v e = grind (arith, nat_tests)

count_other : (second own : ℕ) (u : Bool) (v : Verdict) → (own ≡ second → ⊥) → count second own u v ≡ 0
unfolding count
count_other second own u v e = grind (arith, nat_tests)

after_second : (p : Pace) (u : Bool) (v : Verdict) → (after p u v).second ≡ p.second
after_second p u Write = refl
after_second p u (WriteAfter n) = refl
after_second p u Suppress = refl

after_written : (p : Pace) (u : Bool) (v : Verdict) → (after p u v).written ≡ p.written + lines u v
after_written p u Write = refl
after_written p u (WriteAfter n) = refl
after_written p u Suppress = omega arith

-- a decision's lines fit in its second
step : (p : Pace) (second n : ℕ) (u : Bool) (v : Verdict) → p.written + lines u v ≤ 100 → MayCome (after p u v) second n
    → MayCome p second (count second p.second u v + n)
step p second n u v room h = elim (cases_eq p.second second) [
  | inl own ↦
      let e = count_own second p.second u v own in
      let most : n + (after p u v).written ≤ 100 = h.now (sym own ∙ sym (after_second p u v)) in
      record {
        over = λ before. absurd (omega (arith, own, before));
        now = λ _. omega (arith, e, most, after_written p u v);
        later = omega (arith, e, most, after_written p u v);
      }
  | inr other ↦
      let e = count_other second p.second u v other in
      record {
        over = λ before. omega (arith, e, h.over (omega (arith, before, after_second p u v)));
        now = λ own. absurd (other (sym own));
        later = omega (arith, e, h.later);
      }
]

-- a later second has more room
turn_by : (b : Bool) (p : Pace) (next second n : ℕ) → nat_lt p.second next ≡ b → p.written ≤ 100
    → MayCome (if b then record { second = next; written = 0; suppressed = p.suppressed } else p) second n
    → MayCome p second n
turn_by true p next second n e room h =
    let goes_on : p.second < next = grind (arith, nat_tests) in
    record {
      over = λ before. h.over (omega (arith, before, goes_on));
      now = λ own. omega (arith, room, h.over (omega (arith, own, goes_on)));
      later = h.later;
    }
turn_by false p next second n e room h = h

turned_room_by : (b : Bool) (p : Pace) (next : ℕ) → p.written ≤ 100 → (if b then
    record { second = next; written = 0; suppressed = p.suppressed } else p).written ≤ 100
turned_room_by true p next h = omega arith
turned_room_by false p next h = h

turned_room : (p : Pace) (moment : ℕ) → p.written ≤ 100 → (turned p moment).written ≤ 100
turned_room p moment h = turned_room_by (nat_lt p.second (moment / 1000)) p (moment / 1000) h

-- the decision on a line, by the results of its tests
chosen : (none one two urgent : Bool) (n : ℕ) → Verdict
chosen none one two urgent n = if none then (if one then Write else unless_urgent urgent) else
    (if two then WriteAfter n else unless_urgent urgent)

-- a line beyond the limit uses none of it
none_fits : (p : Pace) (u : Bool) → p.written ≤ 100 → p.written + lines u (unless_urgent u) ≤ 100
none_fits p true h = omega (arith, h)
none_fits p false h = omega (arith, h)

-- a line uses at most one
share_fits : (u : Bool) → share u ≤ 1
share_fits true = omega arith
share_fits false = omega arith

-- a decision keeps to the limit
fits_by : (none one two u : Bool) (p : Pace) → nat_lt p.written 100 ≡ one → nat_lt (p.written + share u) 100 ≡ two
    → p.written ≤ 100
    → p.written + lines u (chosen none one two u p.suppressed) ≤ 100
unfolding chosen
fits_by true true two u p e f h = let room : p.written < 100 = grind (arith, nat_tests) in
    omega (arith, room, share_fits u)
fits_by true false two u p e f h = none_fits p u h
fits_by false one true u p e f h = let room : p.written + share u < 100 = grind (arith, nat_tests) in
    omega (arith, room)
fits_by false one false u p e f h = none_fits p u h

fits : (p : Pace) (u : Bool) → p.written ≤ 100 → p.written + lines u (verdict_at p u) ≤ 100
unfolding chosen
fits p u h = fits_by (p.suppressed == 0) (nat_lt p.written 100) (nat_lt (p.written + share u) 100) u p refl refl h

-- the lines of a run in a second
abbrev lines_in : ℕ → List (ℕ × Bool × Verdict) → ℕ
lines_in second came = sum_by (λ x. if x.0 == second then lines x.1 x.2 else 0) came

few_from : (came : List Coming) (p : Pace) (second : ℕ) → p.written ≤ 100
    → MayCome p second (lines_in second (run p came))
unfolding count
few_from [] p second h = record { over = λ _. refl; now = λ _. omega (arith, h); later = omega arith }
few_from (c ∷ rest_came) p second h =
    let q = turned p c.0 in
    let u = c.1 in
    let fit = fits q u (turned_room p c.0 h) in
    let v = verdict_at q u in
    let others = run (after q u v) rest_came in
    let rest = few_from rest_came (after q u v) second (omega (arith, fit, after_written q u v)) in
    let all = step q second (lines_in second others) u v fit rest in
    let e : lines_in second (run p (c ∷ rest_came)) ≡ count second q.second u v + lines_in second others =
    sum_by-cons (λ x. if x.0 == second then lines x.1 x.2 else 0) (q.second, u, v) others in
    subst (MayCome p second) (sym e) (turn_by (nat_lt p.second (c.0 / 1000)) p (c.0 / 1000) second
    (count second q.second u v + lines_in second others) refl h all)

pub few : AreFew
few came second = (few_from came at_rest second (omega arith)).later

-- ---- each line is reported once

turned_waits_by : (b : Bool) (p : Pace) (next : ℕ)
    → (if b then record { second = next; written = 0; suppressed = p.suppressed } else p).suppressed ≡ p.suppressed
turned_waits_by true p next = refl
turned_waits_by false p next = refl

turned_waits : (p : Pace) (moment : ℕ) → (turned p moment).suppressed ≡ p.suppressed
turned_waits p moment = turned_waits_by (nat_lt p.second (moment / 1000)) p (moment / 1000)

-- a line beyond the limit is written or waits to be reported
none_waits : (p : Pace) (u : Bool) → p.suppressed + 1 < 2 ^ 64 → told (unless_urgent u)
    + (after p u (unless_urgent u)).suppressed ≡ p.suppressed + 1
none_waits p true h = omega arith
none_waits p false h = omega (arith, h)

waits_by : (none one two u : Bool) (p : Pace) → p.suppressed + 1 < 2 ^ 64
    → let v = chosen none one two u p.suppressed in told v + (after p u v).suppressed ≡ p.suppressed + 1
unfolding chosen
waits_by true true two u p h = omega arith
waits_by true false two u p h = none_waits p u h
waits_by false one true u p h = omega arith
waits_by false one false u p h = none_waits p u h

waits : (p : Pace) (u : Bool) → p.suppressed + 1 < 2 ^ 64 → told (verdict_at p u)
    + (after p u (verdict_at p u)).suppressed ≡ p.suppressed + 1
unfolding chosen
waits p u h = waits_by (p.suppressed == 0) (nat_lt p.written 100) (nat_lt (p.written + share u) 100) u p h

-- how many lines a run accounts for
abbrev told_in : List (ℕ × Bool × Verdict) → ℕ
told_in came = sum_by (λ x. told x.2) came

counted_from : (came : List Coming) (p : Pace) → p.suppressed + length came < 2 ^ 64 → p.suppressed + length came
    ≡ told_in (run p came) + (ran p came).suppressed
counted_from [] p h = omega arith
counted_from (c ∷ rest_came) p h =
    let q = turned p c.0 in
    let u = c.1 in
    let v = verdict_at q u in
    let others = run (after q u v) rest_came in
    let same = turned_waits p c.0 in
    let one = waits q u (omega (arith, h, same)) in
    let rest = counted_from rest_came (after q u v) (omega (arith, h, same, one)) in
    let e : told_in (run p (c ∷ rest_came)) ≡ told v + told_in others =
    sum_by-cons (λ x. told x.2) (q.second, u, v) others in
    let last : (ran p (c ∷ rest_came)).suppressed ≡ (ran (after q u v) rest_came).suppressed = refl in
    omega (arith, same, one, rest, e, last)

pub counted : AreCounted
counted came h = let all = counted_from came at_rest (omega (arith, h)) in omega (arith, all)

-- ---- urgent lines are written

heard_by : (none one two : Bool) (n : ℕ) → chosen none one two true n ≡ Suppress → ⊥
unfolding chosen
heard_by true true two n h = grind arith
heard_by true false two n h = grind arith
heard_by false one true n h = grind arith
heard_by false one false n h = grind arith

pub heard : AreHeard
unfolding chosen
heard p = heard_by (p.suppressed == 0) (nat_lt p.written 100) (nat_lt (p.written + 0) 100) p.suppressed
