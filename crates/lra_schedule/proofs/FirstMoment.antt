-- The first moment at which something is due or late.
use Rattle.std.proofs.Common.{◌≡◌, ℕ, zero, suc, ◌+◌, ◌-◌, ◌≤◌, ◌<◌, ◌^◌, Bool, true, false, List, Option, Some, None}
use Rattle.std.proofs.Common.{refl, sym, ap, ◌∙◌, arith, subst, inl, inr}
use Rattle.std.proofs.lemmas.Bool.{leb-true, cases_lt}
use Rattle.std.specs.Prelude.{◌||◌, ◌&&◌, ◌==◌, ◌⊎◌, not, ◌↔◌, is_some, min, option_map, IsNone, IfSome}
use Rattle.std.specs.FinMap as map
use Rattle.lra_model.specs.declared.version.Version.{Version}
use Rattle.lra_model.specs.declared.asks.AskKind.{AskKind}
use Rattle.lra_model.specs.Actions.{limit_in_force}
use Rattle.lra_model.specs.Words.{when, is_active}
use Rattle.lra_model.specs.Ends.{action_is}
use Rattle.lra_model.specs.History.{History}
use Rattle.lra_model.specs.Rules.{is_legal}
use Rattle.lra_model.specs.Wants.{wants, repeat_count, last_repeat}
use Rattle.lra_timers.specs.Moments.{Moments, IsFirstDue, NoneDue}
use Rattle.lra_timers.specs.Planned.{Planned}
use Rattle.lra_commands.specs.declared.limits.Limits.{Limits}
use Rattle.lra_commands.specs.Due.{Timed, due_after, stage_wanted, due, late}
use Rattle.lra_schedule.specs.Schedules.{moment_of, IsScheduleOf, IsFirst}
use Rattle.lra_schedule.specs.inner.Renewals.{retry_in, limit_in}
use Rattle.lra_schedule.proofs.Firsts.{due_is, late_is}
use Rattle.lra_schedule.proofs.Found.{limit_fits}

-- ---- of one map of moments

module _ (moments : Moments) (word : ℕ → Option ℕ) (top : ℕ)
    (tells : (now : ℕ) (r : Option ℕ) → (IsNone r ↔ NoneDue moments now) → IfSome r (IsFirstDue moments now)
    → r ≡ word now) where
  is_none : (now : ℕ) → NoneDue moments now → is_some (word now) ≡ false
  is_none now none = ap (λ (o : Option ℕ). is_some o) (sym (tells now None (λ _. none, λ _. refl) tt))

  -- where all that is planned has come at one moment, and nothing has come then, the word never finds any
  pub first_none : ((n moment : ℕ) → map.get moments n ≡ Some moment → moment ≤ top) → NoneDue moments top
      → IsFirst (λ n. is_some (word n)) None
  first_none fits none n = is_none n (λ p m e. absurd (let early = none p m e in let high = fits p m e in omega arith))

  -- the word finds one from the moment on of what comes first
  pub first_some : (n : ℕ) (first : IsFirstDue moments top n) → IsFirst (λ n. is_some (word n)) (Some first.moment)
  first_some n first = (
    ap (λ (o : Option ℕ). is_some o)
        (sym (tells first.moment (Some n)
        (λ is. absurd (some_isn't is), λ none. absurd (let early = none n first.moment first.has in omega arith))
        (record { moment = first.moment; has = first.has; due = omega arith; least = first.least }))),
    λ k before. is_none k (λ p m e. let h = (first.least p m e).0 in omega arith),
  )
    where
      some_isn't : IsNone (Some n) → ⊥
      some_isn't is = absurd cc

-- ---- of a history

after_fits : (l : Limits) (k : ℕ) (before : Option ℕ) → due_after l k before ≤ 2 ^ 64 - 1
after_fits l zero before = omega arith
after_fits l (suc k) before = omega arith

retry_fits : (l : Limits) (J : History) (p moment : ℕ) → retry_in l J p ≡ Some moment → moment ≤ 2 ^ 64 - 1
retry_fits l J p moment h = one (wants J p) h
  where
    timed : AskKind → Timed
    timed kind = record {
      number = p;
      moment = due_after l (repeat_count J p (stage_wanted J p kind))
          (last_repeat J p (stage_wanted J p kind));
    }

    one : (o : Option AskKind) → moment_of (option_map timed o) ≡ Some moment → moment ≤ 2 ^ 64 - 1
    one None e = absurd cc
    one (Some kind) e =
        let same : (timed kind).moment ≡ moment = cc in subst (λ (m : ℕ). m ≤ 2 ^ 64 - 1) same
        (after_fits l (repeat_count J p (stage_wanted J p kind)) (last_repeat J p (stage_wanted J p kind)))

passing_fits : (v : Version) (t : List ℕ → Bool) (J : History) → is_legal v t J ≡ true → (a moment : ℕ) → limit_in J a
    ≡ Some moment → moment ≤ 2 ^ 64 - 1
passing_fits v t J legal a moment h = one (action_is is_active J a && not ((limit_in_force J a).length_of == 0)) h
  where
    timed : Timed
    timed = record { number = a; moment = (limit_in_force J a).since + (limit_in_force J a).length_of }

    one : (b : Bool) → moment_of (when b timed) ≡ Some moment → moment ≤ 2 ^ 64 - 1
    one false e = absurd cc
    one true e = let same : timed.moment ≡ moment = cc in
        subst (λ (m : ℕ). m ≤ 2 ^ 64 - 1) same (leb-true _ _ (limit_fits v t J legal a))

module _ (l : Limits) (J : History) (s : Planned) (is : IsScheduleOf l s J) where
  pub want_none : NoneDue s.retries (2 ^ 64 - 1) → IsFirst (λ n. is_some (due l J n)) None
  want_none none = first_none s.retries (due l J) (2 ^ 64 - 1) (λ now r n f. due_is l J now s r is n f)
      (λ p m e. retry_fits l J p m (sym (is.retries p) ∙ e)) none

  pub want_some : (p : ℕ) → IsFirstDue s.retries (2 ^ 64 - 1) p → IsFirst (λ n. is_some (due l J n)) (retry_in l J p)
  want_some p first =
      subst (IsFirst (λ n. is_some (due l J n))) (sym first.has ∙ is.retries p)
      (first_some s.retries (due l J) (2 ^ 64 - 1) (λ now r n f. due_is l J now s r is n f) p first)

  pub limit_none : NoneDue s.limits (2 ^ 64 - 1) → IsFirst (λ n. is_some (late J n)) None
  limit_none none =
      first_none s.limits (late J) (2 ^ 64 - 1) (λ now r n f. late_is l J now s r is n f)
      (λ a m e. passing_fits is.version is.is_address J is.legal a m (sym (is.limits a) ∙ e)) none

  pub limit_some : (a : ℕ) → IsFirstDue s.limits (2 ^ 64 - 1) a → IsFirst (λ n. is_some (late J n)) (limit_in J a)
  limit_some a first =
      subst (IsFirst (λ n. is_some (late J n))) (sym first.has ∙ is.limits a)
      (first_some s.limits (late J) (2 ^ 64 - 1) (λ now r n f. late_is l J now s r is n f) a first)

-- ---- of two tests

module _ (f g : ℕ → Bool) where
  either_fails : (n : ℕ) → f n ≡ false → g n ≡ false → (f n || g n) ≡ false
  either_fails n h k = rw (h, k) refl

  pub none_of_two : (o : Option ℕ) → IsFirst f None → IsFirst g o → IsFirst (λ n. f n || g n) o
  none_of_two None h k = λ n. either_fails n (h n) (k n)
  none_of_two (Some m) h k = (rw (h m) k.0, λ n before. either_fails n (h n) (k.1 n before))

  pub one_of_two : (m : ℕ) → IsFirst f (Some m) → IsFirst g None → IsFirst (λ n. f n || g n) (Some m)
  one_of_two m h k = (rw h.0 refl, λ n before. either_fails n (h.1 n before) (k n))

  pub first_of_two : (m k : ℕ) → IsFirst f (Some m) → IsFirst g (Some k) → IsFirst (λ n. f n || g n) (Some (min m k))
  first_of_two m k h i = (holds (cases_lt k m), λ n before. either_fails n (h.1 n (omega arith)) (i.1 n (omega arith)))
    where
      either_holds : (a b : Bool) → b ≡ true → (a || b) ≡ true
      either_holds true b e = refl
      either_holds false b e = e

      holds : (k < m) ⊎ (m ≤ k) → (f (min m k) || g (min m k)) ≡ true
      holds (inl less) = let e : min m k ≡ k = omega arith in rw e (either_holds (f k) (g k) i.0)
      holds (inr most) = let e : min m k ≡ m = omega arith in rw (e, h.0) refl
