-- The first deadline of an index is the first of its moments.
use Rattle.std.proofs.Common.{◌≡◌, ℕ, ◌≤◌, ◌<◌, List, [], length, Option, None, Some, nat_eq, refl, sym, ◌∙◌, ap, arith}
use Rattle.std.specs.HashMap.{get}
use Rattle.std.specs.FinMap as finite
use Rattle.std.specs.Option.{option_map}
use Rattle.lra_timers.specs.declared.deadline.Deadline.{Deadline}
use Rattle.lra_timers.specs.Moments.{IsFirstDue, NoneDue}
use Rattle.lra_timers.specs.Order.{node, IsFirstOf}
use Rattle.lra_timers.specs.inner.Schedule.{Places, moments_at, IsIndex}
use Rattle.lra_timers.proofs.Index.{moment_at}
use Rattle.lra_timers.proofs.Lookups.{moment_of, get-moments_at}

-- the place of a number with this moment
record StandsAt (places : Places) (deadlines : List Deadline) (number moment : ℕ) : Type 0 where
  place : ℕ
  within : place < length deadlines
  is_number : (node deadlines place).number ≡ number
  is_moment : (node deadlines place).moment ≡ moment

module _ (places : Places) (deadlines : List Deadline) (index : IsIndex places deadlines) where
  stands_at : (number moment : ℕ) → finite.get (moments_at places deadlines) number ≡ Some moment
      → StandsAt places deadlines number moment
  stands_at number moment has = from_place (get nat_eq places number) refl
      (sym (get-moments_at places deadlines number) ∙ has)
    where
      from_place : (o : Option ℕ) → get nat_eq places number ≡ o → option_map (moment_of deadlines) o ≡ Some moment
          → StandsAt places deadlines number moment
      from_place None at e = cc
      from_place (Some place) at e = record {
        place = place;
        within = index.within number place at;
        is_number =
            index.found number place at;
        is_moment = cc;
      }

  pub NoneDue-empty : (now : ℕ) → deadlines ≡ [] → NoneDue (moments_at places deadlines) now
  NoneDue-empty now empty number moment has =
      let stands = stands_at number moment has in
      let none : length deadlines ≡ 0 = ap length empty in
      absurd (omega (arith, stands.within))

  module _ (first : Deadline) (is : IsFirstOf deadlines first) where
    has_first : finite.get (moments_at places deadlines) first.number ≡ Some first.moment
    has_first = moment_at places deadlines first.number is.place first
        (ap (λ d. get nat_eq places d.number) (sym is.here) ∙ index.placed is.place is.within) is.here

    not_after : (number moment : ℕ) → finite.get (moments_at places deadlines) number ≡ Some moment
        → (first.moment ≤ moment) × (first.moment ≡ moment → first.number ≤ number)
    not_after number moment has =
        let stands = stands_at number moment has in
        let least = is.least stands.place stands.within in (
          omega (arith, least.moment, stands.is_moment),
          λ same. omega (
            arith,
            least.number (same ∙ sym stands.is_moment),
            stands.is_number,
          ),
        )

    pub IsFirstDue-first : (now : ℕ) → first.moment ≤ now → IsFirstDue (moments_at places deadlines) now first.number
    IsFirstDue-first now due = record { moment = first.moment; has = has_first; due = due; least = not_after }

    pub due_then_some : (now : ℕ) → first.moment ≤ now → NoneDue (moments_at places deadlines) now → ⊥
    due_then_some now due none = omega (arith, none first.number first.moment has_first)

    pub NoneDue-first : (now : ℕ) → now < first.moment → NoneDue (moments_at places deadlines) now
    NoneDue-first now early number moment has = omega (arith, (not_after number moment has).0)
