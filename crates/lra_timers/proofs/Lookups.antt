-- The moments of an index by look-ups, and what a change of the index makes of them.
use Rattle.std.proofs.Common.{◌≡◌, ◌≢◌, ℕ, true, false, cond, List, [], ◌∷◌, map, Option, None, Some, nat_eq, inl, inr}
use Rattle.std.proofs.Common.{refl, sym, ◌∙◌, ap, subst}
use Rattle.std.proofs.lemmas.Bool.{cases_eq, eq-eqb, ne_eqb}
use Rattle.std.specs.Ordering.{nat_cmp, eq_by_cmp}
use Rattle.std.specs.Cmp.{nat_cmp_total, unsigned_tied}
use Rattle.std.specs.Option.{option_map}
use Rattle.std.specs.Map.{lookup}
use Rattle.std.specs.HashMap.{get, Updates}
use Rattle.std.specs.FinMap as finite
use Rattle.std.specs.FinMap.{find, get-from_entries, get-insert, get-remove, same_map, nat_cmp-IsAntisymmetric}
use Rattle.lra_timers.specs.declared.deadline.Deadline.{Deadline}
use Rattle.lra_timers.specs.Order.{node}
use Rattle.lra_timers.specs.Moments.{Moments}
use Rattle.lra_timers.specs.inner.Schedule.{Places, moments_at}

-- the moment at a place
abbrev pub moment_of : List Deadline → ℕ → ℕ
moment_of deadlines place = (node deadlines place).moment

find-moments : (deadlines : List Deadline) (es : List (ℕ × ℕ)) (number : ℕ)
    → find nat_cmp number (map (λ e. (e.0, moment_of deadlines e.1)) es)
    ≡ option_map (moment_of deadlines) (lookup (nat_eq number) es)
find-moments deadlines [] number = refl
find-moments deadlines (e ∷ es) number =
    rw (unsigned_tied number e.0, find-moments deadlines es number)
    (elim (nat_eq number e.0) as (λ b. cond b (Some (moment_of deadlines e.1))
    (option_map (moment_of deadlines) (lookup (nat_eq number) es))
    ≡ option_map (moment_of deadlines) (cond b (Some e.1) (lookup (nat_eq number) es))) [
      | true ↦ refl
      | false ↦
          refl
    ])

pub get-moments_at : (places : Places) (deadlines : List Deadline) (number : ℕ)
    → finite.get (moments_at places deadlines) number ≡ option_map (moment_of deadlines) (get nat_eq places number)
get-moments_at places deadlines number = get-from_entries nat_cmp_total _ number
    ∙ find-moments deadlines places.entries number

-- one number has w, and the others have what they had
pub record Changes (old new : Places) (number : ℕ) (w : Option ℕ) : Type 0 where
  pub here : get nat_eq new number ≡ w
  pub others : (q : ℕ) → number ≢ q → get nat_eq new q ≡ get nat_eq old q

pub Changes-from_updates : (old new : Places) (number : ℕ) (w : Option ℕ) → Updates nat_eq old new number w
    → Changes old new number w
Changes-from_updates old new number w updates = record {
  here = updates.1;
  others =
      λ q other. updates.2 q (ne_eqb number q other);
}

-- to a place that is known under another name
pub Changes-to : (old new : Places) (number place same_place : ℕ) → place ≡ same_place
    → Updates nat_eq old new number (Some place) → Changes old new number (Some same_place)
Changes-to old new number place same_place same updates = subst (λ p. Changes old new number (Some p)) same
    (Changes-from_updates old new number (Some place) updates)

-- of a number that is known under another name
pub Changes-of : (old new : Places) (number same_number : ℕ) (w : Option ℕ) → same_number ≡ number
    → Updates nat_eq old new number w → Changes old new same_number w
Changes-of old new number same_number w same updates = subst (λ n. Changes old new n w) (sym same)
    (Changes-from_updates old new number w updates)

-- two moments are the same where each look-up is
pub same_moments : (m n : Moments) → ((q : ℕ) → finite.get m q ≡ finite.get n q) → m ≡ n
same_moments m n same = same_map nat_cmp_total nat_cmp-IsAntisymmetric m n same

tied : (q number : ℕ) → number ≡ q → eq_by_cmp nat_cmp q number ≡ true
tied q number same = unsigned_tied q number ∙ eq-eqb q number (sym same)

not_tied : (q number : ℕ) → number ≢ q → eq_by_cmp nat_cmp q number ≡ false
not_tied q number other = unsigned_tied q number ∙ ne_eqb q number (λ e. other (sym e))

pub same_as_insert : (m n : Moments) (number moment : ℕ) → finite.get n number ≡ Some moment
    → ((q : ℕ) → number ≢ q → finite.get n q ≡ finite.get m q) → n ≡ finite.insert m number moment
same_as_insert m n number moment here others = same_moments n _ (λ q. elim (cases_eq number q) [
  | inl same ↦ ap (finite.get n) (sym same) ∙ here ∙ sym (get-insert nat_cmp_total m number moment q
      ∙ ap (λ b. cond b (Some moment) (finite.get m q)) (tied q number same))
  | inr other ↦ others q other ∙ sym (get-insert nat_cmp_total m number moment q
      ∙ ap (λ b. cond b (Some moment) (finite.get m q)) (not_tied q number other))
])

pub same_as_remove : (m n : Moments) (number : ℕ) → finite.get n number ≡ None
    → ((q : ℕ) → number ≢ q → finite.get n q ≡ finite.get m q) → n ≡ finite.remove m number
same_as_remove m n number here others = same_moments n _ (λ q. elim (cases_eq number q) [
  | inl same ↦ ap (finite.get n) (sym same) ∙ here ∙ sym (get-remove nat_cmp_total m number q
      ∙ ap (λ b. cond b None (finite.get m q)) (tied q number same))
  | inr other ↦ others q other ∙ sym (get-remove nat_cmp_total m number q
      ∙ ap (λ b. cond b None (finite.get m q)) (not_tied q number other))
])

-- where a number's place stays, and the moment there, so does its moment
pub same_moment : (old new : Places) (before after : List Deadline) (q : ℕ) → get nat_eq new q ≡ get nat_eq old q
    → ((place : ℕ) → get nat_eq old q ≡ Some place → node after place ≡ node before place)
    → finite.get (moments_at new after) q ≡ finite.get (moments_at old before) q
same_moment old new before after q stays same =
    get-moments_at new after q ∙ ap (option_map (moment_of after)) stays ∙ same_at (get nat_eq old q) same
    ∙ sym (get-moments_at old before q)
  where
    same_at : (o : Option ℕ) → ((place : ℕ) → o ≡ Some place → node after place ≡ node before place)
        → option_map (moment_of after) o ≡ option_map (moment_of before) o
    same_at None same = refl
    same_at (Some place) same = ap (λ d. Some d.moment) (same place refl)
