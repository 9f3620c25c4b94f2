-- What a change of the places and of the deadlines together leaves of the index, and makes of the moments.
use Rattle.std.proofs.Common.{◌≡◌, ◌≢◌, ℕ, ◌+◌, ◌<◌, List, [], ◌∷◌, ◌++◌, length, set, Option, None, Some, nat_eq, inl}
use Rattle.std.proofs.Common.{inr, refl, sym, ◌∙◌, ap, arith, length-append, length-set, get_or-set_same}
use Rattle.std.proofs.Common.{get_or-set_other}
use Rattle.std.proofs.Math.Seq.{get_or-append_seam}
use Rattle.std.proofs.lemmas.Bool.{cases_eq}
use Rattle.std.proofs.lemmas.List.{get_or_append_left}
use Rattle.std.specs.HashMap.{get}
use Rattle.std.specs.FinMap as finite
use Rattle.std.specs.Option.{option_map}
use Rattle.lra_timers.specs.declared.deadline.Deadline.{Deadline}
use Rattle.lra_timers.specs.Order.{node, last}
use Rattle.lra_timers.specs.inner.Schedule.{Places, moments_at, IsIndex}
use Rattle.lra_timers.proofs.Lookups.{Changes, moment_of, get-moments_at, same_as_insert, same_as_remove, same_moment}

some_place : (a b : ℕ) (o : Option ℕ) → o ≡ Some a → o ≡ Some b → a ≡ b
some_place a b o first second = cc

none_has_no_place : {A : Type 0} (a : ℕ) (o : Option ℕ) → o ≡ None → o ≡ Some a → A
none_has_no_place a o none some = cc

-- the moment of a number whose place is known
pub moment_at : (places : Places) (deadlines : List Deadline) (number place : ℕ) (deadline : Deadline)
    → get nat_eq places number ≡ Some place → node deadlines place ≡ deadline
    → finite.get (moments_at places deadlines) number ≡ Some deadline.moment
moment_at places deadlines number place deadline at is = get-moments_at places deadlines number
    ∙ ap (option_map (moment_of deadlines)) at ∙ ap (λ d. Some d.moment) is

pub no_moment : (places : Places) (deadlines : List Deadline) (number : ℕ) → get nat_eq places number ≡ None
    → finite.get (moments_at places deadlines) number ≡ None
no_moment places deadlines number none = get-moments_at places deadlines number
    ∙ ap (option_map (moment_of deadlines)) none

node-push_here : (deadlines : List Deadline) (deadline : Deadline) → node (deadlines ++ deadline ∷ [])
    (length deadlines) ≡ deadline
node-push_here deadlines deadline = get_or-append_seam deadlines deadline [] last

node-push_other : (deadlines : List Deadline) (deadline : Deadline) (place : ℕ) → place < length deadlines
    → node (deadlines ++ deadline ∷ []) place ≡ node deadlines place
node-push_other deadlines deadline place within = get_or_append_left deadlines (deadline ∷ []) last place within

-- a number without a place gets the one behind the last
pub IsIndex-push : (places new : Places) (deadlines : List Deadline) (deadline : Deadline) → IsIndex places deadlines
    → get nat_eq places deadline.number ≡ None → Changes places new deadline.number (Some (length deadlines))
    → IsIndex new (deadlines ++ deadline ∷ [])
IsIndex-push places new deadlines deadline index absent changes = record {
  within = λ number place at. elim (cases_eq deadline.number number) [
    | inl same ↦
        let here : place ≡ length deadlines = some_place place (length deadlines) _ at
        (ap (get nat_eq new) (sym same) ∙ changes.here) in
        omega (arith, length-append deadlines (deadline ∷ []))
    | inr other ↦
        let before = index.within number place (sym (changes.others number other) ∙ at) in
        omega (arith, length-append deadlines (deadline ∷ []))
  ];
  found = λ number place at. elim (cases_eq deadline.number number) [
    | inl same ↦
        let here : place ≡ length deadlines = some_place place (length deadlines) _ at
        (ap (get nat_eq new) (sym same) ∙ changes.here) in
        ap (λ p. (node (deadlines ++ deadline ∷ []) p).number) here ∙ ap (λ d. d.number)
        (node-push_here deadlines deadline) ∙ same
    | inr other ↦
        let old = sym (changes.others number other) ∙ at in
        ap (λ d. d.number) (node-push_other deadlines deadline place (index.within number place old))
        ∙ index.found number place old
  ];
  placed = λ place inside. elim (cases_eq place (length deadlines)) [
    | inl here ↦
        let is : node (deadlines ++ deadline ∷ []) place ≡ deadline = ap (node (deadlines ++ deadline ∷ [])) here
        ∙ node-push_here deadlines deadline in
        ap (λ d. get nat_eq new d.number) is ∙ changes.here ∙ ap (λ p. Some p) (sym here)
    | inr before ↦
        let within : place < length deadlines = omega (arith, length-append deadlines (deadline ∷ [])) in
        let old = index.placed place within in
        let other : deadline.number ≢ (node deadlines place).number = λ same. none_has_no_place place _ absent
        (ap (get nat_eq places) same ∙ old) in
        ap (λ d. get nat_eq new d.number) (node-push_other deadlines deadline place within) ∙ changes.others _ other
        ∙ old
  ];
}

pub moments_at-push : (places new : Places) (deadlines : List Deadline) (deadline : Deadline) → IsIndex places deadlines
    → Changes places new deadline.number (Some (length deadlines))
    → moments_at new (deadlines ++ deadline ∷ []) ≡ finite.insert (moments_at places deadlines) deadline.number
    deadline.moment
moments_at-push places new deadlines deadline index changes =
    same_as_insert (moments_at places deadlines) _ deadline.number deadline.moment
    (moment_at new (deadlines ++ deadline ∷ []) deadline.number (length deadlines) deadline changes.here
    (node-push_here deadlines deadline))
    (λ q other. same_moment places new deadlines (deadlines ++ deadline ∷ []) q (changes.others q other)
    (λ place at. node-push_other deadlines deadline place (index.within q place at)))

-- a number without a moment has no place
pub no_place : (places : Places) (deadlines : List Deadline) (number : ℕ)
    → finite.get (moments_at places deadlines) number ≡ None → get nat_eq places number ≡ None
no_place places deadlines number none = absent (get nat_eq places number)
    (sym (get-moments_at places deadlines number) ∙ none)
  where
    absent : (o : Option ℕ) → option_map (moment_of deadlines) o ≡ None → o ≡ None
    absent None e = refl
    absent (Some place) e = cc

-- a number's deadline is replaced where it stands
pub moments_at-set : (places : Places) (deadlines : List Deadline) (place : ℕ) (deadline : Deadline)
    → IsIndex places deadlines → get nat_eq places deadline.number ≡ Some place
    → moments_at places (set deadlines place deadline) ≡ finite.insert (moments_at places deadlines) deadline.number
    deadline.moment
moments_at-set places deadlines place deadline index at =
    let within = index.within deadline.number place at in
    let elsewhere : (q : ℕ) → deadline.number ≢ q → (other_place : ℕ) → get nat_eq places q ≡ Some other_place
    → other_place ≢ place =
    λ q other other_place there same. other (sym (index.found deadline.number place at)
    ∙ ap (λ p. (node deadlines p).number) (sym same) ∙ index.found q other_place there) in
    same_as_insert (moments_at places deadlines) _ deadline.number deadline.moment
    (moment_at places (set deadlines place deadline) deadline.number place deadline at
    (get_or-set_same deadlines place deadline last within))
    (λ q other. same_moment places places deadlines (set deadlines place deadline) q refl
    (λ other_place there. get_or-set_other deadlines place other_place deadline last
    (elsewhere q other other_place there)))

-- what the deadlines without the last one are, and the last one
module _ (deadlines kept : List Deadline) (final : Deadline) (split : deadlines ≡ kept ++ final ∷ []) where
  length-split : length deadlines ≡ length kept + 1
  length-split = ap length split ∙ length-append kept (final ∷ [])

  node-final : node deadlines (length kept) ≡ final
  node-final = ap (λ ds. node ds (length kept)) split ∙ node-push_here kept final

  node-kept : (place : ℕ) → place < length kept → node deadlines place ≡ node kept place
  node-kept place within = ap (λ ds. node ds place) split ∙ node-push_other kept final place within

  module _ (places : Places) (index : IsIndex places deadlines) where
    final_place : get nat_eq places final.number ≡ Some (length kept)
    final_place = ap (λ d. get nat_eq places d.number) (sym node-final)
        ∙ index.placed (length kept) (omega (arith, length-split))

    not_the_last : (place : ℕ) → place < length kept → get nat_eq places final.number ≡ Some place → ⊥
    not_the_last place inside at =
        let end : place ≡ length kept = some_place place (length kept) _ at final_place in
        omega arith

    -- another number than the last one's stands before it
    pub within_kept : (number place : ℕ) → final.number ≢ number → get nat_eq places number ≡ Some place → place
        < length kept
    within_kept number place other at =
        let within = index.within number place at in
        elim (cases_eq place (length kept)) [
          | inl end ↦ absurd (other (ap (λ d. d.number) (sym node-final) ∙ ap (λ p. (node deadlines p).number) (sym end)
              ∙ index.found number place at))
          | inr before ↦ omega (arith, length-split)
        ]

    -- the last number is removed
    pub IsIndex-pop : (new : Places) → Changes places new final.number None → IsIndex new kept
    IsIndex-pop new changes =
        let other : (number place : ℕ) → get nat_eq new number ≡ Some place → final.number ≢ number =
        λ number place at same. none_has_no_place place _ changes.here (ap (get nat_eq new) same ∙ at) in
        let old : (number place : ℕ) → get nat_eq new number ≡ Some place → get nat_eq places number ≡ Some place =
        λ number place at. sym (changes.others number (other number place at)) ∙ at in
        record {
          within = λ number place at. within_kept number place (other number place at) (old number place at);
          found = λ number place at.
              let inside = within_kept number place (other number place at) (old number place at) in
              ap (λ d. d.number) (sym (node-kept place inside)) ∙ index.found number place (old number place at);
          placed = λ place inside.
              let there = index.placed place (omega (arith, length-split)) in
              let not_final : final.number ≢ (node deadlines place).number =
              λ same. not_the_last place inside (ap (get nat_eq places) same ∙ there) in
              ap (λ d. get nat_eq new d.number) (sym (node-kept place inside)) ∙ changes.others _ not_final ∙ there;
        }

    pub moments_at-pop : (new : Places) → Changes places new final.number None → moments_at new kept
        ≡ finite.remove (moments_at places deadlines) final.number
    moments_at-pop new changes =
        same_as_remove (moments_at places deadlines) _ final.number (no_moment new kept final.number changes.here)
        (λ q other. same_moment places new deadlines kept q (changes.others q other)
        (λ place at. sym (node-kept place (within_kept q place other at))))

    -- another number is removed, and the last one takes its place
    module _ (gone new : Places) (number hole : ℕ) (at : get nat_eq places number ≡ Some hole)
        (other : final.number ≢ number) (removed : Changes places gone number None)
        (moved : Changes gone new final.number (Some hole)) where
      hole_inside : hole < length kept
      hole_inside = within_kept number hole other at

      not_the_hole : (q place : ℕ) → number ≢ q → get nat_eq places q ≡ Some place → place ≢ hole
      not_the_hole q place differs there same = differs (sym (index.found number hole at)
          ∙ ap (λ p. (node deadlines p).number) (sym same) ∙ index.found q place there)

      -- what stands at another place
      node-filled : (place : ℕ) → place < length kept → place ≢ hole → node (set kept hole final) place
          ≡ node deadlines place
      node-filled place inside elsewhere = get_or-set_other kept hole place final last elsewhere
          ∙ sym (node-kept place inside)

      stays : (q : ℕ) → final.number ≢ q → number ≢ q → get nat_eq new q ≡ get nat_eq places q
      stays q not_final differs = moved.others q not_final ∙ removed.others q differs

      number_gone : get nat_eq new number ≡ None
      number_gone = moved.others number other ∙ removed.here

      old_place : (q place : ℕ) → final.number ≢ q → get nat_eq new q ≡ Some place → (number ≢ q)
          × (get nat_eq places q ≡ Some place)
      old_place q place not_final there =
          let differs : number ≢ q = λ same. none_has_no_place place _ number_gone (ap (get nat_eq new) same ∙ there) in
          (differs, sym (stays q not_final differs) ∙ there)

      pub IsIndex-move : IsIndex new (set kept hole final)
      IsIndex-move = record {
        within = λ q place there. elim (cases_eq final.number q) [
          | inl same ↦
              let here : place ≡ hole = some_place place hole _ there (ap (get nat_eq new) (sym same) ∙ moved.here) in
              omega (arith, hole_inside, length-set kept hole final)
          | inr not_final ↦
              let old = old_place q place not_final there in
              omega (arith, within_kept q place not_final old.1, length-set kept hole final)
        ];
        found = λ q place there. elim (cases_eq final.number q) [
          | inl same ↦
              let here : place ≡ hole = some_place place hole _ there (ap (get nat_eq new) (sym same) ∙ moved.here) in
              ap (λ p. (node (set kept hole final) p).number) here ∙ ap (λ d. d.number)
              (get_or-set_same kept hole final last hole_inside) ∙ same
          | inr not_final ↦
              let old = old_place q place not_final there in
              ap (λ d. d.number) (node-filled place (within_kept q place not_final old.1)
              (not_the_hole q place old.0 old.1)) ∙ index.found q place old.1
        ];
        placed = λ place inside. elim (cases_eq place hole) [
          | inl here ↦
              let is : node (set kept hole final) place ≡ final = ap (node (set kept hole final)) here
              ∙ get_or-set_same kept hole final last hole_inside in
              ap (λ d. get nat_eq new d.number) is ∙ moved.here ∙ ap (λ p. Some p) (sym here)
          | inr elsewhere ↦
              let within : place < length kept = omega (arith, length-set kept hole final) in
              let there = index.placed place (omega (arith, length-split)) in
              let not_final : final.number ≢ (node deadlines place).number =
              λ same. not_the_last place within (ap (get nat_eq places) same ∙ there) in
              let differs : number ≢ (node deadlines place).number = λ same. elsewhere
              (some_place place hole _ (ap (get nat_eq places) same ∙ there) at) in
              ap (λ d. get nat_eq new d.number) (node-filled place within elsewhere) ∙ stays _ not_final differs ∙ there
        ];
      }

      pub moments_at-move : moments_at new (set kept hole final) ≡ finite.remove (moments_at places deadlines) number
      moments_at-move = same_as_remove (moments_at places deadlines) _ number
          (no_moment new (set kept hole final) number number_gone) (λ q differs. elim (cases_eq final.number q) [
            | inl same ↦
                moment_at new (set kept hole final) q hole final (ap (get nat_eq new) (sym same) ∙ moved.here)
                (get_or-set_same kept hole final last hole_inside)
                ∙ sym (moment_at places deadlines q (length kept) final
                (ap (get nat_eq places) (sym same) ∙ final_place)
                node-final)
            | inr not_final ↦
                same_moment places new deadlines (set kept hole final) q (stays q not_final differs)
                (λ place there. node-filled place (within_kept q place not_final there)
                (not_the_hole q place differs there))
          ])

-- a number without a place is removed
pub moments_at-absent : (places new : Places) (deadlines : List Deadline) (number : ℕ) → Changes places new number None
    → moments_at new deadlines ≡ finite.remove (moments_at places deadlines) number
moments_at-absent places new deadlines number changes =
    same_as_remove (moments_at places deadlines) _ number (no_moment new deadlines number changes.here)
    (λ q other. same_moment places new deadlines deadlines q (changes.others q other) (λ place at. refl))
