-- Errand in each slot of a slab.
use Rattle.std.proofs.Common.{◌≡◌, ◌≢◌, ℕ, zero, suc, Bool, true, false, List, [], ◌∷◌, Option, Some, None, refl, ap}
use Rattle.std.proofs.Common.{◌∙◌, sym, subst}
use Rattle.std.specs.Prelude.{◌==◌, map, slice_set, slice_index_or, option_map, IfSome, IfNone}
use Rattle.std.specs.Option.{ForSome, option_and_then}
use Rattle.std.proofs.lemmas.Option.{same_Some}
use Rattle.lra_model.specs.declared.asks.Outcome.{Outcome}
use Rattle.std.proofs.lemmas.Bool.{eqb-true, eqb-false}
use Rattle.lra_courier.specs.CallbackPools.{Handed, Gains, AreSame}
use Rattle.lra_callbacks.specs.Held.{errand_at}
use Rattle.lra_commands.specs.Errands.{Asking}

module _ {X : Type 0} (of : Option X → Option Handed) where
  -- a slot is changed, and its errand stays
  pub same_errands : (slots : List (Option X)) (key : ℕ) (slot : Option X)
      → of slot ≡ of (slice_index_or slots key None) → map of (slice_set slots key slot) ≡ map of slots
  same_errands [] key slot h = refl
  same_errands (x ∷ xs) zero slot h = ap (λ (o : Option Handed). o ∷ map of xs) h
  same_errands (x ∷ xs) (suc key) slot h = ap (λ (os : List (Option Handed)). of x ∷ os) (same_errands xs key slot h)

  -- the errand in a slot
  pub at : of None ≡ None → (slots : List (Option X)) (key : ℕ)
      → slice_index_or (map of slots) key None ≡ of (slice_index_or slots key None)
  at none [] key = sym none
  at none (x ∷ xs) zero = refl
  at none (x ∷ xs) (suc key) = at none xs key

  -- a slot that was free has an errand, and the others are as they were
  pub errand_gained : of None ≡ None → (old new : List (Option X)) (key : ℕ) (slot : Option X) (e : Handed)
      → slice_index_or old key None ≡ None → slice_index_or new key None ≡ slot → of slot ≡ Some e
      → ((other : ℕ) → other ≢ key → slice_index_or new other None ≡ slice_index_or old other None)
      → Gains (errand_at (map of old)) (errand_at (map of new)) e
  errand_gained none old new key slot e free here is others = record {
    place = key;
    free = at none old key ∙ (ap of free ∙ none);
    here = at none new key ∙ (ap of here ∙ is);
    others = λ other apart. at none new other ∙ (ap of (others other apart) ∙ sym (at none old other));
  }

  -- a slot without an errand is given up
  pub none_lost : of None ≡ None → (old new : List (Option X)) (key : ℕ) (slot : Option X)
      → slice_index_or old key None ≡ slot → of slot ≡ None → slice_index_or new key None ≡ None
      → ((other : ℕ) → other ≢ key → slice_index_or new other None ≡ slice_index_or old other None)
      → AreSame (errand_at (map of old)) (errand_at (map of new))
  none_lost none old new key slot there is free others place = by (place == key) refl
    where
      by : (b : Bool) → (place == key) ≡ b → errand_at (map of new) place ≡ errand_at (map of old) place
      by true same =
          let p = eqb-true place key same in
          ap (λ (k : ℕ). errand_at (map of new) k) p
          ∙ (at none new key ∙ (ap of free
          ∙ (none ∙ (sym is ∙ (ap of (sym there) ∙ (sym (at none old key)
          ∙ ap (λ (k : ℕ). errand_at (map of old) k) (sym p)))))))
      by false other = at none new place ∙ (ap of (others place (eqb-false place key other)) ∙ sym (at none old place))

module _ {X : Type 0} where
  -- a call is changed, and its errand stays
  pub kept_errands : (slots : List (Option X)) (key : ℕ) (old new : X) (f : X → Option Handed)
      → Some old ≡ slice_index_or slots key None → f new ≡ f old
      → map (λ (slot : Option X). option_and_then f slot) (slice_set slots key (Some new))
      ≡ map (λ (slot : Option X). option_and_then f slot) slots
  kept_errands slots key old new f there same = same_errands (λ (slot : Option X). option_and_then f slot) slots key
      (Some new) (same ∙ ap (λ (slot : Option X). option_and_then f slot) there)

  -- a call is accepted
  pub taken_in : (old mid new : List (Option X)) (key : ℕ) (call : X) (e : Handed) (f : X → Option Handed)
      (now : List (Option Handed)) → map (λ (slot : Option X). option_and_then f slot) old ≡ now → mid ≡ old
      → slice_index_or mid key None ≡ None → slice_index_or new key None ≡ Some call
      → ((other : ℕ) → other ≢ key → slice_index_or new other None ≡ slice_index_or mid other None) → f call ≡ Some e
      → Gains (errand_at now) (errand_at (map (λ (slot : Option X). option_and_then f slot) new)) e
  taken_in old mid new key call e f now view same free here others is =
      subst (λ (errands : List (Option Handed)). Gains (errand_at errands)
      (errand_at (map (λ (slot : Option X). option_and_then f slot) new)) e) view
      (errand_gained (λ (slot : Option X). option_and_then f slot) refl old new key (Some call) e
      (ap (λ (s : List (Option X)). slice_index_or s key None) (sym same) ∙ free) here is
      (λ other apart. others other apart ∙ ap (λ (s : List (Option X)). slice_index_or s other None) same))

  -- a call is given back, with its outcome
  pub given_back : (old new : List (Option X)) (key : ℕ) (call : X) (f : X → Option Handed) (now : List (Option Handed))
      (r : Option (Asking × Outcome)) (Q : ℕ → Asking × Outcome → Type 0)
      → map (λ (slot : Option X). option_and_then f slot) old ≡ now → Some call ≡ slice_index_or old key None
      → slice_index_or new key None ≡ None
      → ((other : ℕ) → other ≢ key → slice_index_or new other None ≡ slice_index_or old other None)
      → option_map (λ (came : Asking × Outcome). came.0) r ≡ option_map (λ (h : Handed). h.0) (f call)
      → IfSome r (λ came. ForSome (f call) (λ h. Q h.1 came))
      → IfSome r (λ came. (n : ℕ) × Gains (errand_at (map (λ (slot : Option X). option_and_then f slot) new))
      (errand_at now) (came.0, n) × Q n came)
  given_back old new key call f now None Q view there free others is q = tt
  given_back old new key call f now (Some came) Q view there free others is q = by (f call) refl
    where
      none : Some came.0 ≡ None
          → (n : ℕ) × Gains (errand_at (map (λ (slot : Option X). option_and_then f slot) new)) (errand_at now)
          (came.0, n) × Q n came
      none h = absurd cc

      by : (o : Option Handed) → f call ≡ o
          → (n : ℕ) × Gains (errand_at (map (λ (slot : Option X). option_and_then f slot) new)) (errand_at now)
          (came.0, n) × Q n came
      by None g = none (is ∙ ap (option_map (λ (h : Handed). h.0)) g)
      by (Some (a, n)) g =
          let same : came.0 ≡ a = same_Some came.0 a (is ∙ ap (option_map (λ (h : Handed). h.0)) g) in (
            n,
            subst (λ (errands : List (Option Handed)). Gains (errand_at
                (map (λ (slot : Option X). option_and_then f slot) new)) (errand_at errands) (came.0, n)) view
                (errand_gained (λ (slot : Option X). option_and_then f slot) refl new old key (Some call) (came.0, n)
                free (sym there) (g ∙ ap (λ (x : Asking). Some (x, n)) (sym same))
                (λ other apart. sym (others other apart))),
            q (a, n) g,
          )

  -- a call without an errand is dropped
  pub let_go : (old new : List (Option X)) (key : ℕ) (call : X) (f : X → Option Handed) (now : List (Option Handed))
      (r : Option (Asking × Outcome))
      → map (λ (slot : Option X). option_and_then f slot) old ≡ now → Some call ≡ slice_index_or old key None
      → slice_index_or new key None ≡ None
      → ((other : ℕ) → other ≢ key → slice_index_or new other None ≡ slice_index_or old other None)
      → option_map (λ (came : Asking × Outcome). came.0) r ≡ option_map (λ (h : Handed). h.0) (f call)
      → IfNone r (AreSame (errand_at now) (errand_at (map (λ (slot : Option X). option_and_then f slot) new)))
  let_go old new key call f now (Some came) view there free others is = tt
  let_go old new key call f now None view there free others is =
      subst (λ (errands : List (Option Handed)). AreSame (errand_at errands)
      (errand_at (map (λ (slot : Option X). option_and_then f slot) new))) view
      (none_lost (λ (slot : Option X). option_and_then f slot) refl old new key (Some call) (sym there)
      (by (f call) refl) free others)
    where
      some : (h : Handed) → None ≡ Some h.0 → f call ≡ None
      some h e = absurd cc

      by : (o : Option Handed) → f call ≡ o → f call ≡ None
      by None g = g
      by (Some h) g = some h (is ∙ ap (option_map (λ (x : Handed). x.0)) g)
