-- Outcomes that come of an errand's callback.
use Rattle.std.proofs.Common.{◌≡◌, ℕ, Bool, true, List, Option, Some, None, inl, inr, refl, ap, ◌∙◌, subst}
use Rattle.std.specs.Prelude.{Result, option_map, unwrap_or, IfSome, IsTrue}
use Rattle.std.specs.Option.{ForSome}
use Rattle.std.specs.Result.{result_unwrap_or}
use Rattle.std.proofs.Math.Logic.{∥∥₁_map}
use Rattle.lra_model.specs.declared.asks.AskKind.{AskKind}
use Rattle.lra_model.specs.declared.asks.Outcome.{Outcome}
use Rattle.lra_model.specs.declared.asks.Outcome.TheVariants.{Silent}
use Rattle.lra_model.specs.Words.{outcome_suits}
use Rattle.lra_commands.specs.Errands.{Asking}
use Rattle.lra_courier.specs.CallbackPools.{Handed, Gains}
use Rattle.lra_courier.specs.declared.fault.CallFault.{CallFault}
use Rattle.lra_courier.specs.Carried.{Carried, IsCarried}
use Rattle.lra_durable.specs.Leaves.{MayLeave}
use Rattle.lra_callbacks.specs.Outcomes.{IsFor, Comes, MayCome, OfGroup, MayComeOf}
use Rattle.lra_callbacks.specs.Held.{errand_at}
use Rattle.lra_callbacks.specs.inner.Attempts.{IsOfSame}

module _ (keeps : ℕ → Bool) where
  -- any errand may have silence as its outcome
  pub silence_comes : (errand : Option Handed) → IfSome errand (λ h. MayCome keeps h.1 h.0.ask h.0.kind Silent)
  silence_comes None = tt
  silence_comes (Some e) = inr refl

  -- the outcome of a callback that might be sent may come of its errand
  pub outcome_comes : (kept : ℕ) (c : Carried) (errand : Option Handed) (r : Option Outcome)
      → ForSome errand (λ h. MayLeave keeps h.1 kept) → ForSome errand (λ h. ∥ IsFor c h.0 ∥₁)
      → IsCarried c
      → r ≡ option_map (λ (told : Result Outcome CallFault). result_unwrap_or told Silent) c.came
      → IfSome r (λ o. IsTrue (outcome_suits c.kind o))
      → IfSome errand (λ h. MayCome keeps h.1 h.0.ask h.0.kind (unwrap_or r Silent))
  outcome_comes kept c None r leave own steps is suits = tt
  outcome_comes kept c (Some e) None leave own steps is suits = inr refl
  outcome_comes kept c (Some e) (Some o) leave own steps is suits = by_told c.came refl
    where
      by_told : (came : Option (Result Outcome CallFault)) → c.came ≡ came → MayCome keeps e.1 e.0.ask e.0.kind o
      by_told None g = none (is ∙ ap (option_map (λ (told : Result Outcome CallFault). result_unwrap_or told Silent)) g)
        where
          none : Some o ≡ None → MayCome keeps e.1 e.0.ask e.0.kind o
          none h = absurd cc
      by_told (Some told) g = inl (∥∥₁_map (own e refl) comes)
        where
          same : Some o ≡ Some (result_unwrap_or told Silent) → o ≡ result_unwrap_or told Silent
          same h = cc

          comes : IsFor c e.0 → Comes keeps e.1 e.0.ask e.0.kind o
          comes of = record {
            kept = kept;
            leave = leave e refl;
            errand = e.0;
            of_ask = refl;
            of_kind = refl;
            carried = c;
            steps = steps;
            own = of;
            told = told;
            came = g;
            as_told = same (is ∙ ap (option_map (λ (told : Result Outcome CallFault). result_unwrap_or told Silent)) g);
            suits = subst (λ (kind : AskKind). outcome_suits kind o ≡ true) of.own.kind suits;
          }

-- an outcome that comes of an errand's own journal comes of some journal
pub own_comes : (keeps : ℕ → ℕ → Bool) (instance : ℕ) (r : Option (Asking × Outcome)) (errand : Option Handed)
    → IfSome r (λ came. ForSome errand (λ h. MayCome (keeps instance) h.1 came.0.ask came.0.kind came.1))
    → IfSome r (λ came. ForSome errand (λ h. OfGroup keeps h.1 came.0.ask came.0.kind came.1))
own_comes keeps instance None errand h = tt
own_comes keeps instance (Some came) errand h = λ x e. record { instance = instance; came = h x e }

-- and so it comes of some position
pub comes_of : (keeps : ℕ → ℕ → Bool) (old mid new : List (Option Handed)) (r : Option (Asking × Outcome)) → mid ≡ old
    → IfSome r (λ came. (n : ℕ) × Gains (errand_at new) (errand_at mid) (came.0, n)
    × OfGroup keeps n came.0.ask came.0.kind came.1)
    → IfSome r (λ came. (n : ℕ) × Gains (errand_at new) (errand_at old) (came.0, n)
    × MayComeOf keeps came.0.ask came.0.kind came.1)
comes_of keeps old mid new None e h = tt
comes_of keeps old mid new (Some came) e (n, gains, of) = (
  n,
  subst (λ (errands : List (Option Handed)). Gains (errand_at new) (errand_at errands) (came.0, n)) e gains,
  record { position = n; of = of },
)

-- moving bytes changes nothing of the request
pub same_of : (c : Carried) → IsOfSame c c
same_of c = record { kind = refl; direction = refl; request = refl }

pub same_on : (a b c : Carried) → IsOfSame a b → IsOfSame b c → IsOfSame a c
same_on a b c h k = record {
  kind = k.kind ∙ h.kind;
  direction = k.direction ∙ h.direction;
  request = k.request
      ∙ h.request;
}

still_for : (old new : Carried) (errand : Asking) → IsOfSame old new → IsFor old errand → IsFor new errand
still_for old new errand same of = record {
  extra = of.extra;
  own = record {
    kind = same.kind ∙ of.own.kind;
    direction = same.direction ∙ of.own.direction;
    request = same.request ∙ of.own.request;
  };
}

pub same_for : (old new : Carried) (errand : Option Handed) → IsOfSame old new
    → ForSome errand (λ h. ∥ IsFor old h.0 ∥₁) → ForSome errand (λ h. ∥ IsFor new h.0 ∥₁)
same_for old new errand same own e is = ∥∥₁_map (own e is) (still_for old new e.0 same)
