-- Requests of the dialect, translated and answered.
use Rattle.std.proofs.Common.{◌≡◌, ℕ, Bool, false, List, None, Ok, Err, refl, ap, sym, ◌∙◌, subst, inl, inr}
use Rattle.std.specs.Prelude.{◌&&◌}
use Rattle.lra_wire.specs.Request.{Request, request_of}
use Rattle.lra_front.specs.declared.dialect_answer.DialectRefusal.{DialectRefusal}
use Rattle.lra_steps.specs.declared.handler.Answered.{Answered}
use Rattle.lra_narayana.specs.declared.operation.DialectOperation.{DialectOperation}
use Rattle.lra_narayana.specs.Meant.{IsOwn}
use Rattle.lra_narayana.specs.Spelled.{spelled, refused}
use Rattle.lra_rewrite.specs.Dialect.{meant_under, is_kept_out}
use Rattle.lra_rewrite.specs.Requests.{target_meant}
use Rattle.lra_rewrite.specs.Serving.{Served, RespondsBy, RespondsInDialect}
use Rattle.lra_rewrite.specs.declared.dialect.Translated.{Translated}
use Rattle.lra_rewrite.specs.declared.dialect.Translated.TheVariants as translated
use Rattle.lra_rewrite.specs.inner.Asks.{AsksMoved}
use Rattle.lra_rewrite.specs.inner.Translated.{IsTranslated, IsTranslatedAt}

-- a request is translated as one with the target that its own means
pub translated_is : (base wanted : List ℕ) (is_strict : Bool) (request : Request) (made : Translated)
    → target_meant base request.target ≡ wanted → is_kept_out base is_strict request ≡ false
    → IsTranslatedAt base wanted request made → IsTranslated base is_strict request made
translated_is base wanted is_strict request (translated.Own o own) e f h = rw (f, e) h
translated_is base wanted is_strict request (translated.Refused r) e f h = rw (f, e) h

module _ {S : Type 0} (base_of : S → List ℕ) (responds : S → ℕ → Request → Answered → S → Type 0)
    (before : Served S) (moment : ℕ) (request : Request) (answered : Answered) (after : S) where
  -- the own request was asked, and its answer is told
  pub told_own : (o : DialectOperation) (own : Request) (told : Answered)
      → meant_under (base_of before.inner) before.is_strict request ≡ Ok o
      → IsOwn (base_of before.inner) (target_meant (base_of before.inner) request.target) o request own
      → AsksMoved base_of responds before.inner before.olders moment own told after
      → answered.instance ≡ told.instance → answered.answer ≡ spelled request told.answer
      → answered.position ≡ told.position
      → RespondsInDialect base_of responds before moment request answered after
  told_own o own told e is does instance answer position =
      inl (subst (RespondsBy base_of responds before moment request answered after) (sym e) (record {
        own = own;
        means = is;
        told = told;
        does = does;
        instance = instance;
        answer = answer;
        position = position;
      }))

  -- the request was refused
  pub told_refusal : (r : DialectRefusal) → meant_under (base_of before.inner) before.is_strict request ≡ Err r
      → answered.answer ≡ refused request r → answered.position ≡ None → after ≡ before.inner
      → RespondsInDialect base_of responds before moment request answered after
  told_refusal r e answer position unchanged =
      inl (subst (RespondsBy base_of responds before moment request answered after) (sym e) (record {
        answer = answer;
        position = position;
        unchanged = unchanged;
      }))
