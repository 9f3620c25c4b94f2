-- What holds of a reader's bytes holds of the bytes that its source is known to have.
use Rattle.std.proofs.Common.{◌≡◌, List, ℕ, Option, Some, None, sym, subst}
use Rattle.std.specs.Prelude.{IfSome, IfOk, Result, Ok, Err}
use Rattle.lra_reports.specs.declared.words.Invocation.{Invocation}
use Rattle.lra_reports.specs.Invoked.{input_bytes, Runs}

pub sourced : (source remaining : Option (List ℕ)) (P : List ℕ → Type 0) → IfSome source (λ all. remaining ≡ Some all)
    → IfSome remaining P → IfSome source P
sourced None remaining P same h = tt
sourced (Some all) remaining P same h = subst (λ (o : Option (List ℕ)). IfSome o P) same h

-- what a run writes and returns
pub sourced_status : {E : Type 0} (source remaining : Option (List ℕ)) (P : ℕ → List ℕ → Type 0) (r : Result ℕ E)
    → IfSome source (λ all. remaining ≡ Some all)
    → IfOk r (λ status. IfSome remaining (P status)) → IfOk r (λ status. IfSome source (P status))
sourced_status source remaining P (Ok status) same h = sourced source remaining (P status) same h
sourced_status source remaining P (Err e) same h = tt

-- what a run of that invocation writes and returns
pub sourced_ok : {E : Type 0} (v w : Invocation) (standard : Option (List ℕ)) (named : List ℕ → Option (List ℕ))
    (remaining before after : Option (List ℕ)) (r : Result ℕ E) → v ≡ w
    → IfSome (input_bytes standard named w) (λ all. remaining ≡ Some all)
    → IfOk r (λ status. IfSome remaining (λ input. Runs w input status before after))
    → IfOk r (λ status. IfSome (input_bytes standard named v) (λ input. Runs v input status before after))
sourced_ok v w standard named remaining before after r is same h =
    subst (λ (x : Invocation). IfOk r (λ status. IfSome (input_bytes standard named x)
    (λ input. Runs x input status before after))) (sym is)
    (sourced_status (input_bytes standard named w) remaining (λ status input. Runs w input status before after) r same
    h)
