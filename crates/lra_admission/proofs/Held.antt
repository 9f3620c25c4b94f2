-- The keys of a file that was read whole.
use Rattle.std.proofs.Common.{◌≡◌, ℕ, ◌≤◌, List, length, Option, Some, None, Result, Ok, Err, IfSome, IfOk, IfErr}
use Rattle.std.proofs.Common.{subst}
use Rattle.lra_files.specs.Small.{IsWhole}
use Rattle.lra_admission.specs.declared.keys.Keys.{Keys}
use Rattle.lra_admission.specs.declared.fault.KeysFault.{KeysFault}
use Rattle.lra_admission.specs.declared.fault.KeysFault.TheVariants as fault
use Rattle.lra_admission.specs.Lines.{digests_in}
use Rattle.lra_admission.specs.Keys.{digests_of, IsWrong}
use Rattle.lra_admission.specs.inner.Files.{longest, Holds, HoldsNone}

holds : (all text : List ℕ) (r : Result Keys KeysFault) → text ≡ all → length all ≤ longest
    → IfOk r (λ keys. digests_in text ≡ Ok (digests_of keys)) → IfOk r (Holds all)
holds all text (Ok keys) is few h = (few, subst (λ t. digests_in t ≡ Ok (digests_of keys)) is h)
holds all text (Err f) is few h = tt

-- a file holds what was read of it
pub held : (o : Option (List ℕ)) (text : List ℕ) (r : Result Keys KeysFault)
    → IfSome o (λ all. IsWhole longest all text)
    → IfOk r (λ keys. digests_in text ≡ Ok (digests_of keys)) → IfSome o (λ all. IfOk r (Holds all))
held None text r whole h = tt
held (Some all) text r whole h = holds all text r whole.0 whole.1 h

holds_none : (all : List ℕ) (f : KeysFault) → IsWrong all f → HoldsNone all f
holds_none all (fault.Line number) h = h
holds_none all fault.Memory h = tt
holds_none all fault.File h = tt
holds_none all fault.TooLong h = absurd h
holds_none all fault.Shared h = absurd h

none_of : (all text : List ℕ) (r : Result Keys KeysFault) → text ≡ all → IfErr r (IsWrong text)
    → IfErr r (HoldsNone all)
none_of all text (Ok keys) is h = tt
none_of all text (Err f) is h = holds_none all f (subst (λ t. IsWrong t f) is h)

-- the fault that was found is why the file holds no keys
pub none_held : (o : Option (List ℕ)) (text : List ℕ) (r : Result Keys KeysFault)
    → IfSome o (λ all. IsWhole longest all text)
    → IfErr r (IsWrong text) → IfSome o (λ all. IfErr r (HoldsNone all))
none_held None text r whole h = tt
none_held (Some all) text r whole h = none_of all text r whole.0 h
