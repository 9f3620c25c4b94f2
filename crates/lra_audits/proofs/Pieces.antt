-- An input that is given to something piece by piece.
use Rattle.std.proofs.Common.{◌≡◌, ◌⊎◌, ℕ, ◌+◌, ◌^◌, ◌<◌, List, ◌++◌, length, Option, Some, None, ap, inl, inr, sym}
use Rattle.std.proofs.Common.{subst, ◌∙◌, append_assoc, arith, length-append}
use Rattle.std.specs.Prelude.{IfSome, IfErr, IsErrAnd, Result, Ok, Err}
use Rattle.std.specs.Io.KnownBytes.{Consumes}
use Rattle.lra_auditor.specs.Feeding.{Feed, StandsFor}
use Rattle.lra_audits.specs.declared.fault.RunFault.{RunFault}
use Rattle.lra_audits.specs.declared.fault.RunFault.TheVariants as fault
use Rattle.lra_audits.specs.Faults.{IsOfInput, IsMeasured, IsOfOutput}
use Rattle.lra_audits.specs.inner.Fed.{IsFedOn}
use Rattle.lra_audits.specs.Taking.{IsCounted}

-- the taker has what the reader gave, and so many more bytes may come
pub record IsGiven {T : Type 0} (took : T → T → List ℕ → Type 0) (count : T → ℕ) (before now : Option (List ℕ))
    (first taker : T) (left : ℕ) : Type 0 where
  pub bytes : List ℕ
  pub consumed : Consumes before now bytes
  pub taken : took first taker bytes
  pub counted : length bytes + left ≡ 2 ^ 30
  pub grown : count taker ≡ count first + length bytes

-- a reader that gave more bytes than so many had more
pub consumed_long : (a b : Option (List ℕ)) (bs : List ℕ) (n : ℕ) → Consumes a b bs → n < length bs
    → IfSome a (λ all. n < length all)
consumed_long None b bs n h lt = tt
consumed_long (Some xs) None bs n h lt = absurd h
consumed_long (Some xs) (Some ys) bs n h lt = let e : length xs ≡ length bs + length ys = ap length h
    ∙ length-append bs ys in omega arith

-- an auditor that is fed these bytes, and then those
pub IsFedOn-trans : (a b c : Feed) (xs ys : List ℕ) → IsFedOn a b xs → IsFedOn b c ys → IsFedOn a c (xs ++ ys)
IsFedOn-trans a b c xs ys first next = λ front h. subst (StandsFor c) (append_assoc front xs ys)
    (next (front ++ xs) (first front h))

-- what takes an input in memory has no other fault than reading
pub takes_in_memory : {X : Type 0} (r : Result X RunFault) → IfErr r (λ f. IsOfInput f ⊎ (f ≡ fault.Memory))
    → IfErr r IsOfInput
takes_in_memory (Ok x) h = tt
takes_in_memory (Err f) (inl h) = h
takes_in_memory (Err f) (inr h) = subst IsOfInput (sym h) tt

-- and is measured by the bytes that it counts
pub measured_in_memory : {X : Type 0} (r : Result X RunFault) (before : Option (List ℕ)) → IfErr r IsOfInput
    → IfSome before (IsCounted r) → IfSome before (IsMeasured r)
measured_in_memory r None h m = tt
measured_in_memory (Ok x) (Some all) h m = m
measured_in_memory (Err fault.Read) (Some all) h m = tt
measured_in_memory (Err fault.Memory) (Some all) h m = tt
measured_in_memory (Err fault.TooLong) (Some all) h m = m
measured_in_memory (Err fault.Write) (Some all) h m = absurd h
measured_in_memory (Err fault.Changed) (Some all) h m = absurd h
measured_in_memory (Err (fault.Line n)) (Some all) h m = absurd h

-- a taker's own fault says nothing of the input's length
pub counted_by_taker : {X : Type 0} (r : Result X RunFault) (before : Option (List ℕ)) (f : RunFault)
    → IsErrAnd r (λ g. g ≡ f) → IsOfOutput f → IfSome before (IsCounted r)
counted_by_taker (Ok x) before f e h = absurd e
counted_by_taker (Err g) None f e h = tt
counted_by_taker {X = X} (Err g) (Some all) fault.Write e h = subst (λ (x : RunFault). IsCounted {X = X} (Err x) all)
    (sym e) tt
counted_by_taker {X = X} (Err g) (Some all) fault.Memory e h = subst (λ (x : RunFault). IsCounted {X = X} (Err x) all)
    (sym e) tt
counted_by_taker (Err g) (Some all) fault.Read e h = absurd h
counted_by_taker (Err g) (Some all) fault.TooLong e h = absurd h
counted_by_taker (Err g) (Some all) fault.Changed e h = absurd h
counted_by_taker (Err g) (Some all) (fault.Line n) e h = absurd h

-- what holds of known bytes
pub known_weaker : (known : Option (List ℕ)) (P Q : List ℕ → Type 0) → ((all : List ℕ) → P all → Q all) → IfSome known P
    → IfSome known Q
known_weaker None P Q f h = tt
known_weaker (Some all) P Q f h = f all h
