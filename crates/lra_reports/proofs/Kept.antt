-- An input that is kept in memory, where a search of this crate finds it.
use Rattle.std.proofs.Common.{◌≡◌, ◌⊎◌, List, ℕ, Option}
use Rattle.std.specs.Prelude.{IfSome, IfErr, Result}
use Rattle.lra_audits.specs.declared.fault.RunFault.{RunFault}
use Rattle.lra_audits.specs.declared.fault.RunFault.TheVariants as fault
use Rattle.lra_audits.specs.Faults.{IsOfInput, IsMeasured}
use Rattle.lra_audits.specs.Taking.{IsCounted}
use Rattle.lra_audits.proofs.Pieces as pieces

pub takes_in_memory : {X : Type 0} (r : Result X RunFault) → IfErr r (λ f. IsOfInput f ⊎ (f ≡ fault.Memory))
    → IfErr r IsOfInput
takes_in_memory r h = pieces.takes_in_memory r h

pub measured_in_memory : {X : Type 0} (r : Result X RunFault) (before : Option (List ℕ)) → IfErr r IsOfInput
    → IfSome before (IsCounted r) → IfSome before (IsMeasured r)
measured_in_memory r before h m = pieces.measured_in_memory r before h m
