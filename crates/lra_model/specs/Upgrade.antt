-- What a new version of the journal keeps of the old one.
use Rattle.std.specs.Prelude.{◌≡◌, ℕ, Bool, true, List}
use Rattle.lra_model.specs.declared.version.Version.TheVariants.{One, Two}
use Rattle.lra_model.specs.History.{History}
use Rattle.lra_model.specs.Rules.{is_legal}

-- every history that is legal in version 1 is legal in version 2 (this project's choice)
abbrev pub VersionTwoKeepsLegal : Type 0
VersionTwoKeepsLegal = (is_address : List ℕ → Bool) (J : History) → is_legal One is_address J ≡ true
    → is_legal Two is_address J ≡ true
