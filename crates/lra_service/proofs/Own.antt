-- An address that is no base has no site of its own.
use Rattle.std.proofs.Common.{◌≡◌, Bool, true, false, IsFalse}

pub never : {P : Type 0} (b : Bool) → b ≡ true → IsFalse b → P
never b own other = absurd (cc (own, other))
