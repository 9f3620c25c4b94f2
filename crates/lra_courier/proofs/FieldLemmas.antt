-- Fields, one after another.
use Rattle.std.proofs.Common.{◌≡◌, List, [], ◌∷◌, ◌++◌, append_assoc}
use Rattle.lra_courier.specs.Callbacks.{Field}

pub two_more : (before between after : List Field) (x y : Field) → between ≡ before ++ x ∷ [] → after ≡ between ++ y
    ∷ []
    → after ≡ before ++ (x ∷ y ∷ [])
two_more before between after x y e f = rw (f, e) (append_assoc before (x ∷ []) (y ∷ []))
