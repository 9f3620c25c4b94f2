-- Streams from which no byte was read, and to which none was written.
use Rattle.std.proofs.Common.{◌≡◌, ℕ, List, [], append-nil, length, take, Option, Some, None, sym, refl, ap, ◌∙◌}
use Rattle.std.proofs.Common.{subst, arith}
use Rattle.std.proofs.lemmas.List.{take_all}
use Rattle.std.specs.Io.KnownBytes.{Keeps, Appends, Consumes}

pub keeps_same : (k : Option (List ℕ)) → Keeps k k
keeps_same None = tt
keeps_same (Some xs) = refl

pub keeps_none_written : (k l : Option (List ℕ)) → Appends k l [] → Keeps k l
keeps_none_written None l h = tt
keeps_none_written (Some xs) None h = h
keeps_none_written (Some xs) (Some ys) h = h ∙ append-nil xs

pub keeps_none_read : (k l : Option (List ℕ)) → Consumes k l [] → Keeps k l
keeps_none_read None l h = tt
keeps_none_read (Some xs) None h = h
keeps_none_read (Some xs) (Some ys) h = sym h

-- all of a text was written
pub whole_sent : (k l : Option (List ℕ)) (text : List ℕ) (count : ℕ) → count ≡ length text
    → Appends k l (take count text) → Appends k l text
whole_sent k l text count e h = subst (Appends k l)
    (ap (λ n. take n text) e ∙ take_all (length text) text (omega arith)) h
