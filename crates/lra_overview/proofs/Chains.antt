-- The contents of a page after several texts were added, one after another.
use Rattle.std.proofs.Common.{◌≡◌, ℕ, List, [], ◌∷◌, ◌++◌, Result, Ok, Err, OnOk, append_assoc}
use Rattle.std.proofs.lemmas.List.{append-nil}
use Rattle.lra_overview.specs.Laying.{joined}

pub two : {E : Type 0} (p0 p1 p2 a b : List ℕ) (r : Result (Unit {0}) E)
    → p1 ≡ p0 ++ a → OnOk r (p2 ≡ p1 ++ b)
    → OnOk r (p2 ≡ p0 ++ joined (a ∷ b ∷ []))
two p0 p1 p2 a b (Ok u) h1 h2 = rw (h2, h1) (simp (append_assoc, append-nil))
two p0 p1 p2 a b (Err error) h1 h2 = tt

pub three : {E : Type 0} (p0 p1 p2 p3 a b d : List ℕ) (r : Result (Unit {0}) E)
    → p1 ≡ p0 ++ a → p2 ≡ p1 ++ b → OnOk r (p3 ≡ p2 ++ d)
    → OnOk r (p3 ≡ p0 ++ joined (a ∷ b ∷ d ∷ []))
three p0 p1 p2 p3 a b d (Ok u) h1 h2 h3 = rw (h3, h2, h1) (simp (append_assoc, append-nil))
three p0 p1 p2 p3 a b d (Err error) h1 h2 h3 = tt

pub four : {E : Type 0} (p0 p1 p2 p3 p4 a b d e : List ℕ) (r : Result (Unit {0}) E)
    → p1 ≡ p0 ++ a → p2 ≡ p1 ++ b → p3 ≡ p2 ++ d → OnOk r (p4 ≡ p3 ++ e)
    → OnOk r (p4 ≡ p0 ++ joined (a ∷ b ∷ d ∷ e ∷ []))
four p0 p1 p2 p3 p4 a b d e (Ok u) h1 h2 h3 h4 = rw (h4, h3, h2, h1) (simp (append_assoc, append-nil))
four p0 p1 p2 p3 p4 a b d e (Err error) h1 h2 h3 h4 = tt

pub five : {E : Type 0} (p0 p1 p2 p3 p4 p5 a b d e f : List ℕ) (r : Result (Unit {0}) E)
    → p1 ≡ p0 ++ a → p2 ≡ p1 ++ b → p3 ≡ p2 ++ d → p4 ≡ p3 ++ e → OnOk r (p5 ≡ p4 ++ f)
    → OnOk r (p5 ≡ p0 ++ joined (a ∷ b ∷ d ∷ e ∷ f ∷ []))
five p0 p1 p2 p3 p4 p5 a b d e f (Ok u) h1 h2 h3 h4 h5 = rw (h5, h4, h3, h2, h1) (simp (append_assoc, append-nil))
five p0 p1 p2 p3 p4 p5 a b d e f (Err error) h1 h2 h3 h4 h5 = tt

pub six : {E : Type 0} (p0 p1 p2 p3 p4 p5 p6 a b d e f g : List ℕ) (r : Result (Unit {0}) E)
    → p1 ≡ p0 ++ a → p2 ≡ p1 ++ b → p3 ≡ p2 ++ d → p4 ≡ p3 ++ e → p5 ≡ p4 ++ f → OnOk r (p6 ≡ p5 ++ g)
    → OnOk r (p6 ≡ p0 ++ joined (a ∷ b ∷ d ∷ e ∷ f ∷ g ∷ []))
six p0 p1 p2 p3 p4 p5 p6 a b d e f g (Ok u) h1 h2 h3 h4 h5 h6 = rw (h6, h5, h4, h3, h2, h1)
    (simp (append_assoc, append-nil))
six p0 p1 p2 p3 p4 p5 p6 a b d e f g (Err error) h1 h2 h3 h4 h5 h6 = tt

pub seven : {E : Type 0} (p0 p1 p2 p3 p4 p5 p6 p7 a b d e f g h : List ℕ) (r : Result (Unit {0}) E)
    → p1 ≡ p0 ++ a → p2 ≡ p1 ++ b → p3 ≡ p2 ++ d → p4 ≡ p3 ++ e → p5 ≡ p4 ++ f → p6 ≡ p5 ++ g → OnOk r (p7 ≡ p6 ++ h)
    → OnOk r (p7 ≡ p0 ++ joined (a ∷ b ∷ d ∷ e ∷ f ∷ g ∷ h ∷ []))
seven p0 p1 p2 p3 p4 p5 p6 p7 a b d e f g h (Ok u) h1 h2 h3 h4 h5 h6 h7 =
    rw (h7, h6, h5, h4, h3, h2, h1) (simp (append_assoc, append-nil))
seven p0 p1 p2 p3 p4 p5 p6 p7 a b d e f g h (Err error) h1 h2 h3 h4 h5 h6 h7 = tt
