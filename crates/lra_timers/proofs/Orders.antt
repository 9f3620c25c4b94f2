-- Deadlines that compare equal, and the order that `IsNotAfter` is.
use Rattle.std.proofs.Common.{◌≡◌, Bool, true, false, ◌&&◌, eqb, refl, sym, arith}
use Rattle.std.proofs.lemmas.Bool.{eqb-true}
use Rattle.lra_timers.specs.declared.deadline.Deadline.{Deadline}
use Rattle.lra_timers.specs.Order.{IsNotAfter}

both_true : (x y : Bool) → true ≡ (x && y) → (x ≡ true) × (y ≡ true)
both_true true y e = (refl, sym e)
both_true false y e = cc

pub deadline_from_fields : (a b : Deadline) → a.moment ≡ b.moment → a.number ≡ b.number → a ≡ b
deadline_from_fields a b moments numbers i = record { moment = moments i; number = numbers i }

-- what `==` says
pub deadline_from_eq : (a b : Deadline) → true ≡ (eqb a.moment b.moment && eqb a.number b.number) → a ≡ b
deadline_from_eq a b e = let both = both_true _ _ e in
    deadline_from_fields a b (eqb-true _ _ both.0) (eqb-true _ _ both.1)

pub IsNotAfter-refl : (a : Deadline) → IsNotAfter a a
IsNotAfter-refl a = record { moment = omega arith; number = λ _. omega arith }

pub IsNotAfter-trans : (a b c : Deadline) → IsNotAfter a b → IsNotAfter b c → IsNotAfter a c
IsNotAfter-trans a b c first second = record {
  moment = omega arith;
  number = λ same. omega (arith, first.number (omega arith), second.number (omega arith));
}

pub IsNotAfter-antisym : (a b : Deadline) → IsNotAfter a b → IsNotAfter b a → a ≡ b
IsNotAfter-antisym a b first second =
    let moments : a.moment ≡ b.moment = omega arith in
    deadline_from_fields a b moments (omega (arith, first.number moments, second.number (sym moments)))
