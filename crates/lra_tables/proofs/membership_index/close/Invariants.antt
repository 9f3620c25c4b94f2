use Rattle.std.proofs.Common.{◌≡◌, ◌≤◌, ◌+◌, ◌&&◌, ℕ, false, cond, IsSome, nat_eq, nat_le, nat_lt}
use Rattle.std.specs.HashMap.{spare}
use Rattle.lra_tables.specs.inner.Ranks.{at}
use Rattle.lra_tables.proofs.membership_index.close.Given as goal

abbrev pub invariant-loop-place : goal.invariant-loop-place
invariant-loop-place l = record {
  later : l.rank ≤ l.place;
  moved : (i : ℕ) → at l.numbers l.digest i ≡ cond (nat_le l.rank i && nat_lt i l.place)
      (at l.fn.numbers l.digest (i + 1)) (at l.fn.numbers l.digest i);
  others : (other i : ℕ) → nat_eq l.digest other ≡ false → at l.numbers other i ≡ at l.fn.numbers other i;
  there : IsSome (at l.fn.numbers l.digest l.place);
  room : spare l.fn.numbers ≤ spare l.numbers;
}
