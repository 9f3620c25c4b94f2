use Rattle.std.proofs.Common.{◌-◌, ◌*◌, ◌^◌, ◌≤◌, arith}
use Rattle.std.proofs.Math.Nat.{mul-le-mul}
use Rattle.std.proofs.Math.Pow.{pow_mono}
use Rattle.lra_timers.proofs.backoff.pause.Goals as goal

-- the product is at least 2 ^ 64, and the cap is below
pub returns-then-doublings-ge64 : goal.returns-then-doublings-ge64
returns-then-doublings-ge64 c =
    let power : 2 ^ 64 ≤ 2 ^ (c.args.k - 1) = pow_mono {i = 64} (omega arith) in
    let product : 1 * 2 ^ 64 ≤ c.args.base * 2 ^ (c.args.k - 1) = mul-le-mul {n₁ = 1} {n₂ = c.args.base} (omega arith)
    power in
    omega (arith, product, c.ranges.cap.fits)
