use Rattle.std.proofs.Common.{◌≡◌, drop}
use Rattle.lra_courier.specs.Tokens.{skip_token}
use Rattle.lra_courier.proofs.token.skip_token.Given as goal

-- the bytes so far are of the token
abbrev pub invariant-loop-place : goal.invariant-loop-place
invariant-loop-place l = skip_token (drop l.place l.text) ≡ skip_token l.text
