-- How many addresses a network has.
use Rattle.std.proofs.Common.{ℕ, ◌-◌, ◌^◌, ◌<◌, ◌≤◌, arith}
use Rattle.std.proofs.Math.Pow.{pow-lt, pow_mono}
use Rattle.std.proofs.lemmas.Nat.{pow_pos}

pub size_fits : (bits : ℕ) → 2 ^ (32 - bits) < 2 ^ 64
size_fits bits = pow-lt {i = 32 - bits} {j = 64} (omega arith)

pub size_is_some : (bits : ℕ) → 1 ≤ 2 ^ (32 - bits)
size_is_some bits = pow_pos (32 - bits)

pub size_is_few : (bits : ℕ) → 2 ^ (32 - bits) ≤ 2 ^ 32
size_is_few bits = pow_mono {i = 32 - bits} {j = 32} (omega arith)

pub ruleset sizes = (size_fits, size_is_some, size_is_few)
