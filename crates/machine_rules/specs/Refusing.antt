-- Why a tick is refused.
use Rattle.std.specs.Prelude.{ℕ, ◌+◌, ◌^◌, ◌||◌, nat_lt, nat_le, if◌then◌else◌, Option, Some, None}
use Rattle.machine_rules.specs.declared.refusal.Refusal.{Refusal}
use Rattle.machine_rules.specs.declared.refusal.Refusal.TheVariants.{TickTooFar, ClockBack}

-- a tick goes on by 1,000 ms at most, and stays below 2^62; it never goes back
abbrev pub tick_refusal : ℕ → ℕ → Option Refusal
tick_refusal now moment =
    if nat_lt (now + 1000) moment || nat_le (2 ^ 62) moment then Some TickTooFar else
    (if nat_lt moment now then Some ClockBack else None)
