-- The ids of the commands that lines, and the gateway itself, send.
use Rattle.std.proofs.Common.{◌≡◌, ℕ, ◌+◌, ◌≤◌, Bool, true, false, ◌==◌, if◌then◌else◌, refl, arith}
use Rattle.std.proofs.lemmas.Bool.Decides.{nat_tests}
use Rattle.plain_machine.specs.Posting.{numbers, first_number, number_after, id_on}

-- no id is 0: those of lines are greater, and those of the gateway itself begin with 1
pub next_some : (line number : ℕ) → 1 ≤ id_on line number → 1 ≤ id_on line (number_after line number)
next_some line number some = by_test (number + 1 == numbers) where
  by_line : (b : Bool) → (line == 0) ≡ b → 1 ≤ id_on line (if b then 1 else 0)
  by_line true e = omega arith
  by_line false e = let positive : 1 ≤ line = grind (arith, nat_tests) in omega (arith, positive)

  by_test : (b : Bool) → 1 ≤ id_on line (if b then first_number line else number + 1)
  by_test true = by_line (line == 0) refl
  by_test false = omega arith
