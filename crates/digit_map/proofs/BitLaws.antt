-- Numbers of bits are small.
use Rattle.std.proofs.Common.{◌≡◌, ℕ, ◌+◌, ◌*◌, ◌^◌, ◌<◌, Bool, true, false, List, [], ◌∷◌, length, suc, arith}
use Rattle.std.proofs.Math.Nat.{pow-suc}
use Rattle.digit_map.specs.Drafts.{bit, bits_by}

pub bit_small : (b : Bool) → bit b < 2 ^ 1
bit_small true = omega arith
bit_small false = omega arith

pub doubled : (low n c : ℕ) → low < 2 ^ n → c < 2 → low * 2 + c < 2 ^ suc n
doubled low n c small few = rw (pow-suc 2 n) (omega arith)

pub bits_small : {X : Type 0} (p : X → Bool) (xs : List X) → bits_by p xs < 2 ^ length xs
unfolding bits_by
bits_small p [] = omega arith
bits_small p (x ∷ xs) = doubled (bits_by p xs) (length xs) (bit (p x)) (bits_small p xs) (bit_small (p x))
