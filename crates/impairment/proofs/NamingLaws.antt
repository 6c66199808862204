-- Seeds that are mixed with names stay apart.
use Rattle.std.proofs.Common.{◌≡◌, ℕ, ◌*◌, ◌%◌, ◌^◌, ◌<◌, List, [], ◌∷◌, ◌++◌, All, sym, ap, ◌∙◌, arith, mul_assoc}
use Rattle.std.specs.Prelude.{bit_xor}
use Rattle.std.specs.Int.Bits.{xor_assoc, xor_self, xor_zero_r}
use Rattle.std.proofs.lemmas.Nat.{mul-mod_first, mul-mod_second, xor_lt, xor_comm, mod_below}
use Rattle.std.proofs.lemmas.List.Elements.{All-head, All-tail}
use Rattle.impairment.specs.declared.packet.Way.TheVariants.{In, Out}
use Rattle.impairment.specs.Drawing.{letter_of}
use Rattle.impairment.specs.Naming.{fnv_prime, mixed_with, mixed}

abbrev pub IsByte : ℕ → Type 0
IsByte byte = byte < 256

-- the number by which the prime comes to 1 in 64 bits
abbrev back : ℕ
back = 14886173955864302971

multiplied_back : (n : ℕ) → n < 2 ^ 64 → (n * fnv_prime % 2 ^ 64) * back % 2 ^ 64 ≡ n
multiplied_back n small =
    let once : n * (fnv_prime * back % 2 ^ 64) % 2 ^ 64 ≡ n = omega (arith, small) in
    mul-mod_first (n * fnv_prime) back (2 ^ 64)
    ∙ ap (λ (x : ℕ). x % 2 ^ 64) (mul_assoc n fnv_prime back)
    ∙ sym (mul-mod_second n (fnv_prime * back) (2 ^ 64))
    ∙ once

xor_back : (a b : ℕ) → bit_xor (bit_xor a b) b ≡ a
xor_back a b = xor_assoc a b b ∙ ap (λ (x : ℕ). bit_xor a x) (xor_self b) ∙ xor_zero_r a

fits : (n : ℕ) → n % 2 ^ 64 < 2 ^ 64
fits n = mod_below n (2 ^ 64) (omega arith)

-- what is mixed is told apart by what is multiplied
crossed : (a b : ℕ) → a < 2 ^ 64 → b < 2 ^ 64 → a * fnv_prime % 2 ^ 64 ≡ b * fnv_prime % 2 ^ 64 → a ≡ b
crossed a b small other same = sym (multiplied_back a small) ∙ ap (λ (x : ℕ). x * back % 2 ^ 64) same ∙ multiplied_back b other

wide : (byte : ℕ) → byte < 256 → byte < 2 ^ 64
wide byte small = omega (arith, small)

-- a byte keeps seeds apart, and a seed bytes
seeds_of : (a b byte : ℕ) → a < 2 ^ 64 → b < 2 ^ 64 → byte < 256 → mixed_with a byte ≡ mixed_with b byte → a ≡ b
seeds_of a b byte small other few same =
    let whole = crossed (bit_xor a byte) (bit_xor b byte) (xor_lt 64 a byte small (wide byte few)) (xor_lt 64 b byte other (wide byte few)) same in
    sym (xor_back a byte) ∙ ap (λ (x : ℕ). bit_xor x byte) whole ∙ xor_back b byte

bytes_of : (seed a b : ℕ) → seed < 2 ^ 64 → a < 256 → b < 256 → mixed_with seed a ≡ mixed_with seed b → a ≡ b
bytes_of seed a b small few other same =
    let whole = crossed (bit_xor seed a) (bit_xor seed b) (xor_lt 64 seed a small (wide a few)) (xor_lt 64 seed b small (wide b other)) same in
    sym (xor_back a seed) ∙ ap (λ (x : ℕ). bit_xor x seed) (xor_comm a seed ∙ whole ∙ xor_comm seed b) ∙ xor_back b seed

-- of one name
pub seeds_apart : (name : List ℕ) (a b : ℕ) → All IsByte name → a < 2 ^ 64 → b < 2 ^ 64 → mixed a name ≡ mixed b name → a ≡ b
seeds_apart [] a b bytes small other same = same
seeds_apart (byte ∷ more) a b bytes small other same =
    seeds_of a b byte small other (All-head IsByte byte more bytes)
    (seeds_apart more (mixed_with a byte) (mixed_with b byte) (All-tail IsByte byte more bytes) (fits _) (fits _) same)

-- of one seed, and names that differ in one byte
pub names_apart : (front behind : List ℕ) (seed a b : ℕ) → All IsByte behind → seed < 2 ^ 64 → a < 256 → b < 256
    → mixed seed (front ++ a ∷ behind) ≡ mixed seed (front ++ b ∷ behind) → a ≡ b
names_apart [] behind seed a b bytes small few other same =
    bytes_of seed a b small few other (seeds_apart behind (mixed_with seed a) (mixed_with seed b) bytes (fits _) (fits _) same)
names_apart (byte ∷ front) behind seed a b bytes small few other same =
    names_apart front behind (mixed_with seed byte) a b bytes (fits _) few other same

-- of one seed, and the letters of both ways
pub letters_apart : (seed : ℕ) → seed < 2 ^ 64 → mixed_with seed (letter_of In) ≡ mixed_with seed (letter_of Out) → ⊥
letters_apart seed small same =
    let letters : letter_of In ≡ letter_of Out = bytes_of seed (letter_of In) (letter_of Out) small (omega arith) (omega arith) same in
    omega (arith, letters)
