-- Words of bits: an addition hands carries on as a letter leads from place to place.
use Rattle.std.proofs.Common.{◌≡◌, ℕ, ◌+◌, ◌*◌, ◌^◌, ◌%◌, ◌<◌, Bool, true, false, ◌&&◌, ◌||◌, List, [], ◌∷◌, length, suc, refl, sym, ap, ◌∙◌, arith}
use Rattle.std.specs.Prelude.{bit_and, bit_or, bit_xor, not, nat_le}
use Rattle.std.specs.List.{list_any}
use Rattle.std.proofs.lemmas.Nat.{and_block, or_block, xor_block, xor_lt}
use Rattle.std.proofs.Math.Nat.{pow-suc}
use Rattle.std.proofs.lemmas.Bool.Decides.{nat_tests}
use Rattle.digit_map_bits.specs.Blocks.{bit, bits_by, some_bit}
use Rattle.digit_map.proofs.BitLaws.{bit_small, doubled}

and_bit : (x y : Bool) → bit_and (bit x) (bit y) ≡ bit (x && y)
and_bit true true = refl
and_bit true false = refl
and_bit false true = refl
and_bit false false = refl

pub or_bit : (x y : Bool) → bit_or (bit x) (bit y) ≡ bit (x || y)
or_bit true true = refl
or_bit true false = refl
or_bit false true = refl
or_bit false false = refl

pub bits_and : {X : Type 0} (p q : X → Bool) (xs : List X) → bit_and (bits_by p xs) (bits_by q xs) ≡ bits_by (λ x. p x && q x) xs
unfolding bits_by
bits_and p q [] = refl
bits_and p q (x ∷ xs) =
    and_block 1 (bits_by p xs) (bits_by q xs) (bit (p x)) (bit (q x)) (bit_small (p x)) (bit_small (q x))
    ∙ rw (bits_and p q xs, and_bit (p x) (q x)) refl

pub bits_or : {X : Type 0} (p q : X → Bool) (xs : List X) → bit_or (bits_by p xs) (bits_by q xs) ≡ bits_by (λ x. p x || q x) xs
unfolding bits_by
bits_or p q [] = refl
bits_or p q (x ∷ xs) =
    or_block 1 (bits_by p xs) (bits_by q xs) (bit (p x)) (bit (q x)) (bit_small (p x)) (bit_small (q x))
    ∙ rw (bits_or p q xs, or_bit (p x) (q x)) refl

-- the carry behind values, and the carries into them: `t` hands a carry on, `d` lets one through
abbrev pub handed : {X : Type 0} → (X → Bool) → (X → Bool) → Bool → List X → Bool
handed t d c [] = c
handed t d c (x ∷ xs) = handed t d (t x || (d x && c)) xs

abbrev pub carried_bits : {X : Type 0} → (X → Bool) → (X → Bool) → Bool → List X → ℕ
carried_bits t d c [] = 0
carried_bits t d c (x ∷ xs) = carried_bits t d (t x || (d x && c)) xs * 2 + bit c

-- the lowest bit of the sum of three
abbrev sum_bit : Bool → Bool → Bool → Bool
sum_bit true d c = c
sum_bit false true c = not c
sum_bit false false c = c

sum_step : (t d c : Bool) (a b : ℕ) → (a * 2 + bit (t || d)) + (b * 2 + bit t) + bit c ≡ (a + b + bit (t || (d && c))) * 2 + bit (sum_bit t d c)
sum_step true true true a b = omega arith
sum_step true true false a b = omega arith
sum_step true false true a b = omega arith
sum_step true false false a b = omega arith
sum_step false true true a b = omega arith
sum_step false true false a b = omega arith
sum_step false false true a b = omega arith
sum_step false false false a b = omega arith

xor_step : (t d c : Bool) → bit_xor (bit_xor (bit (sum_bit t d c)) (bit (t || d))) (bit t) ≡ bit c
xor_step true true true = refl
xor_step true true false = refl
xor_step true false true = refl
xor_step true false false = refl
xor_step false true true = refl
xor_step false true false = refl
xor_step false false true = refl
xor_step false false false = refl

shifted : (low high n : ℕ) (c : ℕ) → (low + high * 2 ^ n) * 2 + c ≡ (low * 2 + c) + high * 2 ^ suc n
shifted low high n c = rw (pow-suc 2 n) (omega arith)

-- the carries of an addition
pub carries_are : {X : Type 0} (t d : X → Bool) (c : Bool) (xs : List X)
    → bit_xor (bit_xor (bits_by (λ x. t x || d x) xs + bits_by t xs + bit c) (bits_by (λ x. t x || d x) xs)) (bits_by t xs)
    ≡ carried_bits t d c xs + bit (handed t d c xs) * 2 ^ length xs
unfolding bits_by
carries_are t d true [] = refl
carries_are t d false [] = refl
carries_are t d c (x ∷ xs) =
    let a : ℕ = bits_by (λ y. t y || d y) xs in
    let b : ℕ = bits_by t xs in
    let next : Bool = t x || (d x && c) in
    rw (sum_step (t x) (d x) c a b)
    (ap (λ (n : ℕ). bit_xor n (b * 2 + bit (t x))) (xor_block 1 (a + b + bit next) a (bit (sum_bit (t x) (d x) c)) (bit (t x || d x)) (bit_small (sum_bit (t x) (d x) c)) (bit_small (t x || d x)))
    ∙ xor_block 1 (bit_xor (a + b + bit next) a) b (bit_xor (bit (sum_bit (t x) (d x) c)) (bit (t x || d x))) (bit (t x))
    (xor_lt 1 (bit (sum_bit (t x) (d x) c)) (bit (t x || d x)) (bit_small (sum_bit (t x) (d x) c)) (bit_small (t x || d x))) (bit_small (t x))
    ∙ ap (λ (n : ℕ). bit_xor (bit_xor (a + b + bit next) a) b * 2 ^ 1 + n) (xor_step (t x) (d x) c)
    ∙ ap (λ (n : ℕ). n * 2 + bit c) (carries_are t d next xs)
    ∙ shifted (carried_bits t d next xs) (bit (handed t d next xs)) (length xs) (bit c))

pub carried_small : {X : Type 0} (t d : X → Bool) (c : Bool) (xs : List X) → carried_bits t d c xs < 2 ^ length xs
carried_small t d c [] = omega arith
carried_small t d c (x ∷ xs) =
    doubled (carried_bits t d (t x || (d x && c)) xs) (length xs) (bit c) (carried_small t d (t x || (d x && c)) xs) (bit_small c)

pub low_part : (low : ℕ) (high : Bool) → low < 4294967296 → (low + bit high * 4294967296) % 4294967296 ≡ low
low_part low true small = omega arith
low_part low false small = omega arith

pub high_part : (low : ℕ) (high : Bool) → low < 4294967296 → nat_le 4294967296 (low + bit high * 4294967296) ≡ high
high_part low true small = grind (arith, nat_tests)
high_part low false small = grind (arith, nat_tests)

-- a number has some bit where some value passes
some_step : (n : ℕ) (b rest : Bool) → some_bit n ≡ rest → some_bit (n * 2 + bit b) ≡ (b || rest)
some_step n true rest e = grind (arith, nat_tests)
some_step n false rest e = sym (sym e ∙ grind (arith, nat_tests))

pub some_bits : {X : Type 0} (p : X → Bool) (xs : List X) → some_bit (bits_by p xs) ≡ list_any p xs
unfolding bits_by
some_bits p [] = refl
some_bits p (x ∷ xs) = some_step (bits_by p xs) (p x) (list_any p xs) (some_bits p xs)
