-- A number in hexadecimal digits, from the last one on.
use Rattle.std.proofs.Common.{◌≡◌, ℕ, suc, zero, ◌-◌, ◌*◌, ◌/◌, ◌%◌, ◌^◌, ◌<◌, ◌≤◌, true, false, eqb, List, ◌∷◌, [], refl, arith, subst}
use Rattle.std.specs.Fmt.{digits, digit_glyph, digits_onto}
use Rattle.std.proofs.Math.Nat.{pow-suc}
use Rattle.std.proofs.lemmas.Bool.Decides.{nat_tests}
use Rattle.connections.specs.Numbers.{number_text}

-- the digits of a number with so many digits behind it already
pub digits_before : ℕ → ℕ → List ℕ → List ℕ
digits_before size n behind = digits_onto (64 - size) 16 true n behind

pub before_none : (n : ℕ) → digits_before 0 n [] ≡ number_text n
unfolding digits_before number_text digits
before_none n = refl

step_onto : (k n : ℕ) (behind : List ℕ) → 16 ≤ n → digits_onto (suc k) 16 true n behind ≡ digits_onto k 16 true (n / 16) (digit_glyph true (n % 16) ∷ behind)
step_onto k n behind large = let e : eqb (n / 16) 0 ≡ false = grind (arith, nat_tests) in rw e refl

last_onto : (k n : ℕ) (behind : List ℕ) → n < 16 → digits_onto (suc k) 16 true n behind ≡ digit_glyph true n ∷ behind
last_onto k n behind small =
    let e : eqb (n / 16) 0 ≡ true = grind (arith, nat_tests) in
    let m : n % 16 ≡ n = omega arith in
    rw (e, m) refl

left_over : (size : ℕ) → size < 8 → 64 - size ≡ suc (64 - suc size)
left_over size few = omega arith

pub one_before : (size n : ℕ) (behind : List ℕ) → size < 8 → 16 ≤ n
    → digits_before (suc size) (n / 16) (digit_glyph true (n % 16) ∷ behind) ≡ digits_before size n behind
unfolding digits_before
one_before size n behind few large = rw (left_over size few, step_onto (64 - suc size) n behind large) refl

pub first_before : (size n : ℕ) (behind : List ℕ) → size < 8 → n < 16 → digit_glyph true n ∷ behind ≡ digits_before size n behind
unfolding digits_before
first_before size n behind few small = rw (left_over size few, last_onto (64 - suc size) n behind small) refl

-- a number of 32 bits has at most 8 digits
pub room_before : (size n : ℕ) → size < 8 → n < 16 ^ (8 - size) → 16 ≤ n → size < 7
room_before size n few small large = by_left (8 - size) refl small where
  by_left : (left : ℕ) → 8 - size ≡ left → n < 16 ^ left → size < 7
  by_left zero e h = absurd (omega arith)
  by_left (suc zero) e h = absurd (omega arith)
  by_left (suc (suc left)) e h = omega arith

pub smaller_before : (size n : ℕ) → size < 7 → n < 16 ^ (8 - size) → n / 16 < 16 ^ (8 - suc size)
smaller_before size n few small =
    let e : 8 - size ≡ suc (8 - suc size) = omega arith in
    let p : 16 ^ suc (8 - suc size) ≡ 16 * 16 ^ (8 - suc size) = omega (arith, pow-suc 16 (8 - suc size)) in
    let h : n < 16 ^ suc (8 - suc size) = subst (λ k. n < 16 ^ k) e small in
    omega (arith, h, p)
