-- A number read digit by digit.
use Rattle.std.proofs.Common.{Bool, true, false, ◌&&◌, refl, ◌≡◌, ℕ, ◌+◌, ◌-◌, ◌*◌, ◌^◌, ◌<◌, ◌≤◌, List, length, get_or, take, arith, add-one, lit<, leb}
use Rattle.std.specs.List.{list_all}
use Rattle.std.specs.Str.Parse.{digits_value}
use Rattle.std.specs.Char.{digit_value}
use Rattle.std.proofs.Math.Nat.{pow-le-pow_right, pow-suc}
use Rattle.std.proofs.lemmas.Int.Digits.{digits_value_more}
use Rattle.std.proofs.lemmas.Bool.Decides.{nat_tests}
use Rattle.std.specs.Char.{is_ascii_digit}
use Rattle.std.proofs.lemmas.Bool.{leb-true}
use Rattle.std.proofs.lemmas.List.Sums.{AllPass-from_list_all}
use Rattle.mg_bytes.specs.Numbers.{is_decimal}

pub both_true : (x y : Bool) → (x && y) ≡ true → (x ≡ true) × (y ≡ true)
both_true true y e = (refl, e)
both_true false y e = absurd cc

-- what one more digit makes of the number so far
pub record Step (text : List ℕ) (i n d : ℕ) : Type 0 where
  pub fits : n * 10 + 9 < 2 ^ 64
  pub digit : d ≤ 9
  pub value : n * 10 + d ≡ digits_value 10 (take (i + 1) text)
  pub below : n * 10 + d < 10 ^ (i + 1)

pub step : (text : List ℕ) (i n d : ℕ) → is_decimal text ≡ true → i < length text → n < 10 ^ i → n ≡ digits_value 10 (take i text) → d ≡ get_or text i 0 - 48 → Step text i n d
step text i n d is inside below value digit =
    let parts : (leb 1 (length text) && leb (length text) 18 ≡ true) × (list_all is_ascii_digit text ≡ true) = both_true _ _ is in
    let sizes : (leb 1 (length text) ≡ true) × (leb (length text) 18 ≡ true) = both_true _ _ parts.0 in
    let short : length text ≤ 18 = leb-true (length text) 18 sizes.1 in
    let here : is_ascii_digit (get_or text i 0) ≡ true = AllPass-from_list_all is_ascii_digit text parts.1 i 0 inside in
    let bound : 10 ^ i ≤ 10 ^ 17 = pow-le-pow_right {n = 10} (lit< tt) {i = i} {j = 17} (omega arith) in
    let small : d ≤ 9 = grind (arith, nat_tests) in
    let same : digit_value (get_or text i 0) ≡ d = grind (arith, nat_tests) in
    record {
      fits = omega arith;
      digit = small;
      value = omega (arith, digits_value_more 10 text i inside);
      below = rw add-one (omega (arith, pow-suc 10 i));
    }
