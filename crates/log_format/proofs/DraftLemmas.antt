-- What is put piece by piece is the pieces joined, whatever they are: so a long text among them is never taken apart.
use Rattle.std.proofs.Common.{◌≡◌, ℕ, List, ◌++◌, ap, ◌∙◌, append_assoc}

-- one piece is put behind what was put before
pub put_on : (was is whole piece : List ℕ) → was ≡ whole → is ≡ was ++ piece → is ≡ whole ++ piece
put_on was is whole piece so_far put = put ∙ ap (λ (text : List ℕ). text ++ piece) so_far

-- two pieces are put behind what was there
pub put_two : (was one is first second : List ℕ) → one ≡ was ++ first → is ≡ one ++ second → is ≡ was ++ (first ++ second)
put_two was one is first second put next =
    put_on one is (was ++ first) second put next ∙ append_assoc was first second

-- three are
pub put_three : (was one two is first second third : List ℕ) → one ≡ was ++ first → two ≡ one ++ second → is ≡ two ++ third
    → is ≡ was ++ (first ++ second ++ third)
put_three was one two is first second third put next last =
    put_two was two is (first ++ second) third (put_two was one two first second put next) last
