-- How many elements of a list pass a test.
use Rattle.std.proofs.Common.{ℕ, ◌≤◌, Bool, List, filter, length, sym, subst}
use Rattle.std.proofs.lemmas.List.Sums.{length-filter, count_by-le-length}

pub filter_le : {X : Type 0} (p : X → Bool) (xs : List X) → length (filter p xs) ≤ length xs
filter_le p xs = subst (λ (n : ℕ). n ≤ length xs) (sym (length-filter p xs)) (count_by-le-length p xs)
