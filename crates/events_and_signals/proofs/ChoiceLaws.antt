-- The first of a list that passes a test.
use Rattle.std.specs.Prelude.{◌≡◌, ◌++◌, ◌∷◌, [], ◌||◌, List, Bool, true, false, Some, None, find, refl}
use Rattle.std.specs.List.{list_any}
use Rattle.std.proofs.Common.{rules}

or_left : (x y : Bool) → (x || y) ≡ false → x ≡ false
or_left true y e = e
or_left false y e = refl

or_right : (x y : Bool) → (x || y) ≡ false → y ≡ false
or_right true y e = search rules
or_right false y e = e

-- what none passes isn't found
pub none_found : {X : Type 0} (test : X → Bool) → (all : List X) → list_any test all ≡ false → find test all ≡ None
none_found test [] none = refl
none_found test (x ∷ xs) none =
    rw (or_left (test x) (list_any test xs) none) (none_found test xs (or_right (test x) (list_any test xs) none))

-- behind such a list the first is found that passes
pub first_found : {X : Type 0} (test : X → Bool) → (front rest : List X) → (x : X) → list_any test front ≡ false
    → test x ≡ true → find test (front ++ x ∷ rest) ≡ Some x
first_found test [] rest x none passes = rw passes refl
first_found test (y ∷ ys) rest x none passes =
    rw (or_left (test y) (list_any test ys) none) (first_found test ys rest x (or_right (test y) (list_any test ys) none) passes)
