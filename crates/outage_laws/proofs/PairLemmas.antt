-- Pairs of a list by recursion, and lives by their numbers.
use Rattle.std.proofs.Common.{◌≡◌, ◌≢◌, ℕ, zero, suc, ◌<◌, List, [], ◌∷◌, ◌++◌, length, inl, inr, refl, ap, arith}
use Rattle.std.specs.Prelude.{AllPairs}
use Rattle.std.specs.List.{slice_index_or}
use Rattle.machine_laws.specs.Saying.{OneOf}
use Rattle.machine_laws.proofs.EachLemmas.{Each, all_from_each, each_from_all, each_weaker}
use Rattle.outage_laws.specs.Lives.{Life}
use Rattle.outage_laws.specs.Apart.{OfLife}

abbrev pub Pairs : {X : Type 0} → (X → X → Type 0) → List X → Type 0
Pairs R [] = Unit {0}
Pairs R (x ∷ xs) = Each (R x) xs × Pairs R xs

pub pairs_from : {X : Type 0} (R : X → X → Type 0) (xs : List X) → AllPairs R xs → Pairs R xs
pairs_from R [] apart = tt
pairs_from R (x ∷ xs) apart = (
  each_from_all (R x) xs (λ i d less. apart zero (suc i) d (omega arith) (omega (arith, less))),
  pairs_from R xs (λ i j d less within. apart (suc i) (suc j) d (omega (arith, less)) (omega (arith, within))),
)

module _ {X : Type 0} (R : X → X → Type 0) where
  pub pairs_to : (xs : List X) → Pairs R xs → AllPairs R xs
  pairs_to [] pairs = λ i j d less within. absurd (omega (arith, within))
  pairs_to (x ∷ xs) pairs = by_place (pairs_to xs pairs.1) where
    by_place : AllPairs R xs → (i j : ℕ) (d : X) → i < j → j < length (x ∷ xs) → R (slice_index_or (x ∷ xs) i d) (slice_index_or (x ∷ xs) j d)
    by_place rest zero zero d less within = absurd (omega (arith, less))
    by_place rest zero (suc j) d less within = all_from_each (R x) xs pairs.0 j d (omega (arith, within))
    by_place rest (suc i) zero d less within = absurd (omega (arith, less))
    by_place rest (suc i) (suc j) d less within = rest i j d (omega (arith, less)) (omega (arith, within))

  -- one more behind all others
  push_each : (x y : X) (ys : List X) → R x y → Each (R x) ys → Each (R x) (ys ++ y ∷ [])
  push_each x y [] is each = (is, tt)
  push_each x y (z ∷ ys) is each = (each.0, push_each x y ys is each.1)

  pub pairs_push : (xs : List X) (y : X) → Pairs R xs → Each (λ x. R x y) xs → Pairs R (xs ++ y ∷ [])
  pairs_push [] y pairs all = (tt, tt)
  pairs_push (x ∷ xs) y pairs all = (push_each x y xs all.0 pairs.0, pairs_push xs y pairs.1 all.1)

  -- the last one goes on, and what stood to it stands to what it becomes
  last_each : (x y z : X) (ys : List X) → (R x y → R x z) → Each (R x) (ys ++ y ∷ []) → Each (R x) (ys ++ z ∷ [])
  last_each x y z [] step each = (step each.0, tt)
  last_each x y z (w ∷ ys) step each = (each.0, last_each x y z ys step each.1)

  pub pairs_last : (xs : List X) (y z : X) → ((x : X) → R x y → R x z) → Pairs R (xs ++ y ∷ []) → Pairs R (xs ++ z ∷ [])
  pairs_last [] y z step pairs = (tt, tt)
  pairs_last (x ∷ xs) y z step pairs = (last_each x y z xs (step x) pairs.0, pairs_last xs y z step pairs.1)

-- what holds of each, and of each two, gives what holds of each two
module _ {X : Type 0} (P : X → Type 0) (R S : X → X → Type 0) (step : (x y : X) → P x → P y → R x y → S x y) where
  with_each : (x : X) (ys : List X) → P x → Each P ys → Each (R x) ys → Each (S x) ys
  with_each x [] is all each = tt
  with_each x (y ∷ ys) is all each = (step x y is all.0 each.0, with_each x ys is all.1 each.1)

  pub pairs_with : (xs : List X) → Each P xs → Pairs R xs → Pairs S xs
  pairs_with [] all pairs = tt
  pairs_with (x ∷ xs) all pairs = (with_each x xs all.0 all.1 pairs.0, pairs_with xs all.1 pairs.1)

module _ {X : Type 0} (R S : X → X → Type 0) where
  both_each : (x : X) (ys : List X) → Each (R x) ys → Each (S x) ys → Each (λ y. R x y × S x y) ys
  both_each x [] one two = tt
  both_each x (y ∷ ys) one two = ((one.0, two.0), both_each x ys one.1 two.1)

  pub pairs_both : (xs : List X) → Pairs R xs → Pairs S xs → Pairs (λ x y. R x y × S x y) xs
  pairs_both [] one two = tt
  pairs_both (x ∷ xs) one two = (both_each x xs one.0 two.0, pairs_both xs one.1 two.1)

pub each_last : {X : Type 0} (P Q : X → Type 0) (xs : List X) (y z : X) → ((x : X) → P x → Q x) → (P y → Q z) → Each P (xs ++ y ∷ []) → Each Q (xs ++ z ∷ [])
each_last P Q [] y z others last all = (last all.0, tt)
each_last P Q (x ∷ xs) y z others last all = (others x all.0, each_last P Q xs y z others last all.1)

-- each is one of them
pub each_among : {X : Type 0} (xs : List X) → Each (λ x. OneOf (λ y. y ≡ x) xs) xs
each_among [] = tt
each_among (x ∷ xs) = (inl refl, each_weaker (λ y. OneOf (λ z. z ≡ y) xs) (λ y. OneOf (λ z. z ≡ y) (x ∷ xs)) (λ y is. inr is) xs (each_among xs))

-- One life

pub of_life_before : (P : Life → Type 0) (lives more : List Life) (number : ℕ) → OfLife P lives number → OfLife P (lives ++ more) number
of_life_before P [] more number is = absurd is
of_life_before P (life ∷ lives) more zero is = is
of_life_before P (life ∷ lives) more (suc number) is = of_life_before P lives more number is

pub of_last : (P : Life → Type 0) (over : List Life) (life : Life) → P life → OfLife P (over ++ life ∷ []) (length over)
of_last P [] life is = is
of_last P (one ∷ over) life is = of_last P over life is

-- the last one goes on
pub of_life_on : (P Q : Life → Type 0) (over : List Life) (life next : Life) (number : ℕ) → ((one : Life) → P one → Q one) → (P life → Q next) → OfLife P (over ++ life ∷ []) number
    → OfLife Q (over ++ next ∷ []) number
of_life_on P Q [] life next zero others last is = last is
of_life_on P Q [] life next (suc number) others last is = absurd is
of_life_on P Q (one ∷ over) life next zero others last is = others one is
of_life_on P Q (one ∷ over) life next (suc number) others last is = of_life_on P Q over life next number others last is

pub of_life_weaker : (P Q : Life → Type 0) (lives : List Life) (number : ℕ) → ((life : Life) → P life → Q life) → OfLife P lives number → OfLife Q lives number
of_life_weaker P Q [] number step is = absurd is
of_life_weaker P Q (life ∷ lives) zero step is = step life is
of_life_weaker P Q (life ∷ lives) (suc number) step is = of_life_weaker P Q lives number step is

pub of_life_with : (R P : Life → Type 0) (lives : List Life) (number : ℕ) → Each R lives → OfLife P lives number → OfLife (λ (life : Life). R life × P life) lives number
of_life_with R P [] number all is = absurd is
of_life_with R P (life ∷ lives) zero all is = (all.0, is)
of_life_with R P (life ∷ lives) (suc number) all is = of_life_with R P lives number all.1 is

pub of_both : (P Q : Life → Type 0) (lives : List Life) (number : ℕ) → OfLife P lives number → OfLife Q lives number → OfLife (λ (life : Life). P life × Q life) lives number
of_both P Q [] number one two = absurd one
of_both P Q (life ∷ lives) zero one two = (one, two)
of_both P Q (life ∷ lives) (suc number) one two = of_both P Q lives number one two

pub of_life_to : (P : Life → Type 0) (C : Type 0) (lives : List Life) (number : ℕ) → ((life : Life) → P life → C) → OfLife P lives number → C
of_life_to P C [] number step is = absurd is
of_life_to P C (life ∷ lives) zero step is = step life is
of_life_to P C (life ∷ lives) (suc number) step is = of_life_to P C lives number step is

pub of_life_each : {X : Type 0} (P : Life → X → Type 0) (xs : List X) (lives : List Life) (number : ℕ) → OfLife (λ (life : Life). Each (P life) xs) lives number
    → Each (λ x. OfLife (λ (life : Life). P life x) lives number) xs
of_life_each P xs [] number is = absurd is
of_life_each P xs (life ∷ lives) zero is = is
of_life_each P xs (life ∷ lives) (suc number) is = of_life_each P xs lives number is

-- of one that isn't the last
pub of_earlier : (P : Life → Type 0) (over : List Life) (life next : Life) (number : ℕ) → number ≢ length over → OfLife P (over ++ life ∷ []) number → OfLife P (over ++ next ∷ []) number
of_earlier P [] life next zero other is = absurd (other refl)
of_earlier P [] life next (suc number) other is = absurd is
of_earlier P (one ∷ over) life next zero other is = is
of_earlier P (one ∷ over) life next (suc number) other is = of_earlier P over life next number (λ same. other (ap suc same)) is

-- there is none past the last
pub of_life_within : (P : Life → Type 0) (lives : List Life) (number : ℕ) → OfLife P lives number → number < length lives
of_life_within P [] number is = absurd is
of_life_within P (life ∷ lives) zero is = omega arith
of_life_within P (life ∷ lives) (suc number) is = let less = of_life_within P lives number is in omega (arith, less)

-- Two lives

pub of_pair : (R : Life → Life → Type 0) (P Q : Life → Type 0) (C : Type 0) (lives : List Life) (i j : ℕ) → ((earlier later : Life) → R earlier later → P earlier → Q later → C)
    → Pairs R lives → i < j → OfLife P lives i → OfLife Q lives j → C
of_pair R P Q C [] i j step pairs less one two = absurd one
of_pair R P Q C (life ∷ lives) zero zero step pairs less one two = absurd (omega (arith, less))
of_pair R P Q C (life ∷ lives) (suc i) zero step pairs less one two = absurd (omega (arith, less))
of_pair R P Q C (life ∷ lives) zero (suc j) step pairs less one two =
    of_life_to (λ (later : Life). R life later × Q later) C lives j (λ later both. step life later both.0 one both.1) (of_life_with (R life) Q lives j pairs.0 two)
of_pair R P Q C (life ∷ lives) (suc i) (suc j) step pairs less one two = of_pair R P Q C lives i j step pairs.1 (omega (arith, less)) one two
