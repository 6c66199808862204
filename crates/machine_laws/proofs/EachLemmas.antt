-- What holds of each element, and of one of them, by recursion.
use Rattle.std.proofs.Common.{◌≡◌, Option, Some, None, true, List, [], ◌∷◌, ◌++◌, map, inl, inr, sym, subst, refl, arith, append-nil, append_assoc}
use Rattle.std.specs.List.{slice_index_or}
use Rattle.std.specs.Prelude.{is_none, flat_map, slice_get, ℕ, zero, suc, ◌<◌, length, All, Any, IfSome}
use Rattle.machine_laws.specs.Saying.{OneOf}
use Rattle.std.proofs.lemmas.List.Elements.{All-nil, All-cons, All-head, All-tail}

abbrev pub Each : {X : Type 0} → (X → Type 0) → List X → Type 0
Each P [] = Unit {0}
Each P (x ∷ xs) = P x × Each P xs

pub each_both : {X : Type 0} (P : X → Type 0) (xs ys : List X) → Each P xs → Each P ys → Each P (xs ++ ys)
each_both P [] ys one two = two
each_both P (x ∷ xs) ys one two = (one.0, each_both P xs ys one.1 two)

pub each_push : {X : Type 0} (P : X → Type 0) (xs : List X) (y : X) → Each P xs → P y → Each P (xs ++ y ∷ [])
each_push P xs y all is = each_both P xs (y ∷ []) all (is, tt)

-- of each element and all before it, behind those
abbrev pub EachAfter : {X : Type 0} → (List X → X → Type 0) → List X → List X → Type 0
EachAfter P before [] = Unit {0}
EachAfter P before (x ∷ xs) = P before x × EachAfter P (before ++ x ∷ []) xs

pub each_after_push : {X : Type 0} (P : List X → X → Type 0) (before xs : List X) (y : X) → EachAfter P before xs → P (before ++ xs) y → EachAfter P before (xs ++ y ∷ [])
each_after_push {X} P before [] y all is = (subst (λ (l : List X). P l y) (append-nil before) is, tt)
each_after_push {X} P before (x ∷ xs) y all is =
    (all.0, each_after_push P (before ++ x ∷ []) xs y all.1 (subst (λ (l : List X). P l y) (sym (append_assoc before (x ∷ []) xs)) is))

pub each_after_at : {X : Type 0} (P : List X → X → Type 0) (before some : List X) (y : X) (more : List X) → EachAfter P before (some ++ y ∷ more) → P (before ++ some) y
each_after_at {X} P before [] y more all = subst (λ (l : List X). P l y) (sym (append-nil before)) all.0
each_after_at {X} P before (x ∷ some) y more all =
    subst (λ (l : List X). P l y) (append_assoc before (x ∷ []) some) (each_after_at P (before ++ x ∷ []) some y more all.1)

pub each_front : {X : Type 0} (P : X → Type 0) (xs ys : List X) → Each P (xs ++ ys) → Each P xs
each_front P [] ys all = tt
each_front P (x ∷ xs) ys all = (all.0, each_front P xs ys all.1)

pub each_back : {X : Type 0} (P : X → Type 0) (xs ys : List X) → Each P (xs ++ ys) → Each P ys
each_back P [] ys all = all
each_back P (x ∷ xs) ys all = each_back P xs ys all.1

pub each_weaker : {X : Type 0} (P Q : X → Type 0) → ((x : X) → P x → Q x) → (xs : List X) → Each P xs → Each Q xs
each_weaker P Q step [] all = tt
each_weaker P Q step (x ∷ xs) all = (step x all.0, each_weaker P Q step xs all.1)

pub each_mapped : {X Y : Type 0} (P : Y → Type 0) (f : X → Y) (xs : List X) → Each (λ x. P (f x)) xs → Each P (map f xs)
each_mapped P f [] all = tt
each_mapped P f (x ∷ xs) all = (all.0, each_mapped P f xs all.1)

pub each_unmapped : {X Y : Type 0} (P : Y → Type 0) (f : X → Y) (xs : List X) → Each P (map f xs) → Each (λ x. P (f x)) xs
each_unmapped P f [] all = tt
each_unmapped P f (x ∷ xs) all = (all.0, each_unmapped P f xs all.1)

pub each_flat : {X Y : Type 0} (P : Y → Type 0) (f : X → List Y) (xs : List X) → Each (λ x. Each P (f x)) xs → Each P (flat_map f xs)
each_flat P f [] all = tt
each_flat P f (x ∷ xs) all = each_both P (f x) (flat_map f xs) all.0 (each_flat P f xs all.1)

pub each_unflat : {X Y : Type 0} (P : Y → Type 0) (f : X → List Y) (xs : List X) → Each P (flat_map f xs) → Each (λ x. Each P (f x)) xs
each_unflat P f [] all = tt
each_unflat P f (x ∷ xs) all = (each_front P (f x) (flat_map f xs) all, each_unflat P f xs (each_back P (f x) (flat_map f xs) all))

pub one_before : {X : Type 0} (P : X → Type 0) (xs ys : List X) → OneOf P xs → OneOf P (xs ++ ys)
one_before P [] ys one = absurd one
one_before P (x ∷ xs) ys (inl is) = inl is
one_before P (x ∷ xs) ys (inr one) = inr (one_before P xs ys one)

pub one_behind : {X : Type 0} (P : X → Type 0) (xs ys : List X) → OneOf P ys → OneOf P (xs ++ ys)
one_behind P [] ys one = one
one_behind P (x ∷ xs) ys one = inr (one_behind P xs ys one)

pub one_weaker : {X : Type 0} (P Q : X → Type 0) → ((x : X) → P x → Q x) → (xs : List X) → OneOf P xs → OneOf Q xs
one_weaker P Q step [] one = absurd one
one_weaker P Q step (x ∷ xs) (inl is) = inl (step x is)
one_weaker P Q step (x ∷ xs) (inr one) = inr (one_weaker P Q step xs one)

-- of what holds of each, it holds of the one
pub one_of_each : {X : Type 0} (P Q : X → Type 0) (xs : List X) → Each P xs → OneOf Q xs → OneOf (λ x. P x × Q x) xs
one_of_each P Q [] all one = absurd one
one_of_each P Q (x ∷ xs) all (inl is) = inl (all.0, is)
one_of_each P Q (x ∷ xs) all (inr one) = inr (one_of_each P Q xs all.1 one)

pub one_to : {X : Type 0} (P : X → Type 0) (R : Type 0) → ((x : X) → P x → R) → (xs : List X) → OneOf P xs → R
one_to P R step [] one = absurd one
one_to P R step (x ∷ xs) (inl is) = step x is
one_to P R step (x ∷ xs) (inr one) = one_to P R step xs one

pub all_from_each : {X : Type 0} (P : X → Type 0) (xs : List X) → Each P xs → All P xs
all_from_each P [] all = All-nil P
all_from_each P (x ∷ xs) all = All-cons P x xs all.0 (all_from_each P xs all.1)

pub each_at : {X : Type 0} (P : X → Type 0) (xs : List X) (place : ℕ) → Each P xs → IfSome (slice_get xs place) P
each_at P [] place all = tt
each_at P (x ∷ xs) zero all = all.0
each_at P (x ∷ xs) (suc place) all = each_at P xs place all.1

pub each_from_all : {X : Type 0} (P : X → Type 0) (xs : List X) → All P xs → Each P xs
each_from_all P [] all = tt
each_from_all P (x ∷ xs) all = (All-head P x xs all, each_from_all P xs (All-tail P x xs all))

pub any_from_one : {X : Type 0} (P : X → Type 0) (xs : List X) → OneOf P xs → Any P xs
any_from_one P [] one = absurd one
any_from_one P (x ∷ xs) (inl is) = (zero, x, omega arith, refl, is)
any_from_one P (x ∷ xs) (inr one) = further (any_from_one P xs one) where
  further : Any P xs → Any P (x ∷ xs)
  further any = (suc any.0, any.1, (let less : any.0 < length xs = any.2 in omega arith), any.3, any.4)

pub one_from_any : {X : Type 0} (P : X → Type 0) (xs : List X) → Any P xs → OneOf P xs
one_from_any P xs any = from P xs any.0 any.1 any.2 any.3 any.4 where
  from : {X : Type 0} (P : X → Type 0) (xs : List X) (place : ℕ) (x : X) → place < length xs → slice_index_or xs place x ≡ x → P x → OneOf P xs
  from P [] place x less at is = absurd (omega arith)
  from P (y ∷ xs) zero x less at is = inl (subst P (sym at) is)
  from P (y ∷ xs) (suc place) x less at is = inr (from P xs place x (omega (arith, less)) at is)

pub one_mapped : {X Y : Type 0} (P : Y → Type 0) (f : X → Y) (xs : List X) → OneOf (λ x. P (f x)) xs → OneOf P (map f xs)
one_mapped P f [] one = absurd one
one_mapped P f (x ∷ xs) (inl is) = inl is
one_mapped P f (x ∷ xs) (inr one) = inr (one_mapped P f xs one)

pub one_unmapped : {X Y : Type 0} (P : Y → Type 0) (f : X → Y) (xs : List X) → OneOf P (map f xs) → OneOf (λ x. P (f x)) xs
one_unmapped P f [] one = absurd one
one_unmapped P f (x ∷ xs) (inl is) = inl is
one_unmapped P f (x ∷ xs) (inr one) = inr (one_unmapped P f xs one)

pub is_none-None : {A : Type 0} (x : Option A) → is_none x ≡ true → x ≡ None
is_none-None None e = refl
is_none-None (Some x) e = absurd cc
