-- Observed list for each line, and what is done to each.
use Rattle.std.proofs.Common.{◌≡◌, ℕ, zero, suc, ◌+◌, ◌<◌, ◌≤◌, List, [], ◌∷◌, ◌++◌, length, map, take, drop, replicate, get_or, refl, sym, ap, ◌∙◌, arith, append-nil}
use Rattle.std.specs.Prelude.{slice_set}
use Rattle.std.specs.List.{slice_index_or}
use Rattle.std.proofs.lemmas.List.{drop_all}
use Rattle.packages.specs.declared.observed.Observed.{Observed}
use Rattle.call_agent.specs.Growing.{Grown, grown_to, committed, rolled_back, all_in, told_at}

abbrev is_of : Grown Observed → List Observed
is_of grown = grown.is

abbrev found_of : Grown Observed → List Observed
found_of grown = grown.found

all_nothing : (n : ℕ) → ◌≡◌ {A = Grown (List Observed)} (all_in (replicate n (grown_to []))) (grown_to (replicate n []))
all_nothing zero = refl
all_nothing (suc n) = ap (λ (g : Grown (List Observed)). let h : Grown (List Observed) = record { is = [] ∷ g.is; found = [] ∷ g.found } in h) (all_nothing n)

pub nothing_told : (count n : ℕ) (lines : List (Grown Observed)) → lines ≡ replicate n (grown_to []) → n ≡ count → all_in lines ≡ grown_to (replicate count [])
nothing_told count n lines is same = ap all_in is ∙ all_nothing n ∙ ap (λ (k : ℕ). grown_to (replicate k [])) same

-- ---- one after the other

-- the first so many are changed
abbrev pub changed_to : (Grown Observed → Grown Observed) → ℕ → List (Grown Observed) → List (Grown Observed)
changed_to f place was = map f (take place was) ++ drop place was

changed_more : (f : Grown Observed → Grown Observed) (was : List (Grown Observed)) (place : ℕ) (d : Grown Observed) → place < length was
    → slice_set (changed_to f place was) place (f (get_or (changed_to f place was) place d)) ≡ changed_to f (suc place) was
changed_more f [] place d within = absurd (omega (arith, within))
changed_more f (x ∷ xs) zero d within = refl
changed_more f (x ∷ xs) (suc place) d within = ap (λ (rest : List (Grown Observed)). f x ∷ rest) (changed_more f xs place d (omega (arith, within)))

pub changed_next : (f : Grown Observed → Grown Observed) (was is : List (Grown Observed)) (place : ℕ) (here next : Grown Observed) → is ≡ changed_to f place was → place < length was → here ≡ get_or is place here → next ≡ f here
    → slice_set is place next ≡ changed_to f (place + 1) was
changed_next f was is place here next now within had does =
    let more : suc place ≡ place + 1 = omega arith in
    ap (slice_set is place) (does ∙ ap f had)
    ∙ ap (λ (x : List (Grown Observed)). slice_set x place (f (get_or x place here))) now
    ∙ changed_more f was place here within
    ∙ ap (λ (n : ℕ). changed_to f n was) more

take_whole : (xs : List (Grown Observed)) (n : ℕ) → length xs ≤ n → take n xs ≡ xs
take_whole [] zero past = refl
take_whole [] (suc n) past = refl
take_whole (x ∷ xs) zero past = absurd (omega (arith, past))
take_whole (x ∷ xs) (suc n) past = ap (λ (rest : List (Grown Observed)). x ∷ rest) (take_whole xs n (omega (arith, past)))

changed_all : (f : Grown Observed → Grown Observed) (was : List (Grown Observed)) (place : ℕ) → length was ≤ place → changed_to f place was ≡ map f was
changed_all f was place past =
    ap (λ (x : List (Grown Observed)). map f (take place was) ++ x) (drop_all place was past) ∙ append-nil (map f (take place was)) ∙ ap (map f) (take_whole was place past)

all_committed : (lines : List (Grown Observed)) → all_in (map committed lines) ≡ committed (all_in lines)
all_committed [] = refl
all_committed (line ∷ lines) = ap (λ (g : Grown (List Observed)). let h : Grown (List Observed) = record { is = line.is ∷ g.is; found = line.is ∷ g.found } in h) (all_committed lines)

all_rolled_back : (lines : List (Grown Observed)) → all_in (map rolled_back lines) ≡ rolled_back (all_in lines)
all_rolled_back [] = refl
all_rolled_back (line ∷ lines) = ap (λ (g : Grown (List Observed)). let h : Grown (List Observed) = record { is = line.found ∷ g.is; found = line.found ∷ g.found } in h) (all_rolled_back lines)

pub committed_whole : (now : Grown (List Observed)) (was is : List (Grown Observed)) (place : ℕ) → now ≡ all_in was → is ≡ changed_to committed place was → length was ≤ place → all_in is ≡ committed now
committed_whole now was is place here changed past = ap all_in (changed ∙ changed_all committed was place past) ∙ all_committed was ∙ ap committed (sym here)

pub rolled_back_whole : (now : Grown (List Observed)) (was is : List (Grown Observed)) (place : ℕ) → now ≡ all_in was → is ≡ changed_to rolled_back place was → length was ≤ place → all_in is ≡ rolled_back now
rolled_back_whole now was is place here changed past = ap all_in (changed ∙ changed_all rolled_back was place past) ∙ all_rolled_back was ∙ ap rolled_back (sym here)

-- ---- one of them

set_is : (lines : List (Grown Observed)) (place : ℕ) (next : Grown Observed) → map is_of (slice_set lines place next) ≡ slice_set (map is_of lines) place next.is
set_is [] zero next = refl
set_is [] (suc place) next = refl
set_is (line ∷ lines) zero next = refl
set_is (line ∷ lines) (suc place) next = ap (λ (x : List (List Observed)). line.is ∷ x) (set_is lines place next)

set_found : (lines : List (Grown Observed)) (place : ℕ) (here next : Grown Observed) → here ≡ get_or lines place here → next.found ≡ here.found → map found_of (slice_set lines place next) ≡ map found_of lines
set_found [] zero here next had same = refl
set_found [] (suc place) here next had same = refl
set_found (line ∷ lines) zero here next had same = ap (λ (x : List Observed). x ∷ map found_of lines) (same ∙ ap found_of had)
set_found (line ∷ lines) (suc place) here next had same = ap (λ (x : List (List Observed)). line.found ∷ x) (set_found lines place here next had same)

here_is : (lines : List (Grown Observed)) (place : ℕ) (here : Grown Observed) → place < length lines → here ≡ get_or lines place here → slice_index_or (map is_of lines) place [] ≡ here.is
here_is [] place here within had = absurd (omega (arith, within))
here_is (line ∷ lines) zero here within had = sym (ap is_of had)
here_is (line ∷ lines) (suc place) here within had = here_is lines place here (omega (arith, within)) had

pub one_told : (lines : List (Grown Observed)) (place : ℕ) (here next : Grown Observed) (more : List Observed) → place < length lines → here ≡ get_or lines place here
    → next ≡ record here { is = here.is ++ more } → ◌≡◌ {A = Grown (List Observed)} (all_in (slice_set lines place next)) (record (all_in lines) { is = told_at (all_in lines).is place more })
one_told lines place here next more within had told =
    ap (λ (x : List (List Observed)). let g : Grown (List Observed) = record { is = x; found = map found_of (slice_set lines place next) } in g)
    (set_is lines place next ∙ ap (λ (g : Grown Observed). slice_set (map is_of lines) place g.is) told
    ∙ ap (λ (x : List Observed). slice_set (map is_of lines) place (x ++ more)) (sym (here_is lines place here within had)))
    ∙ ap (λ (x : List (List Observed)). let g : Grown (List Observed) = record { is = told_at (map is_of lines) place more; found = x } in g) (set_found lines place here next had (ap found_of told))
