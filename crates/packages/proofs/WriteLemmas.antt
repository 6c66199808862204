-- Entries that are written one after the other, with commas between them.
use Rattle.std.proofs.Common.{append_assoc, Bool, true, ◌&&◌, leb, ◌≡◌, ℕ, zero, suc, ◌+◌, ◌<◌, ◌≤◌, List, [], ◌∷◌, ◌++◌, length, map, refl, sym, ap, ◌∙◌, arith, take, get_or, add-one, length-take}
use Rattle.std.proofs.Math.Seq.{take-suc}
use Rattle.std.proofs.lemmas.List.{length-map}
use Rattle.std.proofs.lemmas.Bool.{and_parts, and_from}
use Rattle.std.specs.Prelude.{Result, Ok}
use Rattle.std.specs.List.{list_all, AllByRecursion, join_with_byte}
use Rattle.packages.specs.Cuts.{entries}
use Rattle.packages.specs.Faults.{each, each_up_to}
use Rattle.packages.proofs.JoinLemmas.{IsEntry, entries_join}

abbrev pub listed : {A : Type 0} → (A → List ℕ) → List A → List ℕ
listed text xs = join_with_byte 44 (map text xs)

listed_more : {A : Type 0} (text : A → List ℕ) (y : A) (xs : List A) (x : A)
    → listed text ((y ∷ xs) ++ x ∷ []) ≡ (listed text (y ∷ xs) ++ 44 ∷ []) ++ text x
listed_more text y [] x = sym (append_assoc (text y) (44 ∷ []) (text x))
listed_more text y (z ∷ xs) x =
    ap (λ t. text y ++ (44 ∷ t)) (listed_more text z xs x)
    ∙ sym (append_assoc (text y) (44 ∷ (listed text (z ∷ xs) ++ 44 ∷ [])) (text x))
    ∙ ap (λ t. t ++ text x) (sym (append_assoc (text y) (44 ∷ listed text (z ∷ xs)) (44 ∷ [])))

listed_behind : {A : Type 0} (text : A → List ℕ) (front : List A) (x : A) → 0 < length front
    → listed text (front ++ x ∷ []) ≡ (listed text front ++ 44 ∷ []) ++ text x
listed_behind text [] x some = absurd (omega arith)
listed_behind text (y ∷ xs) x some = listed_more text y xs x

-- a step of a writer
pub first_listed : {A : Type 0} (text : A → List ℕ) (xs : List A) (i : ℕ) (d : A) (before after : List ℕ) → i < length xs → i ≤ 0
    → before ≡ listed text (take i xs) → after ≡ before ++ text (get_or xs i d) → after ≡ listed text (take (i + 1) xs)
first_listed text [] i d before after inside start written put = absurd (omega arith)
first_listed text (x ∷ xs) zero d before after inside start written put = put ∙ ap (λ t. t ++ text x) written
first_listed text (x ∷ xs) (suc i) d before after inside start written put = absurd (omega arith)

pub next_listed : {A : Type 0} (text : A → List ℕ) (xs : List A) (i : ℕ) (d : A) (before comma after : List ℕ) → i < length xs → 0 < i
    → before ≡ listed text (take i xs) → comma ≡ before ++ 44 ∷ [] → after ≡ comma ++ text (get_or xs i d)
    → after ≡ listed text (take (i + 1) xs)
next_listed text xs i d before comma after inside some written pushed put =
    let front : 0 < length (take i xs) = omega (arith, length-take i xs) in
    rw (put, pushed, written, add-one, take-suc xs i d) (sym (listed_behind text (take i xs) (get_or xs i d) front))

-- entries that can be written are entries, are spelled, and are each read again
pub entries_written : {A : Type 0} (can : A → Bool) (text : A → List ℕ) (xs : List A) → ((x : A) → can x ≡ true → IsEntry (text x))
    → list_all can xs ≡ true → AllByRecursion IsEntry (map text xs)
entries_written can text [] one all = tt
entries_written can text (x ∷ xs) one all =
    let parts = and_parts (can x) (list_all can xs) all in (one x parts.0, entries_written can text xs one parts.1)

pub entries_spelled : {A : Type 0} (can : A → Bool) (text : A → List ℕ) (spelled : List ℕ → Bool) (xs : List A)
    → ((x : A) → can x ≡ true → spelled (text x) ≡ true) → list_all can xs ≡ true → list_all spelled (map text xs) ≡ true
entries_spelled can text spelled [] one all = refl
entries_spelled can text spelled (x ∷ xs) one all =
    let parts = and_parts (can x) (list_all can xs) all in
    and_from (spelled (text x)) (list_all spelled (map text xs)) (one x parts.0) (entries_spelled can text spelled xs one parts.1)

pub entries_read : {A : Type 0} (can : A → Bool) (text : A → List ℕ) (read : List ℕ → Result A ℕ) (xs : List A)
    → ((x : A) → can x ≡ true → read (text x) ≡ Ok x) → list_all can xs ≡ true → each read (map text xs) ≡ Ok xs
unfolding each
entries_read can text read [] one all = refl
entries_read can text read (x ∷ xs) one all =
    let parts = and_parts (can x) (list_all can xs) all in rw (one x parts.0, entries_read can text read xs one parts.1) refl

-- and so is the whole value
pub listed_again : {A : Type 0} (can : A → Bool) (text : A → List ℕ) (read : List ℕ → Result A ℕ) (xs : List A)
    → ((x : A) → can x ≡ true → IsEntry (text x)) → ((x : A) → can x ≡ true → read (text x) ≡ Ok x) → list_all can xs ≡ true
    → each read (entries (listed text xs)) ≡ Ok xs
listed_again can text read xs entry again all =
    rw (entries_join (map text xs) (entries_written can text xs entry all)) (entries_read can text read xs again all)

pub listed_spelled : {A : Type 0} (can : A → Bool) (text : A → List ℕ) (spelled : List ℕ → Bool) (xs : List A)
    → ((x : A) → can x ≡ true → IsEntry (text x)) → ((x : A) → can x ≡ true → spelled (text x) ≡ true) → list_all can xs ≡ true
    → list_all spelled (entries (listed text xs)) ≡ true
listed_spelled can text spelled xs entry one all =
    rw (entries_join (map text xs) (entries_written can text xs entry all)) (entries_spelled can text spelled xs one all)

pub listed_up_to : {A : Type 0} (can : A → Bool) (text : A → List ℕ) (most : ℕ) (read : List ℕ → Result A ℕ) (xs : List A)
    → ((x : A) → can x ≡ true → IsEntry (text x)) → ((x : A) → can x ≡ true → read (text x) ≡ Ok x)
    → (leb (length xs) most && list_all can xs) ≡ true → each_up_to most read (entries (listed text xs)) ≡ Ok xs
listed_up_to can text most read xs entry again writable =
    let parts = and_parts (leb (length xs) most) (list_all can xs) writable in
    let whole = entries_written can text xs entry parts.1 in
    rw (entries_join (map text xs) whole, length-map, parts.0) (entries_read can text read xs again parts.1)
