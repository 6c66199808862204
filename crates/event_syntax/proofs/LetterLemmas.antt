-- Sets of letters.
use Rattle.std.proofs.Common.{◌≡◌, ℕ, zero, suc, ◌+◌, ◌<◌, Bool, true, false, List, [], ◌∷◌, ◌++◌, length, map, take, get_or, refl, sym, ap, ◌∙◌, append_assoc, append-nil, arith, add-one}
use Rattle.std.specs.List.{filter}
use Rattle.std.proofs.lemmas.List.{ext_get_or, get_or-map}
use Rattle.mg_bytes.specs.declared.letter.Letter.{Letter}
use Rattle.mg_bytes.specs.declared.letter.Letter.TheVariants.{Zero}
use Rattle.mg_bytes.specs.Letter.{all_letters, byte_of}
use Rattle.event_syntax.specs.Ranges.{chosen, letters_of}

-- the letter at one more place
chosen_more : (set : List Bool) (letters : List Letter) (place : ℕ) (has : Bool) (letter : Letter) → place < length set → place < length letters
    → chosen (take (suc place) set) (take (suc place) letters)
    ≡ chosen (take place set) (take place letters) ++ chosen (get_or set place has ∷ []) (get_or letters place letter ∷ [])
chosen_more [] letters place has letter inside within = absurd (omega arith)
chosen_more (b ∷ bs) [] place has letter inside within = absurd (omega arith)
chosen_more (b ∷ bs) (l ∷ ls) zero has letter inside within = refl
chosen_more (true ∷ bs) (l ∷ ls) (suc place) has letter inside within =
    ap (λ rest. l ∷ rest) (chosen_more bs ls place has letter (omega arith) (omega arith))
chosen_more (false ∷ bs) (l ∷ ls) (suc place) has letter inside within = chosen_more bs ls place has letter (omega arith) (omega arith)

-- as many letters as are in the set
length-chosen : (set : List Bool) (letters : List Letter) → length set ≡ length letters
    → length (chosen set letters) ≡ length (filter (λ has. has) set)
length-chosen [] letters size = refl
length-chosen (b ∷ bs) [] size = absurd (omega arith)
length-chosen (true ∷ bs) (l ∷ ls) size = ap suc (length-chosen bs ls (omega arith))
length-chosen (false ∷ bs) (l ∷ ls) size = length-chosen bs ls (omega arith)

pub letters_counted : (set : List Bool) → length set ≡ 17 → length (letters_of set) ≡ length (filter (λ has. has) set)
letters_counted set size = length-chosen set all_letters size

-- a step of a writer of letters
map-append : (f : Letter → ℕ) (xs ys : List Letter) → map f (xs ++ ys) ≡ map f xs ++ map f ys
map-append f [] ys = refl
map-append f (x ∷ xs) ys = ap (λ rest. f x ∷ rest) (map-append f xs ys)

letters_more : (set : List Bool) (place : ℕ) (front before after : List ℕ) → length set ≡ 17 → place < 17
    → before ≡ front ++ map byte_of (chosen (take place set) (take place all_letters))
    → after ≡ before ++ map byte_of (chosen (get_or set place false ∷ []) (get_or all_letters place Zero ∷ []))
    → after ≡ front ++ map byte_of (chosen (take (place + 1) set) (take (place + 1) all_letters))
letters_more set place front before after size inside written put =
    let so_far : List Letter = chosen (take place set) (take place all_letters) in
    let next : List Letter = chosen (get_or set place false ∷ []) (get_or all_letters place Zero ∷ []) in
    put ∙ ap (λ x. x ++ map byte_of next) written ∙ append_assoc front (map byte_of so_far) (map byte_of next)
    ∙ ap (λ x. front ++ x) (sym (map-append byte_of so_far next)
    ∙ ap (map byte_of) (rw add-one (sym (chosen_more set all_letters place false Zero (omega arith) inside))))

pub letter_put : (set : List Bool) (place : ℕ) (front before after : List ℕ) → length set ≡ 17 → place < 17 → get_or set place false ≡ true
    → before ≡ front ++ map byte_of (chosen (take place set) (take place all_letters))
    → after ≡ before ++ byte_of (get_or all_letters place Zero) ∷ []
    → after ≡ front ++ map byte_of (chosen (take (place + 1) set) (take (place + 1) all_letters))
letter_put set place front before after size inside has written put =
    letters_more set place front before after size inside written (rw has put)

pub letter_left : (set : List Bool) (place : ℕ) (front before after : List ℕ) → length set ≡ 17 → place < 17 → get_or set place false ≡ false
    → before ≡ front ++ map byte_of (chosen (take place set) (take place all_letters)) → after ≡ before
    → after ≡ front ++ map byte_of (chosen (take (place + 1) set) (take (place + 1) all_letters))
letter_left set place front before after size inside has written put =
    letters_more set place front before after size inside written (rw (has, append-nil) put)

-- a set that says of each letter in turn whether it is in
pub set_of_each : (is_in : Letter → Bool) (set : List Bool) → length set ≡ 17
    → ((k : ℕ) → k < 17 → get_or set k false ≡ is_in (get_or all_letters k Zero)) → set ≡ map is_in all_letters
set_of_each is_in set size each =
    ext_get_or false set (map is_in all_letters) size (λ k inside. each k (omega arith) ∙ sym (get_or-map is_in all_letters k Zero false (omega arith)))
