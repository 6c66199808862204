-- The words that are computed are the words.
use Rattle.std.proofs.Common.{◌≡◌, ◌↔◌, ℕ, Bool, true, false, ◌&&◌, ◌||◌, ◌⊎◌, inl, inr, List, [], ◌∷◌, refl, ⊎_elim}
use Rattle.std.specs.Prelude.{Any}
use Rattle.std.proofs.lemmas.Bool.{cases_Bool, and_parts, and_from}
use Rattle.std.proofs.lemmas.List.Folds.{Any-from_list_any, list_any-from_Any}
use Rattle.mg_bytes.specs.declared.letter.Letter.{Letter}
use Rattle.digit_map.specs.Cuts.{strings_of, positions_of}
use Rattle.digit_map.specs.Words.{has_letter, is_repeated, Spells, nothing, once, no_more, again, IsWord, letters_again, spells, is_word}

pub either_true : (x y : Bool) → (x || y) ≡ true → (x ≡ true) ⊎ (y ≡ true)
either_true true y e = inl refl
either_true false y e = inr e

pub or_right : (x y : Bool) → y ≡ true → (x || y) ≡ true
or_right true y e = refl
or_right false y e = e

pub again_rest : (is_letter : Letter → Bool) (rest : List Letter → Bool) (word : List Letter) → rest word ≡ true → letters_again is_letter rest word ≡ true
again_rest is_letter rest [] e = e
again_rest is_letter rest (letter ∷ word) e = rw e refl

pub spelled_is : (positions : List (List ℕ)) (word : List Letter) → Spells positions word → spells false positions word ≡ true
unfolding spells
spelled_is positions word nothing = refl
spelled_is positions word (once position rest letter behind one has is) = rw (one, has) (spelled_is rest behind is)
spelled_is positions word (no_more position rest _ dot is) =
    rw dot (again_rest (has_letter position) (spells false rest) word (spelled_is rest word is))
spelled_is positions word (again position rest letter behind dot has is) =
    let later : letters_again (has_letter position) (spells false rest) behind ≡ true = (rw dot at (spelled_is (position ∷ rest) behind is)) in
    rw dot
    (or_right (spells false rest (letter ∷ behind)) (has_letter position letter && letters_again (has_letter position) (spells false rest) behind)
    (and_from (has_letter position letter) (letters_again (has_letter position) (spells false rest) behind) has later))

again_spelled : (position : List ℕ) (rest : List (List ℕ)) → is_repeated position ≡ true → ((word : List Letter) → spells false rest word ≡ true → Spells rest word)
    → (word : List Letter) → letters_again (has_letter position) (spells false rest) word ≡ true → Spells (position ∷ rest) word
again_spelled position rest dot on [] e = no_more position rest [] dot (on [] e)
again_spelled position rest dot on (letter ∷ word) e =
    ⊎_elim
    (λ (here : spells false rest (letter ∷ word) ≡ true). no_more position rest (letter ∷ word) dot (on (letter ∷ word) here))
    (λ (later : (has_letter position letter && letters_again (has_letter position) (spells false rest) word) ≡ true).
    let parts = and_parts (has_letter position letter) (letters_again (has_letter position) (spells false rest) word) later in
    again position rest letter word dot parts.0 (again_spelled position rest dot on word parts.1))
    (either_true (spells false rest (letter ∷ word)) (has_letter position letter && letters_again (has_letter position) (spells false rest) word) e)

pub is_spelled : (positions : List (List ℕ)) (word : List Letter) → spells false positions word ≡ true → Spells positions word
unfolding spells
is_spelled [] [] e = nothing
is_spelled [] (letter ∷ word) e = absurd cc
is_spelled (position ∷ rest) [] e =
    ⊎_elim
    (λ (dot : is_repeated position ≡ true). again_spelled position rest dot (λ word. is_spelled rest word) [] (rw dot at e))
    (λ (one : is_repeated position ≡ false). let none : false ≡ true = (rw one at e) in absurd cc)
    (cases_Bool (is_repeated position))
is_spelled (position ∷ rest) (letter ∷ word) e =
    ⊎_elim
    (λ (dot : is_repeated position ≡ true). again_spelled position rest dot (λ word. is_spelled rest word) (letter ∷ word) (rw dot at e))
    (λ (one : is_repeated position ≡ false).
    let so : (has_letter position letter && spells false rest word) ≡ true = (rw one at e) in
    let parts = and_parts (has_letter position letter) (spells false rest word) so in
    once position rest letter word one parts.0 (is_spelled rest word parts.1))
    (cases_Bool (is_repeated position))

any_map : {X : Type 0} (P Q : X → Type 0) → ((x : X) → P x → Q x) → (xs : List X) → Any P xs → Any Q xs
any_map P Q on xs any = (any.0, any.1, any.2, any.3, on any.1 any.4)

pub word_is : (map : List ℕ) (word : List Letter) → IsWord map word → is_word map word ≡ true
unfolding is_word
word_is map word is =
    list_any-from_Any (λ (string : List ℕ). spells false (positions_of string) word) (strings_of map)
    (any_map (λ (string : List ℕ). Spells (positions_of string) word) (λ (string : List ℕ). spells false (positions_of string) word ≡ true)
    (λ string spelled. spelled_is (positions_of string) word spelled) (strings_of map) is)

pub is_word_so : (map : List ℕ) (word : List Letter) → is_word map word ≡ true → IsWord map word
unfolding is_word
is_word_so map word is =
    any_map (λ (string : List ℕ). spells false (positions_of string) word ≡ true) (λ (string : List ℕ). Spells (positions_of string) word)
    (λ string spelled. is_spelled (positions_of string) word spelled) (strings_of map)
    (Any-from_list_any (λ (string : List ℕ). spells false (positions_of string) word) (strings_of map) is)

pub words_computed : (map : List ℕ) (word : List Letter) → IsWord map word ↔ (is_word map word ≡ true)
words_computed map word = (word_is map word, is_word_so map word)
