-- Verdicts by the set of words.
use Rattle.std.proofs.Common.{◌≡◌, ◌↔◌, ℕ, Bool, true, false, List, [], ◌∷◌, ◌++◌, refl, sym, ◌∙◌, append-nil, ⊎_elim}
use Rattle.std.proofs.lemmas.Bool.{cases_Bool}
use Rattle.mg_bytes.specs.declared.letter.Letter.{Letter}
use Rattle.mg_bytes.specs.declared.letter.Letter.TheVariants.{Timer}
use Rattle.digit_map.specs.declared.verdict.Verdict.{Verdict}
use Rattle.digit_map.specs.declared.verdict.Verdict.TheVariants.{Perfect, Partial, Impossible}
use Rattle.digit_map.specs.Spelling.{is_map}
use Rattle.digit_map.specs.Words.{IsWord, is_word, is_begun}
use Rattle.digit_map.specs.Verdict.{BeginsWord, VerdictIs, IsCritical, verdict_of, is_critical}
use Rattle.digit_map.proofs.WordLaws.{words_computed, word_is, is_word_so}
use Rattle.digit_map.proofs.BeginLaws.{begun_ends, begins_found}

pub critical_computed : (map : List ℕ) (letters : List Letter) → IsCritical (IsWord map) letters ↔ (is_critical map letters ≡ true)
unfolding is_critical
critical_computed map letters = words_computed map (letters ++ Timer ∷ [])

same_test : (x y : Bool) → (x ≡ true → y ≡ true) → (y ≡ true → x ≡ true) → x ≡ y
same_test true y on back = sym (on refl)
same_test false true on back = back refl
same_test false false on back = refl

-- maps with the same words
pub same_word : (map other : List ℕ) → ((word : List Letter) → IsWord map word ↔ IsWord other word) → (word : List Letter) → is_word map word ≡ is_word other word
same_word map other same word =
    same_test (is_word map word) (is_word other word)
    (λ is. word_is other word ((same word).0 (is_word_so map word is)))
    (λ is. word_is map word ((same word).1 (is_word_so other word is)))

pub same_critical : (map other : List ℕ) → ((word : List Letter) → IsWord map word ↔ IsWord other word) → (letters : List Letter) → is_critical map letters ≡ is_critical other letters
unfolding is_critical
same_critical map other same letters = same_word map other same (letters ++ Timer ∷ [])

-- whether a word begins so
pub begins : (map : List ℕ) → is_map map ≡ true → (letters : List Letter) → is_begun map letters ≡ true → BeginsWord (IsWord map) letters
begins map is letters e =
    let found = begun_ends map is letters e in (found.0, is_word_so map (letters ++ found.0) found.1)

pub begun_so : (map : List ℕ) (letters : List Letter) → BeginsWord (IsWord map) letters → is_begun map letters ≡ true
begun_so map letters found = begins_found map letters found.0 (word_is map (letters ++ found.0) found.1)

not_both : (x : Bool) → x ≡ true → x ≡ false → ⊥
not_both x yes_it no_it = let both : true ≡ false = sym yes_it ∙ no_it in absurd cc

-- the verdict that is computed is the verdict
pub verdict_is : (map : List ℕ) (letters : List Letter) → is_map map ≡ true → VerdictIs (IsWord map) letters (verdict_of map letters)
unfolding verdict_of
verdict_is map letters is =
    ⊎_elim
    (λ (word : is_word map letters ≡ true). rw word (is_word_so map letters word))
    (λ (no_word : is_word map letters ≡ false).
    ⊎_elim
    (λ (begun : is_begun map letters ≡ true). rw (no_word, begun) ((λ w. not_both (is_word map letters) (word_is map letters w) no_word), begins map is letters begun))
    (λ (no_one : is_begun map letters ≡ false). rw (no_word, no_one) (λ b. not_both (is_begun map letters) (begun_so map letters b) no_one))
    (cases_Bool (is_begun map letters)))
    (cases_Bool (is_word map letters))

word_begins : (map : List ℕ) (letters : List Letter) → IsWord map letters → BeginsWord (IsWord map) letters
word_begins map letters word = ([], rw append-nil word)

-- and there is no other
one_verdict : (W : List Letter → Type 0) (letters : List Letter) → (W letters → BeginsWord W letters) → (x y : Verdict) → VerdictIs W letters x → VerdictIs W letters y → x ≡ y
one_verdict W letters on Perfect Perfect a b = refl
one_verdict W letters on Perfect Partial a b = absurd (b.0 a)
one_verdict W letters on Perfect Impossible a b = absurd (b (on a))
one_verdict W letters on Partial Perfect a b = absurd (a.0 b)
one_verdict W letters on Partial Partial a b = refl
one_verdict W letters on Partial Impossible a b = absurd (b a.1)
one_verdict W letters on Impossible Perfect a b = absurd (a (on b))
one_verdict W letters on Impossible Partial a b = absurd (a b.1)
one_verdict W letters on Impossible Impossible a b = refl

pub verdict_only : (map : List ℕ) (letters : List Letter) (verdict : Verdict) → is_map map ≡ true → VerdictIs (IsWord map) letters verdict → verdict ≡ verdict_of map letters
verdict_only map letters verdict is so =
    one_verdict (IsWord map) letters (word_begins map letters) verdict (verdict_of map letters) so (verdict_is map letters is)

-- maps with the same words give the same verdicts
same_begun : (map other : List ℕ) → is_map map ≡ true → is_map other ≡ true → ((word : List Letter) → IsWord map word ↔ IsWord other word) → (letters : List Letter) → is_begun map letters ≡ is_begun other letters
same_begun map other is are same letters =
    same_test (is_begun map letters) (is_begun other letters)
    (λ e. let found = begins map is letters e in begun_so other letters (found.0, (same (letters ++ found.0)).0 found.1))
    (λ e. let found = begins other are letters e in begun_so map letters (found.0, (same (letters ++ found.0)).1 found.1))

pub same_verdict : (map other : List ℕ) → is_map map ≡ true → is_map other ≡ true → ((word : List Letter) → IsWord map word ↔ IsWord other word) → (letters : List Letter) → verdict_of map letters ≡ verdict_of other letters
unfolding verdict_of
same_verdict map other is are same letters =
    rw (same_word map other same letters, same_begun map other is are same letters) refl

pub critical_is : (map : List ℕ) (letters : List Letter) → is_critical map letters ≡ true → IsCritical (IsWord map) letters
critical_is map letters = (critical_computed map letters).1

pub critical_so : (map : List ℕ) (letters : List Letter) → IsCritical (IsWord map) letters → is_critical map letters ≡ true
critical_so map letters = (critical_computed map letters).0

-- what is computed of a matcher's map and letters is so of the same map and letters
pub critical_from : (told : Bool) (held map : List ℕ) (fed letters : List Letter) → told ≡ is_critical held fed
    → held ≡ map → fed ≡ letters → (told ≡ true) ↔ IsCritical (IsWord map) letters
critical_from told held map fed letters so text word = rw (so, text, word) (critical_is map letters, critical_so map letters)

pub verdict_from : (told : Verdict) (held map : List ℕ) (fed letters : List Letter) → is_map held ≡ true
    → told ≡ verdict_of held fed → held ≡ map → fed ≡ letters → VerdictIs (IsWord map) letters told
verdict_from told held map fed letters spelled so text word =
    let here : is_map map ≡ true = (rw text at spelled) in rw (so, text, word) (verdict_is map letters here)
