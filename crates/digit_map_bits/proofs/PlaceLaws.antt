-- Where letters lead: what the live places say of the words that go on.
use Rattle.std.proofs.Common.{◌≡◌, ℕ, Bool, true, false, ◌&&◌, ◌||◌, List, [], ◌∷◌, ◌++◌, Option, Some, None, refl, sym, ap, ◌∙◌, ⊎_elim}
use Rattle.std.proofs.lemmas.Bool.{cases_Bool, and_parts, and_from}
use Rattle.mg_bytes.specs.declared.letter.Letter.{Letter}
use Rattle.mg_bytes.specs.Lists.{is_empty}
use Rattle.digit_map.specs.Words.{has_letter, is_repeated, spells, letters_again}
use Rattle.digit_map_bits.specs.Places.{Place, takes, repeats, taken, led, led_by, left_from, left_of, spelled_by}
use Rattle.digit_map.proofs.WordLaws.{again_rest}

-- a string goes on ahead
abbrev pub goes_on : Option (List ℕ) → Bool
goes_on None = false
goes_on (Some position) = true

-- behind a live place whose position may come zero times the next place is live, and the last string ends; `inside` says that
-- a string was begun before, and `due` that the first place is to be live
abbrev pub AreJoined : Bool → Bool → List Place → Type 0
AreJoined inside due [] = inside ≡ false
AreJoined inside due (place ∷ places) =
    (due ≡ true → place.live ≡ true) × AreJoined (goes_on place.ahead) (place.live && repeats place.ahead) places

pub no : {X : Type 0} → false ≡ true → X
no e = absurd cc

-- What is ahead stays

pub left_led : (letter : Letter) (carried : Bool) (places : List Place) → left_of (led letter carried places) ≡ left_of places
unfolding led
left_led letter carried [] = refl
left_led letter carried (place ∷ places) = ap (left_from place.ahead) (left_led letter (taken letter place || (repeats place.ahead && carried)) places)

-- What is left of a word

-- where the first place is live and its string goes on so, some live place does
pub first_spells : (begun inside : Bool) (places : List Place) (word : List Letter) → inside ≡ true → AreJoined inside true places → spells begun (left_of places) word ≡ true
    → spelled_by begun places word ≡ true
unfolding spelled_by
first_spells begun inside [] word opened joined e = no (sym joined ∙ opened)
first_spells begun inside (place ∷ places) word opened joined e =
    let here : place.live ≡ true = joined.0 refl in
    rw (here, e) refl

-- one place, by its tests: `s` and `later` are what the position and the rest spell of the word, `with` is what the rest
-- spells of the letter and the word
step_again : (c l h s later with tail : Bool) → (later ≡ true → s ≡ true) → ((l && with) ≡ true → tail ≡ true)
    → (((c || ((l && h) && true)) && s) || ((((l && h) || (true && c)) && later) || tail)) ≡ ((c && s) || ((l && (with || (h && s))) || tail))
step_again true true true true true true true on goes = refl
step_again true true true true true true false on goes = no (goes refl)
step_again true true true true true false true on goes = refl
step_again true true true true true false false on goes = refl
step_again true true true true false true true on goes = refl
step_again true true true true false true false on goes = no (goes refl)
step_again true true true true false false true on goes = refl
step_again true true true true false false false on goes = refl
step_again true true true false true true true on goes = no (on refl)
step_again true true true false true true false on goes = no (on refl)
step_again true true true false true false true on goes = no (on refl)
step_again true true true false true false false on goes = no (on refl)
step_again true true true false false true true on goes = refl
step_again true true true false false true false on goes = no (goes refl)
step_again true true true false false false true on goes = refl
step_again true true true false false false false on goes = refl
step_again true true false true true true true on goes = refl
step_again true true false true true true false on goes = no (goes refl)
step_again true true false true true false true on goes = refl
step_again true true false true true false false on goes = refl
step_again true true false true false true true on goes = refl
step_again true true false true false true false on goes = no (goes refl)
step_again true true false true false false true on goes = refl
step_again true true false true false false false on goes = refl
step_again true true false false true true true on goes = no (on refl)
step_again true true false false true true false on goes = no (on refl)
step_again true true false false true false true on goes = no (on refl)
step_again true true false false true false false on goes = no (on refl)
step_again true true false false false true true on goes = refl
step_again true true false false false true false on goes = no (goes refl)
step_again true true false false false false true on goes = refl
step_again true true false false false false false on goes = refl
step_again true false true true true true true on goes = refl
step_again true false true true true true false on goes = refl
step_again true false true true true false true on goes = refl
step_again true false true true true false false on goes = refl
step_again true false true true false true true on goes = refl
step_again true false true true false true false on goes = refl
step_again true false true true false false true on goes = refl
step_again true false true true false false false on goes = refl
step_again true false true false true true true on goes = no (on refl)
step_again true false true false true true false on goes = no (on refl)
step_again true false true false true false true on goes = no (on refl)
step_again true false true false true false false on goes = no (on refl)
step_again true false true false false true true on goes = refl
step_again true false true false false true false on goes = refl
step_again true false true false false false true on goes = refl
step_again true false true false false false false on goes = refl
step_again true false false true true true true on goes = refl
step_again true false false true true true false on goes = refl
step_again true false false true true false true on goes = refl
step_again true false false true true false false on goes = refl
step_again true false false true false true true on goes = refl
step_again true false false true false true false on goes = refl
step_again true false false true false false true on goes = refl
step_again true false false true false false false on goes = refl
step_again true false false false true true true on goes = no (on refl)
step_again true false false false true true false on goes = no (on refl)
step_again true false false false true false true on goes = no (on refl)
step_again true false false false true false false on goes = no (on refl)
step_again true false false false false true true on goes = refl
step_again true false false false false true false on goes = refl
step_again true false false false false false true on goes = refl
step_again true false false false false false false on goes = refl
step_again false true true true true true true on goes = refl
step_again false true true true true true false on goes = no (goes refl)
step_again false true true true true false true on goes = refl
step_again false true true true true false false on goes = refl
step_again false true true true false true true on goes = refl
step_again false true true true false true false on goes = no (goes refl)
step_again false true true true false false true on goes = refl
step_again false true true true false false false on goes = refl
step_again false true true false true true true on goes = no (on refl)
step_again false true true false true true false on goes = no (on refl)
step_again false true true false true false true on goes = no (on refl)
step_again false true true false true false false on goes = no (on refl)
step_again false true true false false true true on goes = refl
step_again false true true false false true false on goes = no (goes refl)
step_again false true true false false false true on goes = refl
step_again false true true false false false false on goes = refl
step_again false true false true true true true on goes = refl
step_again false true false true true true false on goes = no (goes refl)
step_again false true false true true false true on goes = refl
step_again false true false true true false false on goes = refl
step_again false true false true false true true on goes = refl
step_again false true false true false true false on goes = no (goes refl)
step_again false true false true false false true on goes = refl
step_again false true false true false false false on goes = refl
step_again false true false false true true true on goes = no (on refl)
step_again false true false false true true false on goes = no (on refl)
step_again false true false false true false true on goes = no (on refl)
step_again false true false false true false false on goes = no (on refl)
step_again false true false false false true true on goes = refl
step_again false true false false false true false on goes = no (goes refl)
step_again false true false false false false true on goes = refl
step_again false true false false false false false on goes = refl
step_again false false true true true true true on goes = refl
step_again false false true true true true false on goes = refl
step_again false false true true true false true on goes = refl
step_again false false true true true false false on goes = refl
step_again false false true true false true true on goes = refl
step_again false false true true false true false on goes = refl
step_again false false true true false false true on goes = refl
step_again false false true true false false false on goes = refl
step_again false false true false true true true on goes = no (on refl)
step_again false false true false true true false on goes = no (on refl)
step_again false false true false true false true on goes = no (on refl)
step_again false false true false true false false on goes = no (on refl)
step_again false false true false false true true on goes = refl
step_again false false true false false true false on goes = refl
step_again false false true false false false true on goes = refl
step_again false false true false false false false on goes = refl
step_again false false false true true true true on goes = refl
step_again false false false true true true false on goes = refl
step_again false false false true true false true on goes = refl
step_again false false false true true false false on goes = refl
step_again false false false true false true true on goes = refl
step_again false false false true false true false on goes = refl
step_again false false false true false false true on goes = refl
step_again false false false true false false false on goes = refl
step_again false false false false true true true on goes = no (on refl)
step_again false false false false true true false on goes = no (on refl)
step_again false false false false true false true on goes = no (on refl)
step_again false false false false true false false on goes = no (on refl)
step_again false false false false false true true on goes = refl
step_again false false false false false true false on goes = refl
step_again false false false false false false true on goes = refl
step_again false false false false false false false on goes = refl

step_once : (c l h s1 s2 tail : Bool)
    → (((c || ((l && h) && false)) && s1) || ((((l && h) || (false && c)) && s2) || tail)) ≡ ((c && s1) || ((l && (h && s2)) || tail))
step_once true true true s1 s2 tail = refl
step_once true true false s1 s2 tail = refl
step_once true false true s1 s2 tail = refl
step_once true false false s1 s2 tail = refl
step_once false true true s1 s2 tail = refl
step_once false true false s1 s2 tail = refl
step_once false false true s1 s2 tail = refl
step_once false false false s1 s2 tail = refl

step_end : (c l s1 s2 tail : Bool)
    → (((c || ((l && false) && false)) && s1) || ((((l && false) || (false && c)) && s2) || tail)) ≡ ((c && s1) || ((l && false) || tail))
step_end true true s1 s2 tail = refl
step_end true false s1 s2 tail = refl
step_end false true s1 s2 tail = refl
step_end false false s1 s2 tail = refl

-- what a repeated position makes of a word
pub spells_again : (begun : Bool) (position : List ℕ) (rest : List (List ℕ)) (word : List Letter) → is_repeated position ≡ true
    → spells begun (position ∷ rest) word ≡ letters_again (has_letter position) (spells begun rest) word
unfolding spells
spells_again begun position rest word dot = rw dot refl

-- one place: `tail` is what the places behind it say of the letter and the word
at_position : (begun : Bool) (letter : Letter) (carried live : Bool) (position : List ℕ) (rest : List (List ℕ)) (word : List Letter) (tail : Bool)
    → ((live && is_repeated position) ≡ true → spells begun rest (letter ∷ word) ≡ true → tail ≡ true)
    → (((carried || ((live && has_letter position letter) && is_repeated position)) && spells begun (position ∷ rest) word)
    || ((((live && has_letter position letter) || (is_repeated position && carried)) && spells begun rest word) || tail))
    ≡ ((carried && spells begun (position ∷ rest) word) || ((live && spells begun (position ∷ rest) (letter ∷ word)) || tail))
unfolding spells
at_position begun letter carried live position rest word tail goes =
    ⊎_elim
    (λ (dot : is_repeated position ≡ true).
    let later : (live && spells begun rest (letter ∷ word)) ≡ true → tail ≡ true =
    (λ e. let parts = and_parts live (spells begun rest (letter ∷ word)) e in goes (and_from live (is_repeated position) parts.0 dot) parts.1) in
    rw dot
    (step_again carried live (has_letter position letter) (letters_again (has_letter position) (spells begun rest) word) (spells begun rest word) (spells begun rest (letter ∷ word)) tail
    (again_rest (has_letter position) (spells begun rest) word) later))
    (λ (one : is_repeated position ≡ false).
    rw one (step_once carried live (has_letter position letter) _ (spells begun rest word) tail))
    (cases_Bool (is_repeated position))

at_place : (begun : Bool) (letter : Letter) (carried live : Bool) (ahead : Option (List ℕ)) (rest : List (List ℕ)) (word : List Letter) (tail : Bool)
    → ((live && repeats ahead) ≡ true → goes_on ahead ≡ true → spells begun rest (letter ∷ word) ≡ true → tail ≡ true)
    → (((carried || ((live && takes ahead letter) && repeats ahead)) && spells begun (left_from ahead rest) word)
    || ((((live && takes ahead letter) || (repeats ahead && carried)) && spells begun rest word) || tail))
    ≡ ((carried && spells begun (left_from ahead rest) word) || ((live && spells begun (left_from ahead rest) (letter ∷ word)) || tail))
unfolding spells
at_place begun letter carried live None rest word tail goes = step_end carried live (is_empty word) (spells begun rest word) tail
at_place begun letter carried live (Some position) rest word tail goes =
    at_position begun letter carried live position rest word tail (λ d e. goes d refl e)

into_string : (letter : Letter) (live carried : Bool) (ahead : Option (List ℕ)) → ((live && takes ahead letter) || (repeats ahead && carried)) ≡ true → goes_on ahead ≡ true
into_string letter true carried None e = no e
into_string letter false carried None e = no e
into_string letter live carried (Some position) e = refl

none_carried : (carried : Bool) (x : Bool) → (carried ≡ true → false ≡ true) → false ≡ ((carried && x) || false)
none_carried true x on = no (on refl)
none_carried false x on = refl

-- a letter leads on: what is spelled from where it leads is what was spelled with it
pub led_spells : (begun : Bool) (letter : Letter) (carried inside due : Bool) (places : List Place) (word : List Letter) → AreJoined inside due places → (carried ≡ true → inside ≡ true)
    → spelled_by begun (led letter carried places) word ≡ ((carried && spells begun (left_of places) word) || spelled_by begun places (letter ∷ word))
unfolding led spelled_by
led_spells begun letter carried inside due [] word joined on =
    none_carried carried (spells begun [] word) (λ c. sym joined ∙ on c)
led_spells begun letter carried inside due (place ∷ places) word joined on =
    let next : Bool = taken letter place || (repeats place.ahead && carried) in
    rw (left_led letter next places, led_spells begun letter next (goes_on place.ahead) (place.live && repeats place.ahead) places word joined.1 (into_string letter place.live carried place.ahead))
    (at_place begun letter carried place.live place.ahead (left_of places) word (spelled_by begun places (letter ∷ word))
    (λ d g e. first_spells begun (goes_on place.ahead) places (letter ∷ word) g (rw d at joined.1) e))

-- The places stay joined

join_step : (c t r : Bool) → ((c || (t && r)) && r) ≡ true → (t || (r && c)) ≡ true
join_step true true true e = refl
join_step true true false e = no e
join_step true false true e = refl
join_step true false false e = no e
join_step false true true e = refl
join_step false true false e = no e
join_step false false true e = no e
join_step false false false e = no e

or_left : (x y : Bool) → x ≡ true → (x || y) ≡ true
or_left true y e = refl
or_left false y e = no e

pub led_joined : (letter : Letter) (carried inside due after : Bool) (places : List Place) → AreJoined inside due places → (after ≡ true → carried ≡ true)
    → AreJoined inside after (led letter carried places)
unfolding led
led_joined letter carried inside due after [] joined on = joined
led_joined letter carried inside due after (place ∷ places) joined on = (
  (λ a. or_left carried (taken letter place && repeats place.ahead) (on a)),
  led_joined letter (taken letter place || (repeats place.ahead && carried)) (goes_on place.ahead) (place.live && repeats place.ahead)
      ((carried || (taken letter place && repeats place.ahead)) && repeats place.ahead) places joined.1 (join_step carried (taken letter place) (repeats place.ahead)),
)

pub led_by_joined : (places : List Place) (letters : List Letter) → AreJoined false false places → AreJoined false false (led_by places letters)
unfolding led_by
led_by_joined places [] joined = joined
led_by_joined places (letter ∷ letters) joined = led_by_joined (led letter false places) letters (led_joined letter false false false false places joined (λ e. e))

-- letters one after the other
pub led_by_spells : (begun : Bool) (places : List Place) (letters word : List Letter) → AreJoined false false places
    → spelled_by begun (led_by places letters) word ≡ spelled_by begun places (letters ++ word)
unfolding led_by
led_by_spells begun places [] word joined = refl
led_by_spells begun places (letter ∷ letters) word joined =
    led_by_spells begun (led letter false places) letters word (led_joined letter false false false false places joined (λ e. e))
    ∙ led_spells begun letter false false false places (letters ++ word) joined (λ e. e)

pub led_by_more : (places : List Place) (letters : List Letter) (letter : Letter) → led_by places (letters ++ letter ∷ []) ≡ led letter false (led_by places letters)
unfolding led_by
led_by_more places [] letter = refl
led_by_more places (first ∷ letters) letter = led_by_more (led first false places) letters letter
