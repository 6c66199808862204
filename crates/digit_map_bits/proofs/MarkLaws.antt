-- What the live places of a map say: the words that go on, and verdicts.
use Rattle.std.proofs.Common.{◌≡◌, ℕ, Bool, true, false, ◌&&◌, ◌||◌, List, [], ◌∷◌, ◌++◌, length, Option, Some, None, zero, suc, replicate, refl, sym, ap, ◌∙◌, append_assoc, append-nil, ⊎_elim}
use Rattle.std.specs.Prelude.{◌-◌, ◌%◌}
use Rattle.std.specs.List.{list_any}
use Rattle.std.proofs.lemmas.Bool.{cases_Bool, and_parts, and_from}
use Rattle.mg_bytes.specs.declared.letter.Letter.{Letter}
use Rattle.mg_bytes.specs.declared.letter.Letter.TheVariants.{Timer}
use Rattle.digit_map.specs.Cuts.{positions_of, strings_of}
use Rattle.digit_map.specs.Words.{has_letter, is_repeated, spells, is_word, is_begun}
use Rattle.digit_map.specs.Verdict.{is_critical}
use Rattle.digit_map_bits.specs.Places.{Place, repeats, is_end, places_from, places_in, blank, places_of, led, places_after, left_from, left_of, spelled_by}
use Rattle.digit_map.proofs.WordLaws.{again_rest}
use Rattle.digit_map.proofs.RowLaws.{begun-nil}
use Rattle.digit_map_bits.proofs.PlaceLaws.{goes_on, AreJoined, no, first_spells, spells_again, led_by_joined, led_by_spells, led_by_more}

-- No letters left

absorbed : (x y z : Bool) → (y ≡ true → x ≡ true) → (x || (y || z)) ≡ (x || z)
absorbed true y z on = refl
absorbed false true z on = no (on refl)
absorbed false false z on = refl

skipped : (x z : Bool) → (x ≡ true → z ≡ true) → z ≡ (x || z)
skipped true z on = on refl
skipped false z on = refl

and_none : (live z : Bool) → ((live && false) || z) ≡ z
and_none true z = refl
and_none false z = refl

at_end : (live : Bool) (ahead : Option (List ℕ)) (rest : List (List ℕ)) (tail : Bool)
    → ((live && repeats ahead) ≡ true → goes_on ahead ≡ true → spells false rest [] ≡ true → tail ≡ true)
    → ((live && is_end ahead) || tail) ≡ ((live && spells false (left_from ahead rest) []) || tail)
unfolding spells
at_end live None rest tail on = refl
at_end live (Some position) rest tail on =
    and_none live tail
    ∙ ⊎_elim
    (λ (dot : is_repeated position ≡ true).
    rw dot
    (skipped (live && spells false rest []) tail
    (λ e. let parts = and_parts live (spells false rest []) e in on (and_from live (is_repeated position) parts.0 dot) refl parts.1)))
    (λ (one : is_repeated position ≡ false). rw one (sym (and_none live tail)))
    (cases_Bool (is_repeated position))

-- the live places at an end say whether nothing more makes a word
pub ended_spells : (inside due : Bool) (places : List Place) → AreJoined inside due places
    → list_any (λ place. place.live && is_end place.ahead) places ≡ spelled_by false places []
unfolding spelled_by
ended_spells inside due [] joined = refl
ended_spells inside due (place ∷ places) joined =
    rw (ended_spells (goes_on place.ahead) (place.live && repeats place.ahead) places joined.1)
    (at_end place.live place.ahead (left_of places) (spelled_by false places [])
    (λ d g e. first_spells false (goes_on place.ahead) places [] g (rw d at joined.1) e))

and_so : (x y : Bool) → y ≡ true → x ≡ (x && y)
and_so true y e = sym e
and_so false y e = refl

-- any live place begins a word
pub live_begins : (places : List Place) → list_any (λ place. place.live) places ≡ spelled_by true places []
unfolding spelled_by
live_begins [] = refl
live_begins (place ∷ places) =
    rw (live_begins places)
    (ap (λ x. x || spelled_by true places []) (and_so place.live (spells true (left_of (place ∷ places)) []) (begun-nil (left_of (place ∷ places)))))

-- Before any letter

left_string : (live : Bool) (positions : List (List ℕ)) (rest : List Place) → left_of (places_from live positions ++ rest) ≡ positions
unfolding places_from
left_string live [] rest = refl
left_string live (position ∷ positions) rest = ap (λ (x : List (List ℕ)). position ∷ x) (left_string (live && is_repeated position) positions rest)

not_due : (inside due : Bool) (places : List Place) → due ≡ false → AreJoined inside false places → AreJoined inside due places
not_due inside true places e joined = no (sym e)
not_due inside false places e joined = joined

and_false : (x : Bool) → (x && false) ≡ false
and_false true = refl
and_false false = refl

string_joined : (inside due live : Bool) (positions : List (List ℕ)) (rest : List Place) → (due ≡ true → live ≡ true) → AreJoined false false rest
    → AreJoined inside due (places_from live positions ++ rest)
unfolding places_from
string_joined inside due live [] rest on joined = (on, not_due false (live && false) rest (and_false live) joined)
string_joined inside due live (position ∷ positions) rest on joined =
    (on, string_joined true (live && is_repeated position) (live && is_repeated position) positions rest (λ e. e) joined)

string_spells : (begun live : Bool) (positions : List (List ℕ)) (rest : List Place) (word : List Letter)
    → spelled_by begun (places_from live positions ++ rest) word ≡ ((live && spells begun positions word) || spelled_by begun rest word)
unfolding places_from spelled_by
string_spells begun live [] rest word = refl
string_spells begun live (position ∷ positions) rest word =
    let next : Bool = live && is_repeated position in
    rw (left_string next positions rest, string_spells begun next positions rest word)
    (absorbed (live && spells begun (position ∷ positions) word) (next && spells begun positions word) (spelled_by begun rest word)
    (λ e.
    let parts = and_parts next (spells begun positions word) e in
    let both = and_parts live (is_repeated position) parts.0 in
    and_from live (spells begun (position ∷ positions) word) both.0
    (spells_again begun position positions word both.1 ∙ again_rest (has_letter position) (spells begun positions) word parts.1)))

blanks_joined : (count : ℕ) → AreJoined false false (replicate count blank)
blanks_joined zero = refl
blanks_joined (suc count) = ((λ e. e), blanks_joined count)

blanks_spell : (begun : Bool) (count : ℕ) (word : List Letter) → spelled_by begun (replicate count blank) word ≡ false
unfolding spelled_by
blanks_spell begun zero word = refl
blanks_spell begun (suc count) word = blanks_spell begun count word

places_joined : (strings : List (List ℕ)) (rest : List Place) → AreJoined false false rest → AreJoined false false (places_in strings ++ rest)
unfolding places_in
places_joined [] rest joined = joined
places_joined (string ∷ strings) rest joined =
    rw (append_assoc (places_from true (positions_of string)) (places_in strings) rest)
    (string_joined false false true (positions_of string) (places_in strings ++ rest) (λ e. refl) (places_joined strings rest joined))

or_assoc : (x y z : Bool) → (x || (y || z)) ≡ ((x || y) || z)
or_assoc true y z = refl
or_assoc false y z = refl

places_spell : (begun : Bool) (strings : List (List ℕ)) (rest : List Place) (word : List Letter)
    → spelled_by begun (places_in strings ++ rest) word ≡ (list_any (λ string. spells begun (positions_of string) word) strings || spelled_by begun rest word)
unfolding places_in
places_spell begun [] rest word = refl
places_spell begun (string ∷ strings) rest word =
    rw (append_assoc (places_from true (positions_of string)) (places_in strings) rest)
    (string_spells begun true (positions_of string) (places_in strings ++ rest) word
    ∙ ap (λ x. spells begun (positions_of string) word || x) (places_spell begun strings rest word)
    ∙ or_assoc (spells begun (positions_of string) word) (list_any (λ s. spells begun (positions_of s) word) strings) (spelled_by begun rest word))

or_none : (x y : Bool) → y ≡ false → (x || y) ≡ x
or_none true y e = refl
or_none false y e = e

pub map_joined : (map : List ℕ) → AreJoined false false (places_of map)
unfolding places_of
map_joined map =
    places_joined (strings_of map) (replicate (32 - length (places_in (strings_of map)) % 32) blank) (blanks_joined (32 - length (places_in (strings_of map)) % 32))

pub map_spells : (begun : Bool) (map : List ℕ) (word : List Letter) → spelled_by begun (places_of map) word ≡ list_any (λ string. spells begun (positions_of string) word) (strings_of map)
unfolding places_of
map_spells begun map word =
    places_spell begun (strings_of map) (replicate (32 - length (places_in (strings_of map)) % 32) blank) word
    ∙ or_none (list_any (λ string. spells begun (positions_of string) word) (strings_of map)) _ (blanks_spell begun (32 - length (places_in (strings_of map)) % 32) word)

-- Behind letters

pub after_joined : (map : List ℕ) (letters : List Letter) → AreJoined false false (places_after map letters)
unfolding places_after
after_joined map letters = led_by_joined (places_of map) letters (map_joined map)

after_spells : (begun : Bool) (map : List ℕ) (letters word : List Letter)
    → spelled_by begun (places_after map letters) word ≡ list_any (λ string. spells begun (positions_of string) (letters ++ word)) (strings_of map)
unfolding places_after
after_spells begun map letters word =
    led_by_spells begun (places_of map) letters word (map_joined map) ∙ map_spells begun map (letters ++ word)

-- the live places behind letters say which words go on from them
pub words_go_on : (map : List ℕ) (letters more : List Letter) → is_word map (letters ++ more) ≡ spelled_by false (places_after map letters) more
unfolding is_word
words_go_on map letters more = sym (after_spells false map letters more)

pub word_after : (map : List ℕ) (letters : List Letter) → list_any (λ place. place.live && is_end place.ahead) (places_after map letters) ≡ is_word map letters
word_after map letters =
    ended_spells false false (places_after map letters) (after_joined map letters)
    ∙ sym (words_go_on map letters []) ∙ ap (is_word map) (append-nil letters)

pub begun_after : (map : List ℕ) (letters : List Letter) → list_any (λ place. place.live) (places_after map letters) ≡ is_begun map letters
unfolding is_begun
begun_after map letters =
    live_begins (places_after map letters) ∙ after_spells true map letters []
    ∙ ap (λ (w : List Letter). list_any (λ string. spells true (positions_of string) w) (strings_of map)) (append-nil letters)

-- a letter more
pub after_more : (map : List ℕ) (letters : List Letter) (letter : Letter) → places_after map (letters ++ letter ∷ []) ≡ led letter false (places_after map letters)
unfolding places_after
after_more map letters letter = led_by_more (places_of map) letters letter

pub critical_after : (map : List ℕ) (letters : List Letter)
    → list_any (λ place. place.live && is_end place.ahead) (led Timer false (places_after map letters)) ≡ is_critical map letters
unfolding is_critical
critical_after map letters =
    ap (list_any (λ place. place.live && is_end place.ahead)) (sym (after_more map letters Timer)) ∙ word_after map (letters ++ Timer ∷ [])
