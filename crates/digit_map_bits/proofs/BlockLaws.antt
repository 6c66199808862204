-- Blocks of places: what a letter makes of their words, and what the words say.
use Rattle.std.proofs.Common.{◌≡◌, ℕ, ◌+◌, ◌-◌, ◌*◌, ◌/◌, ◌%◌, ◌^◌, ◌<◌, Bool, true, false, ◌&&◌, ◌||◌, List, [], ◌∷◌, ◌++◌, length, take, drop, map, replicate, Option, zero, suc, refl, sym, ap, ◌∙◌, arith, length-append, length-drop, length-take-le}
use Rattle.std.specs.Prelude.{bit_and, bit_or, nat_le, slice_index, slice_index_or}
use Rattle.std.specs.List.{list_any}
use Rattle.std.proofs.Math.ListN.{length-replicate}
use Rattle.mg_bytes.specs.declared.letter.Letter.{Letter}
use Rattle.mg_bytes.specs.declared.letter.Letter.TheVariants.{Zero, One, Two, Three, Four, Five, Six, Seven, Eight, Nine, Star, Hash, A, B, C, D, Timer}
use Rattle.mg_bytes.specs.Letter.{all_letters}
use Rattle.digit_map.specs.Cuts.{strings_of}
use Rattle.digit_map.specs.declared.block.Block.{Block}
use Rattle.digit_map.specs.declared.draft.Draft.{Draft}
use Rattle.digit_map_bits.specs.Places.{Place, takes, repeats, is_end, blank, taken, led, led_by, places_in, places_of, places_after}
use Rattle.digit_map_bits.specs.Blocks.{index_of, bit, bits_by, block_of, word_of, blocks_of, words_of, count_of, taken_bits, carries, led_word, leads_on, led_words, some_bit, ends_some, draft_of, block_from, blocks_from, words_from}
use Rattle.digit_map.proofs.BitLaws.{bit_small}
use Rattle.digit_map_bits.proofs.BitLaws.{or_bit, bits_and, bits_or, handed, carried_bits, carries_are, carried_small, low_part, high_part, some_bits}
use Rattle.std.proofs.lemmas.Nat.{or_block}

-- A letter over a part of the places

abbrev dots_at : Place → Bool
dots_at place = repeats place.ahead

pub length_led : (letter : Letter) (carried : Bool) (places : List Place) → length (led letter carried places) ≡ length places
unfolding led
length_led letter carried [] = refl
length_led letter carried (place ∷ places) = ap suc (length_led letter (taken letter place || (repeats place.ahead && carried)) places)

led_take : (letter : Letter) (carried : Bool) (count : ℕ) (places : List Place) → take count (led letter carried places) ≡ led letter carried (take count places)
unfolding led
led_take letter carried zero places = refl
led_take letter carried (suc count) [] = refl
led_take letter carried (suc count) (place ∷ places) =
    ap (λ (x : List Place). record { ahead = place.ahead; live = carried || (taken letter place && repeats place.ahead) } ∷ x)
    (led_take letter (taken letter place || (repeats place.ahead && carried)) count places)

led_drop : (letter : Letter) (carried : Bool) (count : ℕ) (places : List Place)
    → drop count (led letter carried places) ≡ led letter (handed (taken letter) dots_at carried (take count places)) (drop count places)
unfolding led
led_drop letter carried zero places = refl
led_drop letter carried (suc count) [] = refl
led_drop letter carried (suc count) (place ∷ places) = led_drop letter (taken letter place || (repeats place.ahead && carried)) count places

-- The words of a block

led_bits : (letter : Letter) (carried : Bool) (places : List Place)
    → bit_or (carried_bits (taken letter) dots_at carried places) (bits_by (λ place. taken letter place && dots_at place) places) ≡ word_of (led letter carried places)
unfolding led bits_by
led_bits letter carried [] = refl
led_bits letter carried (place ∷ places) =
    let next : Bool = taken letter place || (repeats place.ahead && carried) in
    or_block 1 (carried_bits (taken letter) dots_at next places) (bits_by (λ p. taken letter p && dots_at p) places) (bit carried) (bit (taken letter place && dots_at place))
    (bit_small carried) (bit_small (taken letter place && dots_at place))
    ∙ rw (led_bits letter next places, or_bit carried (taken letter place && dots_at place)) refl

carries_of : (letter : Letter) (carried : Bool) (places : List Place) → length places ≡ 32
    → carries (bits_by (taken letter) places) (bits_by dots_at places) carried
    ≡ carried_bits (taken letter) dots_at carried places + bit (handed (taken letter) dots_at carried places) * 4294967296
carries_of letter carried places len =
    rw (bits_or (taken letter) dots_at places)
    (carries_are (taken letter) dots_at carried places
    ∙ ap (λ (n : ℕ). carried_bits (taken letter) dots_at carried places + bit (handed (taken letter) dots_at carried places) * 2 ^ n) len)

few_carried : (letter : Letter) (carried : Bool) (places : List Place) → length places ≡ 32 → carried_bits (taken letter) dots_at carried places < 4294967296
few_carried letter carried places len = rw len at (carried_small (taken letter) dots_at carried places)

word_led : (letter : Letter) (carried : Bool) (places : List Place) → length places ≡ 32
    → led_word (bits_by (taken letter) places) (bits_by dots_at places) carried ≡ word_of (led letter carried places)
word_led letter carried places len =
    ap (λ (n : ℕ). bit_or (n % 4294967296) (bit_and (bits_by (taken letter) places) (bits_by dots_at places))) (carries_of letter carried places len)
    ∙ ap (λ (n : ℕ). bit_or n (bit_and (bits_by (taken letter) places) (bits_by dots_at places)))
    (low_part (carried_bits (taken letter) dots_at carried places) (handed (taken letter) dots_at carried places) (few_carried letter carried places len))
    ∙ ap (bit_or (carried_bits (taken letter) dots_at carried places)) (bits_and (taken letter) dots_at places)
    ∙ led_bits letter carried places

word_leads_on : (letter : Letter) (carried : Bool) (places : List Place) → length places ≡ 32
    → leads_on (bits_by (taken letter) places) (bits_by dots_at places) carried ≡ handed (taken letter) dots_at carried places
word_leads_on letter carried places len =
    ap (nat_le 4294967296) (carries_of letter carried places len)
    ∙ high_part (carried_bits (taken letter) dots_at carried places) (handed (taken letter) dots_at carried places) (few_carried letter carried places len)

letter_row : (f : Letter → ℕ) (letter : Letter) → slice_index (map f all_letters) (index_of letter) ≡ f letter
letter_row f Zero = refl
letter_row f One = refl
letter_row f Two = refl
letter_row f Three = refl
letter_row f Four = refl
letter_row f Five = refl
letter_row f Six = refl
letter_row f Seven = refl
letter_row f Eight = refl
letter_row f Nine = refl
letter_row f Star = refl
letter_row f Hash = refl
letter_row f A = refl
letter_row f B = refl
letter_row f C = refl
letter_row f D = refl
letter_row f Timer = refl

taken_is : (letter : Letter) (places : List Place) → taken_bits (block_of places) letter (word_of places) ≡ bits_by (taken letter) places
taken_is letter places =
    ap (bit_and (word_of places)) (letter_row (λ l. bits_by (λ place. takes place.ahead l) places) letter)
    ∙ bits_and (λ place. place.live) (λ place. takes place.ahead letter) places

-- All blocks

front_len : (places : List Place) (count : ℕ) → length places ≡ 32 * suc count → length (take 32 places) ≡ 32
front_len places count len = length-take-le 32 places (omega arith)

rest_len : (places : List Place) (count : ℕ) → length places ≡ 32 * suc count → length (drop 32 places) ≡ 32 * count
rest_len places count len = omega (arith, length-drop 32 places)

pub led_blocks : (letter : Letter) (carried : Bool) (count : ℕ) (places : List Place) → length places ≡ 32 * count
    → led_words letter carried (blocks_of count places) (words_of count places) ≡ words_of count (led letter carried places)
unfolding led_words blocks_of words_of
led_blocks letter carried zero places len = refl
led_blocks letter carried (suc count) places len =
    let front : List Place = take 32 places in
    let few = front_len places count len in
    rw (led_take letter carried 32 places, led_drop letter carried 32 places, taken_is letter front, word_led letter carried front few, word_leads_on letter carried front few)
    (ap (λ (x : List ℕ). word_of (led letter carried front) ∷ x)
    (led_blocks letter (handed (taken letter) dots_at carried front) count (drop 32 places) (rest_len places count len)))

bits_led : (test : Option (List ℕ) → Bool) (letter : Letter) (carried : Bool) (places : List Place)
    → bits_by (λ place. test place.ahead) (led letter carried places) ≡ bits_by (λ place. test place.ahead) places
unfolding led bits_by
bits_led test letter carried [] = refl
bits_led test letter carried (place ∷ places) =
    ap (λ (n : ℕ). n * 2 + bit (test place.ahead)) (bits_led test letter (taken letter place || (repeats place.ahead && carried)) places)

rows_led : (letter : Letter) (carried : Bool) (places : List Place) (letters : List Letter)
    → map (λ l. bits_by (λ place. takes place.ahead l) (led letter carried places)) letters ≡ map (λ l. bits_by (λ place. takes place.ahead l) places) letters
rows_led letter carried places [] = refl
rows_led letter carried places (first ∷ letters) =
    ap (λ (n : ℕ). n ∷ map (λ l. bits_by (λ place. takes place.ahead l) (led letter carried places)) letters) (bits_led (λ ahead. takes ahead first) letter carried places)
    ∙ ap (λ (x : List ℕ). bits_by (λ place. takes place.ahead first) places ∷ x) (rows_led letter carried places letters)

abbrev block_by : List ℕ → ℕ → ℕ → Block
block_by letters dots ends = record { letters = letters; dots = dots; ends = ends }

same_block : (letters others : List ℕ) (dots d ends e : ℕ) → letters ≡ others → dots ≡ d → ends ≡ e → block_by letters dots ends ≡ block_by others d e
same_block letters others dots d ends e p q r =
    ap (λ (x : List ℕ). block_by x dots ends) p ∙ ap (λ (n : ℕ). block_by others n ends) q ∙ ap (block_by others d) r

block_led : (letter : Letter) (carried : Bool) (places : List Place) → block_of (led letter carried places) ≡ block_of places
block_led letter carried places =
    same_block (block_of (led letter carried places)).letters (block_of places).letters _ _ _ _ (rows_led letter carried places all_letters)
    (bits_led repeats letter carried places) (bits_led is_end letter carried places)

blocks_led : (letter : Letter) (carried : Bool) (count : ℕ) (places : List Place) → blocks_of count (led letter carried places) ≡ blocks_of count places
unfolding blocks_of
blocks_led letter carried zero places = refl
blocks_led letter carried (suc count) places =
    rw (led_take letter carried 32 places, led_drop letter carried 32 places, block_led letter carried (take 32 places))
    (ap (λ (x : List Block). block_of (take 32 places) ∷ x) (blocks_led letter (handed (taken letter) dots_at carried (take 32 places)) count (drop 32 places)))

blocks_led_by : (count : ℕ) (places : List Place) (letters : List Letter) → blocks_of count (led_by places letters) ≡ blocks_of count places
unfolding led_by
blocks_led_by count places [] = refl
blocks_led_by count places (letter ∷ letters) = blocks_led_by count (led letter false places) letters ∙ blocks_led letter false count places

pub blocks_after : (count : ℕ) (text : List ℕ) (letters : List Letter) → blocks_of count (places_after text letters) ≡ blocks_of count (places_of text)
unfolding places_after
blocks_after count text letters = blocks_led_by count (places_of text) letters

length_led_by : (places : List Place) (letters : List Letter) → length (led_by places letters) ≡ length places
unfolding led_by
length_led_by places [] = refl
length_led_by places (letter ∷ letters) = length_led_by (led letter false places) letters ∙ length_led letter false places

pub length_after : (text : List ℕ) (letters : List Letter) → length (places_after text letters) ≡ length (places_of text)
unfolding places_after
length_after text letters = length_led_by (places_of text) letters

whole : (n : ℕ) → n + (32 - n % 32) ≡ 32 * ((n + (32 - n % 32)) / 32)
whole n = omega arith

filled_len : (places : List Place) → length (places ++ replicate (32 - length places % 32) blank) ≡ length places + (32 - length places % 32)
filled_len places =
    length-append places (replicate (32 - length places % 32) blank) ∙ ap (λ (n : ℕ). length places + n) (length-replicate (32 - length places % 32) blank)

pub whole_blocks : (text : List ℕ) → length (places_of text) ≡ 32 * count_of (places_of text)
unfolding places_of
whole_blocks text = rw (filled_len (places_in (strings_of text))) (whole (length (places_in (strings_of text))))

-- What words say

or_assoc : (x y z : Bool) → (x || (y || z)) ≡ ((x || y) || z)
or_assoc true y z = refl
or_assoc false y z = refl

any_split : (test : Place → Bool) (count : ℕ) (places : List Place) → (list_any test (take count places) || list_any test (drop count places)) ≡ list_any test places
any_split test zero places = refl
any_split test (suc count) [] = refl
any_split test (suc count) (place ∷ places) =
    sym (or_assoc (test place) (list_any test (take count places)) (list_any test (drop count places))) ∙ ap (λ x. test place || x) (any_split test count places)

pub ends_blocks : (count : ℕ) (places : List Place) → length places ≡ 32 * count
    → ends_some (blocks_of count places) (words_of count places) ≡ list_any (λ place. place.live && is_end place.ahead) places
unfolding blocks_of words_of ends_some
ends_blocks zero [] len = refl
ends_blocks zero (place ∷ places) len = absurd (omega arith)
ends_blocks (suc count) places len =
    rw (
      bits_and (λ place. place.live) (λ place. is_end place.ahead) (take 32 places),
      some_bits (λ place. place.live && is_end place.ahead) (take 32 places),
      ends_blocks count (drop 32 places) (rest_len places count len),
    )
    (any_split (λ place. place.live && is_end place.ahead) 32 places)

pub live_blocks : (count : ℕ) (places : List Place) → length places ≡ 32 * count → list_any some_bit (words_of count places) ≡ list_any (λ place. place.live) places
unfolding words_of
live_blocks zero [] len = refl
live_blocks zero (place ∷ places) len = absurd (omega arith)
live_blocks (suc count) places len =
    rw (some_bits (λ place. place.live) (take 32 places), live_blocks count (drop 32 places) (rest_len places count len))
    (any_split (λ place. place.live) 32 places)

-- What the code holds of places

bits_map : {X Y : Type 0} (test : Y → Bool) (f : X → Y) (xs : List X) → bits_by test (map f xs) ≡ bits_by (λ x. test (f x)) xs
unfolding bits_by
bits_map test f [] = refl
bits_map test f (x ∷ xs) = ap (λ (n : ℕ). n * 2 + bit (test (f x))) (bits_map test f xs)

take_drafts : (count : ℕ) (places : List Place) → take count (map draft_of places) ≡ map draft_of (take count places)
take_drafts zero places = refl
take_drafts (suc count) [] = refl
take_drafts (suc count) (place ∷ places) = ap (λ (x : List Draft). draft_of place ∷ x) (take_drafts count places)

drop_drafts : (count : ℕ) (places : List Place) → drop count (map draft_of places) ≡ map draft_of (drop count places)
drop_drafts zero places = refl
drop_drafts (suc count) [] = refl
drop_drafts (suc count) (place ∷ places) = drop_drafts count places

block_drafts : (places : List Place) → block_from (map draft_of places) ≡ block_of places
block_drafts places = simp bits_map

pub blocks_drafts : (count : ℕ) (places : List Place) → blocks_from count (map draft_of places) ≡ blocks_of count places
unfolding blocks_from blocks_of
blocks_drafts zero places = refl
blocks_drafts (suc count) places =
    rw (take_drafts 32 places, drop_drafts 32 places, block_drafts (take 32 places), blocks_drafts count (drop 32 places)) refl

pub words_drafts : (count : ℕ) (places : List Place) → words_from count (map draft_of places) ≡ words_of count places
unfolding words_from words_of
words_drafts zero places = refl
words_drafts (suc count) places =
    rw (take_drafts 32 places, drop_drafts 32 places, bits_map (λ (draft : Draft). slice_index_or draft.tests 19 false) draft_of (take 32 places), words_drafts count (drop 32 places)) refl
