-- Where letters lead in a digit map (RFC 3435, 2.1.5): its places, and which of them are live.
--
-- A string has a place before each position and one behind its last. A place is live after some letters if the positions
-- of its string that stand before it spell them.
--
-- Nobody has to believe what stands here: what a matcher says is said by `verdict_of`, `VerdictIs` and `IsWord` of
-- `digit_map` alone, and these places are a way to compute it. That they are the right ones is proved; the law
-- `places_say_which_words_go_on` says it by itself.
use Rattle.std.specs.Prelude.{ℕ, Bool, false, ◌&&◌, ◌||◌, List, [], ◌∷◌, Option, Some, None}
use Rattle.mg_bytes.specs.declared.letter.Letter.{Letter}
use Rattle.digit_map.specs.Words.{spells}
pub use Rattle.digit_map.specs.Places.{Place, takes, repeats, is_end, blank}
unfoldable pub use Rattle.digit_map.specs.Places.{places_from, places_in, places_of}

-- Behind letters

-- a live place takes a letter
abbrev pub taken : Letter → Place → Bool
taken letter place = place.live && takes place.ahead letter

-- where a letter leads: on from a place that takes it, back to that place where its position may be repeated, and on
-- through places whose position may come zero times; `carried` says whether it leads to the first of these places
unfoldable pub led : Letter → Bool → List Place → List Place
led letter carried [] = []
led letter carried (place ∷ places) =
    record { ahead = place.ahead; live = carried || (taken letter place && repeats place.ahead) }
    ∷ led letter (taken letter place || (repeats place.ahead && carried)) places

-- where letters lead, one after the other
unfoldable pub led_by : List Place → List Letter → List Place
led_by places [] = places
led_by places (letter ∷ letters) = led_by (led letter false places) letters

-- the places of a map behind letters
unfoldable pub places_after : List ℕ → List Letter → List Place
places_after map letters = led_by (places_of map) letters

-- What is left

abbrev pub left_from : Option (List ℕ) → List (List ℕ) → List (List ℕ)
left_from None rest = []
left_from (Some position) rest = position ∷ rest

-- the positions from the first place to the end of its string
abbrev pub left_of : List Place → List (List ℕ)
left_of [] = []
left_of (place ∷ places) = left_from place.ahead (left_of places)

-- from some live place the rest of its string spells a word, or with `begun` true one that begins so
unfoldable pub spelled_by : Bool → List Place → List Letter → Bool
spelled_by begun [] word = false
spelled_by begun (place ∷ places) word =
    (place.live && spells begun (left_of (place ∷ places)) word) || spelled_by begun places word

-- a matcher at work: its map, and the words of its live places
pub record Marking : Type 0 where
  pub map : List ℕ
  pub words : List ℕ
