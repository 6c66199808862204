-- The places of a digit map before any letter (RFC 3435, 2.1.5).
--
-- A string has a place before each position and one behind its last. A place is live after some letters if the positions
-- of its string that stand before it spell them.
--
-- Nobody has to believe what stands here: what a matcher says is said by `verdict_of`, `VerdictIs` and `IsWord` of
-- `digit_map` alone, and these places are a way to compute it.
use Rattle.std.specs.Prelude.{ℕ, ◌-◌, ◌%◌, Bool, true, false, ◌&&◌, List, [], ◌∷◌, ◌++◌, length, replicate}
use Rattle.std.specs.Prelude.{Option, Some, None}
use Rattle.mg_bytes.specs.declared.letter.Letter.{Letter}
use Rattle.digit_map.specs.Cuts.{strings_of, positions_of}
use Rattle.digit_map.specs.Words.{has_letter, is_repeated}

-- a place: the position ahead of it, none behind the last of a string; and whether it is live
pub record Place : Type 0 where
  pub ahead : Option (List ℕ)
  pub live : Bool

-- whether the position ahead takes a letter
abbrev pub takes : Option (List ℕ) → Letter → Bool
takes None letter = false
takes (Some position) letter = has_letter position letter

-- whether the position ahead may come zero times
abbrev pub repeats : Option (List ℕ) → Bool
repeats None = false
repeats (Some position) = is_repeated position

-- whether a string ends here
abbrev pub is_end : Option (List ℕ) → Bool
is_end None = true
is_end (Some position) = false

-- Before any letter

-- the places of a string from a place on: behind a position that may come zero times, the next is as live
unfoldable pub places_from : Bool → List (List ℕ) → List Place
places_from live [] = record { ahead = None; live = live } ∷ []
places_from live (position ∷ positions) =
    record { ahead = Some position; live = live } ∷ places_from (live && is_repeated position) positions

-- the places of strings, each live at its first
unfoldable pub places_in : List (List ℕ) → List Place
places_in [] = []
places_in (string ∷ strings) = places_from true (positions_of string) ++ places_in strings

-- a place that no letter leads to
abbrev pub blank : Place
blank = record { ahead = None; live = false }

-- places filled up with blank ones to a number that 32 divides
abbrev pub filled : List Place → List Place
filled places = places ++ replicate (32 - length places % 32) blank

-- the places of a map before any letter
unfoldable pub places_of : List ℕ → List Place
places_of map = filled (places_in (strings_of map))
