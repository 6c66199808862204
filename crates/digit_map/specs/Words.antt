-- The words of a digit map (RFC 3435, 2.1.5), by cases on its text.
use Rattle.std.specs.Prelude.{◌≡◌, ℕ, nat_le, Bool, true, false, ◌&&◌, ◌||◌, ◌==◌, if◌then◌else◌, List, [], ◌∷◌, Any}
use Rattle.std.specs.Char.{to_ascii_uppercase}
use Rattle.std.specs.List.{list_any}
use Rattle.mg_bytes.specs.Lists.{is_empty}
use Rattle.mg_bytes.specs.Bytes.{full_stop}
use Rattle.mg_bytes.specs.declared.letter.Letter.{Letter}
use Rattle.mg_bytes.specs.Letter.{byte_of}
use Rattle.digit_map.specs.declared.part.Part.{Part}
use Rattle.digit_map.specs.declared.part.Part.TheVariants.{Single, Span}
use Rattle.digit_map.specs.Cuts.{ends_in, strings_of, positions_of, set_of, parts_of}
use Rattle.digit_map.specs.Spelling.{is_digit, is_wildcard}

-- a part names a letter: `X` any digit, a span the digits from one to another, any other byte the letter that it is, in
-- any case
abbrev pub names : Part → Letter → Bool
names (Single b) letter = if is_wildcard b then is_digit (byte_of letter) else byte_of letter == to_ascii_uppercase b
names (Span low high) letter = nat_le low (byte_of letter) && nat_le (byte_of letter) high

-- a letter of what stands in brackets is one that a part of it names
abbrev pub is_in_range : List ℕ → Letter → Bool
is_in_range range letter = list_any (λ part. names part letter) (parts_of range)

-- the letters of a position are those of its set
unfoldable pub has_letter : List ℕ → Letter → Bool
has_letter position letter = is_in_range (set_of position) letter

-- a dot stands behind a position: its letters may come zero or more times
abbrev pub is_repeated : List ℕ → Bool
is_repeated position = ends_in full_stop position

-- positions spell a word: none of them the empty word; one without a dot one letter of it, and then the rest; one with a
-- dot the rest, or one letter of it and then the same again
pub data Spells : List (List ℕ) → List Letter → Type 0 where
  nothing : Spells [] []
  once : (position : List ℕ) (positions : List (List ℕ)) (letter : Letter) (word : List Letter)
      → is_repeated position ≡ false → has_letter position letter ≡ true → Spells positions word
      → Spells (position ∷ positions) (letter ∷ word)
  no_more : (position : List ℕ) (positions : List (List ℕ)) (word : List Letter)
      → is_repeated position ≡ true → Spells positions word → Spells (position ∷ positions) word
  again : (position : List ℕ) (positions : List (List ℕ)) (letter : Letter) (word : List Letter)
      → is_repeated position ≡ true → has_letter position letter ≡ true → Spells (position ∷ positions) word
      → Spells (position ∷ positions) (letter ∷ word)

-- a word of a map is one that some string of it spells
abbrev pub IsWord : List ℕ → List Letter → Type 0
IsWord map word = Any (λ string. Spells (positions_of string) word) (strings_of map)

-- The same computed

-- one letter and then the rest; `begun` is what is said of no letters at all
abbrev pub one_letter : Bool → (Letter → Bool) → (List Letter → Bool) → List Letter → Bool
one_letter begun is_letter rest [] = begun
one_letter begun is_letter rest (letter ∷ word) = is_letter letter && rest word

-- the rest, or one letter and then the same again
abbrev pub letters_again : (Letter → Bool) → (List Letter → Bool) → List Letter → Bool
letters_again is_letter rest [] = rest []
letters_again is_letter rest (letter ∷ word) =
    rest (letter ∷ word) || (is_letter letter && letters_again is_letter rest word)

abbrev pub spells_from : Bool → List ℕ → (List Letter → Bool) → List Letter → Bool
spells_from begun position rest word =
    if is_repeated position then letters_again (has_letter position) rest word
    else one_letter begun (has_letter position) rest word

-- whether positions spell a word, or with `begun` true one that begins so
unfoldable pub spells : Bool → List (List ℕ) → List Letter → Bool
spells begun [] word = is_empty word
spells begun (position ∷ positions) word = spells_from begun position (spells begun positions) word

-- whether some string spells the word
unfoldable pub is_word : List ℕ → List Letter → Bool
is_word map word = list_any (λ string. spells false (positions_of string) word) (strings_of map)

-- whether some string spells a word that begins so
unfoldable pub is_begun : List ℕ → List Letter → Bool
is_begun map word = list_any (λ string. spells true (positions_of string) word) (strings_of map)
