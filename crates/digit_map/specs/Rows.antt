-- How letters are walked through positions, from front to back and without going back: a row says of each place between
-- the letters, from before the first to behind the last, whether the positions so far spell the letters before it.
use Rattle.std.specs.Prelude.{Bool, false, ◌&&◌, ◌||◌, List, [], ◌∷◌}
use Rattle.mg_bytes.specs.declared.letter.Letter.{Letter}

-- at some place of the row the rest passes with the letters from there on
abbrev pub some_place : List Bool → (List Letter → Bool) → List Letter → Bool
some_place [] rest word = false
some_place (reached ∷ row) rest [] = reached && rest []
some_place (reached ∷ row) rest (letter ∷ word) = (reached && rest (letter ∷ word)) || some_place row rest word

-- whether a place is reached behind a position: by its letter, or where it may come zero times, without
abbrev pub stays : Bool → Bool → Bool → Bool
stays repeated carried reached = carried || (repeated && reached)

-- whether the next place is reached by this letter
abbrev pub carries : Bool → Bool → Bool → Bool → Bool
carries repeated carried reached is_letter = (reached || (repeated && carried)) && is_letter

-- the row behind a position; `carried` says whether its first place is reached by the letter before it
unfoldable pub moved : Bool → (Letter → Bool) → Bool → List Bool → List Letter → List Bool
moved repeated is_letter carried [] word = []
moved repeated is_letter carried (reached ∷ row) [] = stays repeated carried reached ∷ row
moved repeated is_letter carried (reached ∷ row) (letter ∷ word) =
    stays repeated carried reached
    ∷ moved repeated is_letter (carries repeated carried reached (is_letter letter)) row word
