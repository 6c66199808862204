-- The letters of digit maps: the sixteen keys of a telephone, and T (RFC 3435, 2.1.5; RFC 3660, 2.2).
use Rattle.std.specs.Prelude.{ℕ, ◌==◌, List, [], ◌∷◌, Option, find}
use Rattle.std.specs.Char.{to_ascii_uppercase}
use Rattle.mg_bytes.specs.declared.letter.Letter.{Letter}
use Rattle.mg_bytes.specs.declared.letter.Letter.TheVariants.{Zero, One, Two, Three, Four, Five, Six, Seven, Eight, Nine, Star, Hash, A, B, C, D, Timer}

-- the letters, in the order in which sets of them are written
abbrev pub all_letters : List Letter
all_letters =
    Zero ∷ One ∷ Two ∷ Three ∷ Four ∷ Five ∷ Six ∷ Seven ∷ Eight ∷ Nine ∷ Star ∷ Hash ∷ A ∷ B ∷ C ∷ D ∷ Timer ∷ []

-- the byte that a letter is written as
abbrev pub byte_of : Letter → ℕ
byte_of Zero = 48
byte_of One = 49
byte_of Two = 50
byte_of Three = 51
byte_of Four = 52
byte_of Five = 53
byte_of Six = 54
byte_of Seven = 55
byte_of Eight = 56
byte_of Nine = 57
byte_of Star = 42
byte_of Hash = 35
byte_of A = 65
byte_of B = 66
byte_of C = 67
byte_of D = 68
byte_of Timer = 84

-- the letter that a byte is, in any case
unfoldable pub letter_of : ℕ → Option Letter
letter_of b = find (λ letter. byte_of letter == to_ascii_uppercase b) all_letters
