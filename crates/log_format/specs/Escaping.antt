-- How bytes of a datagram are shown: as printable ASCII and nothing else, so that none of them ends a line or begins a
-- terminal's sequence (this gateway's profile).
use Rattle.std.specs.Prelude.{◌≡◌, ℕ, ◌/◌, ◌%◌, ◌==◌, ◌&&◌, not, nat_le, Bool, true, codes, if◌then◌else◌, List, [], ◌∷◌, ◌++◌, length, take}
use Rattle.std.specs.Char.{digit_char}
use Rattle.std.specs.List.{list_all, flat_map}

-- from the blank to the tilde
abbrev pub is_printable : ℕ → Bool
is_printable b = nat_le 32 b && nat_le b 126

abbrev pub backslash : ℕ
backslash = 92

-- the byte stands for itself
abbrev pub is_plain : ℕ → Bool
is_plain b = is_printable b && not (b == backslash)

-- a byte: itself, or `\x` and its two hexadecimal digits
abbrev pub shown_byte : ℕ → List ℕ
shown_byte b =
    if is_plain b then b ∷ []
    else backslash ∷ 120 ∷ digit_char (b / 16 % 16) ∷ digit_char (b % 16) ∷ []

abbrev pub escaped : List ℕ → List ℕ
escaped bytes = flat_map shown_byte bytes

-- a value: all of it, or its first 64 bytes and `..`
unfoldable pub shown : List ℕ → List ℕ
shown value = if nat_le (length value) 64 then escaped value else escaped (take 64 value) ++ codes ".."

-- the text is printable ASCII
abbrev pub is_text : List ℕ → Bool
is_text text = list_all is_printable text

-- the text is one line: printable ASCII, and the line feed at its end
pub record IsLine (text : List ℕ) : Type 0 where
  pub line : List ℕ
  pub printable : is_text line ≡ true
  pub ended : text ≡ line ++ 10 ∷ []
