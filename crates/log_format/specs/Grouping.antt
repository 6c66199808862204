-- Numbers as people read them: a comma stands before each three digits that stand behind others (this gateway's profile).
use Rattle.std.specs.Prelude.{ℕ, ◌%◌, ◌==◌, ◌&&◌, nat_lt, codes, decimal, if◌then◌else◌, List, [], ◌∷◌, ◌++◌, length}

-- what stands before these digits, the last of a number
abbrev pub comma_before : List ℕ → List ℕ
comma_before digits = if nat_lt 0 (length digits) && length digits % 3 == 0 then codes "," else []

unfoldable pub grouped : List ℕ → List ℕ
grouped [] = []
grouped (digit ∷ digits) = digit ∷ (comma_before digits ++ grouped digits)

abbrev pub number_shown : ℕ → List ℕ
number_shown number = grouped (decimal number)
