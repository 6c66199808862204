-- The checksum of an IPv4 header (RFC 791, 3.1): the 16 bit one's complement of the one's complement sum of all its 16 bit
-- words, where the word of the checksum itself counts as 0.
use Rattle.std.specs.Prelude.{ℕ, ◌+◌, ◌-◌, nat_le, if◌then◌else◌, List, fold}

-- the one's complement sum of two words: what is carried out of 16 bits is added at the low end
abbrev pub ones_plus : ℕ → ℕ → ℕ
ones_plus a b = if nat_le (a + b) 65535 then a + b else a + b - 65535

-- of several
abbrev pub ones_sum : List ℕ → ℕ
ones_sum words = fold ones_plus 0 words

-- the checksum of these words
unfoldable pub checksum_of : List ℕ → ℕ
checksum_of words = 65535 - ones_sum words
