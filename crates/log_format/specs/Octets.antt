-- Numbers as bytes, the highest first (RFC 791, appendix B: the order of transmission).
use Rattle.std.specs.Prelude.{ℕ, ◌/◌, ◌%◌, List, [], ◌∷◌}
use Rattle.std.specs.Net.Addr.{octets_of}

-- the lowest 32 bits of a number, as four bytes
abbrev pub four_octets : ℕ → List ℕ
four_octets n = octets_of ((n / 65536 % 65536) ∷ (n % 65536) ∷ [])
